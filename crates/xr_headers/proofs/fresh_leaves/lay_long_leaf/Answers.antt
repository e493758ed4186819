use Rattle.std.proofs.Common.{[], ◌∷◌, length, refl, arith}
use Rattle.byteorder.specs.Endian.{big_bytes}
use Rattle.xr_headers.specs.Padded.{words}
use Rattle.xr_headers.proofs.FieldLemmas.{laid_none, laid_next, laid_after}
use Rattle.xr_headers.specs.FreshImage.{long_leaf_fields, first_sector_of}
use Rattle.xr_headers.specs.declared.layout.TheConstants.{MISSING}
use Rattle.xr_base.specs.declared.layout.TheConstants.{MAPPING_MAGIC}
use Rattle.xr_headers.proofs.fresh_leaves.lay_long_leaf.Goals as goal

pub returns : goal.returns
unfolding long_leaf_fields
returns c =
    let n = length c.args.out.now in
    let none = laid_none n c.clear.new.out c.clear.ensures in
    let opening = laid_next n 0 24 _ (words (MAPPING_MAGIC ∷ 0 ∷ MISSING ∷ MISSING ∷ MISSING ∷ MISSING ∷ [])) _ _ none c.put_words.ensures refl (omega arith) in
    let sector = laid_next n 24 8 _ (big_bytes 8 (first_sector_of c.args.block)) _ _ opening c.put_sector.ensures refl (omega arith) in
    let uuid = laid_after n 32 8 16 _ c.args.uuid.now _ _ sector c.put_uuid.ensures.placed c.put_uuid.ensures.whole (omega arith) in
    (laid_next n 56 8 _ (big_bytes 8 c.args.owner) _ _ uuid c.put_u64.ensures refl (omega arith)).is
