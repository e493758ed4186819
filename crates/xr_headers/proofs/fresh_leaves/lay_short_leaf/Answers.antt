use Rattle.std.proofs.Common.{◌/◌, ◌*◌, [], ◌∷◌, length, refl, arith}
use Rattle.byteorder.specs.Endian.{big_bytes}
use Rattle.xr_headers.specs.Padded.{words}
use Rattle.xr_headers.specs.PaddedLaws.{length-words}
use Rattle.xr_headers.proofs.FieldLemmas.{laid_none, laid_next, laid_after}
use Rattle.xr_headers.specs.FreshImage.{short_leaf_fields, first_sector_of}
use Rattle.xr_headers.specs.declared.layout.TheConstants.{MISSING}
use Rattle.xr_headers.proofs.fresh_leaves.lay_short_leaf.Goals as goal

pub returns : goal.returns
unfolding short_leaf_fields
returns c =
    let n = length c.args.out.now in
    let none = laid_none n c.clear.new.out c.clear.ensures in
    let magic = laid_next n 0 4 _ (words (c.args.magic ∷ [])) _ _ none c.put_words.ensures refl (omega arith) in
    let count = laid_after n 4 2 2 _ (big_bytes 2 (length c.args.numbers.now / 2)) _ _ magic c.put_u16.ensures refl (omega arith) in
    let siblings = laid_next n 8 8 _ (words (MISSING ∷ MISSING ∷ [])) _ _ count c.put_words-2.ensures refl (omega arith) in
    let sector = laid_next n 16 8 _ (big_bytes 8 (first_sector_of c.args.block)) _ _ siblings c.put_sector.ensures refl (omega arith) in
    let uuid = laid_after n 24 8 16 _ c.args.uuid.now _ _ sector c.put_uuid.ensures.placed c.put_uuid.ensures.whole (omega arith) in
    let owner = laid_next n 48 4 _ (words (c.args.owner ∷ [])) _ _ uuid c.put_words-3.ensures refl (omega arith) in
    (laid_after n 52 4 (4 * length c.args.numbers.now) _ (words c.args.numbers.now) _ _ owner c.put_words-4.ensures (length-words c.args.numbers.now) (omega arith)).is
