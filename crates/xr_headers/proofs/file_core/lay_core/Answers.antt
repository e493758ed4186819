use Rattle.std.proofs.Common.{[], ◌∷◌, length, refl, arith}
use Rattle.byteorder.specs.Endian.{big_bytes}
use Rattle.xr_headers.specs.Padded.{words}
use Rattle.xr_headers.proofs.FieldLemmas.{laid_none, laid_next}
use Rattle.xr_headers.specs.Headers.{core_fields, core_numbers}
use Rattle.xr_headers.specs.declared.layout.TheConstants.{CORE_MAGIC, VERSION}
use Rattle.xr_headers.proofs.file_core.lay_core.Goals as goal

pub returns-clause-laid : goal.returns-clause-laid
unfolding core_fields
returns-clause-laid c =
    let n = length c.args.out.now in
    let core = c.args.v.now in
    let none = laid_none n c.clear.new.out c.clear.ensures in
    let opening = laid_next n 0 8 _ (words (CORE_MAGIC ∷ VERSION ∷ [])) _ _ none c.put_words.ensures refl (omega arith) in
    let ino = laid_next n 8 8 _ (big_bytes 8 core.ino) _ _ opening c.put_u64.ensures refl (omega arith) in
    let uuid = laid_next n 16 16 _ core.uuid _ _ ino c.put_uuid.ensures.placed c.put_uuid.ensures.whole (omega arith) in
    laid_next n 32 12 _ (words (core_numbers core)) _ _ uuid c.put_words-2.ensures refl (omega arith)
