use Rattle.std.proofs.Common.{length, refl, arith}
use Rattle.xr_headers.proofs.FieldLemmas.{laid_none, laid_next}
use Rattle.xr_headers.specs.Headers.{super_fields, super_opening, super_geometry}
use Rattle.xr_headers.proofs.superblock.lay_super.Goals as goal

pub returns-clause-laid : goal.returns-clause-laid
unfolding super_fields
returns-clause-laid c =
    let n = length c.args.out.now in
    let none = laid_none n c.clear.new.out c.clear.ensures in
    let opening = laid_next n 0 16 _ super_opening _ _ none c.put_words.ensures refl (omega arith) in
    let uuid = laid_next n 16 16 _ c.args.v.now.uuid _ _ opening c.put_uuid.ensures.placed c.put_uuid.ensures.whole (omega arith) in
    laid_next n 32 32 _ super_geometry _ _ uuid c.put_words-2.ensures refl (omega arith)
