use Rattle.std.proofs.Common.{◌∙◌, length, refl, arith}
use Rattle.xr_headers.specs.Padded.{words}
use Rattle.xr_headers.specs.PaddedLaws.{length-words}
use Rattle.xr_headers.proofs.FieldLemmas.{laid_none, laid_next}
use Rattle.xr_headers.specs.Headers.{group_fields, group_opening}
use Rattle.xr_headers.proofs.group_head.lay_group.Goals as goal

pub returns-clause-laid : goal.returns-clause-laid
unfolding group_fields
returns-clause-laid c =
    let n = length c.args.out.now in
    let head = c.args.v.now in
    let none = laid_none n c.clear.new.out c.clear.ensures in
    let opening = laid_next n 0 16 _ (group_opening head) _ _ none c.put_words.ensures refl (omega arith) in
    let uuid = laid_next n 16 16 _ head.uuid _ _ opening c.put_uuid.ensures.placed c.put_uuid.ensures.whole (omega arith) in
    let roots = laid_next n 32 16 _ (words head.roots) _ _ uuid c.put_words-2.ensures (length-words head.roots ∙ omega arith) (omega arith) in
    let levels = laid_next n 48 16 _ (words head.levels) _ _ roots c.put_words-3.ensures (length-words head.levels ∙ omega arith) (omega arith) in
    laid_next n 64 64 _ head.free _ _ levels c.put_bytes.ensures (omega arith) (omega arith)
