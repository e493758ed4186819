use Rattle.std.proofs.Common.{◌++◌, ◌∙◌, sym, ap, add-one, arith}
use Rattle.std.proofs.lemmas.List.{append_assoc}
use Rattle.std.specs.String.{string_bytes}
use Rattle.xr_text.proofs.LogTextLemmas.{one_more}
use Rattle.xr_text.proofs.log_text.push_entries.Goals as goal

pub loop-i-preserved : goal.loop-i-preserved
loop-i-preserved c =
    let entries = c.args.entries.now in
    let items = c.args.items.now in
    let more = one_more c.loop-i.i entries items c.index-entries-i.result c.index-items-i.result c.loop-i-test.true (omega (arith, c.requires, c.loop-i-test.true)) in
    c.in_ok-push_entry.ensures
    ∙ (rw (c.deref.ensures.value, c.loop-i.invariant, append_assoc, c.index-entries-i.is, ap (λ v. v.items) c.index-items-i.is, add-one)
    (ap (λ text. string_bytes c.args.text.now ++ text) (sym more)))
