use Rattle.xr_commit.proofs.EntryLoopLemmas.{IsItemLoop}
use Rattle.xr_commit.proofs.check_items.check_items.Given as goal

abbrev pub invariant-loop-entry : goal.invariant-loop-entry
invariant-loop-entry l = IsItemLoop l.uuid l.entries l.entry-index l.last l.before
