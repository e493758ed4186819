use Rattle.xr_maps.specs.Counts.{IsWanted}
use Rattle.xr_maps.proofs.CountedRunLemmas.{no_runs, one_run_more, no_run_more}
use Rattle.xr_maps.proofs.counts.runs_of_counts.Goals as goal
use Rattle.xr_maps.proofs.counts.runs_of_counts.Goals.{then-takes+in_ok-push, else-takes}

pub loop-place-init : goal.loop-place-init
loop-place-init g c = no_runs g.T.FromCounted.from_counted c.args.first c.args.counts.now (IsWanted c.args.wanted) _ c.new-records.ensures.items

pub loop-place-preserved : goal.loop-place-preserved
loop-place-preserved g c = elim c.if-takes.branch [
  | then-takes+in_ok-push w ↦ rw w.records-is (one_run_more g.T.FromCounted.from_counted c.args.first c.args.counts.now (IsWanted c.args.wanted)
      c.loop-place.place c.equal_len-len.result c.loop-place.records.items _ w.from_counted.result c.loop-place.invariant c.equal_len-len.ensures
      (c.takes.ensures.0 w.if-takes.true) w.from_counted.ensures w.in_ok-push.ensures.items)
  | else-takes w ↦ rw w.records-is (no_run_more g.T.FromCounted.from_counted c.args.first c.args.counts.now (IsWanted c.args.wanted)
      c.loop-place.place c.equal_len-len.result c.loop-place.records.items c.loop-place.invariant c.equal_len-len.ensures
      (λ p. let taken = c.takes.ensures.1 p in let not = w.if-takes.false in cc))
]
