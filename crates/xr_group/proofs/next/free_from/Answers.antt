use Rattle.std.proofs.Common.{Option, refl, subst, sym}
use Rattle.xr_base.specs.declared.address.Run.{Run}
use Rattle.xr_group.proofs.NextLemmas.{free_wants}
use Rattle.xr_group.specs.Next.{StartsBefore, free_run_at}
use Rattle.xr_group.specs.Probes.{WantsLater}
use Rattle.xr_kinds.specs.FreeRuns.{block_form, by_block}
use Rattle.xr_kinds.specs.Spans.{span}
use Rattle.xr_lookup.specs.Lookup.{from}
use Rattle.xr_group.proofs.next.free_from.Goals as goal

pub returns-in-Some : goal.returns-in-Some
returns-in-Some c =
    let number = c.args.over.now.owner in
    subst (λ (after : Option Run). WantsLater block_form (free_run_at number) StartsBefore after (from block_form (by_block (span c.place_behind.result 0)))) (sym c.in-Some.is)
    (free_wants number c.in-Some.run'.start.0 c.place_behind.result c.place_behind.ensures.behind c.place_behind.ensures.within c.in-Some.run' refl)
