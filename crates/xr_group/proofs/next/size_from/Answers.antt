use Rattle.std.proofs.Common.{Option, refl, subst, sym}
use Rattle.xr_base.specs.declared.address.Run.{Run}
use Rattle.xr_group.proofs.NextLemmas.{size_wants}
use Rattle.xr_group.specs.Next.{IsShorter, sized_run_at}
use Rattle.xr_group.specs.Probes.{WantsLater}
use Rattle.xr_kinds.specs.FreeRuns.{size_form, by_size}
use Rattle.xr_kinds.specs.Spans.{span}
use Rattle.xr_lookup.specs.Lookup.{from}
use Rattle.xr_group.proofs.next.size_from.Goals as goal

pub returns-in-Some : goal.returns-in-Some
returns-in-Some c =
    let number = c.args.over.now.owner in
    subst (λ (after : Option Run). WantsLater size_form (sized_run_at number) IsShorter after (from size_form (by_size (span c.place_behind.result c.in-Some.run'.len)))) (sym c.in-Some.is)
    (size_wants number c.in-Some.run'.start.0 c.place_behind.result c.place_behind.ensures.behind c.place_behind.ensures.within c.in-Some.run' refl)
