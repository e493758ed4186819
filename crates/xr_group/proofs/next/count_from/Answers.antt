use Rattle.std.proofs.Common.{Option, refl, subst, sym}
use Rattle.xr_group.proofs.NextLemmas.{count_wants}
use Rattle.xr_group.specs.Next.{IsCountedBefore, counted_at}
use Rattle.xr_group.specs.Probes.{WantsLater}
use Rattle.xr_kinds.specs.Reference.{reference_form}
use Rattle.xr_lookup.specs.Lookup.{from}
use Rattle.xr_maps.specs.declared.records.Counted.{Counted}
use Rattle.xr_group.proofs.next.count_from.Goals as goal

pub returns-in-Some : goal.returns-in-Some
returns-in-Some c =
    let number = c.args.over.now.owner in
    subst (λ (after : Option Counted). WantsLater reference_form (counted_at number) IsCountedBefore after
    (from reference_form (record { start = c.place_behind.result; len = 0; count = 0; staged = c.in-Some.counted.staged }))) (sym c.in-Some.is)
    (count_wants number c.in-Some.counted.run.start.0 c.place_behind.result c.place_behind.ensures.behind c.place_behind.ensures.within c.in-Some.counted 0 0 refl)
