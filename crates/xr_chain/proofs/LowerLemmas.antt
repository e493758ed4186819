-- The first part of a run that is lowered, and what a change elsewhere leaves of the free runs.
use Rattle.std.proofs.Common.{◌≡◌, ◌≢◌, ◌≤◌, true, false, Bool, sym, ◌∙◌, ap, subst, inl, inr, ⊎_elim, arith}
use Rattle.std.proofs.lemmas.Bool.{cases_eq, eqb-false, eqb-true}
use Rattle.std.specs.List.{Contains}
use Rattle.std.specs.Prelude.{◌==◌, ◌↔◌, List}
use Rattle.xr_balance.specs.RollGives.{works_of_rest}
use Rattle.xr_balance.specs.Rolls.{works_of_freed}
use Rattle.xr_base.specs.declared.address.Addr.{Addr}
use Rattle.xr_base.specs.declared.address.Run.{Run}
use Rattle.xr_chain.proofs.AwayLemmas.{bounds}
use Rattle.xr_chain.specs.GroupWorks.{LowersFirst}
use Rattle.xr_chain.specs.Readiness.{IsOwnedRun}
use Rattle.xr_group.specs.Group.{GroupState, IsGroup, records_now}
use Rattle.xr_group.specs.Sets.{AreOwnedAlikeIn, IsCountedIn, IsFirstPart, IsPaired, LowersCounts, owner_count_in}
use Rattle.xr_group.specs.ToldRecords.{GroupsTellRecords}
use Rattle.xr_group.specs.Trees.{AreSameIn}
use Rattle.xr_items.specs.declared.work.CountKind.TheVariants.{Decrease}
use Rattle.xr_items.specs.declared.work.Work.{Work}
use Rattle.xr_kinds.specs.FreeRuns.{by_block, by_size}
use Rattle.xr_maps.specs.StepLaws.{in_range}
use Rattle.xr_maps.specs.declared.records.Counted.{Counted}

module _ (g : GroupState) (run : Run) (ready : IsOwnedRun g run) (part : Counted) (first : IsFirstPart g run part) where
  start : part.run.start.0 ≡ run.start.0
  start = ap (λ s. s.0) first.start

  at_start : IsCountedIn g part.run.start.0 part.count part.staged
  at_start = first.alike part.run.start.0 (in_range part.run.start.0 part.run.len part.run.start.0 (omega arith) (omega (arith, first.some)))

  pub alike : AreOwnedAlikeIn g part.run
  alike a within =
      let inside = bounds part.run.start.0 part.run.len a within in (
        (first.alike a within).0 ∙ sym at_start.0,
        ready.unstaged a (in_range run.start.0 run.len a (omega (arith, inside.0, start)) (omega (arith, inside.1, start, first.within))),
      )

  -- no block has no owner
  pub counted_some : GroupsTellRecords → IsGroup g.number g.uuid g.blocks → 1 ≤ part.count
  counted_some told is = ⊎_elim
      (λ (zero : part.count ≡ 0).
      let lone : ¬ (IsCountedIn g part.run.start.0 1 false) = λ counted. omega (arith, counted.0, at_start.0, zero) in
      let found = (told g is).count_of part.run.start.0 lone in
      let tells = (told g is).counteds found.0 found.1 in
      let here = tells.counted part.run.start.0 found.2 in
      let unstaged : found.0.staged ≡ false = sym here.1 ∙ (alike part.run.start.0 (in_range part.run.start.0 part.run.len part.run.start.0 (omega arith) (omega (arith, first.some)))).1 in
      omega (arith, tells.shared unstaged, here.0, at_start.0, zero))
      (λ (more : part.count ≢ 0). omega (arith, more))
      (cases_eq part.count 0)

  module _ (new : GroupState) (left : List Work) (freed : Bool) (some : 1 ≤ part.count) (tells : freed ≡ (owner_count_in g part.run.start.0 == 1)) where
    pub lowers_last : freed ≡ true → new ≡ g → left ≡ works_of_freed run part.run.len → LowersFirst g new run left
    lowers_last is_freed same is = record {
      part = part;
      first = first;
      some = some;
      lowers = inl (sym at_start.0 ∙ eqb-true (owner_count_in g part.run.start.0) 1 (sym tells ∙ is_freed), same, is);
    }

    pub lowers_more : freed ≡ false → LowersCounts part.run g new → left ≡ works_of_rest Decrease run part.run.len → LowersFirst g new run left
    lowers_more not_freed lowered is = record {
      part = part;
      first = first;
      some = some;
      lowers = inr (
        λ one. eqb-false (owner_count_in g part.run.start.0) 1 (sym tells ∙ not_freed) (at_start.0 ∙ one),
        subst (λ (s : Addr). LowersCounts (record { start = s; len = part.run.len }) g new) first.start lowered,
        is,
      );
    }

-- free runs that stay agree as before
pub paired_stays : (old new : GroupState) → AreSameIn 0 (records_now old) (records_now new) → IsPaired old → IsPaired new
paired_stays old new same paired run =
    subst (λ x. Contains x (by_block run) ↔ Contains (records_now new).by_size (by_size run)) (sym same.0)
    (subst (λ y. Contains (records_now old).by_block (by_block run) ↔ Contains y (by_size run)) (sym same.1) (paired run))
