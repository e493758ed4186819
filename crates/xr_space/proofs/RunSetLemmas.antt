-- The runs of a tree as a set, after a record more, a record less, or another in the place of one.
use Rattle.std.proofs.Common.{◌≡◌, ◌≢◌, sym, ap, ◌∙◌}
use Rattle.std.proofs.Math.Logic.{⊎_map}
use Rattle.xr_block.specs.Trees.{IsTree}
use Rattle.xr_block.specs.declared.root.Root.{Root}
use Rattle.xr_change.specs.Calls.{ChangesTree}
use Rattle.xr_change.specs.Sets.{Gains, Loses, Swaps, inserted, removed, replaced}
use Rattle.xr_change.specs.TreeStepLaws.{insertion_is_gain, removal_is_loss, replacement_is_swap}
use Rattle.xr_change.specs.TreeSteps.{IsRecordOf}
use Rattle.xr_kinds.specs.Form.{Form}
use Rattle.xr_kinds.specs.declared.span.Span.{Span}
use Rattle.xr_pool.specs.Overlay.{Blocks}
use Rattle.xr_space.proofs.RunRecordLemmas.{IsRunForm}

module _ {X : Type 0} (form : Form X) (span_of : X → Span) (runs : IsRunForm form span_of) (of : Span → X) (back : (s : Span) → span_of (of s) ≡ s) (a : Blocks) (old : Root) (b : Blocks) (new : Root) where
  abbrev Before : Span → Type 0
  Before s = IsRecordOf form a old (of s)

  abbrev After : Span → Type 0
  After s = IsRecordOf form b new (of s)

  same_run : (s t : Span) → of s ≡ of t → s ≡ t
  same_run s t same = sym (back s) ∙ ap span_of same ∙ back t

  pub gains : (run : Span) → ChangesTree form a old b new (inserted form.order (of run)) → Gains Before run After
  gains run step s =
      let is = insertion_is_gain form a old b new (of run) step (of s) in
      ((λ now. ⊎_map (same_run s run) (λ kept. kept) (is.0 now)), (λ known. is.1 (⊎_map (ap of) (λ kept. kept) known)))

  differs : (s t : Span) → (of s ≢ of t) × Before s → (s ≢ t) × Before s
  differs s t kept = ((λ same. kept.0 (ap of same)), kept.1)

  differs_back : (s t : Span) → (s ≢ t) × Before s → (of s ≢ of t) × Before s
  differs_back s t kept = ((λ same. kept.0 (same_run s t same)), kept.1)

  pub loses : IsTree form a old → (run : Span) → Before run → ChangesTree form a old b new (removed form.order (of run)) → Loses Before run After
  loses tree run held step s =
      let is = removal_is_loss form runs.laws a old b new (of run) tree held step (of s) in
      ((λ now. differs s run (is.0 now)), (λ known. is.1 (differs_back s run known)))

  pub swaps : IsTree form a old → (run other : Span) → Before run → ChangesTree form a old b new (replaced form.order (of run) (of other))
      → Swaps Before run other After
  swaps tree run other held step s =
      let is = replacement_is_swap form runs.laws a old b new (of run) (of other) tree held step (of s) in
      ((λ now. ⊎_map (same_run s other) (differs s run) (is.0 now)), (λ known. is.1 (⊎_map (ap of) (differs_back s run) known)))
