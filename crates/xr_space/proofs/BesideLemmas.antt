-- What lookups by block say of the free runs beside a run.
use Rattle.std.proofs.Common.{◌<◌, ◌≡◌, ◌≢◌, ℕ, true, false, sym, ap, ◌∙◌, ⊎_elim, arith}
use Rattle.std.proofs.lemmas.Bool.Decides.{nat_tests}
use Rattle.std.proofs.lemmas.List.Elements.{All-contains}
use Rattle.std.specs.Ordering.{is_gt, is_le, nat_cmp}
use Rattle.xr_kinds.specs.declared.free_runs.ByBlock.{ByBlock}
use Rattle.xr_kinds.specs.declared.span.Span.{Span}
use Rattle.xr_kinds.specs.FreeRuns.{block_form, block_span, by_block}
use Rattle.xr_pool.specs.Overlay.{Blocks}
use Rattle.xr_kinds.specs.SpanLaws.{group_run}
use Rattle.xr_kinds.specs.Spans.{apart, end_of, span}
use Rattle.xr_lookup.specs.Lookup.{IsGreatest, up_to}
use Rattle.xr_space.proofs.FreeSetLemmas.{are_runs}
use Rattle.xr_space.specs.Space.{IsFreeRun, IsSpace, block_records}
use Rattle.xr_space.specs.declared.space.Space.{Space}

clash : (x found : Span) (place : ℕ) → 0 < x.len → apart x found ≡ true → is_le (nat_cmp found.start place) ≡ true
    → (is_le (nat_cmp x.start place) ≡ true → is_gt (nat_cmp x.start found.start) ≡ false) → end_of x ≡ place → ⊥
clash x found place some away fits above ends = grind (arith, nat_tests)

-- no run ends at a place, where the last that begins up to there doesn't
pub none_left : (b : Blocks) (s : Space) (place : ℕ) (found : ByBlock) → IsSpace b s
    → IsGreatest block_form (block_records b s) (up_to block_form (by_block (span place 0))) found → end_of (block_span found) ≢ place
    → (x : Span) → IsFreeRun b s x → end_of x ≢ place
none_left b s place found space greatest differs x held ends =
    let runs = are_runs b s space in
    let good = group_run x (runs.good x held) in
    let fits = up_to block_form (by_block (span place 0)) in
    let above = All-contains (λ (y : ByBlock). fits y ≡ true → is_gt (block_form.order y found) ≡ false) (block_records b s) (by_block x)
    greatest.greatest held in
    ⊎_elim
    (λ (same : x ≡ block_span found). differs (ap end_of (sym same) ∙ ends))
    (λ (away : apart x (block_span found) ≡ true). clash x (block_span found) place good.1 away greatest.fits above ends)
    (runs.away x (block_span found) held greatest.held)
