-- Which blocks some runs hold after a run more, a run less, or another in the place of one.
use Rattle.std.proofs.Common.{◌≡◌, ◌≢◌, ◌⊎◌, ◌↔◌, ℕ, ◌<◌, true, refl, ap, ◌∙◌, inl, inr, ⊎_elim, arith}
use Rattle.std.proofs.Math.Logic.{⊎_map}
use Rattle.std.proofs.lemmas.Bool.{cases_lt}
use Rattle.std.proofs.lemmas.Bool.Decides.{nat_tests}
use Rattle.std.proofs.lemmas.List.Elements.{All-contains}
use Rattle.xr_kinds.specs.declared.free_runs.ByBlock.{ByBlock}
use Rattle.xr_kinds.specs.declared.span.Span.{Span}
use Rattle.xr_change.specs.SetLaws.{agree_in}
use Rattle.xr_change.specs.Sets.{Gains, Loses, Swaps}
use Rattle.xr_kinds.specs.FreeRunLaws.{is_block_form}
use Rattle.xr_kinds.specs.FreeRuns.{block_form, block_span, by_block}
use Rattle.xr_pool.specs.Overlay.{Blocks}
use Rattle.xr_kinds.specs.Spans.{IsIn, apart, end_of, is_group_run, span}
use Rattle.xr_space.specs.Space.{IsFreeRun, IsSpace, block_records}
use Rattle.xr_space.specs.declared.space.Space.{Space}

-- runs of a group, with a block between any two
pub record AreRuns (free : Span → Type 0) : Type 0 where
  pub good : (x : Span) → free x → is_group_run x ≡ true
  pub away : (x y : Span) → free x → free y → (x ≡ y) ⊎ (apart x y ≡ true)

pub are_runs : (b : Blocks) (s : Space) → IsSpace b s → AreRuns (IsFreeRun b s)
are_runs b s space = record {
  good = λ x held.
      All-contains (λ (r : ByBlock). block_form.is_valid r ≡ true) (block_records b s) (by_block x) space.blocks.records.valid held;
  away = λ x y one other. ⊎_map (λ same. ap block_span same) (λ away. away)
      (agree_in block_form is_block_form (block_records b s) space.blocks.records (by_block x) (by_block y) one other);
}

abbrev pub Holds : (Span → Type 0) → ℕ → Type 0
Holds free n = (run : Span) × free run × IsIn run n

pub same_span : (s t : Span) → s.start ≡ t.start → s.len ≡ t.len → s ≡ t
same_span s t start len = ap (λ (n : ℕ). span n s.len) start ∙ ap (span t.start) len

pub in_cases : (s : Span) (n : ℕ) → IsIn s n ⊎ ¬ (IsIn s n)
in_cases s n = grind (arith, cases_lt n s.start, cases_lt n (end_of s))

not_both : (x y : Span) (n : ℕ) → apart x y ≡ true → IsIn x n → IsIn y n → ⊥
not_both x y n away one other = grind (arith, nat_tests)

pub gained : (P Q : Span → Type 0) (run : Span) → Gains P run Q → (n : ℕ) → Holds Q n ↔ (Holds P n ⊎ IsIn run n)
gained P Q run more n = (
  (λ found. ⊎_elim
      (λ (is : found.0 ≡ run). inr (rw is at found.2))
      (λ (old : P found.0). inl (found.0, old, found.2))
      ((more found.0).0 found.1)),
  (λ known. ⊎_elim
      (λ (old : Holds P n). (old.0, (more old.0).1 (inr old.1), old.2))
      (λ (new : IsIn run n). (run, (more run).1 (inl refl), new))
      known),
)

pub lost : (P Q : Span → Type 0) (run : Span) → AreRuns P → P run → Loses P run Q → (n : ℕ) → Holds Q n ↔ (Holds P n × ¬ (IsIn run n))
lost P Q run runs held less n = (
  (λ found.
      let kept = (less found.0).0 found.1 in (
        (found.0, kept.1, found.2),
        (λ within. ⊎_elim kept.0 (λ away. not_both found.0 run n away found.2 within) (runs.away found.0 run kept.1 held)),
      )),
  (λ known.
      let old = known.0 in
      (old.0, (less old.0).1 ((λ (same : old.0 ≡ run). known.1 (rw same at old.2)), old.1), old.2)),
)

-- what is taken out comes back as one with more
pub back_with : {P L Q O R B : Type 0} → (L ↔ (P × ¬ O)) → (Q ↔ (L ⊎ B)) → (B ↔ (O ⊎ R)) → (O → P) → O ⊎ ¬ O → Q ↔ (P ⊎ R)
back_with {P} {L} {Q} {O} {R} {B} less more each part cases = (
  (λ found. ⊎_elim (λ (kept : L). let before = less.0 kept in inl before.0) (λ (both : B). ⊎_map part (λ mine. mine) (each.0 both)) (more.0 found)),
  (λ known. more.1 (⊎_elim
      (λ (before : P). ⊎_elim (λ (within : O). inr (each.1 (inl within))) (λ (out : ¬ O). inl (less.1 (before, out))) cases)
      (λ (mine : R). inr (each.1 (inr mine)))
      known)),
)

-- in the place of a run stands another
module _ (P Q : Span → Type 0) (old new : Span) (runs : AreRuns P) (held : P old) (swap : Swaps P old new Q) (n : ℕ) where
  abbrev Others : Span → Type 0
  Others x = (x ≢ old) × P x

  less : Holds Others n ↔ (Holds P n × ¬ (IsIn old n))
  less = lost P Others old runs held (λ x. ((λ kept. kept), (λ kept. kept))) n

  more : Holds Q n ↔ (Holds Others n ⊎ IsIn new n)
  more = gained Others Q new swap n

  -- the front of a run is no longer free, and the rest is
  pub bound : (front : Span) → front.start ≡ old.start → new.start ≡ end_of front → end_of new ≡ end_of old → Holds Q n ↔ (Holds P n × ¬ (IsIn front n))
  bound front starts meets ends = (
    (λ found. ⊎_elim
        (λ (kept : Holds Others n). let before = less.0 kept in
        (before.0, (λ (taken : IsIn front n). before.1 (record { from = omega (arith, taken.from); below = omega (arith, taken.below) }))))
        (λ (rest : IsIn new n). (
          (old, held, record { from = omega (arith, rest.from); below = omega (arith, rest.below) }),
          (λ (taken : IsIn front n). absurd (omega (arith, rest.from, taken.below))),
        ))
        (more.0 found)),
    (λ known. more.1 (⊎_elim
        (λ (within : IsIn old n). inr (record {
          from = grind (arith, within, (λ (low : n < end_of front). known.1 (record { from = omega (arith, within.from); below = low })));
          below = omega (arith, within.below);
        }))
        (λ (out : ¬ (IsIn old n)). inl (less.1 (known.0, out)))
        (in_cases old n))),
  )

  -- a free run becomes one with a run beside it
  pub grown : (run : Span) → (IsIn new n ↔ (IsIn old n ⊎ IsIn run n)) → Holds Q n ↔ (Holds P n ⊎ IsIn run n)
  grown run each = back_with less more each (λ (within : IsIn old n). (old, held, within)) (in_cases old n)
