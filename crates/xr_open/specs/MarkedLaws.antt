-- Marks that are added tree by tree are those of all their blocks.
use Rattle.std.proofs.Common.{◌≡◌, ℕ, zero, suc, ◌/◌, ◌%◌, ◌^◌, false, replicate, get_or, refl, sym, ◌∙◌, ⊎_elim, arith}
use Rattle.std.proofs.Math.Nat.{zero-div}
use Rattle.std.proofs.lemmas.List.Elements.{Contains-append_cases, Contains-append_left, Contains-append_right}
use Rattle.std.specs.List.{Contains}
use Rattle.xr_block.specs.FrameLaws.{member_cases}
use Rattle.xr_open.specs.Marked.{MarksAddUp, MarksAreUsed, ZerosMarkNone}
use Rattle.xr_pool.specs.Bits.{has_bit}

zero_at : (bytes k : ℕ) → get_or (replicate {A = ℕ} bytes 0) k 0 ≡ 0
zero_at zero k = refl
zero_at (suc bytes) zero = refl
zero_at (suc bytes) (suc k) = zero_at bytes k

pub zeros_mark_none : ZerosMarkNone
zeros_mark_none bytes n = (
  λ marked. let none : has_bit (replicate bytes 0) n ≡ false = rw (zero_at bytes (n / 8), zero-div (2 ^ (n % 8))) refl in absurd cc,
  λ found. absurd (omega (arith, found.1)),
)

pub marks_add_up : MarksAddUp
marks_add_up old blocks more new before marks n = (
  λ marked. ⊎_elim
      (λ (mine : Contains more n). Contains-append_right blocks more n mine)
      (λ (other : ¬ (Contains more n)). Contains-append_left blocks more n ((before n).0 (sym (marks.others n other) ∙ marked)))
      (member_cases more n),
  λ found. ⊎_elim
      (λ (first : Contains blocks n). ⊎_elim
      (λ (mine : Contains more n). marks.these n mine)
      (λ (other : ¬ (Contains more n)). marks.others n other ∙ (before n).1 first)
      (member_cases more n))
      (λ (mine : Contains more n). marks.these n mine)
      (Contains-append_cases blocks more n found),
)

pub marks_are_used : MarksAreUsed
marks_are_used b blocks marks just = (λ all n from below taken. (just n).0 (all n from below taken), λ hold n from below taken. (just n).1 (hold n from below taken))
