-- Of no public contract.
-- Which blocks of a group the runs of some records hold, as a map of bits.
use Rattle.std.specs.Prelude.{◌≡◌, ℕ, ◌<◌, true, List, length, slice_index_or}
use Rattle.std.specs.List.{Any}
use Rattle.xr_kinds.specs.declared.span.Span.{Span}
use Rattle.xr_verify.specs.declared.run_bits.TheConstants.{MAP_BYTES}
use Rattle.xr_pool.specs.Bits.{has_bit}
use Rattle.xr_kinds.specs.Spans.{IsIn}

pub record HoldsRuns {X : Type 0} (span_of : X → Span) (bits : List ℕ) (noted : List X) : Type 0 where
  pub long : length bits ≡ MAP_BYTES
  pub set : (k n : ℕ) (d : X) → k < length noted → IsIn (span_of (slice_index_or noted k d)) n → has_bit bits n ≡ true
  pub only : (n : ℕ) → has_bit bits n ≡ true → Any (λ (x : X). IsIn (span_of x) n) noted
