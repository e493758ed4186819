-- A run that is its own first equal part.
use Rattle.std.proofs.Common.{◌≡◌, List, arith}
use Rattle.xr_kinds.specs.declared.reference.Reference.{Reference}
use Rattle.xr_kinds.specs.declared.span.Span.{Span}
use Rattle.xr_refcount.specs.Calls.{IsFirstEqual}
use Rattle.xr_refcount.specs.Counts.{AreCountedAs}
use Rattle.xr_refcount.specs.declared.refcount.CountedSpan.{CountedSpan}

pub whole_part : (xs : List Reference) (run : Span) (part : CountedSpan) → IsFirstEqual xs run part → part.run.len ≡ run.len
    → AreCountedAs xs run part.count part.staged
whole_part xs run part first whole n within =
    first.alike n (record { from = omega (arith, first.start, within.from); below = omega (arith, first.start, whole, within.below) })
