-- Where siblings agree all do: runs in the order of their blocks, and extents in that of their offsets.
use Rattle.std.proofs.Common.{◌≡◌, ℕ, ◌<◌, true, sym, arith}
use Rattle.std.proofs.lemmas.Bool.Decides.{nat_tests}
use Rattle.std.proofs.lemmas.Cmp.{ranked}
use Rattle.std.specs.Ordering.{nat_cmp}
use Rattle.std.specs.declared.cmp.Ordering.TheVariants.{Less}
use Rattle.xr_kinds.specs.declared.mapping.Mapping.{Mapping}
use Rattle.xr_kinds.specs.declared.span.Span.{Span}
use Rattle.xr_kinds.specs.FreeRuns.{block_form, block_span}
use Rattle.xr_verify.specs.Ledger.{NeighboursSuffice}
use Rattle.xr_kinds.specs.Mapping.{mapping_form}
use Rattle.xr_kinds.specs.SpanLaws.{group_run}
use Rattle.xr_kinds.specs.Spans.{apart}

pub below_from : (a b : ℕ) → nat_cmp a b ≡ Less → a < b
below_from a b is = ranked a b Less (sym is)

apart_rows : (x y z : Span) → x.start < y.start → y.start < z.start → 0 < y.len → 0 < z.len → apart x y ≡ true → apart y z ≡ true → apart x z ≡ true
apart_rows x y z first second some_y some_z one two = grind (arith, nat_tests)

pub blocks_in_rows : NeighboursSuffice block_form
blocks_in_rows x y z good_x good_y good_z first second one two =
    apart_rows (block_span x) (block_span y) (block_span z) (below_from x.start y.start first) (below_from y.start z.start second)
    (group_run (block_span y) good_y).1 (group_run (block_span z) good_z).1 one two

extents : (x y z : Mapping) → x.off < y.off → y.off < z.off → 0 < y.len → 0 < z.len → mapping_form.agree x y ≡ true → mapping_form.agree x z ≡ true
extents x y z first second some_y some_z one = grind (arith, nat_tests)

some_extent : (x : Mapping) → mapping_form.is_valid x ≡ true → 0 < x.len
some_extent x good = grind (arith, nat_tests)

pub extents_in_rows : NeighboursSuffice mapping_form
extents_in_rows x y z good_x good_y good_z first second one two =
    extents x y z (below_from x.off y.off first) (below_from y.off z.off second) (some_extent y good_y) (some_extent z good_z) one
