-- What the tests of runs mean, and that no test asks which run is named first.
use Rattle.std.proofs.Common.{◌≡◌, ◌<◌, ◌≤◌, true, arith}
use Rattle.std.proofs.lemmas.Bool.Decides.{nat_tests}
use Rattle.xr_kinds.specs.declared.span.Span.{Span}
use Rattle.xr_kinds.specs.Spans.{end_of, apart, is_group_run, meet, touch}

pub group_run : (s : Span) → is_group_run s ≡ true → (512 ≤ s.start) × (0 < s.len) × (end_of s ≤ 2048)
group_run s good = grind (arith, nat_tests)

pub meet_both : (a b : Span) → meet a b ≡ meet b a
meet_both a b = grind (arith, nat_tests)

pub apart_both : (a b : Span) → apart a b ≡ apart b a
apart_both a b = grind (arith, nat_tests)

pub touch_both : (a b : Span) → touch a b ≡ touch b a
touch_both a b = grind (arith, nat_tests)
