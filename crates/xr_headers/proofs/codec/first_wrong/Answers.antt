use Rattle.std.proofs.Common.{◌≡◌, ◌+◌, ◌-◌, length, refl, arith}
use Rattle.xr_headers.proofs.FirstWrongLemmas.{difference_finds, earlier_finds, named_from}
use Rattle.xr_headers.specs.ChecksumLaws.{right_from_tests, tests_from_right}
use Rattle.xr_headers.proofs.codec.first_wrong.Goals as goal

pub returns-clause-right : goal.returns-clause-right
returns-clause-right c =
    let bytes = c.args.bytes.now in
    let end = length bytes - 4 in
    let fits : end + 4 ≡ length bytes = omega arith in (
      λ none.
          let both = c.magic_first.ensures.right.0 none in
          let neither = c.earlier-place.ensures.none.0 both.0 in (
            neither.0,
            right_from_tests end (length bytes) bytes c.args.wanted.now fits refl (c.is_sealed.ensures.0 both.1)
                (c.difference.ensures.none.0 neither.1),
          ),
      λ right.
          let tests = tests_from_right end (length bytes) bytes c.args.wanted.now fits right.1 in
          c.magic_first.ensures.right.1
          (c.earlier-place.ensures.none.1 (right.0, c.difference.ensures.none.1 tests.1), c.is_sealed.ensures.1 tests.0),
    )

pub returns-clause-named : goal.returns-clause-named
returns-clause-named c =
    let bytes = c.args.bytes.now in
    let end = length bytes - 4 in
    let differs =
    difference_finds c.difference.result bytes c.args.wanted.now end (omega arith) c.difference.ensures.none.0 c.difference.ensures.within
    c.difference.ensures.differs c.difference.ensures.first in
    named_from c.magic_first.result c.earlier-place.result c.is_sealed.result end bytes _ c.magic_first.ensures.named
    (earlier_finds c.earlier-place.result c.args.broken c.difference.result _ c.earlier-place.ensures.none.0 c.earlier-place.ensures.first differs)
    c.is_sealed.ensures.0 c.is_sealed.ensures.1
