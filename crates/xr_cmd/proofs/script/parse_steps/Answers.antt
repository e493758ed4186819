use Rattle.std.proofs.Common.{◌<◌, length, arith, rules, inl, inr}
use Rattle.std.proofs.lemmas.Bool.Decides.{nat_tests}
use Rattle.xr_cmd.specs.declared.script.TheConstants.{MAX_LINES, MAX_BYTES}
use Rattle.xr_cmd.proofs.LineLemmas.{split, read_none, read_passed, read_step, read_bad, read_all}
use Rattle.xr_cmd.proofs.script.parse_steps.Goals as goal
use Rattle.xr_cmd.proofs.script.parse_steps.Goals.{then-number-gt-MAX_LINES-via-then-number-gt-MAX_LINES, then-number-gt-MAX_LINES-via-else-number-gt-MAX_LINES+then-bytes-after-gt-MAX_BYTES}

pub loop-rest-init : goal.loop-rest-init
loop-rest-init c = rw c.new-steps.ensures.items (read_none MAX_LINES MAX_BYTES c.args.bytes.now)

pub returns-then-number-gt-MAX_LINES-clause-first_bad :
    goal.returns-then-number-gt-MAX_LINES-clause-first_bad
returns-then-number-gt-MAX_LINES-clause-first_bad c =
    let some : 0 < length c.loop-rest.rest.now = grind (arith, nat_tests) in
    let apart = split _ _ _ some c.split_line.ensures.line c.split_line.ensures.rest in
    read_bad MAX_LINES MAX_BYTES _ _ _ _ _ _ c.loop-rest.invariant apart (
    elim c.then-number-gt-MAX_LINES.branch [
      | then-number-gt-MAX_LINES-via-then-number-gt-MAX_LINES w ↦ inl (omega arith)
      | then-number-gt-MAX_LINES-via-else-number-gt-MAX_LINES+then-bytes-after-gt-MAX_BYTES w ↦ inr (inl (omega arith))
    ])

pub returns-in_default-clause-first_bad : goal.returns-in_default-clause-first_bad
returns-in_default-clause-first_bad c =
    let some : 0 < length c.loop-rest.rest.now = grind (arith, nat_tests) in
    let apart = split _ _ _ some c.split_line.ensures.line c.split_line.ensures.rest in
    read_bad MAX_LINES MAX_BYTES _ _ _ _ _ _ c.loop-rest.invariant apart (inr (inr (record { not_passed_over = search rules; no_step = c.in_default.ensures })))

pub loop-rest-preserved-in_ok-push : goal.loop-rest-preserved-in_ok-push
loop-rest-preserved-in_ok-push c =
    let some : 0 < length c.loop-rest.rest.now = grind (arith, nat_tests) in
    let apart = split _ _ _ some c.split_line.ensures.line c.split_line.ensures.rest in
    rw c.in_ok-push.ensures.items (read_step MAX_LINES MAX_BYTES _ _ _ _ _ _ _ c.loop-rest.invariant apart (omega arith) (omega arith) c.in-Some.ensures)

pub loop-rest-preserved : goal.loop-rest-preserved
loop-rest-preserved c =
    let some : 0 < length c.loop-rest.rest.now = grind (arith, nat_tests) in
    let apart = split _ _ _ some c.split_line.ensures.line c.split_line.ensures.rest in
    read_passed MAX_LINES MAX_BYTES _ _ _ _ _ _ c.loop-rest.invariant apart (omega arith) (omega arith) (search rules)

pub returns-clause-sound : goal.returns-clause-sound
returns-clause-sound c =
    (read_all MAX_LINES MAX_BYTES _ _ _ _ c.loop-rest.invariant (grind (arith, nat_tests))).1
