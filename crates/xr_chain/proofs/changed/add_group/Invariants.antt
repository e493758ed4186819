use Rattle.std.proofs.Common.{◌≡◌, [], take}
use Rattle.xr_chain.specs.Events.{logged_group, trans_with}
use Rattle.xr_chain.proofs.changed.add_group.Given as goal

abbrev pub invariant-loop-i : goal.invariant-loop-i
invariant-loop-i l = l.trans ≡ trans_with (take l.i (logged_group l.group)) [] []
