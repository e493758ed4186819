use Rattle.std.proofs.Common.{◌≡◌, take}
use Rattle.xr_chain.proofs.begin.ask_for.Given as goal

abbrev pub invariant-loop-work : goal.invariant-loop-work
invariant-loop-work l = l.trans ≡ record l.fn.trans { works = take l.work-index l.works }
