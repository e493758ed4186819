use Rattle.std.proofs.Common.{◌+◌, ◌*◌, List}
use Rattle.xr_verify.proofs.ChildLemmas.{AreMarkedTo, AreVisitedTo}
use Rattle.xr_verify.specs.Passed.{IsPast}
use Rattle.xr_verify.specs.Visits.{last_below}
use Rattle.xr_verify.proofs.visit.+visiting.Given as goal

abbrev pub decreases-visit : goal.decreases-visit
decreases-visit g l = 2 * l.level

abbrev pub decreases-visit_children : goal.decreases-visit_children
decreases-visit_children g l = 2 * l.level + 1

abbrev pub invariant-visit_children-loop-k : goal.invariant-visit_children-loop-k
invariant-visit_children-loop-k g l =
    let form = g.R.Record.form in
    ((noted : List _) → IsPast form g.L.Ledger.notes l.fn.passed noted
    → AreVisitedTo form g.L.Ledger.notes l.over l.level l.node.number (last_below form l.over l.node.left) l.node.last l.fn.seen noted l.left l.seen l.passed l.k)
    × AreMarkedTo form l.over l.level l.node.number l.fn.seen l.seen l.k
