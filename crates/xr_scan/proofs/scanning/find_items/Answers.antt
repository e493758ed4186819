use Rattle.std.proofs.Common.{arith}
use Rattle.xr_scan.proofs.FoundItemLemmas.{has_items, owes_too_much}
use Rattle.xr_scan.proofs.scanning.find_items.Goals as goal

pub returns-then-len-gt-MOST_PENDING-clause-debt : goal.returns-then-len-gt-MOST_PENDING-clause-debt
returns-then-len-gt-MOST_PENDING-clause-debt c =
    owes_too_much c.args.live.entries.items c.deref.result.now c.in_ok-items.items.items c.deref-2.result.now c.in_ok-pending.pending.items
    c.deref.ensures.value c.deref-2.ensures.value c.in_ok-items.ensures.only c.in_ok-pending.ensures (omega (arith, c.len.ensures, c.in_ok-pending.pending.ok.0))

pub returns-clause-found : goal.returns-clause-found
returns-clause-found c =
    has_items _ c.deref.result.now c.deref-2.result.now c.deref.ensures.value c.deref-2.ensures.value c.in_ok-items.ensures.only c.in_ok-pending.ensures
    (omega (arith, c.len.ensures, c.in_ok-pending.pending.ok.0))
