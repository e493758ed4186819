use Rattle.std.proofs.Common.{◌∙◌, refl, ap, arith}
use Rattle.xr_commit.specs.Pending.{joined_items}
use Rattle.xr_scan.specs.NextId.{next_id}
use Rattle.xr_scan.proofs.ScanningLemmas.{items_valid, known, last_placed, logs_some, scanned_in, works_numbered}
use Rattle.xr_scan.proofs.scanning.scan_over.Goals as goal

pub replay_over-requires-clause-log : goal.replay_over-requires-clause-log
replay_over-requires-clause-log c = let given = c.requires.found in logs_some given.0 c.args.found _ _ given.1 c.deref.ensures.value c.deref-2.ensures.value

pub next_id-next-requires : goal.next_id-next-requires
next_id-next-requires c = let given = c.requires.found in items_valid given.0 c.args.found _ given.1 c.deref-4.ensures.value

pub invariant_of-result-clause-placed : goal.invariant_of-result-clause-placed
invariant_of-result-clause-placed c = let given = c.requires.found in last_placed given.0 c.args.found _ _ given.1 c.deref-3.ensures.value c.newest-last.ensures

pub invariant_of-result-clause-numbered : goal.invariant_of-result-clause-numbered
invariant_of-result-clause-numbered c = let given = c.requires.found in works_numbered given.0 c.args.found _ _ given.1 c.deref-4.ensures.value c.next_id-next.ensures

pub invariant_of-result-clause-few : goal.invariant_of-result-clause-few
invariant_of-result-clause-few c = let given = c.requires.found in let few = given.1.has.few in omega (arith, few, c.args.found.pending.ok.0)

pub returns-clause-scanned : goal.returns-clause-scanned
returns-clause-scanned c log in_log =
    scanned_in log c.args.homes.items c.args.found _ in_log.live_in (in_log.ends in_log.live_in) in_log.has (known log c.args.found in_log)
    record {
      es = c.deref.result.now;
      vs = c.deref-2.result.now;
      hs = c.deref-3.result.now;
      same = c.deref.ensures.value;
      also = c.deref-2.ensures.value;
      heads = c.deref-3.ensures.value;
      replay = record { blocks_are = c.in_ok-copies.ensures.blocks; dirty_are = c.in_ok-copies.ensures.dirty };
      pending_are = refl;
      place = refl;
      last_is = c.newest-last.ensures;
      clean = c.is_clean-clean.ensures;
      next_is = c.next_id-next.ensures ∙ ap (λ vs. next_id (joined_items vs)) c.deref-4.ensures.value;
    }
