use Rattle.std.proofs.Common.{◌≡◌, List}
use Rattle.xr_commit.specs.LoggedItems.{Logged}
use Rattle.xr_scan.specs.LoggedEntries.{Logs, logged_items}
use Rattle.xr_scan.proofs.ReplayLoopLemmas.{IsReplaying}
use Rattle.xr_scan.proofs.replay.replay_items.Given as goal

abbrev pub invariant-loop-item : goal.invariant-loop-item
invariant-loop-item l =
    (ls : List Logged) → Logs l.regions ls → l.items ≡ logged_items ls → IsReplaying ls l.at l.item-index l.fn.blocks l.fn.dirty l.blocks l.dirty
