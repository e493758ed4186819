use Rattle.std.proofs.Common.{List}
use Rattle.xr_commit.specs.ItemsOf.{items_in}
use Rattle.xr_commit.specs.LoggedItems.{Logged}
use Rattle.xr_scan.specs.Replaying.{LogEach}
use Rattle.xr_scan.proofs.EntryReplayLemmas.{IsReplayingEach}
use Rattle.xr_scan.proofs.replay.replay.Given as goal

abbrev pub invariant-loop-i : goal.invariant-loop-i
invariant-loop-i l = (ls : List Logged) → LogEach l.entries (items_in l.items) ls → IsReplayingEach l.entries (items_in l.items) ls l.i l.fn.blocks l.fn.dirty l.blocks l.dirty
