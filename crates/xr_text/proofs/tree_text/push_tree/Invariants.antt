use Rattle.std.proofs.Common.{◌+◌, ◌-◌, length}
use Rattle.std.specs.List.{flat_map}
use Rattle.std.specs.String.{string_bytes}
use Rattle.xr_text.proofs.TreeTextLemmas.{HasPrinted}
use Rattle.xr_text.proofs.tree_text.push_tree.Given as goal

abbrev pub invariant-loop-record : goal.invariant-loop-record
invariant-loop-record g l =
    HasPrinted g.T.PrintedTree.line (g.T.GroupTree.records l.group) (string_bytes l.fn.text) (string_bytes l.text) l.last

-- the bytes that are still to be printed
abbrev pub decreases-loop-record : goal.decreases-loop-record
decreases-loop-record g l =
    length (flat_map g.T.PrintedTree.line (g.T.GroupTree.records l.group)) + length (string_bytes l.fn.text) - length (string_bytes l.text)
