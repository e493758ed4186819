use Rattle.std.proofs.Common.{◌≡◌, ◌++◌, take}
use Rattle.std.specs.String.{string_bytes}
use Rattle.xr_text.specs.TreeText.{trees_text}
use Rattle.xr_text.proofs.tree_text.push_trees.Given as goal

abbrev pub invariant-loop-group : goal.invariant-loop-group
invariant-loop-group g l =
    string_bytes l.text ≡ string_bytes l.fn.text ++ trees_text g.T.GroupTree.records g.T.PrintedTree.line (take l.group-index l.groups)
