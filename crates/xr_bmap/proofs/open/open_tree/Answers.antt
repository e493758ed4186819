-- The tree is there, and what isn't free is marked as its own.
use Rattle.std.proofs.Common.{refl, sym, subst}
use Rattle.xr_block.specs.Trees.{IsTree}
use Rattle.xr_block.specs.declared.root.Root.{Root}
use Rattle.xr_bmap.proofs.OpenLemmas.{marked_tree}
use Rattle.xr_kinds.specs.Mapping.{mapping_form}
use Rattle.xr_bmap.proofs.open.open_tree.Goals as goal

pub returns-then-are_all_marked-clause-tree : goal.returns-then-are_all_marked-clause-tree
returns-then-are_all_marked-clause-tree c =
    let found = c.in_ok-tree.ensures in
    let own = found.right.0 refl in (
      found.tree,
      marked_tree c.args.over.now c.in_ok-tree.tree c.verify.new.seen c.requires.pool
          (subst (λ (t : Root). IsTree mapping_form c.args.over.now t) (sym found.tree) own.0) found.marked (c.are_all_marked.ensures.0 c.if-are_all_marked.true),
    )
