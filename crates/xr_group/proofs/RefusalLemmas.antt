-- A group is refused for nothing: its header is right, and so is each tree after those before it.
use Rattle.std.proofs.Common.{refl, ⊎_elim, arith}
use Rattle.std.proofs.lemmas.List.Elements.{Contains-append_cases}
use Rattle.std.specs.List.{Contains}
use Rattle.xr_block.specs.Trees.{blocks_of_tree}
use Rattle.xr_block.specs.declared.fault.TreeFault.{TreeFault}
use Rattle.xr_group.proofs.RoomLemmas.{all_used}
use Rattle.xr_group.specs.OpenGroup.{IsNextTree, RefusedAreNoGroups, RefusesTrees, blocks_of_three}
use Rattle.xr_group.specs.Trees.{HasGroupTrees}
use Rattle.xr_group.specs.declared.trees.Trees.{Trees}
use Rattle.xr_kinds.specs.Reference.{reference_form}
use Rattle.xr_kinds.specs.Reverse.{reverse_form}
use Rattle.xr_open.specs.declared.fault.OpenFault.TheVariants.{Header, NoMemory, Tree}
use Rattle.xr_pool.specs.Overlay.{Blocks}
use Rattle.xr_space.specs.Space.{space_blocks}

module _ (b : Blocks) (t : Trees) (all : HasGroupTrees b t) where
  owners_next : IsNextTree reverse_form b (space_blocks b t.space) t.rmap.tree
  owners_next = (all.rmap, λ n one other. let lie = all.parted.apart 0 1 n one other in absurd (omega (arith, lie)))

  counts_next : IsNextTree reference_form b (blocks_of_three b t) t.counts.tree
  counts_next = (
    all.counts,
    λ n three other. ⊎_elim
        (λ (space : Contains (space_blocks b t.space) n). let lie = all.parted.apart 0 2 n space other in absurd (omega (arith, lie)))
        (λ (owners : Contains (blocks_of_tree reverse_form b t.rmap.tree) n). let lie = all.parted.apart 1 2 n owners other in absurd (omega (arith, lie)))
        (Contains-append_cases (space_blocks b t.space) (blocks_of_tree reverse_form b t.rmap.tree) n three),
  )

  not_refused : (fault : TreeFault) → RefusesTrees b t fault → ⊥
  not_refused fault refused = ⊎_elim
      (λ first. first.0 (all.space.blocks, λ n within. absurd (omega (arith, within.1))))
      (λ rest. ⊎_elim
      (λ second. second.1.0 (all.space.sizes, all.space.separate))
      (λ others. ⊎_elim (λ third. third.1.0 owners_next) (λ fourth. fourth.2.0 counts_next) others)
      rest)
      refused

pub refused_are_no_groups : RefusedAreNoGroups
refused_are_no_groups number uuid blocks NoMemory other refused group = other refl
refused_are_no_groups number uuid blocks (Tree fault) other refused group = not_refused _ _ group.trees fault refused.1
refused_are_no_groups number uuid blocks (Header fault) other refused group = ⊎_elim
    (λ head. head.0 group.head)
    (λ map. map.1.1 (all_used _ _ group.trees))
    refused.1
