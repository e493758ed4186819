-- The printed text of a tree of each group, a line a record, in the order of the tree.
use Rattle.std.specs.Prelude.{ℕ, List}
use Rattle.std.specs.List.{flat_map}
use Rattle.xr_group.specs.Group.{GroupState}

-- the records of one group after those of another
abbrev pub trees_text : {X : Type 0} → (GroupState → List X) → (X → List ℕ) → List GroupState → List ℕ
trees_text records line groups = flat_map (λ (g : GroupState). flat_map line (records g)) groups
