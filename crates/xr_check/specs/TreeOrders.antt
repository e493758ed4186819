-- The order of the records of a group's tree.
use Rattle.std.specs.Prelude.{◌≡◌, List}
use Rattle.std.specs.List.{AllPairs}
use Rattle.xr_base.specs.declared.address.Addr.{Addr}
use Rattle.xr_group.specs.Group.{AreGroups, GroupState}

-- the records of each group rise strictly in an order, in which records of one place have one start
pub record IsTreeOrder {X : Type 0} (records : GroupState → List X) (Before : X → X → Type 0) (start : X → Addr) : Type 0 where
  pub irreflexive : (x : X) → ¬ (Before x x)
  pub transitive : (x y z : X) → Before x y → Before y z → Before x z
  pub alike : (x y : X) → ¬ (Before x y) → ¬ (Before y x) → start x ≡ start y
  pub rising : (g : GroupState) → AreGroups g → AllPairs Before (records g)
