-- A walk over the parts of a run that have one count and kind each.
use Rattle.std.proofs.Common.{◌≡◌, ℕ, ◌+◌, ◌<◌, ◌≤◌, Bool, Option}
use Rattle.xr_base.specs.declared.address.Run.{Run}
use Rattle.xr_chain.specs.Readiness.{IsCountedBelow}
use Rattle.xr_group.specs.Group.{GroupState, IsRunOf}

-- the rest of a run, whose blocks before it are as asked
pub record IsRest (g : GroupState) (run : Run) (staged : Bool) (limit : Option ℕ) (rest : Run) : Type 0 where
  pub mine : IsRunOf g rest
  pub from : run.start.0 ≤ rest.start.0
  pub end : rest.start.0 + rest.len ≡ run.start.0 + run.len
  pub passed : (a : ℕ) → run.start.0 ≤ a → a < rest.start.0 → IsCountedBelow g staged limit a
