-- What a clause sees of a source and of a sink in memory.
use Rattle.std.specs.Prelude.{ℕ, List}
use Rattle.xr_disk.specs.Plan.{CallPlan}

-- the bytes that a source has left, and its plan
pub record SourceState : Type 0 where
  pub left : List ℕ
  pub plan : CallPlan

-- the bytes that a sink holds, how many it can hold in all, and its plan
pub record SinkState : Type 0 where
  pub held : List ℕ
  pub room : ℕ
  pub plan : CallPlan
