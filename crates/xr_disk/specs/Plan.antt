-- The plan of an object in memory: which of its calls fail. Calls count from 1.
use Rattle.std.specs.Prelude.{ℕ, ◌+◌, ◌-◌, ◌^◌, min, List, Contains}

-- the numbers of the calls that fail, and how many calls and faults there were
pub record CallPlan : Type 0 where
  pub fails : List ℕ
  pub calls : ℕ
  pub faults : ℕ

-- a count after one more. It stays at its last value, so each call past that one has its number
abbrev pub next_count : ℕ → ℕ
next_count n = min (n + 1) (2 ^ 64 - 1)

-- the plan before the first call
abbrev pub fresh_plan : List ℕ → CallPlan
fresh_plan fails = record { fails = fails; calls = 0; faults = 0 }

-- the next call is one that fails
abbrev pub FailsNext : CallPlan → Type 0
FailsNext plan = Contains plan.fails (next_count plan.calls)

-- one more call, and none of the faults
abbrev pub plan_after_call : CallPlan → CallPlan
plan_after_call plan = record plan { calls = next_count plan.calls }

-- one more call, and it was a fault
abbrev pub plan_after_fault : CallPlan → CallPlan
plan_after_fault plan = record plan { calls = next_count plan.calls; faults = next_count plan.faults }
