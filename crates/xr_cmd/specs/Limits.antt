-- The numbers that users are promised, apart from the constants that name them.
use Rattle.std.specs.Prelude.{◌≡◌}
use Rattle.xr_cmd.specs.declared.program.TheConstants.{FIRST_CYCLE}
use Rattle.xr_cmd.specs.declared.script.TheConstants.{MAX_LINES, MAX_BYTES}

-- how many lines and bytes a script may have, and the cycle with which the log of a new image begins
pub record HasLimits : Type 0 where
  pub most_lines : MAX_LINES ≡ 65536
  pub most_bytes : MAX_BYTES ≡ 4194304
  pub first_cycle : FIRST_CYCLE ≡ 1
