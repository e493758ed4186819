-- What a packer keeps; of no public contract.
use Rattle.std.specs.Prelude.{ℕ, ◌*◌, ◌≤◌}
use Rattle.xr_base.specs.declared.layout.TheConstants.{MAX_BODY_BYTES}
use Rattle.xr_record.specs.declared.layout.TheConstants.{OPERATION_BYTES}

-- of its body's length, the memory for it, and its operations, each of which has a header
pub record IsPacking (len capacity ops : ℕ) : Type 0 where
  pub most : len ≤ MAX_BODY_BYTES
  pub capacity_is : MAX_BODY_BYTES ≤ capacity
  pub each : OPERATION_BYTES * ops ≤ len
