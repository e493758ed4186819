-- The numbers of a state's layout, apart from the constants that name them.
use Rattle.std.specs.Prelude.{◌≡◌}
use Rattle.xr_scan.specs.declared.layout.TheConstants.{MOST_PENDING, STATE_BLOCKS, STATE_BYTES}

-- how many intents may be pending, and what a state measures
pub record HasStateLayout : Type 0 where
  pub most_pending : MOST_PENDING ≡ 128
  pub state_blocks : STATE_BLOCKS ≡ 2304
  pub state_bytes : STATE_BYTES ≡ 9437184
