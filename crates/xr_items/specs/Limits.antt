-- The numbers of items and transactions that users are promised, each as the number that it is.
use Rattle.std.specs.Prelude.{◌≡◌, ◌^◌}
use Rattle.xr_items.specs.declared.layout.TheConstants.{IDS, LONGEST_REGION, TRANS_BLOCKS, TRANS_SLOTS, TRANS_WORKS}

pub record AreItemLimits : Type 0 where
  pub ids : IDS ≡ 2 ^ 63
  pub longest_region : LONGEST_REGION ≡ 56
  pub blocks : TRANS_BLOCKS ≡ 64
  pub works : TRANS_WORKS ≡ 12
  pub slots : TRANS_SLOTS ≡ 12
