-- The numbers of a log's rooms and limits, apart from the constants that name them.
use Rattle.std.specs.Prelude.{◌≡◌, ◌^◌}
use Rattle.xr_log.specs.declared.layout.TheConstants.{COMMIT_SECTORS, CYCLES_A_CALL, GROWING_SECTORS, IDS_A_CALL, WORN_CYCLE, WORN_ID}

pub record HasRoomLayout : Type 0 where
  pub worn_cycle : WORN_CYCLE ≡ 3999000000
  pub worn_id : WORN_ID ≡ 2 ^ 62
  pub cycles_a_call : CYCLES_A_CALL ≡ 1
  pub ids_a_call : IDS_A_CALL ≡ 512
  pub commit_sectors : COMMIT_SECTORS ≡ 1280
  pub growing_sectors : GROWING_SECTORS ≡ 219
