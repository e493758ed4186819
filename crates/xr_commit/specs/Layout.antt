-- The numbers of the log's layout, apart from the constants that name them.
use Rattle.std.specs.Prelude.{◌≡◌}
use Rattle.xr_commit.specs.declared.layout.TheConstants.{LOG_BYTES, MOST_RECORD_BYTES, RELOG_SECTORS}

-- what the log and a record measure at most, and how many sectors after the newest record are free
pub record HasLogLayout : Type 0 where
  pub log_bytes : LOG_BYTES ≡ 2097152
  pub most_record_bytes : MOST_RECORD_BYTES ≡ 33280
  pub reserved_sectors : RELOG_SECTORS ≡ 90
