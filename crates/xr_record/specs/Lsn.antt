-- The order of places in the log.
use Rattle.std.specs.Prelude.{ℕ, ◌+◌, ◌*◌, ◌^◌}
use Rattle.xr_record.specs.declared.head.Lsn.{Lsn}

-- the one number that stands for a place
abbrev pub lsn_number : Lsn → ℕ
lsn_number lsn = lsn.cycle * 2 ^ 32 + lsn.sector
