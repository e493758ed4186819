-- The reserve after the newest record, counted round the log, and another record that begins in it.
use Rattle.std.proofs.Common.{◌≡◌, ℕ, ◌+◌, ◌-◌, ◌%◌, ◌<◌, ◌≤◌, subst, arith}
use Rattle.xr_base.specs.declared.geometry.TheConstants.{LOG_SECTORS}
use Rattle.xr_record.specs.declared.head.Head.{Head}
use Rattle.xr_commit.specs.declared.layout.TheConstants.{RELOG_SECTORS}
use Rattle.xr_commit.specs.Chain.{IsClear}
use Rattle.xr_commit.specs.LogRecords.{record_end}

-- so far after the reserve's begin stands the sector
meets_at : («end» first : ℕ) → «end» ≤ 4096 → first < 4096 → («end» + (first + 4096 - «end» % 4096) % 4096) % 4096 ≡ first
meets_at «end» first small within = omega arith

pub begins_within : (newest head : Head) (e : ℕ) → e ≡ record_end newest → record_end newest ≤ LOG_SECTORS → record_end head ≤ LOG_SECTORS
    → (head.lsn.sector + 4096 - e % 4096) % 4096 < RELOG_SECTORS → IsClear newest head → ⊥
begins_within newest head e is small whole near clear =
    let ahead : ℕ = (head.lsn.sector + 4096 - record_end newest % 4096) % 4096 in
    let near_it : ahead < RELOG_SECTORS = subst (λ (n : ℕ). (head.lsn.sector + 4096 - n % 4096) % 4096 < RELOG_SECTORS) is near in
    let at : (record_end newest + ahead) % 4096 ≡ head.lsn.sector = meets_at (record_end newest) head.lsn.sector small (omega arith) in
    clear ahead near_it record { first = omega (arith, at); last = omega (arith, at) }
