-- The next record's header: it comes later than the last one, and is one that a record may have.
use Rattle.std.proofs.Common.{◌≡◌, ℕ, ◌+◌, ◌<◌, ◌≤◌, Bool, true, false, List, ap, arith, inl, inr}
use Rattle.std.specs.Prelude.{if◌then◌else◌}
use Rattle.std.proofs.lemmas.Bool.{cases_lt}
use Rattle.xr_base.specs.declared.geometry.TheConstants.{CYCLES, LOG_SECTORS}
use Rattle.xr_record.specs.declared.head.Head.{Head}
use Rattle.xr_record.specs.Lsn.{lsn_number}
use Rattle.xr_record.specs.Record.{sectors_of}
use Rattle.xr_commit.specs.LogRecords.{record_end}
use Rattle.xr_scan.specs.LoggedLaws.{IsPlacedHead}
use Rattle.xr_log.specs.Positions.{end_position, log_position}
use Rattle.xr_log.specs.Writing.{ComesNext, IsPlacedAfter}

pub record ComesLater (last head : Head) : Type 0 where
  pub newer : lsn_number last.lsn < lsn_number head.lsn
  pub after : end_position last ≤ log_position head.lsn
  pub cycle : last.lsn.cycle ≤ head.lsn.cycle
  pub within : record_end head ≤ LOG_SECTORS
  pub near : end_position head ≤ end_position last + 129

pub comes_later : (last head : Head) (len : ℕ) → last.lsn.sector < LOG_SECTORS → record_end last ≤ LOG_SECTORS → len ≤ 32768 → IsPlacedAfter last head len → ComesLater last head
comes_later last head len own whole most p =
    let e = p.len_is in
    elim p.place [
      | inl (fits, cycle, sector) ↦ record {
        newer = omega (arith, cycle, sector);
        after = omega (arith, cycle, sector);
        cycle = omega (arith, cycle);
        within = omega (arith, fits, sector, e);
        near = omega (arith, cycle, sector, e, most);
      }
      | inr (full, cycle, sector) ↦ record {
        newer = omega (arith, cycle, sector, own);
        after = omega (arith, cycle, sector, whole);
        cycle = omega (arith, cycle);
        within = omega (arith, sector, e, most);
        near = omega (arith, cycle, sector, e, most, full);
      }
    ]

tail_older : (anew : Bool) (last head : Head) → lsn_number last.tail ≤ lsn_number last.lsn → lsn_number last.lsn < lsn_number head.lsn
    → head.tail ≡ (if anew then head.lsn else last.tail) → lsn_number head.tail ≤ lsn_number head.lsn
tail_older true last head older newer tail = let n = ap lsn_number tail in omega (arith, n)
tail_older false last head older newer tail = let n = ap lsn_number tail in omega (arith, n, older, newer)

pub placed_next : (anew : Bool) (last head : Head) (uuid : List ℕ) (ops len : ℕ) → IsPlacedHead last → ComesNext last anew uuid ops len head → 0 < len → len ≤ 32768
    → head.lsn.cycle < CYCLES → IsPlacedHead head
placed_next anew last head uuid ops len placed comes some most cycle =
    let good = placed.good in
    let own = good.sector in
    let round = good.round in
    let older = good.tail in
    let later = comes_later last head len own placed.within most comes.placed in
    let within = later.within in
    let on = later.cycle in
    let is = comes.placed.len_is in
    record {
      good = record {
        some = omega (arith, some, is);
        fits = omega (arith, most, is);
        sector = omega (arith, within);
        round = omega (arith, round, on);
        cycle = cycle;
        tail = tail_older anew last head older later.newer comes.tail_is;
      };
      within = within;
    }

-- the cycle is one that a record may have, where the last one was not used up
pub fresh_cycle : (last head : Head) (len : ℕ) → last.lsn.cycle < CYCLES → IsPlacedAfter last head len
    → ((last.lsn.cycle + 1 ≡ CYCLES) × (LOG_SECTORS < record_end last + (1 + sectors_of len)) → ⊥) → head.lsn.cycle < CYCLES
fresh_cycle last head len below p fresh = elim p.place [
  | inl (fits, cycle, sector) ↦ omega (arith, cycle, below)
  | inr (full, cycle, sector) ↦ elim (cases_lt (last.lsn.cycle + 1) CYCLES) [
    | inl less ↦ omega (arith, less, cycle)
    | inr not ↦ absurd (fresh (omega (arith, not, below), full))
  ]
]
