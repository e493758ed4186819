-- What space there is for records and for one that grows, from one record to the next.
use Rattle.std.proofs.Common.{◌≡◌, ◌⊎◌, ℕ, ◌+◌, ◌<◌, ◌≤◌, length, ap, subst, inl, inr, arith}
use Rattle.xr_record.specs.declared.head.Head.{Head}
use Rattle.xr_record.specs.Record.{sectors_of}
use Rattle.xr_log.specs.declared.held.Held.{Held}
use Rattle.xr_log.specs.declared.layout.TheConstants.{GROWING_SECTORS}
use Rattle.xr_log.specs.declared.packing.Fill.{Fill}
use Rattle.xr_log.specs.Calls.{WearsOut}
use Rattle.xr_log.specs.Filling.{Fills, HasSpace, HasSpaceFor}
use Rattle.xr_log.specs.Positions.{LeavesSectors, log_position}
use Rattle.xr_log.specs.Writing.{IsPlacedAfter}

-- where a record may grow
pub space_grows : (limit : ℕ) (last : Head) (records : ℕ) → HasSpace limit last records → LeavesSectors GROWING_SECTORS last
space_grows limit last records (inl b) = let s = b.sectors in omega (arith, s)
space_grows limit last records (inr a) = let s = a.sectors in omega (arith, s)

pub space_cycle : (limit : ℕ) (last : Head) (records : ℕ) → HasSpace limit last records → last.lsn.cycle ≤ limit
space_cycle limit last records (inl b) = let s = b.cycle in omega (arith, s)
space_cycle limit last records (inr a) = a.cycle

-- fewer records have space, too
pub space_less : (limit : ℕ) (last : Head) (more records : ℕ) → records ≤ more → HasSpace limit last more → HasSpace limit last records
space_less limit last more records less (inl b) =
    let s = b.sectors in let f = b.few in inl record { few = omega (arith, f, less); cycle = b.cycle; fresh = b.fresh; sectors = omega (arith, s, less) }
space_less limit last more records less (inr a) =
    let s = a.sectors in let f = a.few in let e = a.fits in
    inr record { few = omega (arith, f, less); cycle = a.cycle; fits = omega (arith, e, less); sectors = omega (arith, s, less) }

-- a full record needs no cycle that none may have
pub space_fresh : (log : Held) (limit records len : ℕ) → HasSpace limit log.growing.last records → 1 ≤ records → len ≤ 65 → WearsOut log len 0 → ⊥
space_fresh log limit records len (inl b) some most (inl (cycle, passes)) = let c = b.cycle in let f = b.fresh in absurd (omega (arith, c, f, cycle))
space_fresh log limit records len (inr a) some most (inl (cycle, passes)) = let e = a.fits in absurd (omega (arith, e, passes, some, most))
space_fresh log limit records len has some most (inr (ids, many)) = absurd (omega (arith, ids))

-- after one full record
tail_ends : (last next : Head) (n : ℕ) → LeavesSectors n last → (next.tail ≡ last.tail) ⊎ (next.tail ≡ next.lsn)
    → (log_position last.tail ≤ log_position next.tail) ⊎ (log_position next.tail ≡ log_position next.lsn)
tail_ends last next n leaves (inl kept) = inl (let e = ap log_position kept in omega (arith, e))
tail_ends last next n leaves (inr own) = inr (ap log_position own)

pub space_next : (limit more len : ℕ) (last next : Head) → 32740 < len → len ≤ 32768 → IsPlacedAfter last next len → HasSpace limit last (1 + more) → HasSpace limit next more
space_next limit more len last next full most p has =
    let full_sectors : 1 + sectors_of next.len ≡ 65 = let e = p.len_is in omega (arith, e, full, most) in
    let same : 1 + sectors_of len ≡ 65 = omega (arith, full, most) in
    elim has [
      | inl b ↦ (let s = b.sectors in let f = b.few in let c = b.cycle in let g = b.fresh in
          elim p.place [
            | inl (fits, cycle, sector) ↦ inl record {
              few = omega (arith, f);
              cycle = omega (arith, c, cycle);
              fresh = g;
              sectors = elim (tail_ends last next _ s p.tail) [
                | inl kept ↦ omega (arith, s, kept, cycle, sector, full_sectors)
                | inr own ↦ omega (arith, own, f, cycle, sector, full_sectors)
              ];
            }
            | inr (passes, cycle, sector) ↦ inr record {
              few = omega (arith, f);
              cycle = omega (arith, c, cycle);
              fits = omega (arith, sector, full_sectors, f);
              sectors = elim (tail_ends last next _ s p.tail) [
                | inl kept ↦ omega (arith, s, kept, passes, same, cycle, sector, full_sectors)
                | inr own ↦ omega (arith, own, f, cycle, sector, full_sectors)
              ];
            }
          ])
      | inr a ↦ (let s = a.sectors in let f = a.few in let c = a.cycle in let e = a.fits in
          elim p.place [
            | inl (fits, cycle, sector) ↦ inr record {
              few = omega (arith, f);
              cycle = omega (arith, c, cycle);
              fits = omega (arith, e, sector, full_sectors);
              sectors = elim (tail_ends last next _ s p.tail) [
                | inl kept ↦ omega (arith, s, kept, cycle, sector, full_sectors)
                | inr own ↦ omega (arith, own, f, cycle, sector, full_sectors)
              ];
            }
            | inr (passes, cycle, sector) ↦ absurd (omega (arith, e, passes, same))
          ])
    ]

-- what was filled by some operations and then by others
pub fills_grow : (old mid : Held) (f : Fill) → Fills old mid f → HasSpaceFor old f → LeavesSectors GROWING_SECTORS mid.growing.last
fills_grow old mid f fills (limit, has) =
    space_grows limit mid.growing.last 0 (fills.space limit 0 (subst (λ (n : ℕ). HasSpace limit old.growing.last n) (omega arith) has))

-- a body grows by so much
pub length_filled : (mid new : Held) (f : Fill) (n : ℕ) → length mid.growing.packer.body ≡ f.len → length new.growing.packer.body ≡ length mid.growing.packer.body + n
    → length new.growing.packer.body ≡ f.len + n
length_filled mid new f n len grown = omega (arith, len, grown)
