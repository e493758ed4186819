-- What is mapped at an offset where extents become one, and where one is cut.
use Rattle.std.proofs.Common.{◌≡◌, ℕ, ◌+◌, ◌-◌, ◌<◌, ◌≤◌, true, Option, Some, refl, sym, ap, ◌∙◌, ⊎_elim, arith}
use Rattle.std.proofs.lemmas.Bool.{cases_lt}
use Rattle.std.proofs.lemmas.Bool.Decides.{nat_tests}
use Rattle.xr_base.specs.Address.{address_of}
use Rattle.xr_base.specs.declared.address.Addr.{Addr}
use Rattle.xr_bmap.specs.ExtentListLaws.{address_same}
use Rattle.xr_bmap.specs.SlotLaws.{block_at_offset}
use Rattle.xr_bmap.specs.Joins.{IsPartOfExtent}
use Rattle.xr_bmap.specs.Slots.{HasOffset}
use Rattle.xr_kinds.specs.Mapping.{runs_on}
use Rattle.xr_kinds.specs.declared.mapping.Mapping.{Mapping}
use Rattle.xr_maps.specs.StepLaws.{above_range, below_range, in_range}
use Rattle.xr_maps.specs.Steps.{punched_slot, remapped_slot}

pub places : (x r : Mapping) → runs_on x r ≡ true → (x.off + x.len ≡ r.off) × (x.at + x.len ≡ r.at)
places x r on = (grind (arith, nat_tests), grind (arith, nat_tests))

module _ (x r : Mapping) (on : runs_on x r ≡ true) (o : ℕ) (s : Option Addr) where
  -- the first was there, and both come
  pub joins_left : (HasOffset x o → s ≡ Some (block_at_offset x o))
      → remapped_slot x.off (x.len + r.len) (address_of x.at) o (punched_slot x.off x.len o s) ≡ remapped_slot r.off r.len (address_of r.at) o s
  joins_left known =
      let at = places x r on in
      ⊎_elim
      (λ (low : o < x.off). rw (below_range x.off (x.len + r.len) o low, below_range x.off x.len o low, below_range r.off r.len o (omega (arith, at.0, low))) refl)
      (λ (from : x.off ≤ o). ⊎_elim
      (λ (first : o < x.off + x.len).
      rw (in_range x.off (x.len + r.len) o from (omega (arith, first)), below_range r.off r.len o (omega (arith, at.0, first)))
      (sym (known (in_range x.off x.len o from first))))
      (λ (past : x.off + x.len ≤ o). ⊎_elim
      (λ (second : o < r.off + r.len).
      rw (in_range x.off (x.len + r.len) o from (omega (arith, at.0, second)), in_range r.off r.len o (omega (arith, at.0, past)) second)
      (address_same (x.at + (o - x.off)) (r.at + (o - r.off)) (omega (arith, at.0, at.1, past))))
      (λ (behind : r.off + r.len ≤ o).
      rw (above_range x.off (x.len + r.len) o (omega (arith, at.0, behind)), above_range x.off x.len o past, above_range r.off r.len o behind) refl)
      (cases_lt o (r.off + r.len)))
      (cases_lt o (x.off + x.len)))
      (cases_lt o x.off)

  -- the second was there, and both come
  pub joins_right : (HasOffset r o → s ≡ Some (block_at_offset r o))
      → remapped_slot x.off (x.len + r.len) (address_of x.at) o (punched_slot r.off r.len o s) ≡ remapped_slot x.off x.len (address_of x.at) o s
  joins_right known =
      let at = places x r on in
      ⊎_elim
      (λ (low : o < x.off). rw (below_range x.off (x.len + r.len) o low, below_range x.off x.len o low, below_range r.off r.len o (omega (arith, at.0, low))) refl)
      (λ (from : x.off ≤ o). ⊎_elim
      (λ (first : o < x.off + x.len). rw (in_range x.off (x.len + r.len) o from (omega (arith, first)), in_range x.off x.len o from first) refl)
      (λ (past : x.off + x.len ≤ o). ⊎_elim
      (λ (second : o < r.off + r.len).
      let is = known (in_range r.off r.len o (omega (arith, at.0, past)) second) in
      rw (in_range x.off (x.len + r.len) o from (omega (arith, at.0, second)), above_range x.off x.len o past, is)
      (address_same (x.at + (o - x.off)) (r.at + (o - r.off)) (omega (arith, at.0, at.1, past))))
      (λ (behind : r.off + r.len ≤ o).
      rw (above_range x.off (x.len + r.len) o (omega (arith, at.0, behind)), above_range x.off x.len o past, above_range r.off r.len o behind) refl)
      (cases_lt o (r.off + r.len)))
      (cases_lt o (x.off + x.len)))
      (cases_lt o x.off)

module _ (whole : Mapping) (o : ℕ) (s : Option Addr) (known : HasOffset whole o → s ≡ Some (block_at_offset whole o)) where
  -- the first offsets of an extent come back
  pub leaves_front : (len : ℕ) → len ≤ whole.len
      → remapped_slot whole.off len (address_of whole.at) o (punched_slot whole.off whole.len o s) ≡ punched_slot (whole.off + len) (whole.len - len) o s
  leaves_front len fits = ⊎_elim
      (λ (low : o < whole.off).
      rw (below_range whole.off len o low, below_range whole.off whole.len o low, below_range (whole.off + len) (whole.len - len) o (omega (arith, low))) refl)
      (λ (from : whole.off ≤ o). ⊎_elim
      (λ (first : o < whole.off + len).
      rw (in_range whole.off len o from first, below_range (whole.off + len) (whole.len - len) o first)
      (sym (known (in_range whole.off whole.len o from (omega (arith, first, fits))))))
      (λ (past : whole.off + len ≤ o). ⊎_elim
      (λ (gone : o < whole.off + whole.len).
      rw (above_range whole.off len o past, in_range whole.off whole.len o from gone, in_range (whole.off + len) (whole.len - len) o past (omega (arith, gone, fits))) refl)
      (λ (behind : whole.off + whole.len ≤ o).
      rw (above_range whole.off len o past, above_range whole.off whole.len o behind, above_range (whole.off + len) (whole.len - len) o (omega (arith, behind, fits))) refl)
      (cases_lt o (whole.off + whole.len)))
      (cases_lt o (whole.off + len)))
      (cases_lt o whole.off)

  -- those behind a part come back
  pub leaves_rest : (off len : ℕ) → IsPartOfExtent off len whole
      → remapped_slot (off + len) (whole.off + whole.len - (off + len)) (address_of (whole.at + (off + len - whole.off))) o (punched_slot off (whole.off + whole.len - off) o s)
      ≡ punched_slot off len o s
  leaves_rest off len part =
      let from = part.from in
      let up_to = part.up_to in
      let rest : ℕ = whole.off + whole.len - (off + len) in
      let tail : ℕ = whole.off + whole.len - off in
      ⊎_elim
      (λ (low : o < off). rw (below_range (off + len) rest o (omega (arith, low)), below_range off tail o low, below_range off len o low) refl)
      (λ (above : off ≤ o). ⊎_elim
      (λ (gone : o < off + len). rw (below_range (off + len) rest o gone, in_range off tail o above (omega (arith, gone, up_to)), in_range off len o above gone) refl)
      (λ (past : off + len ≤ o). ⊎_elim
      (λ (kept : o < whole.off + whole.len).
      let is = known (in_range whole.off whole.len o (omega (arith, from, above)) kept) in
      rw (in_range (off + len) rest o past (omega (arith, kept, up_to)), above_range off len o past, is)
      (address_same (whole.at + (off + len - whole.off) + (o - (off + len))) (whole.at + (o - whole.off)) (omega (arith, past, from))))
      (λ (behind : whole.off + whole.len ≤ o).
      rw (above_range (off + len) rest o (omega (arith, behind, up_to)), above_range off tail o (omega (arith, behind, up_to)), above_range off len o past) refl)
      (cases_lt o (whole.off + whole.len)))
      (cases_lt o (off + len)))
      (cases_lt o off)

pub leaves_none : (whole : Mapping) (len o : ℕ) (s : Option Addr) → len ≡ 0 → punched_slot whole.off whole.len o s ≡ punched_slot (whole.off + len) (whole.len - len) o s
leaves_none whole len o s none =
    let start : whole.off + len ≡ whole.off = omega (arith, none) in
    let long : whole.len - len ≡ whole.len = omega (arith, none) in
    rw (start, long) refl

-- an extent is shortened to what is in front of a part, and what is behind the part comes back, if there is something
punched_same : (off len o : ℕ) (s : Option Addr) (off' len' : ℕ) → off ≡ off' → len ≡ len' → punched_slot off len o s ≡ punched_slot off' len' o s
punched_same off len o s off' len' start long = rw (start, long) refl

module _ (whole : Mapping) (o : ℕ) (s : Option Addr) where
  shortened : (off len : ℕ) → IsPartOfExtent off len whole
      → punched_slot (whole.off + (off - whole.off)) (whole.len - (off - whole.off)) o s ≡ punched_slot off (whole.off + whole.len - off) o s
  shortened off len part = punched_same _ _ o s _ _ (omega (arith, part.from)) (omega (arith, part.from, part.up_to))

  pub carved_rest : (HasOffset whole o → s ≡ Some (block_at_offset whole o)) → (off len : ℕ) → IsPartOfExtent off len whole → (t : Option Addr)
      → t ≡ punched_slot (whole.off + (off - whole.off)) (whole.len - (off - whole.off)) o s
      → remapped_slot (off + len) (whole.off + whole.len - (off + len)) (address_of (whole.at + (off + len - whole.off))) o t ≡ punched_slot off len o s
  carved_rest known off len part t is =
      ap (remapped_slot (off + len) (whole.off + whole.len - (off + len)) (address_of (whole.at + (off + len - whole.off))) o) (is ∙ shortened off len part)
      ∙ leaves_rest whole o s known off len part

  pub carved_all : (off len : ℕ) → IsPartOfExtent off len whole → whole.off + whole.len - (off + len) ≤ 0
      → punched_slot (whole.off + (off - whole.off)) (whole.len - (off - whole.off)) o s ≡ punched_slot off len o s
  carved_all off len part none = punched_same _ _ o s _ _ (omega (arith, part.from)) (omega (arith, part.from, part.up_to, none))
