-- A log that goes on from a scan: its table.
use Rattle.std.proofs.Common.{◌≡◌, ◌≢◌, ℕ, suc, ◌+◌, ◌<◌, ◌≤◌, ◌∙◌, List, [], ◌∷◌, ◌++◌, length, map, get_or, take, refl, sym, ap, subst, arith}
use Rattle.std.specs.Prelude.{All, vec_capacity}
use Rattle.std.specs.Global.{Vec}
use Rattle.std.proofs.lemmas.List.{length-map, length-take-le, take_all, take_more}
use Rattle.std.proofs.lemmas.List.Elements.{All-cons, All-nil}
use Rattle.std.proofs.lemmas.List.Kept.{AllPairs-cons}
use Rattle.xr_commit.specs.declared.pending.Pending.{Pending}
use Rattle.xr_scan.specs.declared.layout.TheConstants.{MOST_PENDING}
use Rattle.xr_scan.specs.Numbered.{AreNumbered}
use Rattle.xr_scan.specs.State.{works_of}
use Rattle.xr_log.specs.declared.held.Slotted.{Slotted}
use Rattle.xr_log.specs.Resumes.{slotted_from, slotted_in}
use Rattle.xr_log.specs.Slots.{AreApartSlots, pending_in, slots_in}
use Rattle.xr_log.specs.States.{Placing}

-- so many of the works have their slots
pub record IsSlotting (pending : List Pending) (n : ℕ) (table : Vec Slotted) : Type 0 where
  pub items : table.items ≡ slotted_in 0 (take n pending)
  pub fits : MOST_PENDING ≤ vec_capacity table

abbrev in_slot : ℕ → Pending → Slotted
in_slot n p = record { id = p.id; slot = n; work = p.work }

slotted_more : (n : ℕ) (ps : List Pending) (p : Pending) → slotted_in n (ps ++ p ∷ []) ≡ slotted_in n ps ++ in_slot (n + length ps) p ∷ []
slotted_more n [] p = ap (λ (m : ℕ). in_slot m p ∷ []) (omega arith)
slotted_more n (q ∷ ps) p =
    ap (λ (ss : List Slotted). in_slot n q ∷ ss) (slotted_more (suc n) ps p ∙ ap (λ (m : ℕ). slotted_in (suc n) ps ++ in_slot m p ∷ []) (omega arith))

pub slotting_more : (pending : List Pending) (i : ℕ) (d : Pending) (old new : Vec Slotted) (slot : ℕ) → IsSlotting pending i old → i < length pending → slot ≡ i
    → new.items ≡ old.items ++ in_slot slot (get_or pending i d) ∷ [] → vec_capacity old ≤ vec_capacity new → IsSlotting pending (i + 1) new
slotting_more pending i d old new slot s below here pushed room = record {
  items = pushed ∙ ap (λ (ss : List Slotted). ss ++ in_slot slot (get_or pending i d) ∷ []) s.items
      ∙ sym (ap (slotted_in 0) (take_more pending i d below) ∙ slotted_more 0 (take i pending) (get_or pending i d)
      ∙ ap (λ (m : ℕ). slotted_in 0 (take i pending) ++ in_slot m (get_or pending i d) ∷ []) (let e = length-take-le i pending (omega (arith, below)) in omega (arith, e, here)));
  fits = let f = s.fits in omega (arith, f, room);
}

pub all_slotted : (pending : List Pending) (n : ℕ) (table : Vec Slotted) → IsSlotting pending n table → n ≡ length pending → table.items ≡ slotted_in 0 pending
all_slotted pending n table s all = s.items ∙ ap (slotted_in 0) (take_all n pending (omega (arith, all)))

-- the works and their ids, and no slot twice
pending_slotted : (n : ℕ) (ps : List Pending) → pending_in (slotted_in n ps) ≡ ps
pending_slotted n [] = refl
pending_slotted n (p ∷ ps) = ap (λ (qs : List Pending). p ∷ qs) (pending_slotted (suc n) ps)

slots_above : (n m : ℕ) (ps : List Pending) → n < m → All (λ (slot : ℕ). n ≢ slot) (slots_in (slotted_in m ps))
slots_above n m [] less = All-nil (λ (slot : ℕ). n ≢ slot)
slots_above n m (p ∷ ps) less =
    All-cons (λ (slot : ℕ). n ≢ slot) m (slots_in (slotted_in (suc m) ps)) (λ same. omega (arith, same, less)) (slots_above n (suc m) ps (omega (arith, less)))

slots_apart : (n : ℕ) (ps : List Pending) → AreApartSlots (slots_in (slotted_in n ps))
slots_apart n [] = λ i j d less within. absurd (omega (arith, within))
slots_apart n (p ∷ ps) =
    AllPairs-cons (λ (one two : ℕ). one ≢ two) n (slots_in (slotted_in (suc n) ps)) (slots_above n (suc n) ps (omega arith)) (slots_apart (suc n) ps)

pub table_apart : (table : List Slotted) (ps : List Pending) → table ≡ slotted_in 0 ps → AreApartSlots (slots_in table)
table_apart table ps is = subst (λ (ss : List Slotted). AreApartSlots (slots_in ss)) (sym is) (slots_apart 0 ps)

pub table_pending : (table : List Slotted) (ps : List Pending) → table ≡ slotted_in 0 ps → pending_in table ≡ ps
table_pending table ps is = ap pending_in is ∙ pending_slotted 0 ps

pub table_numbered : (table : List Slotted) (ps : List Pending) (next : ℕ) → table ≡ slotted_in 0 ps → AreNumbered next ps → AreNumbered next (pending_in table)
table_numbered table ps next is numbered = subst (AreNumbered next) (sym (table_pending table ps is)) numbered

pub table_long : (table : List Slotted) (ps : List Pending) → table ≡ slotted_in 0 ps → length table ≡ length ps
table_long table ps is =
    sym (length-map table (λ (s : Slotted). (let p : Pending = record { id = s.id; work = s.work } in p))) ∙ ap length (table_pending table ps is)

placings_slotted : (n : ℕ) (ps : List Pending) → map (λ (s : Slotted). (let p : Placing = record { slot = s.slot; work = s.work } in p)) (slotted_in n ps) ≡ slotted_from n (works_of ps)
placings_slotted n [] = refl
placings_slotted n (p ∷ ps) = ap (λ (qs : List Placing). (let q : Placing = record { slot = n; work = p.work } in q) ∷ qs) (placings_slotted (suc n) ps)

pub table_placings : (table : List Slotted) (ps : List Pending) → table ≡ slotted_in 0 ps
    → map (λ (s : Slotted). (let p : Placing = record { slot = s.slot; work = s.work } in p)) table ≡ slotted_from 0 (works_of ps)
table_placings table ps is = ap (map (λ (s : Slotted). (let p : Placing = record { slot = s.slot; work = s.work } in p))) is ∙ placings_slotted 0 ps
