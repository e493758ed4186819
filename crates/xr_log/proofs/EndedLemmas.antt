-- That done items end the works in their slots.
use Rattle.std.proofs.Common.{◌≡◌, ℕ, ◌∙◌, Bool, true, false, ◌&&◌, ◌||◌, ◌==◌, cond, List, [], ◌∷◌, refl, sym, ap, subst, inl, inr, eq-eqb}
use Rattle.std.specs.Prelude.{if◌then◌else◌, not}
use Rattle.std.specs.List.{filter, list_any}
use Rattle.std.proofs.lemmas.Bool.{ne_eqb}
use Rattle.xr_items.specs.declared.work.Work.{Work}
use Rattle.xr_items.specs.declared.work.Work.TheVariants.{Free, Own, Count, Map, Swap}
use Rattle.xr_commit.specs.declared.pending.Pending.{Pending}
use Rattle.xr_commit.specs.Pending.{is_done, suits}
use Rattle.xr_log.specs.declared.held.Slotted.{Slotted}
use Rattle.xr_log.specs.EndedWorks.{Agree, AllAgree, EndsSlots, done_items}
use Rattle.xr_log.specs.PendingAfter.{still}
use Rattle.xr_log.specs.Slots.{pending_in, slots_in}
use Rattle.xr_log.specs.TransactionItems.{done_of}

suits_own : (work : Work) → suits work (done_of work) ≡ true
suits_own (Free run) = refl
suits_own (Own kind owner off run) = refl
suits_own (Count kind run) = refl
suits_own (Map kind file off run) = refl
suits_own (Swap file off other other_off len) = refl

one_tells : (e s : Slotted) → Agree e s → ((e.id == s.id) && suits s.work (done_of e.work)) ≡ (e.slot == s.slot)
one_tells e s (inl same) = subst (λ (x : Slotted). ((e.id == x.id) && suits x.work (done_of e.work)) ≡ (e.slot == x.slot)) same
    (ap (λ (b : Bool). b && suits e.work (done_of e.work)) (eq-eqb e.id e.id refl) ∙ suits_own e.work ∙ sym (eq-eqb e.slot e.slot refl))
one_tells e s (inr (id, slot)) = ap (λ (b : Bool). b && suits s.work (done_of e.work)) (ne_eqb e.id s.id id) ∙ sym (ne_eqb e.slot s.slot slot)

all_tell : (ended : List Slotted) (s : Slotted) → AllAgree ended s → is_done s.id s.work (done_items ended) ≡ list_any (λ (slot : ℕ). slot == s.slot) (slots_in ended)
all_tell [] s agree = refl
all_tell (e ∷ ended) s agree =
    ap (λ (b : Bool). b || is_done s.id s.work (done_items ended)) (one_tells e s agree.0) ∙ ap (λ (b : Bool). (e.slot == s.slot) || b) (all_tell ended s agree.1)

abbrev pending_of : Slotted → Pending
pending_of s = record { id = s.id; work = s.work }

step : (s : Slotted) (rest : List Pending) (kept : List Slotted) (b : Bool) → rest ≡ pending_in kept
    → (if b then rest else (pending_of s ∷ rest)) ≡ pending_in (cond (not b) (s ∷ kept) kept)
step s rest kept true is = is
step s rest kept false is = ap (λ (ps : List Pending). pending_of s ∷ ps) is

pub ends_slots : EndsSlots
ends_slots [] ended agree = refl
ends_slots (s ∷ table) ended agree =
    ap (λ (b : Bool). if b then still (done_items ended) (pending_in table) else (pending_of s ∷ still (done_items ended) (pending_in table))) (all_tell ended s agree.0)
    ∙ step s (still (done_items ended) (pending_in table)) (filter (λ (x : Slotted). not (list_any (λ (slot : ℕ). slot == x.slot) (slots_in ended))) table)
    (list_any (λ (slot : ℕ). slot == s.slot) (slots_in ended)) (ends_slots table ended agree.1)
