-- What the file maps say, offset by offset.
use Rattle.std.specs.Prelude.{◌≡◌, ◌≢◌, ℕ, ◌<◌, ◌≤◌, true, false, suc, zero, Option, None, Some}
use Rattle.std.specs.Ordering.{nat_cmp, eq_by_cmp}
use Rattle.std.specs.Cmp.{nat_cmp_total}
use Rattle.std.specs.FinMap.{get, get-insert, get-empty, same_map, nat_cmp-IsAntisymmetric}
use Rattle.std.proofs.Common.{refl, sym, ap, ◌∙◌, arith, rules, ⊎_elim, cond}
use Rattle.std.proofs.lemmas.Bool.{cases_lt}
use Rattle.xr_base.specs.declared.address.Addr.{Addr}
use Rattle.xr_maps.specs.FileMaps.{FileMap, with_slot, tabulated}

same_key : (n : ℕ) → eq_by_cmp nat_cmp n n ≡ true
same_key n = search rules

other_key : (q n : ℕ) → q ≢ n → eq_by_cmp nat_cmp q n ≡ false
other_key q n ne = search rules

get-with_slot_other : (m : FileMap) (n : ℕ) (slot : Option Addr) (q : ℕ) → q ≢ n → get (with_slot m n slot) q ≡ get m q
get-with_slot_other m n None q ne = refl
get-with_slot_other m n (Some a) q ne = get-insert nat_cmp_total m n a q ∙ ap (λ b. cond b (Some a) (get m q)) (other_key q n ne)

get-with_slot_same : (m : FileMap) (n : ℕ) (slot : Option Addr) → get m n ≡ None → get (with_slot m n slot) n ≡ slot
get-with_slot_same m n None hole = hole
get-with_slot_same m n (Some a) hole = get-insert nat_cmp_total m n a n ∙ ap (λ b. cond b (Some a) (get m n)) (same_key n)

-- nothing is mapped from n on
pub get-tabulated_past : (n : ℕ) (slots : ℕ → Option Addr) (o : ℕ) → n ≤ o → get (tabulated n slots) o ≡ None
unfolding tabulated
get-tabulated_past zero slots o h = get-empty nat_cmp o
get-tabulated_past (suc n) slots o h =
    get-with_slot_other (tabulated n slots) n (slots n) o (omega arith) ∙ get-tabulated_past n slots o (omega arith)

-- below n the map says what the function says
pub get-tabulated : (n : ℕ) (slots : ℕ → Option Addr) (o : ℕ) → o < n → get (tabulated n slots) o ≡ slots o
unfolding tabulated
get-tabulated zero slots o h = absurd (omega arith)
get-tabulated (suc n) slots o h =
    ⊎_elim
    (λ (below : o < n). get-with_slot_other (tabulated n slots) n (slots n) o (omega arith) ∙ get-tabulated n slots o below)
    (λ (above : n ≤ o).
    let e : o ≡ n = omega arith in
    ap (get (tabulated (suc n) slots)) e
    ∙ get-with_slot_same (tabulated n slots) n (slots n) (get-tabulated_past n slots n (omega arith))
    ∙ ap slots (sym e))
    (cases_lt o n)

-- functions that agree below n give one map
pub tabulated_same : (n : ℕ) (f g : ℕ → Option Addr) → ((o : ℕ) → o < n → f o ≡ g o) → tabulated n f ≡ tabulated n g
tabulated_same n f g same = same_map nat_cmp_total nat_cmp-IsAntisymmetric (tabulated n f) (tabulated n g) (λ q. ⊎_elim
    (λ (below : q < n). get-tabulated n f q below ∙ same q below ∙ sym (get-tabulated n g q below))
    (λ (above : n ≤ q). get-tabulated_past n f q above ∙ sym (get-tabulated_past n g q above))
    (cases_lt q n))
