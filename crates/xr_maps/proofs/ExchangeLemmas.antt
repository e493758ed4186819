-- The exchange of what two ranges hold, slot by slot.
use Rattle.std.proofs.Common.{◌≡◌, ◌≢◌, ℕ, ◌+◌, ◌-◌, ◌<◌, ◌≤◌, ◌⊎◌, Bool, true, false, cond, eqb, List, length, get_or, set, Option, None, Some, sym, ap, subst, ◌∙◌, refl, arith, inl, inr, ⊎_elim}
use Rattle.std.specs.Prelude.{IfSome, IsSome, ◌&&◌}
use Rattle.std.specs.Global.{Vec}
use Rattle.std.specs.Vec.{with_item}
use Rattle.std.specs.Cmp.{nat_cmp_total}
use Rattle.std.specs.FinMap.{get, empty, same_map, nat_cmp-IsAntisymmetric}
use Rattle.std.proofs.lemmas.List.{get_or-set_same, get_or-set_other, length-set, length-map, get_or_default, same_lists}
use Rattle.std.proofs.lemmas.Bool.{cases_lt, cases_eq, eq-eqb, eqb-true, ne_eqb, cond-true, cond-false}
use Rattle.std.proofs.lemmas.Bool.Decides.{nat_tests}
use Rattle.xr_base.specs.declared.address.Addr.{Addr}
use Rattle.xr_base.specs.declared.geometry.TheConstants.{FILES, OFFSETS}
use Rattle.xr_base.specs.Address.{IsData}
use Rattle.xr_maps.specs.FileMaps.{FileMaps, address_at, AreGoodMaps, tabulated}
use Rattle.xr_base.specs.declared.address.FileNo.{FileNo}
use Rattle.xr_maps.specs.Steps.{is_within, with_file, exchanged_address, AreApart}
use Rattle.xr_maps.specs.Tables.{AreTables, maps_of_tables, map_of_table}
use Rattle.xr_maps.proofs.MapLemmas.{Changes, table_changed, get-tabulated_whole, AreGoodMaps-of_tables}

-- the offset o of the file f is one of the len offsets of a file from off on
abbrev IsIn : ℕ → ℕ → ℕ → ℕ → ℕ → Type 0
IsIn file off len f o = (f ≡ file) × (off ≤ o) × (o < off + len)

in_test : (file off len f o : ℕ) → IsIn file off len f o → (eqb f file && is_within off len o) ≡ true
in_test file off len f o h = let same = h.0 in let low = h.1 in let high = h.2 in grind (arith, nat_tests)

out_test : (file off len f o : ℕ) → ¬ IsIn file off len f o → (eqb f file && is_within off len o) ≡ false
out_test file off len f o h = grind (arith, nat_tests)

cases_in : (file off len f o : ℕ) → IsIn file off len f o ⊎ ¬ IsIn file off len f o
cases_in file off len f o = grind (arith, nat_tests)

-- What an exchange puts into each range, and elsewhere

module _ (maps : FileMaps) (file off other other_off len f o : ℕ) where
  pub exchanged_first : IsIn file off len f o → exchanged_address maps file off other other_off len f o ≡ address_at maps other (other_off + (o - off))
  exchanged_first is = cond-true _ _ _ (in_test file off len f o is)

  pub exchanged_second : ¬ IsIn file off len f o → IsIn other other_off len f o
      → exchanged_address maps file off other other_off len f o ≡ address_at maps file (off + (o - other_off))
  exchanged_second not is = cond-false _ _ _ (out_test file off len f o not) ∙ cond-true _ _ _ (in_test other other_off len f o is)

  pub exchanged_rest : ¬ IsIn file off len f o → ¬ IsIn other other_off len f o → exchanged_address maps file off other other_off len f o ≡ address_at maps f o
  exchanged_rest not_first not_second =
      cond-false _ _ _ (out_test file off len f o not_first) ∙ cond-false _ _ _ (out_test other other_off len f o not_second)

-- Swapping one offset more of each range

-- what is swapped next wasn't touched before
module _ (file off other other_off i : ℕ) (apart : (file ≢ other) ⊎ (off + i < other_off) ⊎ (other_off + i < off)) where
  next_apart : (o : ℕ) → o ≡ off + i → ¬ IsIn other other_off (i + 1) file o
  next_apart o at h =
      let same = h.0 in let low = h.1 in let high = h.2 in
      ⊎_elim (λ differs. differs same) (λ order. ⊎_elim (λ before. omega arith) (λ after. omega arith) order) apart

  next_other_apart : (o : ℕ) → o ≡ other_off + i → ¬ IsIn file off (i + 1) other o
  next_other_apart o at h =
      let same = h.0 in let low = h.1 in let high = h.2 in
      ⊎_elim (λ differs. differs (sym same)) (λ order. ⊎_elim (λ before. omega arith) (λ after. omega arith) order) apart

fewer : (file off i f o : ℕ) → ¬ IsIn file off (i + 1) f o → ¬ IsIn file off i f o
fewer file off i f o not h = let high = h.2 in not (h.0, h.1, omega arith)

next_in : (file off i f o : ℕ) → IsIn file (off + i) 1 f o → o ≡ off + i
next_in file off i f o h = let low = h.1 in let high = h.2 in omega arith

more : (file off i f o : ℕ) → ¬ IsIn file (off + i) 1 f o → ¬ IsIn file off i f o → ¬ IsIn file off (i + 1) f o
more file off i f o not_next not h =
    ⊎_elim (λ (early : o < off + i). not (h.0, h.1, early)) (λ (late : off + i ≤ o). let high = h.2 in not_next (h.0, late, omega arith)) (cases_lt o (off + i))

pub exchanged_more : (maps so_far next : FileMaps) (file off other other_off i : ℕ)
    → ((file ≢ other) ⊎ (off + i < other_off) ⊎ (other_off + i < off))
    → ((f o : ℕ) → address_at so_far f o ≡ exchanged_address maps file off other other_off i f o)
    → ((f o : ℕ) → address_at next f o ≡ exchanged_address so_far file (off + i) other (other_off + i) 1 f o)
    → (f o : ℕ) → address_at next f o ≡ exchanged_address maps file off other other_off (i + 1) f o
exchanged_more maps so_far next file off other other_off i apart before step f o = ⊎_elim
    (λ (first : IsIn file (off + i) 1 f o).
    let at : o ≡ off + i = next_in file off i f o first in
    let p : other_off + i + (o - (off + i)) ≡ other_off + i = omega arith in
    step f o ∙ exchanged_first so_far file (off + i) other (other_off + i) 1 f o first ∙ before other _
    ∙ exchanged_rest maps file off other other_off i other _
    (fewer file off i other _ (next_other_apart file off other other_off i apart _ p)) (λ h. let high = h.2 in omega arith)
    ∙ ap (address_at maps other) (let e : other_off + i + (o - (off + i)) ≡ other_off + (o - off) = omega arith in e)
    ∙ sym (exchanged_first maps file off other other_off (i + 1) f o (first.0, omega arith, omega arith)))
    (λ not_first. ⊎_elim
    (λ (second : IsIn other (other_off + i) 1 f o).
    let at : o ≡ other_off + i = next_in other other_off i f o second in
    let p : off + i + (o - (other_off + i)) ≡ off + i = omega arith in
    step f o ∙ exchanged_second so_far file (off + i) other (other_off + i) 1 f o not_first second ∙ before file _
    ∙ exchanged_rest maps file off other other_off i file _
    (λ h. let high = h.2 in omega arith) (fewer other other_off i file _ (next_apart file off other other_off i apart _ p))
    ∙ ap (address_at maps file) (let e : off + i + (o - (other_off + i)) ≡ off + (o - other_off) = omega arith in e)
    ∙ sym (exchanged_second maps file off other other_off (i + 1) f o
    (subst (λ n. ¬ IsIn file off (i + 1) n o) (sym second.0) (next_other_apart file off other other_off i apart o at)) (second.0, omega arith, omega arith)))
    (λ not_second. step f o ∙ exchanged_rest so_far file (off + i) other (other_off + i) 1 f o not_first not_second ∙ before f o ∙ ⊎_elim
    (λ (first : IsIn file off i f o). let high = first.2 in
    exchanged_first maps file off other other_off i f o first ∙ sym (exchanged_first maps file off other other_off (i + 1) f o (first.0, first.1, omega arith)))
    (λ not_in. let not_more = more file off i f o not_first not_in in ⊎_elim
    (λ (second : IsIn other other_off i f o). let high = second.2 in
    exchanged_second maps file off other other_off i f o not_in second
    ∙ sym (exchanged_second maps file off other other_off (i + 1) f o not_more (second.0, second.1, omega arith)))
    (λ not_other. exchanged_rest maps file off other other_off i f o not_in not_other
    ∙ sym (exchanged_rest maps file off other other_off (i + 1) f o not_more (more other other_off i f o not_second not_other)))
    (cases_in other other_off i f o))
    (cases_in file off i f o))
    (cases_in other (other_off + i) 1 f o))
    (cases_in file (off + i) 1 f o)

-- Maps that say the same, offset by offset

-- one file's map replaced
pub address_at-with_file : (maps : FileMaps) (file : ℕ) (slots : ℕ → Option Addr) → file < length maps → ((o : ℕ) → OFFSETS ≤ o → slots o ≡ None)
    → (f o : ℕ) → address_at (with_file maps file slots) f o ≡ cond (eqb f file) (slots o) (address_at maps f o)
address_at-with_file maps file slots inside none f o = ⊎_elim
    (λ (same : f ≡ file).
    ap (λ n. get (get_or (with_file maps file slots) n empty) o) same
    ∙ ap (λ m. get m o) (get_or-set_same maps file (tabulated OFFSETS slots) empty inside)
    ∙ get-tabulated_whole slots o (none o)
    ∙ sym (cond-true _ _ _ (eq-eqb f file same)))
    (λ (differs : f ≢ file). ap (λ m. get m o) (get_or-set_other maps file f (tabulated OFFSETS slots) empty differs) ∙ sym (cond-false _ _ _ (ne_eqb f file differs)))
    (cases_eq f file)

not_some : (slot : Option Addr) → ¬ IsSome slot → slot ≡ None
not_some None none = refl
not_some (Some a) none = absurd (none refl)

past_none : (maps : FileMaps) → AreGoodMaps maps → (f o : ℕ) → OFFSETS ≤ o → address_at maps f o ≡ None
past_none maps good f o past = not_some _ (λ there. let below : o < OFFSETS = good.offsets f o there in omega arith)

at_test : (f g o p : ℕ) → f ≡ g → o ≡ p → (eqb f g && eqb o p) ≡ true
at_test f g o p files offsets = grind (arith, nat_tests)

elsewhere_test : (f g o p : ℕ) → ¬ IsIn g p 1 f o → (eqb f g && eqb o p) ≡ false
elsewhere_test f g o p not = grind (arith, nat_tests)

cond_both_tests : (b c : Bool) (x y z : Option Addr) → (b ≡ true → y ≡ z) → cond b (cond c x y) z ≡ cond (b && c) x z
cond_both_tests true true x y z same = refl
cond_both_tests true false x y z same = same refl
cond_both_tests false c x y z same = refl

Changes-put : (table : List (Option Addr)) (off : ℕ) (slot : Option Addr) → off < length table → IfSome slot IsData
    → Changes (λ o old. cond (eqb o off) slot old) table (set table off slot)
Changes-put table off slot inside block = record {
  long = length-set table off slot;
  slots = λ o. ⊎_elim
      (λ (same : o ≡ off). ap (λ n. get_or (set table off slot) n None) same ∙ get_or-set_same table off slot None inside ∙ sym (cond-true _ _ _ (eq-eqb o off same)))
      (λ (differs : o ≢ off). get_or-set_other table off o slot None differs ∙ sym (cond-false _ _ _ (ne_eqb o off differs)))
      (cases_eq o off);
  keeps = λ o old h. elim (eqb o off) as (λ b. IfSome (cond b slot old) IsData) [ true ↦ block | false ↦ h ];
}

-- one slot of a file's table written
pub slot_put : (tables : List (Vec (Option Addr))) (file off : ℕ) (d : Vec (Option Addr)) (slot : Option Addr)
    → AreTables tables → file < length tables → off < OFFSETS → IfSome slot IsData
    → (f o : ℕ) → address_at (maps_of_tables (set tables file (with_item (get_or tables file d) off slot))) f o
    ≡ cond (eqb f file && eqb o off) slot (address_at (maps_of_tables tables) f o)
slot_put tables file off d slot are inside within block f o =
    let maps = maps_of_tables tables in
    let good = AreGoodMaps-of_tables tables are in
    let table = get_or tables file d in
    let there : off < length table.items = let l = (are.each file d inside).slots in omega arith in
    let changed = table_changed _ tables file d (with_item table off slot) are inside (Changes-put table.items off slot there block) in
    let long : length maps ≡ length tables = length-map tables (λ (t : Vec (Option Addr)). map_of_table t.items) in
    ap (λ maps. address_at maps f o) changed.maps
    ∙ address_at-with_file maps file (λ p. cond (eqb p off) slot (address_at maps file p)) (omega arith)
    (λ p past. cond-false _ _ _ (ne_eqb p off (λ same. omega arith)) ∙ past_none maps good file p past) f o
    ∙ cond_both_tests (eqb f file) (eqb o off) slot _ _ (λ same. ap (λ n. address_at maps n o) (sym (eqb-true f file same)))

-- two slots swapped, one written after the other
pub slots_swapped : (maps between next : FileMaps) (file off other other_off : ℕ) (held theirs : Option Addr)
    → held ≡ address_at maps file off → theirs ≡ address_at maps other other_off
    → ((f o : ℕ) → address_at between f o ≡ cond (eqb f file && eqb o off) theirs (address_at maps f o))
    → ((f o : ℕ) → address_at next f o ≡ cond (eqb f other && eqb o other_off) held (address_at between f o))
    → (f o : ℕ) → address_at next f o ≡ exchanged_address maps file off other other_off 1 f o
slots_swapped maps between next file off other other_off held theirs is_held is_theirs first second f o = ⊎_elim
    (λ (there : IsIn other other_off 1 f o).
    let p : o ≡ other_off = let low = there.1 in let high = there.2 in omega arith in
    second f o ∙ cond-true _ _ _ (at_test f other o other_off there.0 p) ∙ is_held ∙ ⊎_elim
    (λ (also : IsIn file off 1 f o).
    let q : o ≡ off = let low = also.1 in let high = also.2 in omega arith in
    let files : file ≡ other = sym also.0 ∙ there.0 in
    ap (λ n. address_at maps n off) files ∙ ap (address_at maps other) (let e : off ≡ other_off + (o - off) = omega arith in e)
    ∙ sym (exchanged_first maps file off other other_off 1 f o also))
    (λ not. ap (address_at maps file) (let e : off ≡ off + (o - other_off) = omega arith in e)
    ∙ sym (exchanged_second maps file off other other_off 1 f o not there))
    (cases_in file off 1 f o))
    (λ not_there. second f o ∙ cond-false _ _ _ (elsewhere_test f other o other_off not_there) ∙ first f o ∙ ⊎_elim
    (λ (also : IsIn file off 1 f o).
    let q : o ≡ off = let low = also.1 in let high = also.2 in omega arith in
    cond-true _ _ _ (at_test f file o off also.0 q) ∙ is_theirs ∙ ap (address_at maps other) (let e : other_off ≡ other_off + (o - off) = omega arith in e)
    ∙ sym (exchanged_first maps file off other other_off 1 f o also))
    (λ not. cond-false _ _ _ (elsewhere_test f file o off not) ∙ sym (exchanged_rest maps file off other other_off 1 f o not not_there))
    (cases_in file off 1 f o))
    (cases_in other other_off 1 f o)

same_maps : (xs ys : FileMaps) → length xs ≡ length ys → ((f o : ℕ) → address_at xs f o ≡ address_at ys f o) → xs ≡ ys
same_maps xs ys long same = same_lists xs ys long (λ f d below.
    get_or_default xs f d empty below
    ∙ same_map nat_cmp_total nat_cmp-IsAntisymmetric (get_or xs f empty) (get_or ys f empty) (same f)
    ∙ get_or_default ys f empty d (omega arith))

-- maps in which each offset has what an exchange puts there are the maps after it
pub maps_exchanged : (maps next : FileMaps) (file off other other_off len : ℕ) → AreGoodMaps maps → AreGoodMaps next
    → file < FILES → other < FILES → off + len ≤ OFFSETS → other_off + len ≤ OFFSETS
    → ((f o : ℕ) → address_at next f o ≡ exchanged_address maps file off other other_off len f o)
    → next ≡ with_file (with_file maps file (exchanged_address maps file off other other_off len file)) other (exchanged_address maps file off other other_off len other)
maps_exchanged maps next file off other other_off len good good_next inside other_inside within other_within says =
    let at = exchanged_address maps file off other other_off len in
    let first = with_file maps file (at file) in
    let long : length maps ≡ FILES = good.files in
    let first_long : length first ≡ FILES = length-set maps file (tabulated OFFSETS (at file)) ∙ long in
    let none : (f o : ℕ) → OFFSETS ≤ o → at f o ≡ None = λ f o past.
    exchanged_rest maps file off other other_off len f o (λ h. let high = h.2 in omega arith) (λ h. let high = h.2 in omega arith) ∙ past_none maps good f o past in
    same_maps next (with_file first other (at other))
    (good_next.files ∙ sym first_long ∙ sym (length-set first other (tabulated OFFSETS (at other))))
    (λ f o. says f o ∙ sym (
    address_at-with_file first other (at other) (omega arith) (none other) f o ∙ ⊎_elim
    (λ (same : f ≡ other). cond-true _ _ _ (eq-eqb f other same) ∙ ap (λ n. at n o) (sym same))
    (λ (differs : f ≢ other). cond-false _ _ _ (ne_eqb f other differs) ∙ address_at-with_file maps file (at file) (omega arith) (none file) f o ∙ ⊎_elim
    (λ (same : f ≡ file). cond-true _ _ _ (eq-eqb f file same) ∙ ap (λ n. at n o) (sym same))
    (λ (neither : f ≢ file). cond-false _ _ _ (ne_eqb f file neither) ∙ sym (exchanged_rest maps file off other other_off len f o (λ h. neither h.0) (λ h. differs h.0)))
    (cases_eq f file))
    (cases_eq f other)))

pub apart_at : (file : FileNo) (off : ℕ) (other : FileNo) (other_off len i : ℕ) → i < len → AreApart file off other other_off len
    → (file.0 ≢ other.0) ⊎ (off + i < other_off) ⊎ (other_off + i < off)
apart_at file off other other_off len i below apart = ⊎_elim
    (λ differs. inl (λ same. differs (ap (λ n. let number : FileNo = record { 0 = n } in number) same)))
    (λ order. inr (⊎_elim (λ before. inl (omega arith)) (λ after. inr (omega arith)) order))
    apart
