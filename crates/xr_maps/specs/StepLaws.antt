-- What each kind of step does to what the maps hold, and that what they hold is all that they are.
use Rattle.std.proofs.Common.{◌≡◌, ℕ, ◌+◌, ◌-◌, ◌<◌, ◌≤◌, zero, suc, [], ◌∷◌, length, get_or, set, cond, eqb, arith, refl, ap, sym, ◌∙◌, true, false, Bool, ⊎_elim, ◌⊎◌, inl, inr, Option, Some, None, subst}
use Rattle.std.specs.Prelude.{◌&&◌, ◌==◌, sum_by, if◌then◌else◌, IsSome, IfSome}
use Rattle.std.specs.FinMap as finite
use Rattle.std.specs.Cmp.{nat_cmp_total}
use Rattle.std.proofs.lemmas.List.{get_or-set_same, get_or-set_other, get_or_default, length-set, same_lists}
use Rattle.std.proofs.lemmas.List.Sums.{sum_by-cons}
use Rattle.std.proofs.lemmas.Bool.{cases_lt, cases_eq, eq-eqb, ne_eqb, le-leb, lt-leb, lt-ltb, le-ltb}
use Rattle.xr_base.specs.declared.address.Addr.{Addr}
use Rattle.xr_base.specs.declared.address.Run.{Run}
use Rattle.xr_base.specs.declared.address.FileNo.{FileNo}
use Rattle.xr_base.specs.declared.geometry.TheConstants.{FILES, OFFSETS}
use Rattle.xr_base.specs.Address.{IsData, address_of, address_after}
use Rattle.xr_maps.specs.FileMaps.{FileMap, FileMaps, address_at, AreGoodMaps, tabulated}
use Rattle.xr_maps.specs.FileMapLaws.{get-tabulated, get-tabulated_past}
use Rattle.xr_maps.specs.Records.{maps_to, owner_count, offsets_with, count_below}
use Rattle.xr_maps.specs.declared.steps.Step.{Step}
use Rattle.xr_maps.specs.declared.steps.Step.TheVariants.{Punch, Remap, Exchange}
use Rattle.xr_maps.specs.Steps.{is_within, applied, Fits, IsFileRange, with_file, with_file_changed, punched_slot, remapped_slot, exchanged_address}
use Rattle.xr_maps.specs.Holdings.{one_if, in_layout, holds, sum_below, owners, owners_of_file}

-- one file's offsets change, and no other's
abbrev pub FileChanges : Type 0
FileChanges = (maps : FileMaps) (file : ℕ) (changed : ℕ → Option Addr → Option Addr) → AreGoodMaps maps → file < FILES
    → ((o : ℕ) → OFFSETS ≤ o → changed o None ≡ None)
    → (f o : ℕ) → address_at (with_file_changed maps file changed) f o ≡ (if f == file then changed o (address_at maps f o) else address_at maps f o)

-- a punch of a range that is mapped to one run takes the run out
abbrev pub PunchTakes : Type 0
PunchTakes = (maps : FileMaps) (file : FileNo) (off : ℕ) (old : Run) → AreGoodMaps maps → IsFileRange file off old.len
    → ((k : ℕ) → k < old.len → address_at maps file.0 (off + k) ≡ Some (address_after old.start k))
    → (f o b : ℕ) → holds (applied (Punch file off old.len) maps) f o b + (if file.0 == f then in_layout b o off old else 0) ≡ holds maps f o b

-- a remap takes out what the range held, and puts the run in
abbrev pub RemapPuts : Type 0
RemapPuts = (maps : FileMaps) (file : FileNo) (off : ℕ) (new : Run) → AreGoodMaps maps → IsFileRange file off new.len
    → (f o b : ℕ) → holds (applied (Remap file off new.len new.start) maps) f o b
    + (if file.0 == f then (if is_within off new.len o then holds maps f o b else 0) else 0)
    ≡ holds maps f o b + (if file.0 == f then in_layout b o off new else 0)

-- an exchange swaps what two ranges hold
abbrev pub ExchangeSwaps : Type 0
ExchangeSwaps = (maps : FileMaps) (file : FileNo) (off : ℕ) (other : FileNo) (other_off len : ℕ) → AreGoodMaps maps
    → IsFileRange file off len → IsFileRange other other_off len
    → (f o : ℕ) → address_at (applied (Exchange file off other other_off len) maps) f o ≡ exchanged_address maps file.0 off other.0 other_off len f o

-- a step that fits leaves good maps
abbrev pub StepsLeaveGoodMaps : Type 0
StepsLeaveGoodMaps = (step : Step) (maps : FileMaps) → Fits step → AreGoodMaps maps → AreGoodMaps (applied step maps)

-- the sums are the numbers of owners
abbrev pub OwnersAreCounted : Type 0
OwnersAreCounted = (maps : FileMaps) (b : ℕ) → length maps ≡ FILES → owners maps b ≡ owner_count maps (address_of b)

-- maps that hold the same are one
abbrev pub MapsAreOne : Type 0
MapsAreOne = (maps others : FileMaps) → AreGoodMaps maps → AreGoodMaps others → ((f o b : ℕ)
    → holds maps f o b ≡ holds others f o b) → maps ≡ others

past_none : (maps : FileMaps) (f o : ℕ) → AreGoodMaps maps → OFFSETS ≤ o → address_at maps f o ≡ None
past_none maps f o good past = elim (address_at maps f o) as (λ s. address_at maps f o ≡ s → s ≡ None) [
  | None ↦ λ _. refl
  | Some a ↦ λ e. absurd (omega (arith, past, good.offsets f o (subst IsSome (sym e) refl)))
] refl

-- one file's map replaced
at_file : (maps : FileMaps) (file : ℕ) (slots : ℕ → Option Addr) → file < length maps → ((o : ℕ) → OFFSETS ≤ o → slots o ≡ None)
    → (f o : ℕ) → address_at (with_file maps file slots) f o ≡ cond (eqb f file) (slots o) (address_at maps f o)
at_file maps file slots inside none f o =
    let table : FileMap = tabulated OFFSETS slots in
    let m : FileMap = finite.empty in
    let whole : finite.get table o ≡ slots o = ⊎_elim
    (λ below. get-tabulated OFFSETS slots o below)
    (λ past. get-tabulated_past OFFSETS slots o past ∙ sym (none o past))
    (cases_lt o OFFSETS) in
    ⊎_elim
    (λ e. let one : address_at (with_file maps file slots) f o ≡ finite.get table o =
    ap (λ k. finite.get (get_or (set maps file table) k m) o) e ∙ ap (λ (x : FileMap). finite.get x o) (get_or-set_same maps file table m inside) in
    rw (eq-eqb f file e) (one ∙ whole))
    (λ ne. let one : address_at (with_file maps file slots) f o ≡ address_at maps f o = ap (λ (x : FileMap). finite.get x o) (get_or-set_other maps file f table m ne) in
    rw (ne_eqb f file ne) one)
    (cases_eq f file)

pub file_changes : FileChanges
file_changes maps file changed good there none f o =
    at_file maps file (λ p. changed p (address_at maps file p)) (omega (arith, there, good.files)) (λ p past. ap (changed p) (past_none maps file p good past) ∙ none p past) f o
    ∙ ⊎_elim
    (λ e. ap (λ k. cond (eqb f file) (changed o (address_at maps k o)) (address_at maps f o)) (sym e))
    (λ ne. rw (ne_eqb f file ne) refl)
    (cases_eq f file)

abbrev holds_of : (b : ℕ) → Option Addr → ℕ
holds_of b slot = one_if (maps_to (address_of b) slot)

zero_or_one : (t : Bool) → (one_if t ≡ 0) ⊎ (one_if t ≡ 1)
zero_or_one true = inr refl
zero_or_one false = inl refl

pub in_range : (off len o : ℕ) → off ≤ o → o < off + len → is_within off len o ≡ true
in_range off len o low high = rw (le-leb off o low, lt-ltb o (off + len) high) refl

pub below_range : (off len o : ℕ) → o < off → is_within off len o ≡ false
below_range off len o low = rw (lt-leb off o low) refl

pub above_range : (off len o : ℕ) → off + len ≤ o → is_within off len o ≡ false
above_range off len o high = rw (le-leb off o (omega (arith, high)), le-ltb o (off + len) high) refl

-- an offset is within a range or not
pub in_or_out : (off len o : ℕ) → ((off ≤ o) × (o < off + len) × (is_within off len o ≡ true)) ⊎ (is_within off len o ≡ false)
in_or_out off len o = ⊎_elim
    (λ low. inr (below_range off len o low))
    (λ from. ⊎_elim (λ high. inl (from, high, in_range off len o from high)) (λ past. inr (above_range off len o past)) (cases_lt o (off + len)))
    (cases_lt o off)

-- a mapped offset of the range holds what the layout says
pub laid_out : (b o off : ℕ) (run : Run) (slot : Option Addr) → off ≤ o → o < off + run.len → slot ≡ Some (address_after run.start (o - off)) → in_layout b o off run ≡ holds_of b slot
laid_out b o off run slot low high is =
    let named : holds_of b slot ≡ one_if (eqb (run.start.0 + (o - off)) b) = ap (holds_of b) is in
    let lay : in_layout b o off run ≡ one_if (eqb (b + off) (run.start.0 + o)) = ap (λ t. one_if (t && eqb (b + off) (run.start.0 + o))) (in_range off run.len o low high) in
    ⊎_elim
    (λ e. let a : one_if (eqb (run.start.0 + (o - off)) b) ≡ 1 = ap one_if (eq-eqb _ _ e) in
    let c : one_if (eqb (b + off) (run.start.0 + o)) ≡ 1 = ap one_if (eq-eqb (b + off) (run.start.0 + o) (omega (arith, e, low))) in omega (arith, named, lay, a, c))
    (λ ne. let a : one_if (eqb (run.start.0 + (o - off)) b) ≡ 0 = ap one_if (ne_eqb _ _ ne) in
    let c : one_if (eqb (b + off) (run.start.0 + o)) ≡ 0 = ap one_if (ne_eqb (b + off) (run.start.0 + o) (λ h. ne (omega (arith, h, low)))) in omega (arith, named, lay, a, c))
    (cases_eq (run.start.0 + (o - off)) b)

pub no_layout : (b o off : ℕ) (run : Run) → is_within off run.len o ≡ false → in_layout b o off run ≡ 0
no_layout b o off run out = ap (λ t. one_if (t && eqb (b + off) (run.start.0 + o))) out

-- a range that is mapped to one run holds its layout
pub piece_held : (maps : FileMaps) (file off : ℕ) (run : Run) → ((k : ℕ) → k < run.len → address_at maps file (off + k) ≡ Some (address_after run.start k))
    → (f o b : ℕ) → cond (eqb file f) (cond (is_within off run.len o) (holds maps f o b) 0) 0 ≡ cond (eqb file f) (in_layout b o off run) 0
piece_held maps file off run mapped f o b = ⊎_elim
    (λ e. rw (eq-eqb file f e) (⊎_elim
    (λ it. let there : address_at maps f o ≡ Some (address_after run.start (o - off)) =
    ap (λ k. address_at maps k o) (sym e) ∙ ap (address_at maps file) (omega (arith, it.0)) ∙ mapped (o - off) (omega (arith, it.0, it.1)) in
    let held : cond (is_within off run.len o) (holds maps f o b) 0 ≡ holds maps f o b = ap (λ t. cond t (holds maps f o b) 0) it.2 in
    omega (arith, held, laid_out b o off run (address_at maps f o) it.0 it.1 there))
    (λ out. let none : cond (is_within off run.len o) (holds maps f o b) 0 ≡ 0 = ap (λ t. cond t (holds maps f o b) 0) out in
    omega (arith, none, no_layout b o off run out))
    (in_or_out off run.len o)))
    (λ ne. rw (ne_eqb file f ne) refl)
    (cases_eq file f)

pub punch_takes : PunchTakes
punch_takes maps file off old good range mapped f o b =
    let changed : ℕ → Option Addr → Option Addr = punched_slot off old.len in
    let is = file_changes maps file.0 changed good range.file_there (λ p past. ap (λ t. cond t None None) (above_range off old.len p (omega (arith, past, range.within)))) f o in
    let held = piece_held maps file.0 off old mapped f o b in
    ⊎_elim
    (λ e. let same : eqb f file.0 ≡ true = eq-eqb f file.0 e in
    let back : eqb file.0 f ≡ true = eq-eqb file.0 f (sym e) in
    let here : address_at (applied (Punch file off old.len) maps) f o ≡ changed o (address_at maps f o) = is ∙ ap (λ t. cond t (changed o (address_at maps f o)) (address_at maps f o)) same in
    let split : (t : Bool) → holds_of b (cond t None (address_at maps f o)) + cond t (holds maps f o b) 0 ≡ holds maps f o b = λ t. elim t as (λ t. holds_of b (cond t None (address_at maps f o)) + cond t (holds maps f o b) 0 ≡ holds maps f o b) [ true ↦ omega arith | false ↦ omega arith ] in
    let whole : cond (eqb file.0 f) (cond (is_within off old.len o) (holds maps f o b) 0) 0 ≡ cond (is_within off old.len o) (holds maps f o b) 0 = ap (λ t. cond t (cond (is_within off old.len o) (holds maps f o b) 0) 0) back in
    omega (arith, ap (holds_of b) here, split (is_within off old.len o), held, whole))
    (λ ne. let here : address_at (applied (Punch file off old.len) maps) f o ≡ address_at maps f o = is ∙ ap (λ t. cond t (changed o (address_at maps f o)) (address_at maps f o)) (ne_eqb f file.0 ne) in
    let none : cond (eqb file.0 f) (in_layout b o off old) 0 ≡ 0 = ap (λ t. cond t (in_layout b o off old) 0) (ne_eqb file.0 f (λ h. ne (sym h))) in
    omega (arith, ap (holds_of b) here, none))
    (cases_eq f file.0)

pub remap_puts : RemapPuts
remap_puts maps file off new good range f o b =
    let changed : ℕ → Option Addr → Option Addr = remapped_slot off new.len new.start in
    let is = file_changes maps file.0 changed good range.file_there (λ p past. ap (λ t. cond t (Some (address_after new.start (p - off))) None) (above_range off new.len p (omega (arith, past, range.within)))) f o in
    let held : ℕ = cond (is_within off new.len o) (holds maps f o b) 0 in
    ⊎_elim
    (λ e. let same : eqb f file.0 ≡ true = eq-eqb f file.0 e in
    let back : eqb file.0 f ≡ true = eq-eqb file.0 f (sym e) in
    let here : address_at (applied (Remap file off new.len new.start) maps) f o ≡ changed o (address_at maps f o) = is ∙ ap (λ t. cond t (changed o (address_at maps f o)) (address_at maps f o)) same in
    let taken : cond (eqb file.0 f) held 0 ≡ held = ap (λ t. cond t held 0) back in
    let put : cond (eqb file.0 f) (in_layout b o off new) 0 ≡ in_layout b o off new = ap (λ t. cond t (in_layout b o off new) 0) back in
    ⊎_elim
    (λ it. let becomes : changed o (address_at maps f o) ≡ Some (address_after new.start (o - off)) = ap (λ t. cond t (Some (address_after new.start (o - off))) (address_at maps f o)) it.2 in
    let all_held : held ≡ holds maps f o b = ap (λ t. cond t (holds maps f o b) 0) it.2 in
    omega (arith, taken, put, all_held, laid_out b o off new (address_at (applied (Remap file off new.len new.start) maps) f o) it.0 it.1 (here ∙ becomes)))
    (λ out. let stays : changed o (address_at maps f o) ≡ address_at maps f o = ap (λ t. cond t (Some (address_after new.start (o - off))) (address_at maps f o)) out in
    let no_held : held ≡ 0 = ap (λ t. cond t (holds maps f o b) 0) out in
    omega (arith, ap (holds_of b) (here ∙ stays), taken, put, no_held, no_layout b o off new out))
    (in_or_out off new.len o))
    (λ ne. let here : address_at (applied (Remap file off new.len new.start) maps) f o ≡ address_at maps f o = is ∙ ap (λ t. cond t (changed o (address_at maps f o)) (address_at maps f o)) (ne_eqb f file.0 ne) in
    let no : eqb file.0 f ≡ false = ne_eqb file.0 f (λ h. ne (sym h)) in
    omega (arith, ap (holds_of b) here, ap (λ t. cond t held 0) no, ap (λ t. cond t (in_layout b o off new) 0) no))
    (cases_eq f file.0)

-- what lies in neither range stays
exchanged_rest : (maps : FileMaps) (file off other other_off len f o : ℕ) → (eqb f file && is_within off len o) ≡ false → (eqb f other && is_within other_off len o) ≡ false
    → exchanged_address maps file off other other_off len f o ≡ address_at maps f o
exchanged_rest maps file off other other_off len f o here there = rw (here, there) refl

out_of : (t s : Bool) → s ≡ false → (t && s) ≡ false
out_of true s e = e
out_of false s e = refl

past_exchange : (maps : FileMaps) (file off other other_off len f o : ℕ) → AreGoodMaps maps → off + len ≤ OFFSETS → other_off + len ≤ OFFSETS → OFFSETS ≤ o
    → exchanged_address maps file off other other_off len f o ≡ None
past_exchange maps file off other other_off len f o good one two past =
    exchanged_rest maps file off other other_off len f o
    (out_of (eqb f file) _ (above_range off len o (omega (arith, one, past)))) (out_of (eqb f other) _ (above_range other_off len o (omega (arith, two, past))))
    ∙ past_none maps f o good past

pub exchange_swaps : ExchangeSwaps
exchange_swaps maps file off other other_off len good range other_range f o =
    let at = exchanged_address maps file.0 off other.0 other_off len in
    let first : FileMaps = with_file maps file.0 (at file.0) in
    let long : length first ≡ FILES = length-set maps file.0 (tabulated OFFSETS (at file.0)) ∙ good.files in
    let none : (g p : ℕ) → OFFSETS ≤ p → at g p ≡ None = λ g p past. past_exchange maps file.0 off other.0 other_off len g p good range.within other_range.within past in
    at_file first other.0 (at other.0) (omega (arith, long, other_range.file_there)) (none other.0) f o ∙ ⊎_elim
    (λ same. ap (λ t. cond t (at other.0 o) (address_at first f o)) (eq-eqb f other.0 same) ∙ ap (λ n. at n o) (sym same))
    (λ differs. ap (λ t. cond t (at other.0 o) (address_at first f o)) (ne_eqb f other.0 differs)
    ∙ at_file maps file.0 (at file.0) (omega (arith, good.files, range.file_there)) (none file.0) f o ∙ ⊎_elim
    (λ same. ap (λ t. cond t (at file.0 o) (address_at maps f o)) (eq-eqb f file.0 same) ∙ ap (λ n. at n o) (sym same))
    (λ neither. ap (λ t. cond t (at file.0 o) (address_at maps f o)) (ne_eqb f file.0 neither)
    ∙ sym (exchanged_rest maps file.0 off other.0 other_off len f o (ap (λ t. t && is_within off len o) (ne_eqb f file.0 neither)) (ap (λ t. t && is_within other_off len o) (ne_eqb f other.0 differs))))
    (cases_eq f file.0))
    (cases_eq f other.0)

-- maps whose slots are good
good_from : (maps : FileMaps) → length maps ≡ FILES → ((f o : ℕ) → OFFSETS ≤ o → address_at maps f o ≡ None) → ((f o : ℕ) → IfSome (address_at maps f o) IsData) → AreGoodMaps maps
good_from maps long none blocks = record {
  files = long;
  offsets = λ f o there. ⊎_elim (λ below. below) (λ past. absurd (no_some (subst IsSome (none f o past) there))) (cases_lt o OFFSETS);
  data_blocks = blocks;
}
  where
    no_some : IsSome (let n : Option Addr = None in n) → ⊥
    no_some h = absurd (omega (arith, ap one_if h))

IfSome-cond : (t : Bool) (x y : Option Addr) → (t ≡ true → IfSome x IsData) → (t ≡ false → IfSome y IsData) → IfSome (cond t x y) IsData
IfSome-cond true x y one two = one refl
IfSome-cond false x y one two = two refl

within_from : (off len o : ℕ) → is_within off len o ≡ true → (off ≤ o) × (o < off + len)
within_from off len o e = ⊎_elim (λ it. (it.0, it.1)) (λ out. absurd (omega (arith, ap one_if (sym e ∙ out)))) (in_or_out off len o)

pub steps_leave_good_maps : StepsLeaveGoodMaps
steps_leave_good_maps (Remap file off len at) maps fits good =
    let changed : ℕ → Option Addr → Option Addr = remapped_slot off len at in
    let is = file_changes maps file.0 changed good fits.0.file_there (λ p past. ap (λ t. cond t (Some (address_after at (p - off))) None) (above_range off len p (omega (arith, past, fits.0.within)))) in
    good_from (applied (Remap file off len at) maps) (length-set maps file.0 _ ∙ good.files)
    (λ f o past. is f o ∙ rw (past_none maps f o good past, above_range off len o (omega (arith, past, fits.0.within))) (same_none (eqb f file.0)))
    (λ f o. subst (λ s. IfSome s IsData) (sym (is f o)) (IfSome-cond (eqb f file.0) _ _
    (λ _. IfSome-cond (is_within off len o) _ _ (λ e. let w = within_from off len o e in fits.1.data_blocks (o - off) (omega (arith, w.0, w.1))) (λ _. good.data_blocks f o))
    (λ _. good.data_blocks f o)))
  where
    same_none : (t : Bool) → cond t (let n : Option Addr = None in n) None ≡ None
    same_none true = refl
    same_none false = refl
steps_leave_good_maps (Punch file off len) maps fits good =
    let changed : ℕ → Option Addr → Option Addr = punched_slot off len in
    let is = file_changes maps file.0 changed good fits.file_there (λ p past. ap (λ t. cond t None None) (above_range off len p (omega (arith, past, fits.within)))) in
    good_from (applied (Punch file off len) maps) (length-set maps file.0 _ ∙ good.files)
    (λ f o past. is f o ∙ rw (past_none maps f o good past, above_range off len o (omega (arith, past, fits.within))) (same_none (eqb f file.0)))
    (λ f o. subst (λ s. IfSome s IsData) (sym (is f o)) (IfSome-cond (eqb f file.0) _ _ (λ _. IfSome-cond (is_within off len o) _ _ (λ _. tt) (λ _. good.data_blocks f o)) (λ _. good.data_blocks f o)))
  where
    same_none : (t : Bool) → cond t (let n : Option Addr = None in n) None ≡ None
    same_none true = refl
    same_none false = refl
steps_leave_good_maps (Exchange file off other other_off len) maps fits good =
    let is = exchange_swaps maps file off other other_off len good fits.0 fits.1 in
    let first : FileMaps = with_file maps file.0 (exchanged_address maps file.0 off other.0 other_off len file.0) in
    good_from (applied (Exchange file off other other_off len) maps) (length-set first other.0 _ ∙ length-set maps file.0 _ ∙ good.files)
    (λ f o past. is f o ∙ past_exchange maps file.0 off other.0 other_off len f o good fits.0.within fits.1.within past)
    (λ f o. subst (λ s. IfSome s IsData) (sym (is f o)) (IfSome-cond (eqb f file.0 && is_within off len o) _ _ (λ _. good.data_blocks other.0 _)
    (λ _. IfSome-cond (eqb f other.0 && is_within other_off len o) _ _ (λ _. good.data_blocks file.0 _) (λ _. good.data_blocks f o))))

-- Owners as sums

counted-sum : (p : ℕ → Bool) (n : ℕ) → sum_below n (λ k. one_if (p k)) ≡ count_below p n
unfolding sum_below count_below
counted-sum p zero = refl
counted-sum p (suc n) = omega (arith, counted-sum p n)

pub from-front : (n : ℕ) (g : ℕ → ℕ) → sum_below (suc n) g ≡ g 0 + sum_below n (λ k. g (suc k))
unfolding sum_below
from-front zero g = refl
from-front (suc n) g = omega (arith, from-front n g)

pub sum_below-same : (n : ℕ) (f g : ℕ → ℕ) → ((k : ℕ) → f k ≡ g k) → sum_below n f ≡ sum_below n g
unfolding sum_below
sum_below-same zero f g same = refl
sum_below-same (suc n) f g same = omega (arith, same n, sum_below-same n f g same)

over-list : (h : FileMap → ℕ) (e : FileMap) (maps : FileMaps) → sum_below (length maps) (λ f. h (get_or maps f e)) ≡ sum_by h maps
unfolding sum_below
over-list h e [] = refl
over-list h e (m ∷ maps) = omega (arith, from-front (length maps) (λ f. h (get_or (m ∷ maps) f e)), over-list h e maps, sum_by-cons h m maps)

pub owners_are_counted : OwnersAreCounted
owners_are_counted maps b long =
    let h : FileMap → ℕ = λ m. offsets_with (finite.get m) (address_of b) in
    omega (
      arith,
      sum_below-same FILES (owners_of_file maps b) (λ f. h (get_or maps f finite.empty)) (λ f. counted-sum (λ o. maps_to (address_of b) (address_at maps f o)) OFFSETS),
      over-list h finite.empty maps,
      ap (λ n. sum_below n (λ f. h (get_or maps f finite.empty))) long,
    )

-- what a slot has is told by the blocks that it holds
pub same_slot : (x y : Option Addr) → ((b : ℕ) → holds_of b x ≡ holds_of b y) → x ≡ y
same_slot None None same = refl
same_slot None (Some a) same = let one : one_if (eqb a.0 a.0) ≡ 1 = ap one_if (eq-eqb a.0 a.0 refl) in absurd (omega (arith, one, same a.0))
same_slot (Some a) None same = let one : one_if (eqb a.0 a.0) ≡ 1 = ap one_if (eq-eqb a.0 a.0 refl) in absurd (omega (arith, one, same a.0))
same_slot (Some a) (Some c) same = ⊎_elim
    (λ (e : c.0 ≡ a.0). ap (λ n. let x : Addr = record { 0 = n } in Some x) (sym e))
    (λ ne. let one : one_if (eqb a.0 a.0) ≡ 1 = ap one_if (eq-eqb a.0 a.0 refl) in
    let none : one_if (eqb c.0 a.0) ≡ 0 = ap one_if (ne_eqb c.0 a.0 ne) in absurd (omega (arith, one, none, same a.0)))
    (cases_eq c.0 a.0)

pub maps_are_one : MapsAreOne
maps_are_one maps others good other_good same = same_lists maps others (good.files ∙ sym other_good.files) (λ f d below.
    get_or_default maps f d finite.empty below
    ∙ finite.same_map nat_cmp_total finite.nat_cmp-IsAntisymmetric (get_or maps f finite.empty) (get_or others f finite.empty) (λ o. same_slot (address_at maps f o) (address_at others f o) (same f o))
    ∙ get_or_default others f finite.empty d (omega (arith, below, good.files, other_good.files)))
