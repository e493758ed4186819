-- The file maps of tables, and what a step does to them.
use Rattle.std.proofs.Common.{◌≡◌, ℕ, ◌+◌, ◌-◌, ◌<◌, ◌≤◌, true, false, cond, List, [], ◌∷◌, zero, suc, ◌++◌, replicate, length, get_or, set, Option, None, Some, sym, ap, subst, ◌∙◌, refl, arith, rules, ⊎_elim}
use Rattle.std.specs.Prelude.{IfSome, IsSome, is_some}
use Rattle.std.specs.Global.{Vec}
use Rattle.std.specs.Vec.{with_items}
use Rattle.std.specs.Ordering.{nat_cmp}
use Rattle.std.specs.Cmp.{nat_cmp_total}
use Rattle.std.specs.FinMap.{get, empty, get-empty, same_map, nat_cmp-IsAntisymmetric}
use Rattle.std.proofs.lemmas.List.{get_or-map, length-map, length-set, map-set, get_or_past, get_or_default, with_items_is, map_push, replicate_more}
use Rattle.std.proofs.lemmas.List.Elements.{All-set}
use Rattle.std.proofs.lemmas.Bool.{cases_lt}
use Rattle.xr_base.specs.declared.address.Addr.{Addr}
use Rattle.xr_base.specs.declared.geometry.TheConstants.{OFFSETS}
use Rattle.xr_base.specs.Address.{IsData, IsGoodRun, address_after}
use Rattle.xr_maps.specs.declared.records.Extent.{Extent}
use Rattle.xr_maps.specs.Records.{AreExtentsOf, AreExtents}
use Rattle.xr_maps.specs.FileMaps.{address_at, AreGoodMaps, tabulated}
use Rattle.xr_maps.specs.FileMapLaws.{get-tabulated, get-tabulated_past, tabulated_same}
use Rattle.xr_maps.specs.Steps.{is_within, remapped_slot, punched_slot, with_file_changed}
use Rattle.xr_maps.specs.Tables.{slot_of, IsTable, AreTables, map_of_table, maps_of_tables}

past_table : (table : List (Option Addr)) (off : ℕ) → IsTable table → OFFSETS ≤ off → slot_of table off ≡ None
past_table table off h past = get_or_past table off None (let l = h.slots in omega arith)

-- a function that says nothing past the offsets is what its map says
pub get-tabulated_whole : (slots : ℕ → Option Addr) (o : ℕ) → (OFFSETS ≤ o → slots o ≡ None) → get (tabulated OFFSETS slots) o ≡ slots o
get-tabulated_whole slots o none = ⊎_elim
    (λ (below : o < OFFSETS). get-tabulated OFFSETS slots o below)
    (λ (past : OFFSETS ≤ o). get-tabulated_past OFFSETS slots o past ∙ sym (none past))
    (cases_lt o OFFSETS)

get-map_of_table : (table : List (Option Addr)) (off : ℕ) → IsTable table → get (map_of_table table) off ≡ slot_of table off
get-map_of_table table off h = get-tabulated_whole (slot_of table) off (past_table table off h)

map_at : (tables : List (Vec (Option Addr))) (file : ℕ) (table : Vec (Option Addr)) → file < length tables → table ≡ get_or tables file table
    → get_or (maps_of_tables tables) file empty ≡ map_of_table table.items
map_at tables file table inside read =
    get_or-map (λ (t : Vec (Option Addr)). map_of_table t.items) tables file table empty inside
    ∙ ap (λ (t : Vec (Option Addr)). map_of_table t.items) (sym read)

-- what the maps say is what the file's table says
pub address_in_table : (tables : List (Vec (Option Addr))) (file off : ℕ) (table : Vec (Option Addr)) → AreTables tables → file < length tables
    → table ≡ get_or tables file table → address_at (maps_of_tables tables) file off ≡ slot_of table.items off
address_in_table tables file off table are inside read =
    ap (λ m. get m off) (map_at tables file table inside read)
    ∙ get-map_of_table table.items off (rw read (are.each file table inside))

pub no_such_file : (tables : List (Vec (Option Addr))) (file off : ℕ) → length tables ≤ file → address_at (maps_of_tables tables) file off ≡ None
no_such_file tables file off past =
    let l : length (maps_of_tables tables) ≡ length tables = length-map tables (λ (t : Vec (Option Addr)). map_of_table t.items) in
    ap (λ m. get m off) (get_or_past (maps_of_tables tables) file empty (omega arith)) ∙ get-empty nat_cmp off

pub IsTable-read : (tables : List (Vec (Option Addr))) (file : ℕ) (table : Vec (Option Addr)) → AreTables tables → file < length tables → table ≡ get_or tables file table → IsTable table.items
IsTable-read tables file table are inside read = rw read (are.each file table inside)

-- a file's extents are those of its table
pub extents_in_table : (tables : List (Vec (Option Addr))) (file : ℕ) (table : Vec (Option Addr)) (extents : List Extent) → AreTables tables → file < length tables
    → table ≡ get_or tables file table → AreExtentsOf (slot_of table.items) extents → AreExtents (maps_of_tables tables) file extents
extents_in_table tables file table extents are inside read found =
    let same : slot_of table.items ≡ address_at (maps_of_tables tables) file = λ i off. sym (address_in_table tables file off table are inside read) i in
    subst (λ slots. AreExtentsOf slots extents) same found

table_of : (tables : List (Vec (Option Addr))) (file : ℕ) → file < length tables → (t : Vec (Option Addr)) × (t ≡ get_or tables file t)
table_of [] file h = absurd (omega arith)
table_of (t ∷ tables) zero h = (t, refl)
table_of (t ∷ tables) (suc file) h = table_of tables file (omega arith)

some_is_not_none : (slot : Option Addr) → slot ≡ None → IsSome slot → ⊥
some_is_not_none slot e there = let s : is_some slot ≡ false = ap is_some e in cc

good_offset : (tables : List (Vec (Option Addr))) → AreTables tables → (file off : ℕ) → IsSome (address_at (maps_of_tables tables) file off) → off < OFFSETS
good_offset tables are file off there = ⊎_elim
    (λ (inside : file < length tables). let t = table_of tables file inside in ⊎_elim
    (λ (below : off < OFFSETS). below)
    (λ (past : OFFSETS ≤ off). absurd (some_is_not_none _
    (address_in_table tables file off t.0 are inside t.1 ∙ past_table t.0.items off (IsTable-read tables file t.0 are inside t.1) past) there))
    (cases_lt off OFFSETS))
    (λ (outside : length tables ≤ file). absurd (some_is_not_none _ (no_such_file tables file off outside) there))
    (cases_lt file (length tables))

pub good_block : (tables : List (Vec (Option Addr))) → AreTables tables → (file off : ℕ) → IfSome (address_at (maps_of_tables tables) file off) IsData
good_block tables are file off = let P : Option Addr → Type 0 = λ slot. IfSome slot IsData in ⊎_elim
    (λ (inside : file < length tables). let t = table_of tables file inside in
    subst P (sym (address_in_table tables file off t.0 are inside t.1)) ((IsTable-read tables file t.0 are inside t.1).data_blocks off))
    (λ (outside : length tables ≤ file). subst P (sym (no_such_file tables file off outside)) tt)
    (cases_lt file (length tables))

-- the maps of tables are good maps
pub AreGoodMaps-of_tables : (tables : List (Vec (Option Addr))) → AreTables tables → AreGoodMaps (maps_of_tables tables)
AreGoodMaps-of_tables tables are = record {
  files = length-map tables (λ (t : Vec (Option Addr)). map_of_table t.items) ∙ are.files;
  offsets = good_offset tables are;
  data_blocks = good_block tables are;
}

-- A change of one table

-- a change that keeps data blocks, of the offsets below OFFSETS alone
pub record Changes (changed : ℕ → Option Addr → Option Addr) (old new : List (Option Addr)) : Type 0 where
  pub long : length new ≡ length old
  pub slots : (o : ℕ) → slot_of new o ≡ changed o (slot_of old o)
  pub keeps : (o : ℕ) (slot : Option Addr) → IfSome slot IsData → IfSome (changed o slot) IsData

IsTable-changed : (changed : ℕ → Option Addr → Option Addr) (old new : List (Option Addr)) → IsTable old → Changes changed old new → IsTable new
IsTable-changed changed old new is change = record {
  slots = change.long ∙ is.slots;
  data_blocks = λ o. let P : Option Addr → Type 0 = λ slot. IfSome slot IsData in
      subst P (sym (change.slots o)) (change.keeps o (slot_of old o) (is.data_blocks o));
}

AreTables-changed : (changed : ℕ → Option Addr → Option Addr) (tables : List (Vec (Option Addr))) (file : ℕ) (old new : Vec (Option Addr))
    → AreTables tables → file < length tables → old ≡ get_or tables file old → Changes changed old.items new.items → AreTables (set tables file new)
AreTables-changed changed tables file old new are inside read change = record {
  files = length-set tables file new ∙ are.files;
  each = All-set (λ (t : Vec (Option Addr)). IsTable t.items) tables file new
      (IsTable-changed changed old.items new.items (IsTable-read tables file old are inside read) change) are.each;
}

maps_of_tables-changed : (changed : ℕ → Option Addr → Option Addr) (tables : List (Vec (Option Addr))) (file : ℕ) (old new : Vec (Option Addr))
    → AreTables tables → file < length tables → old ≡ get_or tables file old → Changes changed old.items new.items
    → maps_of_tables (set tables file new) ≡ with_file_changed (maps_of_tables tables) file changed
maps_of_tables-changed changed tables file old new are inside read change =
    map-set (λ (t : Vec (Option Addr)). map_of_table t.items) tables file new
    ∙ ap (set (maps_of_tables tables) file) (tabulated_same OFFSETS _ _ (λ o h.
    change.slots o ∙ ap (changed o) (sym (address_in_table tables file o old are inside read))))

-- Remap and punch are such changes

within_from : (off len o : ℕ) → is_within off len o ≡ true → (off ≤ o) × (o < off + len)
within_from off len o e = search rules

remap_keeps : (off len : ℕ) (at : Addr) → IsGoodRun (record { start = at; len = len }) → (o : ℕ) (slot : Option Addr) → IfSome slot IsData → IfSome (remapped_slot off len at o slot) IsData
remap_keeps off len at run o slot h =
    elim (is_within off len o) as (λ b. is_within off len o ≡ b → IfSome (cond b (Some (address_after at (o - off))) slot) IsData) [
      | true ↦ λ e. let bounds = within_from off len o e in run.data_blocks (o - off) (let low = bounds.0 in let high = bounds.1 in omega arith)
      | false ↦ λ e. h
    ] refl

punch_keeps : (off len o : ℕ) (slot : Option Addr) → IfSome slot IsData → IfSome (punched_slot off len o slot) IsData
punch_keeps off len o slot h =
    elim (is_within off len o) as (λ b. IfSome (cond b None slot) IsData) [ true ↦ tt | false ↦ h ]

pub Changes-remap : (off len : ℕ) (at : Addr) (old new : List (Option Addr)) → IsGoodRun (record { start = at; len = len }) → length new ≡ length old
    → ((o : ℕ) → slot_of new o ≡ remapped_slot off len at o (slot_of old o)) → Changes (remapped_slot off len at) old new
Changes-remap off len at old new run long slots = record { long = long; slots = slots; keeps = remap_keeps off len at run }

pub Changes-punch : (off len : ℕ) (old new : List (Option Addr)) → length new ≡ length old
    → ((o : ℕ) → slot_of new o ≡ punched_slot off len o (slot_of old o)) → Changes (punched_slot off len) old new
Changes-punch off len old new long slots = record { long = long; slots = slots; keeps = punch_keeps off len }

vec_long : (v : Vec (Option Addr)) → length v.items ≡ v.len
vec_long v = search rules

-- one table of the tables is changed
pub record ChangesTable (changed : ℕ → Option Addr → Option Addr) (old new : List (Vec (Option Addr))) (file : ℕ) : Type 0 where
  pub are : AreTables new
  pub maps : maps_of_tables new ≡ with_file_changed (maps_of_tables old) file changed

pub table_changed : (changed : ℕ → Option Addr → Option Addr) (tables : List (Vec (Option Addr))) (file : ℕ) (d new : Vec (Option Addr))
    → AreTables tables → file < length tables → Changes changed (get_or tables file d).items new.items
    → ChangesTable changed tables (set tables file new) file
table_changed changed tables file d new are inside change =
    let old = get_or tables file d in
    let read : old ≡ get_or tables file old = get_or_default tables file d old inside in
    record {
      are = AreTables-changed changed tables file old new are inside read change;
      maps = maps_of_tables-changed changed tables file old new are inside read change;
    }

-- the same where a call wrote the table through a slice of all of it
pub table_written : (changed : ℕ → Option Addr → Option Addr) (tables : List (Vec (Option Addr))) (file : ℕ) (d : Vec (Option Addr)) (written : List (Option Addr))
    → AreTables tables → file < length tables → Changes changed (get_or tables file d).items written
    → ChangesTable changed tables (set tables file (with_items (get_or tables file d) written)) file
table_written changed tables file d written are inside change =
    let old = get_or tables file d in
    let is : (with_items old written).items ≡ written = with_items_is old written (change.long ∙ vec_long old) in
    table_changed changed tables file d (with_items old written) are inside (record {
      long = ap length is ∙ change.long;
      slots = λ o. ap (λ t. slot_of t o) is ∙ change.slots o;
      keeps = change.keeps;
    })

empty_map : (table : List (Option Addr)) → ((o : ℕ) → slot_of table o ≡ None) → map_of_table table ≡ empty
empty_map table holes = same_map nat_cmp_total nat_cmp-IsAntisymmetric (map_of_table table) empty (λ q.
    get-tabulated_whole (slot_of table) q (λ past. holes q) ∙ holes q ∙ sym (get-empty nat_cmp q))

-- one more file without a block
pub empty_pushed : (tables : List (Vec (Option Addr))) (table : Vec (Option Addr)) (n : ℕ) → maps_of_tables tables ≡ replicate n empty
    → ((o : ℕ) → slot_of table.items o ≡ None) → maps_of_tables (tables ++ table ∷ []) ≡ replicate (n + 1) empty
empty_pushed tables table n so_far holes =
    map_push (λ (t : Vec (Option Addr)). map_of_table t.items) tables table
    ∙ ap (λ ms. ms ++ map_of_table table.items ∷ []) so_far
    ∙ ap (λ m. replicate n empty ++ m ∷ []) (empty_map table.items holes)
    ∙ replicate_more n empty
