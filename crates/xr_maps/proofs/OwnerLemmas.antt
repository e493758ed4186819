-- The search for owners in a group: what one more extent of a file adds.
use Rattle.std.proofs.Common.{◌≡◌, ◌≢◌, ℕ, ◌+◌, ◌-◌, ◌<◌, ◌≤◌, ◌%◌, List, [], ◌∷◌, ◌++◌, length, get_or, Option, None, Some, sym, ap, subst, ◌∙◌, refl, arith, ⊎_elim}
use Rattle.std.specs.Prelude.{Any, IfSome, is_some}
use Rattle.std.specs.Global.{Vec}
use Rattle.std.proofs.lemmas.List.{get_or_append_left, length-append, get_or_past}
use Rattle.std.proofs.lemmas.List.Quantifiers.{all_pairs_push, Any-push}
use Rattle.std.proofs.lemmas.List.Elements.{All-push}
use Rattle.std.proofs.lemmas.Bool.{cases_lt}
use Rattle.xr_base.specs.declared.address.Addr.{Addr}
use Rattle.xr_base.specs.declared.geometry.TheConstants.{OFFSETS, FIRST_INODE}
use Rattle.xr_base.specs.Address.{IsData, address_of, address_after, group_number}
use Rattle.xr_maps.specs.declared.records.Extent.{Extent}
use Rattle.xr_maps.specs.declared.records.Rev.{Rev}
use Rattle.xr_maps.specs.FileMaps.{address_at, IsOwner}
use Rattle.xr_maps.specs.Records.{RunsOn, IsReverseRecord, CoversOwner}
use Rattle.xr_maps.specs.Tables.{slot_of, IsTable, AreTables, maps_of_tables}
use Rattle.xr_maps.specs.Extents.{IsExtentLen, IsNextExtent, AreHoles}
use Rattle.xr_maps.specs.Owners.{AreOwnersBelow, place_of, owner_place, record_of}
use Rattle.xr_maps.proofs.MapLemmas.{address_in_table, IsTable-read, AreGoodMaps-of_tables, no_such_file}
use Rattle.xr_maps.proofs.ExtentLemmas.{slot_in_extent, stops, first_address, is_mapped, not_mapped}

-- the blocks of an extent are data blocks
pub data_at : (table : List (Option Addr)) (e : Extent) → IsTable table → IsExtentLen table e.off e.at e.len → (i : ℕ) → i < e.len → IsData (address_after e.at i)
data_at table e is found i h =
    let P : Option Addr → Type 0 = λ slot. IfSome slot IsData in
    subst P (found.together i h) (is.data_blocks (e.off + i))

same_group : (at : Addr) (len i : ℕ) → ((j : ℕ) → j < len → IsData (address_after at j)) → i < len → group_number (address_after at i) ≡ group_number at
same_group at len i data_blocks h = ⊎_elim
    (λ (inside : at.0 % 2048 + i < 2048). omega arith)
    (λ (across : 2048 ≤ at.0 % 2048 + i).
    let edge : 512 ≤ (at.0 + (2048 - at.0 % 2048)) % 2048 = (data_blocks (2048 - at.0 % 2048) (omega arith)).block in
    absurd (omega arith))
    (cases_lt (at.0 % 2048 + i) 2048)

module _ (tables : List (Vec (Option Addr))) (file : ℕ) (table : Vec (Option Addr)) (are : AreTables tables) (there : file < length tables) (read : table ≡ get_or tables file table) where
  owns : (a : Addr) (off : ℕ) → slot_of table.items off ≡ Some a → IsOwner (maps_of_tables tables) a file off
  owns a off e = address_in_table tables file off table are there read ∙ e

  owned_slot : (a : Addr) (off : ℕ) → IsOwner (maps_of_tables tables) a file off → slot_of table.items off ≡ Some a
  owned_slot a off own = sym (address_in_table tables file off table are there read) ∙ own

  this_file : (f : ℕ) → f ≡ file → (a : Addr) (off : ℕ) → IsOwner (maps_of_tables tables) a f off → IsOwner (maps_of_tables tables) a file off
  this_file f e a off own = ap (λ n. address_at (maps_of_tables tables) n off) (sym e) ∙ own

  -- the extent that is found next, where no extent goes on across its start
  module _ (e : Extent) (found : IsExtentLen table.items e.off e.at e.len) where
    begins : slot_of table.items e.off ≡ Some e.at
    begins = slot_in_extent table.items e.off e.at e.len found e.off (omega arith) (let p = found.some in omega arith) ∙ first_address e.at (e.off - e.off) (omega arith)

    not_before : ((k : ℕ) → k + 1 ≡ e.off → ¬ RunsOn (slot_of table.items) k) → (a : Addr) (off : ℕ) → a.0 + 1 ≡ e.at.0 → off + 1 ≡ e.off
        → ¬ IsOwner (maps_of_tables tables) a file off
    not_before broken a off next_a next_off own = broken off next_off (record {
      here = a;
      is_here = owned_slot a off own;
      is_next = ap (slot_of table.items) next_off ∙ begins ∙ ap (λ n. Some (address_of n)) (sym next_a);
    })

    not_after : ¬ IsOwner (maps_of_tables tables) (address_after e.at e.len) file (e.off + e.len)
    not_after own =
        let here = owned_slot (address_after e.at e.len) (e.off + e.len) own in
        ⊎_elim
        (λ (inside : e.off + e.len < length table.items). found.ended inside here)
        (λ (past : length table.items ≤ e.off + e.len).
        let none : slot_of table.items (e.off + e.len) ≡ None = get_or_past table.items (e.off + e.len) None past in cc)
        (cases_lt (e.off + e.len) (length table.items))

    is_reverse_record : (group : ℕ) → ((k : ℕ) → k + 1 ≡ e.off → ¬ RunsOn (slot_of table.items) k)
        → group_number e.at ≡ group → IsReverseRecord (maps_of_tables tables) group (record_of e file)
    is_reverse_record group broken in_group =
        let is = IsTable-read tables file table are there read in
        let number : FIRST_INODE + file - FIRST_INODE ≡ file = omega arith in
        record {
          some = found.some;
          inode = omega arith;
          in_group = λ i h. same_group e.at e.len i (data_at table.items e is found) h ∙ in_group;
          owned = λ i h. rw number (owns (address_after e.at i) (e.off + i) (found.together i h));
          left = λ a off next_a next_off own. not_before broken a off next_a next_off (this_file _ number a off own);
          right = λ own. not_after (this_file _ number (address_after e.at e.len) (e.off + e.len) own);
        }

    -- an owner of the extent's blocks is the one that the record names
    covers : (a : Addr) (off : ℕ) → e.off ≤ off → off < e.off + e.len → IsOwner (maps_of_tables tables) a file off
        → CoversOwner a file off (record_of e file)
    covers a off above below own =
        let block : slot_of table.items off ≡ Some (address_after e.at (off - e.off)) = slot_in_extent table.items e.off e.at e.len found off above below in
        let here = owned_slot a off own in
        record {
          place = off - e.off;
          within = omega arith;
          is_block = cc;
          is_owner = refl;
          is_off = omega arith;
        }

-- the file and the offset of a place
this_place : (file f off from to : ℕ) → off < OFFSETS → to ≤ OFFSETS → place_of file from ≤ place_of f off → place_of f off < place_of file to
    → (f ≡ file) × (from ≤ off) × (off < to)
this_place file f off from to small within above below = (omega arith, omega arith, omega arith)

any_before : (P : Rev → Type 0) (records : List Rev) (r : Rev) → Any P records → Any P (records ++ r ∷ [])
any_before P records r found =
    (found.0, found.1, omega (arith, length-append records (r ∷ [])), get_or_append_left records (r ∷ []) found.1 found.0 found.2 ∙ found.3, found.4)

module _ (tables : List (Vec (Option Addr))) (file : ℕ) (table : Vec (Option Addr)) (are : AreTables tables) (there : file < length tables) (read : table ≡ get_or tables file table)
    (group from : ℕ) (records : List Rev) (so_far : AreOwnersBelow (maps_of_tables tables) group (place_of file from) records) where
  -- what is owned at the offsets from one bound to the next is among more records
  every_more : (to : ℕ) (more : List Rev) → from ≤ to → to ≤ OFFSETS
      → ((a : Addr) (f off : ℕ) → Any (CoversOwner a f off) records → Any (CoversOwner a f off) more)
      → ((a : Addr) (off : ℕ) → from ≤ off → off < to → group_number a ≡ group → IsOwner (maps_of_tables tables) a file off → Any (CoversOwner a file off) more)
      → (a : Addr) (f off : ℕ) → place_of f off < place_of file to → group_number a ≡ group → IsOwner (maps_of_tables tables) a f off → Any (CoversOwner a f off) more
  every_more to more le within kept added a f off below in_group own = ⊎_elim
      (λ (before : place_of f off < place_of file from). kept a f off (so_far.every a f off before in_group own))
      (λ (after : place_of file from ≤ place_of f off).
      let small : off < OFFSETS = (AreGoodMaps-of_tables tables are).offsets f off (ap is_some own) in
      let at = this_place file f off from to small within after below in
      let mine = this_file tables file table are there read f at.0 a off own in
      subst (λ n. Any (CoversOwner a n off) more) (sym at.0) (added a off at.1 at.2 in_group mine))
      (cases_lt (place_of f off) (place_of file from))

  no_owner_at : (off : ℕ) → slot_of table.items off ≡ None → (a : Addr) → ¬ IsOwner (maps_of_tables tables) a file off
  no_owner_at off hole a own = let here = owned_slot tables file table are there read a off own in cc

  module _ (e : Extent) (next : IsNextExtent table.items from e) where
    end_within : e.off + e.len ≤ OFFSETS
    end_within = let l = (IsTable-read tables file table are there read).slots in let w = next.extent.within in omega arith

    unjoined : ((k : ℕ) → k + 1 ≡ from → ¬ RunsOn (slot_of table.items) k) → (k : ℕ) → k + 1 ≡ e.off → ¬ RunsOn (slot_of table.items) k
    unjoined broken k last on = ⊎_elim
        (λ (below : k < from). broken k (let b = next.after in omega arith) on)
        (λ (above : from ≤ k). not_mapped (slot_of table.items) k (next.holes k above (omega arith)) (is_mapped (slot_of table.items) k on))
        (cases_lt k from)

    -- an extent of another group
    pub owners_passed : group_number e.at ≢ group → AreOwnersBelow (maps_of_tables tables) group (place_of file (e.off + e.len)) records
    owners_passed other = record {
      each = so_far.each;
      offsets = so_far.offsets;
      rising = so_far.rising;
      within = λ k d h. let b = so_far.within k d h in let n = next.after in omega arith;
      every = every_more (e.off + e.len) records (let n = next.after in omega arith) end_within (λ a f off found. found)
          (λ a off above below in_group own. absurd (⊎_elim
          (λ (before : off < e.off). no_owner_at off (next.holes off above before) a own)
          (λ (after : e.off ≤ off).
          let c = covers tables file table are there read e next.extent a off after below own in
          let is = IsTable-read tables file table are there read in
          let same = same_group e.at e.len c.place (data_at table.items e is next.extent) c.within in
          other (sym same ∙ ap group_number (sym c.is_block) ∙ in_group))
          (cases_lt off e.off)));
    }

    -- an extent of the group
    pub owners_more : ((k : ℕ) → k + 1 ≡ from → ¬ RunsOn (slot_of table.items) k) → group_number e.at ≡ group
        → AreOwnersBelow (maps_of_tables tables) group (place_of file (e.off + e.len)) (records ++ record_of e file ∷ [])
    owners_more broken mine =
        let some = next.extent.some in
        let n = next.after in
        record {
          each = All-push (IsReverseRecord (maps_of_tables tables) group) records _ so_far.each
              (is_reverse_record tables file table are there read e next.extent group (unjoined broken) mine);
          offsets = All-push (λ r. r.off < OFFSETS) records _ so_far.offsets (let w = end_within in omega arith);
          rising = all_pairs_push (λ r s. owner_place r < owner_place s) records _ so_far.rising (λ k d h. let b = so_far.within k d h in omega arith);
          within = All-push (λ r. owner_place r < place_of file (e.off + e.len)) records _ (λ k d h. let b = so_far.within k d h in omega arith) (omega arith);
          every = every_more (e.off + e.len) _ (omega arith) end_within (λ a f off found. any_before (CoversOwner a f off) records _ found)
              (λ a off above below in_group own. ⊎_elim
              (λ (before : off < e.off). absurd (no_owner_at off (next.holes off above before) a own))
              (λ (after : e.off ≤ off). Any-push (CoversOwner a file off) records _ (covers tables file table are there read e next.extent a off after below own))
              (cases_lt off e.off));
        }

    -- no extent goes on across the end of this one
    pub unjoined_after : (k : ℕ) → k + 1 ≡ e.off + e.len → ¬ RunsOn (slot_of table.items) k
    unjoined_after k last on = stops table.items e.off e.at e.len next.extent k last on

  -- holes to the end of the file
  pub owners_rest : AreHoles table.items from (length table.items) → from ≤ length table.items
      → AreOwnersBelow (maps_of_tables tables) group (place_of (file + 1) 0) records
  owners_rest holes le =
      let l = (IsTable-read tables file table are there read).slots in
      let next_file : place_of file OFFSETS ≡ place_of (file + 1) 0 = omega arith in
      subst (λ bound. AreOwnersBelow (maps_of_tables tables) group bound records) next_file (record {
        each = so_far.each;
        offsets = so_far.offsets;
        rising = so_far.rising;
        within = λ k d h. let b = so_far.within k d h in omega arith;
        every = every_more OFFSETS records (omega arith) (omega arith) (λ a f off found. found)
            (λ a off above below in_group own. absurd (no_owner_at off (holes off above (omega arith)) a own));
      })

-- each owner is in a file that there is
pub owner_bound : (tables : List (Vec (Option Addr))) → AreTables tables → (a : Addr) (file off : ℕ) → IsOwner (maps_of_tables tables) a file off
    → place_of file off < place_of (length tables) 0
owner_bound tables are a file off own =
    let small : off < OFFSETS = (AreGoodMaps-of_tables tables are).offsets file off (ap is_some own) in
    ⊎_elim
    (λ (inside : file < length tables). omega arith)
    (λ (outside : length tables ≤ file). let none = no_such_file tables file off outside in absurd (cc))
    (cases_lt file (length tables))
