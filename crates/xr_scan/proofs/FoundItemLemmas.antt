-- The items that are read of a live stream are those that it logs.
use Rattle.std.proofs.Common.{◌≡◌, ◌∙◌, ◌<◌, ◌≤◌, ℕ, List, [], ◌∷◌, ◌++◌, Option, Result, Ok, Err, length, refl, sym, ap, subst, arith}
use Rattle.std.specs.Prelude.{IfOk}
use Rattle.xr_disk.specs.Seen.{WasSeen}
use Rattle.xr_commit.specs.declared.fault.ScanFault.{ScanFault}
use Rattle.xr_commit.specs.declared.live_stream.Live.{Live}
use Rattle.xr_commit.specs.LiveStream.{IsLiveStream, WasReadLive}
use Rattle.xr_commit.specs.LogRecords.{HasSuper}
use Rattle.std.specs.Global.{Vec}
use Rattle.std.specs.List.{AllByRecursion, flat_map}
use Rattle.std.proofs.lemmas.List.{map-append}
use Rattle.xr_items.specs.declared.item.Item.{Item}
use Rattle.xr_items.specs.Valid.{IsItem}
use Rattle.xr_record.specs.declared.entry.Entry.{Entry}
use Rattle.xr_record.specs.declared.entry.Entry.TheVariants.{Trans, Unmount}
use Rattle.xr_commit.specs.declared.fault.ScanFault.TheVariants.{Debt}
use Rattle.xr_commit.specs.declared.pending.Pending.{Pending}
use Rattle.xr_commit.specs.ItemsOf.{items_in}
use Rattle.xr_commit.specs.LoggedItems.{AreItemsOfEach, Logged}
use Rattle.xr_commit.specs.Pending.{joined_items, pending}
use Rattle.xr_scan.specs.LoggedEntries.{IsWholeItem, LogAll, logged_items}
use Rattle.xr_scan.specs.Replaying.{LogEach}
use Rattle.xr_scan.specs.Scanning.{HasItems, OwesTooMuch, WasFound}
use Rattle.xr_scan.specs.declared.scanning.LiveItems.{LiveItems}

abbrev all_of : List (List Item) → List Item
all_of lists = flat_map (λ (items : List Item). items) lists

all_in : (vecs : List (Vec Item)) → joined_items vecs ≡ all_of (items_in vecs)
all_in [] = refl
all_in (v ∷ vecs) = ap (λ (xs : List Item). v.items ++ xs) (all_in vecs)

-- the items that entries log, entry by entry
record HasLists (entries : List Entry) (logged : List Logged) : Type 0 where
  pub lists : List (List Item)
  pub are : AreItemsOfEach entries lists
  pub each : LogEach entries lists logged
  pub joined : all_of lists ≡ logged_items logged

valid_items : (ls : List Logged) → AllByRecursion IsWholeItem ls → AllByRecursion (λ (l : Logged). IsItem l.item) ls
valid_items [] all = tt
valid_items (l ∷ ls) all = (all.0.valid, valid_items ls all.1)

lists_of : (entries : List Entry) (logged : List Logged) → LogAll entries logged → HasLists entries logged
lists_of [] logged none = record { lists = []; are = tt; each = none; joined = sym (ap logged_items none) }
lists_of (Unmount ∷ entries) logged all =
    let rest = lists_of entries logged all in
    record { lists = [] ∷ rest.lists; are = (refl, rest.are); each = ([], logged, refl, refl, rest.each); joined = rest.joined }
lists_of (Trans tid regions ∷ entries) logged (first, later, is, logs, all) =
    let rest = lists_of entries later all in
    record {
      lists = logged_items first ∷ rest.lists;
      are = (record { logged = first; items_are = refl; valid = valid_items first logs.whole; regions_are = logs.regions_are }, rest.are);
      each = (first, later, is, (logs, refl), rest.each);
      joined = ap (λ (xs : List Item). logged_items first ++ xs) rest.joined ∙ sym (map-append (λ (l : Logged). l.item) first later) ∙ sym (ap logged_items is);
    }

-- what is read of some entries: nothing else are their items
abbrev pub AreOnly : List Entry → List (Vec Item) → Type 0
AreOnly entries vecs = (lists : List (List Item)) → AreItemsOfEach entries lists → items_in vecs ≡ lists

pub logs_each : (entries : List Entry) (vecs : List (Vec Item)) (logged : List Logged) → AreOnly entries vecs → LogAll entries logged → LogEach entries (items_in vecs) logged
logs_each entries vecs logged only all =
    let found = lists_of entries logged all in subst (λ (lists : List (List Item)). LogEach entries lists logged) (sym (only found.lists found.are)) found.each

pub names_all : (entries : List Entry) (vecs : List (Vec Item)) (logged : List Logged) → AreOnly entries vecs → LogAll entries logged → joined_items vecs ≡ logged_items logged
names_all entries vecs logged only all =
    let found = lists_of entries logged all in all_in vecs ∙ ap all_of (only found.lists found.are) ∙ found.joined

pub has_items : (found : LiveItems) (es : List Entry) (vs : List (Vec Item)) → es ≡ found.live.entries.items → vs ≡ found.items.items → AreOnly es found.items.items
    → found.pending.items ≡ pending (joined_items vs) → length found.pending.items ≤ 128 → HasItems found
has_items found es vs same also only works few =
    let only : AreOnly found.live.entries.items found.items.items = subst (λ (xs : List Entry). AreOnly xs found.items.items) same only in
    record {
      each = λ logged all. logs_each found.live.entries.items found.items.items logged only all;
      joined = λ logged all. names_all found.live.entries.items found.items.items logged only all;
      pending_are = works ∙ ap (λ (xs : List (Vec Item)). pending (joined_items xs)) also;
      few = few;
    }

pub owes_too_much : (entries es : List Entry) (vecs vs : List (Vec Item)) (works : List Pending) → es ≡ entries → vs ≡ vecs → AreOnly es vecs → works ≡ pending (joined_items vs)
    → 128 < length works → OwesTooMuch entries (Debt 8)
owes_too_much entries es vecs vs works same also only are many =
    let only : AreOnly entries vecs = subst (λ (xs : List Entry). AreOnly xs vecs) same only in
    record {
      named = refl;
      many = λ logged all. omega (arith, many, ap length (are ∙ ap (λ (xs : List (Vec Item)). pending (joined_items xs)) also), ap (λ (xs : List Item). length (pending xs)) (names_all entries vecs logged only all));
    }

-- what was read of a disk
pub was_found : (seen : Option (List ℕ)) (live : Live) (result : Result LiveItems ScanFault) → WasReadLive seen live → WasSeen seen (λ image. IsLiveStream image live)
    → IfOk result HasItems → IfOk result (λ (found : LiveItems). found.live ≡ live) → IfOk result (WasFound seen)
was_found seen live (Ok found) read is has own =
    let r : WasReadLive seen found.live = subst (WasReadLive seen) (sym own) read in
    record {
      log = r.log;
      found_in = record { long = r.long; live_in = r.live_in; ends = r.ends; has = has };
      of_image = λ image at. (subst (λ (l : Live). HasSuper image l.uuid) (sym own) (is image at).superblock, r.log_is image at);
    }
was_found seen live (Err fault) read is has own = tt
