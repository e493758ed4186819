-- What a plan leaves pending: the works in the other slots, and its new works.
use Rattle.std.proofs.Common.{◌≡◌, ◌≢◌, ℕ, zero, suc, ◌+◌, ◌*◌, ◌-◌, ◌/◌, ◌<◌, ◌≤◌, Bool, true, false, cond, ◌||◌, ◌==◌, List, [], ◌∷◌, ◌++◌, length, map, Some, refl, sym, ap, subst, ◌∙◌, arith, inl, inr, eq-eqb}
use Rattle.std.specs.Prelude.{if◌then◌else◌, max}
use Rattle.std.specs.List.{AllByRecursion, Contains, list_any}
use Rattle.std.specs.Option.{option_to_list}
use Rattle.std.proofs.lemmas.Bool.{eqb-true}
use Rattle.std.proofs.lemmas.List.{map-append}
use Rattle.xr_items.specs.declared.item.Item.{Item}
use Rattle.xr_items.specs.declared.item.Item.TheVariants.{Buf, Inode, Begin, Done}
use Rattle.xr_items.specs.declared.trans.Logged.{Logged as Changed}
use Rattle.xr_items.specs.declared.work.Work.{Work}
use Rattle.xr_items.specs.Transactions.{TransView}
use Rattle.xr_base.specs.declared.geometry.TheConstants.{BLOCK_SECTORS, FILE_BLOCKS, FIRST_FILE_BLOCK, FIRST_INODE}
use Rattle.xr_commit.specs.declared.pending.Pending.{Pending}
use Rattle.xr_commit.specs.LoggedItems.{Logged}
use Rattle.xr_commit.specs.Pending.{ends, is_done, pending}
use Rattle.xr_scan.specs.LoggedEntries.{logged_items}
use Rattle.xr_scan.specs.NextId.{next_id}
use Rattle.xr_log.specs.declared.held.Slotted.{Slotted}
use Rattle.xr_log.specs.declared.transaction.Planned.{Planned}
use Rattle.xr_log.specs.EndedWorks.{Agree, AllAgree, done_items, kept_entries}
use Rattle.xr_log.specs.PendingAfter.{still}
use Rattle.xr_log.specs.PlacedWorks.{entries_of}
use Rattle.xr_log.specs.Slots.{pending_in, slots_in}
use Rattle.xr_log.specs.TransactionItems.{begun_items, block_at, block_entry, done_item, done_of, ended_in, entry_in, is_core, logged_in, planned, rising}
use Rattle.xr_log.proofs.EndedLemmas.{ends_slots}
use Rattle.xr_log.proofs.GoodPlanLemmas.{ended_has, logged_in-append}
use Rattle.xr_log.proofs.ItemsLemmas.{is_done-append, pending_goes_on}

-- The items of a plan's parts

pub items_append : (xs ys : List Logged) → logged_items (xs ++ ys) ≡ logged_items xs ++ logged_items ys
items_append xs ys = map-append (λ (l : Logged). l.item) xs ys

done_are : (blocks : List Changed) (ended : List Slotted) → logged_items (logged_in blocks (map done_item ended)) ≡ done_items ended
done_are blocks [] = refl
done_are blocks (s ∷ ended) = ap (λ (items : List Item). Done s.id (done_of s.work) ∷ items) (done_are blocks ended)

abbrev changed_items : List Changed → List ℕ → List Item
changed_items blocks order = logged_items (logged_in blocks (map (block_entry blocks) order))

abbrev begins : ℕ → List Work → List Item
begins next [] = []
begins next (work ∷ works) = Begin next work ∷ begins (suc next) works

begun_are : (blocks : List Changed) (next : ℕ) (works : List Work) → logged_items (logged_in blocks (begun_items next works)) ≡ begins next works
begun_are blocks next [] = refl
begun_are blocks next (work ∷ works) = ap (λ (items : List Item). Begin next work ∷ items) (begun_are blocks (suc next) works)

plan_items : (table : List Slotted) (next : ℕ) (trans : TransView)
    → logged_items (logged_in trans.blocks (planned table next trans))
    ≡ done_items (ended_in table trans.done) ++ changed_items trans.blocks (rising trans.blocks (length trans.blocks)) ++ begins next trans.works
plan_items table next trans =
    let done : List Planned = map done_item (ended_in table trans.done) in
    let changed : List Planned = map (block_entry trans.blocks) (rising trans.blocks (length trans.blocks)) in
    let begun : List Planned = begun_items next trans.works in
    let L = logged_in trans.blocks in
    ap logged_items (logged_in-append trans.blocks (done ++ changed) begun ∙ ap (λ (ls : List Logged). ls ++ L begun) (logged_in-append trans.blocks done changed))
    ∙ items_append (L done ++ L changed) (L begun) ∙ ap (λ (items : List Item). items ++ logged_items (L begun)) (items_append (L done) (L changed))
    ∙ ap (λ (items : List Item). items ++ logged_items (L changed) ++ logged_items (L begun)) (done_are trans.blocks (ended_in table trans.done))
    ∙ ap (λ (items : List Item). done_items (ended_in table trans.done) ++ logged_items (L changed) ++ items) (begun_are trans.blocks next trans.works)

-- What they end and begin

block_ends : (id : ℕ) (work : Work) (block : ℕ) (b : Bool)
    → ends id work (if b then Inode (FIRST_INODE + (block - FIRST_FILE_BLOCK) / FILE_BLOCKS) else Buf (BLOCK_SECTORS * block)) ≡ false
block_ends id work block true = refl
block_ends id work block false = refl

changed_end_none : (id : ℕ) (work : Work) (blocks : List Changed) (order : List ℕ) → is_done id work (changed_items blocks order) ≡ false
changed_end_none id work blocks [] = refl
changed_end_none id work blocks (i ∷ order) =
    ap (λ (b : Bool). b || is_done id work (changed_items blocks order)) (block_ends id work (block_at blocks i) (is_core (block_at blocks i)))
    ∙ changed_end_none id work blocks order

begun_end_none : (id : ℕ) (work : Work) (next : ℕ) (works : List Work) → is_done id work (begins next works) ≡ false
begun_end_none id work next [] = refl
begun_end_none id work next (w ∷ works) = begun_end_none id work (suc next) works

still_same : (items others : List Item) (ps : List Pending) → ((id : ℕ) (work : Work) → is_done id work items ≡ is_done id work others) → still items ps ≡ still others ps
still_same items others [] same = refl
still_same items others (p ∷ ps) same =
    ap (λ (b : Bool). if b then still items ps else (p ∷ still items ps)) (same p.id p.work)
    ∙ ap (λ (rest : List Pending). if is_done p.id p.work others then rest else (p ∷ rest)) (still_same items others ps same)

or_none : (b : Bool) → ((b || false) || false) ≡ b
or_none true = refl
or_none false = refl

plan_ends : (id : ℕ) (work : Work) (done : List Item) (blocks : List Changed) (order : List ℕ) (next : ℕ) (works : List Work)
    → is_done id work (done ++ changed_items blocks order ++ begins next works) ≡ is_done id work done
plan_ends id work done blocks order next works =
    is_done-append id work (done ++ changed_items blocks order) (begins next works)
    ∙ ap (λ (b : Bool). b || is_done id work (begins next works)) (is_done-append id work done (changed_items blocks order))
    ∙ ap (λ (b : Bool). (is_done id work done || b) || is_done id work (begins next works)) (changed_end_none id work blocks order)
    ∙ ap (λ (b : Bool). (is_done id work done || false) || b) (begun_end_none id work next works) ∙ or_none (is_done id work done)

abbrev pub begun_works : ℕ → List Work → List Pending
begun_works next [] = []
begun_works next (work ∷ works) = record { id = next; work = work } ∷ begun_works (suc next) works

pending_begun : (next : ℕ) (works : List Work) → pending (begins next works) ≡ begun_works next works
pending_begun next [] = refl
pending_begun next (work ∷ works) =
    ap (λ (b : Bool). if b then pending (begins (suc next) works) else (record { id = next; work = work } ∷ pending (begins (suc next) works)))
    (begun_end_none next work (suc next) works)
    ∙ ap (λ (ps : List Pending). record { id = next; work = work } ∷ ps) (pending_begun (suc next) works)

pending_changed : (blocks : List Changed) (order : List ℕ) (later : List Item) → pending (changed_items blocks order ++ later) ≡ pending later
pending_changed blocks [] later = refl
pending_changed blocks (i ∷ order) later = by_test (is_core (block_at blocks i)) (pending_changed blocks order later) where
  by_test : (b : Bool) → pending (changed_items blocks order ++ later) ≡ pending later
      → pending ((if b then Inode (FIRST_INODE + (block_at blocks i - FIRST_FILE_BLOCK) / FILE_BLOCKS) else Buf (BLOCK_SECTORS * block_at blocks i)) ∷ (changed_items blocks order ++ later)) ≡ pending later
  by_test true rest = rest
  by_test false rest = rest

pending_done : (ended : List Slotted) (later : List Item) → pending (done_items ended ++ later) ≡ pending later
pending_done [] later = refl
pending_done (s ∷ ended) later = pending_done ended later

append_three : (xs ys zs : List Item) → xs ++ ys ++ zs ≡ xs ++ (ys ++ zs)
append_three [] ys zs = refl
append_three (x ∷ xs) ys zs = ap (λ (l : List Item). x ∷ l) (append_three xs ys zs)

-- Slots

slots_has : (table : List Slotted) (slot : ℕ) → Contains (slots_in table) slot → list_any (λ (s : Slotted). s.slot == slot) table ≡ true
slots_has [] slot held = absurd (let below = held.1 in omega (arith, below))
slots_has (s ∷ table) slot (zero, below, is) = ap (λ (b : Bool). b || list_any (λ (x : Slotted). x.slot == slot) table) (eq-eqb s.slot slot is)
slots_has (s ∷ table) slot (suc k, below, is) = ap (λ (b : Bool). (s.slot == slot) || b) (slots_has table slot (k, omega (arith, below), is)) ∙ or_true (s.slot == slot) where
  or_true : (b : Bool) → (b || true) ≡ true
  or_true true = refl
  or_true false = refl

found_slot : (table : List Slotted) (slot : ℕ) → list_any (λ (s : Slotted). s.slot == slot) table ≡ true → slots_in (option_to_list (entry_in table slot)) ≡ slot ∷ []
found_slot [] slot any = absurd cc
found_slot (s ∷ table) slot any = by_test (s.slot == slot) refl any (found_slot table slot) where
  by_test : (b : Bool) → (s.slot == slot) ≡ b → (b || list_any (λ (x : Slotted). x.slot == slot) table) ≡ true
      → (list_any (λ (x : Slotted). x.slot == slot) table ≡ true → slots_in (option_to_list (entry_in table slot)) ≡ slot ∷ [])
      → slots_in (option_to_list (cond b (Some s) (entry_in table slot))) ≡ slot ∷ []
  by_test true e some rest = ap (λ (n : ℕ). n ∷ []) (eqb-true s.slot slot e)
  by_test false e some rest = rest some

ended_slots : (table : List Slotted) (slots : List ℕ) → AllByRecursion (Contains (slots_in table)) slots → slots_in (ended_in table slots) ≡ slots
ended_slots table [] all = refl
ended_slots table (slot ∷ slots) all =
    map-append (λ (s : Slotted). s.slot) (option_to_list (entry_in table slot)) (ended_in table slots)
    ∙ ap (λ (xs : List ℕ). xs ++ slots_in (ended_in table slots)) (found_slot table slot (slots_has table slot all.0))
    ∙ ap (λ (xs : List ℕ). slot ∷ xs) (ended_slots table slots all.1)

-- two entries of a table with other ids and other slots
abbrev pub AreApart : Slotted → Slotted → Type 0
AreApart one two = (one.id ≢ two.id) × (one.slot ≢ two.slot)

turned : (one two : Slotted) → AreApart one two → AreApart two one
turned one two apart = ((λ e. apart.0 (sym e)), (λ e. apart.1 (sym e)))

first_agrees : (s : Slotted) (table : List Slotted) → AllByRecursion (AreApart s) table → AllByRecursion (λ (e : Slotted). Agree e s) table
first_agrees s [] apart = tt
first_agrees s (e ∷ table) apart = (inr (turned s e apart.0), first_agrees s table apart.1)

each_agrees : (s : Slotted) (table : List Slotted) → AllByRecursion (AreApart s) table → AllByRecursion (λ (e : Slotted). AllByRecursion (λ (x : Slotted). Agree x e) table) table
    → AllByRecursion (λ (e : Slotted). AllByRecursion (λ (x : Slotted). Agree x e) (s ∷ table)) table
each_agrees s table apart all = go table apart all where
  go : (rest : List Slotted) → AllByRecursion (AreApart s) rest → AllByRecursion (λ (e : Slotted). AllByRecursion (λ (x : Slotted). Agree x e) table) rest
      → AllByRecursion (λ (e : Slotted). AllByRecursion (λ (x : Slotted). Agree x e) (s ∷ table)) rest
  go [] apart all = tt
  go (e ∷ rest) apart all = ((inr apart.0, all.0), go rest apart.1 all.1)

-- each entry is apart from those behind it
abbrev pub AreAllApart : List Slotted → Type 0
AreAllApart [] = Unit {0}
AreAllApart (s ∷ table) = AllByRecursion (AreApart s) table × AreAllApart table

all_agree : (table : List Slotted) → AreAllApart table → AllByRecursion (λ (s : Slotted). AllByRecursion (λ (e : Slotted). Agree e s) table) table
all_agree [] apart = tt
all_agree (s ∷ table) apart = ((inl refl, first_agrees s table apart.0), each_agrees s table apart.0 (all_agree table apart.1))

ended_agree : (table : List Slotted) (slots : List ℕ) (rest : List Slotted) → AllByRecursion (λ (s : Slotted). AllByRecursion (λ (e : Slotted). Agree e s) table) rest
    → AllByRecursion (AllAgree (ended_in table slots)) rest
ended_agree table slots [] all = tt
ended_agree table slots (s ∷ rest) all = (ended_has (λ (e : Slotted). Agree e s) table slots all.0, ended_agree table slots rest all.1)

pub placed_pending : (next : ℕ) (slots : List ℕ) (works : List Work) → length slots ≡ length works → pending_in (entries_of next slots works) ≡ begun_works next works
placed_pending next [] [] long = refl
placed_pending next [] (work ∷ works) long = absurd (omega (arith, long))
placed_pending next (slot ∷ slots) [] long = absurd (omega (arith, long))
placed_pending next (slot ∷ slots) (work ∷ works) long =
    ap (λ (ps : List Pending). record { id = next; work = work } ∷ ps) (placed_pending (suc next) slots works (omega (arith, long)))

-- what is pending after the items of a plan
pub plan_pending : (table : List Slotted) (next : ℕ) (trans : TransView) (items : List Item) (slots : List ℕ) → pending_in table ≡ pending items → AreAllApart table
    → AllByRecursion (Contains (slots_in table)) trans.done → length slots ≡ length trans.works
    → pending_in (kept_entries trans.done table ++ entries_of next slots trans.works) ≡ pending (items ++ logged_items (logged_in trans.blocks (planned table next trans)))
plan_pending table next trans items slots are apart held long =
    let ended : List Slotted = ended_in table trans.done in
    let order : List ℕ = rising trans.blocks (length trans.blocks) in
    let more : List Item = done_items ended ++ changed_items trans.blocks order ++ begins next trans.works in
    let left : still more (pending items) ≡ pending_in (kept_entries trans.done table) =
    still_same more (done_items ended) (pending items) (λ id work. plan_ends id work (done_items ended) trans.blocks order next trans.works)
    ∙ ap (still (done_items ended)) (sym are)
    ∙ ends_slots table ended (ended_agree table trans.done table (all_agree table apart))
    ∙ ap (λ (done : List ℕ). pending_in (kept_entries done table)) (ended_slots table trans.done held) in
    let new : pending more ≡ pending_in (entries_of next slots trans.works) =
    ap pending (append_three (done_items ended) (changed_items trans.blocks order) (begins next trans.works))
    ∙ pending_done ended (changed_items trans.blocks order ++ begins next trans.works) ∙ pending_changed trans.blocks order (begins next trans.works)
    ∙ pending_begun next trans.works ∙ sym (placed_pending next slots trans.works long) in
    map-append (λ (s : Slotted). (let p : Pending = record { id = s.id; work = s.work } in p)) (kept_entries trans.done table) (entries_of next slots trans.works)
    ∙ ap (λ (ps : List Pending). ps ++ pending_in (entries_of next slots trans.works)) (sym left) ∙ ap (λ (ps : List Pending). still more (pending items) ++ ps) (sym new)
    ∙ sym (pending_goes_on items more) ∙ ap (λ (its : List Item). pending (items ++ its)) (sym (plan_items table next trans))

-- Ids

abbrev NamesBelow : ℕ → Item → Type 0
NamesBelow limit (Begin id work) = id < limit
NamesBelow limit (Done id of) = id < limit
NamesBelow limit item = Unit {0}

below_all : (limit : ℕ) (items : List Item) → 1 ≤ limit → AllByRecursion (NamesBelow limit) items → next_id items ≤ limit
below_all limit [] some all = some
below_all limit (Buf sector ∷ items) some all = below_all limit items some all.1
below_all limit (Inode ino ∷ items) some all = below_all limit items some all.1
below_all limit (Begin id work ∷ items) some all = most_of (id + 1) (next_id items) limit (let below = all.0 in omega (arith, below)) (below_all limit items some all.1) where
  most_of : (a b n : ℕ) → a ≤ n → b ≤ n → max a b ≤ n
  most_of a b n one two = omega (arith, one, two)
below_all limit (Done id of ∷ items) some all = most_of (id + 1) (next_id items) limit (let below = all.0 in omega (arith, below)) (below_all limit items some all.1) where
  most_of : (a b n : ℕ) → a ≤ n → b ≤ n → max a b ≤ n
  most_of a b n one two = omega (arith, one, two)

items_all : (P : Item → Type 0) (xs ys : List Item) → AllByRecursion P xs → AllByRecursion P ys → AllByRecursion P (xs ++ ys)
items_all P [] ys first second = second
items_all P (x ∷ xs) ys first second = (first.0, items_all P xs ys first.1 second)

done_below : (limit : ℕ) (ended : List Slotted) → AllByRecursion (λ (s : Slotted). s.id < limit) ended → AllByRecursion (NamesBelow limit) (done_items ended)
done_below limit [] all = tt
done_below limit (s ∷ ended) all = (all.0, done_below limit ended all.1)

changed_below : (limit : ℕ) (blocks : List Changed) (order : List ℕ) → AllByRecursion (NamesBelow limit) (changed_items blocks order)
changed_below limit blocks [] = tt
changed_below limit blocks (i ∷ order) = (by_test (is_core (block_at blocks i)), changed_below limit blocks order) where
  by_test : (b : Bool) → NamesBelow limit (if b then Inode (FIRST_INODE + (block_at blocks i - FIRST_FILE_BLOCK) / FILE_BLOCKS) else Buf (BLOCK_SECTORS * block_at blocks i))
  by_test true = tt
  by_test false = tt

begun_below : (limit next : ℕ) (works : List Work) → next + length works ≤ limit → AllByRecursion (NamesBelow limit) (begins next works)
begun_below limit next [] most = tt
begun_below limit next (work ∷ works) most = (omega (arith, most), begun_below limit (suc next) works (omega (arith, most)))

raised : (m n : ℕ) (table : List Slotted) → m ≤ n → AllByRecursion (λ (s : Slotted). s.id < m) table → AllByRecursion (λ (s : Slotted). s.id < n) table
raised m n [] le all = tt
raised m n (s ∷ table) le all = (let below = all.0 in omega (arith, le, below), raised m n table le all.1)

pub plan_ids : (table : List Slotted) (next : ℕ) (trans : TransView) → 1 ≤ next → AllByRecursion (λ (s : Slotted). s.id < next) table
    → next_id (logged_items (logged_in trans.blocks (planned table next trans))) ≤ next + length trans.works
plan_ids table next trans some below =
    let limit : ℕ = next + length trans.works in
    let order : List ℕ = rising trans.blocks (length trans.blocks) in
    subst (λ (items : List Item). next_id items ≤ limit) (sym (plan_items table next trans))
    (below_all limit (done_items (ended_in table trans.done) ++ changed_items trans.blocks order ++ begins next trans.works) (omega (arith, some))
    (items_all (NamesBelow limit) (done_items (ended_in table trans.done) ++ changed_items trans.blocks order) (begins next trans.works)
    (items_all (NamesBelow limit) (done_items (ended_in table trans.done)) (changed_items trans.blocks order)
    (done_below limit (ended_in table trans.done) (ended_has (λ (s : Slotted). s.id < limit) table trans.done (raised next limit table (omega arith) below)))
    (changed_below limit trans.blocks order))
    (begun_below limit next trans.works (omega arith))))
