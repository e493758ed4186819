-- The items of a plan are good ones, one after another, and name ids below the next one.
use Rattle.std.proofs.Common.{◌≡◌, ℕ, zero, suc, ◌+◌, ◌*◌, ◌-◌, ◌/◌, ◌%◌, ◌<◌, ◌≤◌, Bool, true, false, cond, ◌&&◌, ◌==◌, List, [], ◌∷◌, ◌++◌, length, take, map, Option, Some, refl, sym, ap, subst, ◌∙◌, arith, inl, inr, eq-eqb}
use Rattle.std.specs.Prelude.{if◌then◌else◌}
use Rattle.std.specs.List.{AllByRecursion, find}
use Rattle.std.specs.Option.{option_to_list}
use Rattle.std.proofs.lemmas.Bool.{ne_eqb, lt-ltb, le-ltb}
use Rattle.std.proofs.lemmas.List.{length-take-le}
use Rattle.xr_base.specs.declared.geometry.TheConstants.{BLOCK_BYTES, BLOCK_SECTORS, FILE_BLOCKS, FIRST_FILE_BLOCK, FIRST_GROUP_BLOCK, FIRST_INODE}
use Rattle.xr_items.specs.declared.item.Item.{Item}
use Rattle.xr_items.specs.declared.item.Item.TheVariants.{Buf, Inode}
use Rattle.xr_items.specs.declared.layout.TheConstants.{IDS}
use Rattle.xr_items.specs.declared.trans.Logged.{Logged as Changed}
use Rattle.xr_items.specs.declared.work.Work.{Work}
use Rattle.xr_items.specs.declared.work.Work.TheVariants.{Free, Own, Count, Map, Swap}
use Rattle.xr_items.specs.Items.{following}
use Rattle.xr_items.specs.Transactions.{IsCoreBlock, IsLogged, TransView}
use Rattle.xr_items.specs.Valid.{IsBufferBlock, IsDone, IsId, IsItem, IsWork}
use Rattle.xr_commit.specs.GoodItems.{IsGoodItem, ItemsAreGood, last_after, last_of}
use Rattle.xr_commit.specs.LoggedItems.{Logged}
use Rattle.xr_log.specs.declared.held.Slotted.{Slotted}
use Rattle.xr_log.specs.declared.transaction.Planned.{Planned}
use Rattle.xr_log.specs.Calls.{IsOwnCore}
use Rattle.xr_log.specs.TransactionItems.{begun_items, block_at, block_entry, block_item, done_item, done_of, ended_in, entry_in, image_at, is_core, logged_in, logged_of, planned, rising}

-- one list after another
pub good_append : (uuid : List ℕ) (last : ℕ) (xs ys : List Logged) → ItemsAreGood uuid last xs → ItemsAreGood uuid (last_of last xs) ys
    → ItemsAreGood uuid last (xs ++ ys)
good_append uuid last [] ys first second = second
good_append uuid last (x ∷ xs) ys first second = (first.0, good_append uuid (last_after last x.item) xs ys first.1 second)

pub last_of-append : (last : ℕ) (xs ys : List Logged) → last_of last (xs ++ ys) ≡ last_of (last_of last xs) ys
last_of-append last [] ys = refl
last_of-append last (x ∷ xs) ys = last_of-append (last_after last x.item) xs ys

pub logged_in-append : (blocks : List Changed) (xs ys : List Planned) → logged_in blocks (xs ++ ys) ≡ logged_in blocks xs ++ logged_in blocks ys
logged_in-append blocks [] ys = refl
logged_in-append blocks (x ∷ xs) ys = ap (λ (ls : List Logged). logged_of blocks x ∷ ls) (logged_in-append blocks xs ys)

-- Works that are done

-- the work of an entry may be logged with its id
abbrev pub IsEntry : Slotted → Type 0
IsEntry s = IsId s.id × IsWork s.work

done_valid : (work : Work) → IsWork work → IsDone (done_of work)
done_valid (Free run) valid = valid
done_valid (Own kind owner off run) valid = tt
done_valid (Count kind run) valid = tt
done_valid (Map kind file off run) valid = tt
done_valid (Swap file off other other_off len) valid = tt

found_one : (P : Slotted → Type 0) (b : Bool) (s : Slotted) (rest : Option Slotted) → P s → AllByRecursion P (option_to_list rest)
    → AllByRecursion P (option_to_list (cond b (Some s) rest))
found_one P true s rest here all = (here, tt)
found_one P false s rest here all = all

pub found_has : (P : Slotted → Type 0) (test : Slotted → Bool) (table : List Slotted) → AllByRecursion P table → AllByRecursion P (option_to_list (find test table))
found_has P test [] all = tt
found_has P test (s ∷ table) all = found_one P (test s) s (find test table) all.0 (found_has P test table all.1)

pub all_append : {X : Type 0} (P : X → Type 0) (xs ys : List X) → AllByRecursion P xs → AllByRecursion P ys → AllByRecursion P (xs ++ ys)
all_append P [] ys first second = second
all_append P (x ∷ xs) ys first second = (first.0, all_append P xs ys first.1 second)

pub ended_has : (P : Slotted → Type 0) (table : List Slotted) (slots : List ℕ) → AllByRecursion P table → AllByRecursion P (ended_in table slots)
ended_has P table [] all = tt
ended_has P table (slot ∷ slots) all =
    all_append P (option_to_list (entry_in table slot)) (ended_in table slots) (found_has P (λ (s : Slotted). s.slot == slot) table all)
    (ended_has P table slots all)

done_good : (uuid : List ℕ) (last : ℕ) (blocks : List Changed) (ended : List Slotted) → AllByRecursion IsEntry ended
    → ItemsAreGood uuid last (logged_in blocks (map done_item ended))
done_good uuid last blocks [] all = tt
done_good uuid last blocks (s ∷ ended) all = (
  (record { valid = (all.0.0, done_valid s.work all.0.1); rises = tt; followed = refl }),
  done_good uuid last blocks ended all.1,
)

last_of-done : (last : ℕ) (blocks : List Changed) (ended : List Slotted) → last_of last (logged_in blocks (map done_item ended)) ≡ last
last_of-done last blocks [] = refl
last_of-done last blocks (s ∷ ended) = last_of-done last blocks ended

-- Blocks

core_test : (block : ℕ) → IsCoreBlock block → is_core block ≡ true
core_test block core =
    ap (λ (b : Bool). b && ((block - FIRST_FILE_BLOCK) % FILE_BLOCKS == 0)) (lt-ltb block FIRST_GROUP_BLOCK core.last)
    ∙ eq-eqb ((block - FIRST_FILE_BLOCK) % FILE_BLOCKS) 0 core.core

buffer_test : (block : ℕ) → IsBufferBlock block → is_core block ≡ false
buffer_test block (inl pool) =
    ap (λ (b : Bool). b && ((block - FIRST_FILE_BLOCK) % FILE_BLOCKS == 0)) (lt-ltb block FIRST_GROUP_BLOCK pool.last)
    ∙ ne_eqb ((block - FIRST_FILE_BLOCK) % FILE_BLOCKS) 0 (λ e. absurd (let after = pool.after_core in omega (arith, e, after)))
buffer_test block (inr group) =
    ap (λ (b : Bool). b && ((block - FIRST_FILE_BLOCK) % FILE_BLOCKS == 0)) (le-ltb block FIRST_GROUP_BLOCK group.first)

pub core_item : (block : ℕ) → IsCoreBlock block → block_item block ≡ Inode (FIRST_INODE + (block - FIRST_FILE_BLOCK) / FILE_BLOCKS)
core_item block core =
    ap (λ (b : Bool). if b then Inode (FIRST_INODE + (block - FIRST_FILE_BLOCK) / FILE_BLOCKS) else Buf (BLOCK_SECTORS * block)) (core_test block core)

pub buffer_item : (block : ℕ) → IsBufferBlock block → block_item block ≡ Buf (BLOCK_SECTORS * block)
buffer_item block buffer =
    ap (λ (b : Bool). if b then Inode (FIRST_INODE + (block - FIRST_FILE_BLOCK) / FILE_BLOCKS) else Buf (BLOCK_SECTORS * block)) (buffer_test block buffer)

-- a whole image, and the core of a file of this file system
abbrev pub IsWholeChange : List ℕ → Changed → Type 0
IsWholeChange uuid l = IsLogged l × (length l.image ≡ BLOCK_BYTES) × IsOwnCore uuid l

pub change_at : (P : Changed → Type 0) (blocks : List Changed) (i : ℕ) → AllByRecursion P blocks → i < length blocks
    → P (record { block = block_at blocks i; image = image_at blocks i })
change_at P [] i all below = absurd (omega (arith, below))
change_at P (l ∷ ls) zero all below = all.0
change_at P (l ∷ ls) (suc i) all below = change_at P ls i all.1 (omega (arith, below))

buffer_valid : (block : ℕ) → IsBufferBlock block → IsItem (Buf (BLOCK_SECTORS * block))
buffer_valid block buffer =
    let zero_rest : (BLOCK_SECTORS * block) % BLOCK_SECTORS ≡ 0 = omega arith in
    let back : block ≡ (BLOCK_SECTORS * block) / BLOCK_SECTORS = omega arith in
    (zero_rest, subst IsBufferBlock back buffer)

good_change : (uuid : List ℕ) (last : ℕ) (block : ℕ) (image : List ℕ) → IsWholeChange uuid (record { block = block; image = image })
    → (item : Item) → item ≡ block_item block → IsGoodItem uuid last (record { item = item; bytes = take (following item) image })
good_change uuid last block image (inl buffer, long, own) item is =
    subst (λ (it : Item). IsGoodItem uuid last (record { item = it; bytes = take (following it) image })) (sym (is ∙ buffer_item block buffer))
    (record { valid = buffer_valid block buffer; rises = tt; followed = length-take-le BLOCK_BYTES image (omega (arith, long)) })
good_change uuid last block image (inr (core, image_is), long, own) item is =
    let first = core.first in let below = core.last in
    let low : FIRST_INODE ≤ FIRST_INODE + (block - FIRST_FILE_BLOCK) / FILE_BLOCKS = omega arith in
    subst (λ (it : Item). IsGoodItem uuid last (record { item = it; bytes = take (following it) image })) (sym (is ∙ core_item block core))
    (record { valid = (low, omega (arith, first, below)); rises = tt; followed = own core })

no_intent : (last block : ℕ) → last_after last (block_item block) ≡ last
no_intent last block = by_test (is_core block) where
  by_test : (b : Bool) → last_after last (if b then Inode (FIRST_INODE + (block - FIRST_FILE_BLOCK) / FILE_BLOCKS) else Buf (BLOCK_SECTORS * block)) ≡ last
  by_test true = refl
  by_test false = refl

blocks_good : (uuid : List ℕ) (last : ℕ) (blocks : List Changed) (order : List ℕ) → AllByRecursion (IsWholeChange uuid) blocks
    → AllByRecursion (λ (i : ℕ). i < length blocks) order → ItemsAreGood uuid last (logged_in blocks (map (block_entry blocks) order))
blocks_good uuid last blocks [] whole places = tt
blocks_good uuid last blocks (i ∷ order) whole places =
    let good = good_change uuid last (block_at blocks i) (image_at blocks i) (change_at (IsWholeChange uuid) blocks i whole places.0) (block_item (block_at blocks i)) refl in (
      good,
      subst (λ (n : ℕ). ItemsAreGood uuid n (logged_in blocks (map (block_entry blocks) order))) (sym (no_intent last (block_at blocks i)))
          (blocks_good uuid last blocks order whole places.1),
    )

last_of-blocks : (last : ℕ) (blocks : List Changed) (order : List ℕ) → last_of last (logged_in blocks (map (block_entry blocks) order)) ≡ last
last_of-blocks last blocks [] = refl
last_of-blocks last blocks (i ∷ order) =
    ap (λ (n : ℕ). last_of n (logged_in blocks (map (block_entry blocks) order))) (no_intent last (block_at blocks i)) ∙ last_of-blocks last blocks order

-- New works

begun_good : (uuid : List ℕ) (last next : ℕ) (blocks : List Changed) (works : List Work) → last < next → 1 ≤ next → next + length works ≤ IDS
    → AllByRecursion IsWork works → ItemsAreGood uuid last (logged_in blocks (begun_items next works))
begun_good uuid last next blocks [] rises some most valid = tt
begun_good uuid last next blocks (work ∷ works) rises some most valid = (
  (record { valid = ((some, omega (arith, most)), valid.0); rises = rises; followed = refl }),
  begun_good uuid next (suc next) blocks works (omega arith) (omega arith) (omega (arith, most)) valid.1,
)

-- all of it
pub good_plan : (uuid : List ℕ) (last next : ℕ) (table : List Slotted) (trans : TransView) → last < next → 1 ≤ next → next + length trans.works ≤ IDS
    → AllByRecursion IsEntry table → AllByRecursion (IsWholeChange uuid) trans.blocks
    → AllByRecursion (λ (i : ℕ). i < length trans.blocks) (rising trans.blocks (length trans.blocks)) → AllByRecursion IsWork trans.works
    → ItemsAreGood uuid last (logged_in trans.blocks (planned table next trans))
good_plan uuid last next table trans rises some most entries whole places valid =
    let done : List Planned = map done_item (ended_in table trans.done) in
    let order : List ℕ = rising trans.blocks (length trans.blocks) in
    let changed : List Planned = map (block_entry trans.blocks) order in
    let begun : List Planned = begun_items next trans.works in
    let L = logged_in trans.blocks in
    let third : ItemsAreGood uuid (last_of (last_of last (L done)) (L changed)) (L begun) =
    subst (λ (n : ℕ). ItemsAreGood uuid n (L begun))
    (sym (last_of-blocks (last_of last (L done)) trans.blocks order ∙ last_of-done last trans.blocks (ended_in table trans.done)))
    (begun_good uuid last next trans.blocks trans.works rises some most valid) in
    let both : ItemsAreGood uuid last (L done ++ L changed) =
    good_append uuid last (L done) (L changed) (done_good uuid last trans.blocks (ended_in table trans.done) (ended_has IsEntry table trans.done entries))
    (blocks_good uuid (last_of last (L done)) trans.blocks order whole places) in
    subst (ItemsAreGood uuid last)
    (sym (logged_in-append trans.blocks (done ++ changed) begun ∙ ap (λ (ls : List Logged). ls ++ L begun) (logged_in-append trans.blocks done changed)))
    (good_append uuid last (L done ++ L changed) (L begun) both
    (subst (λ (n : ℕ). ItemsAreGood uuid n (L begun)) (sym (last_of-append last (L done) (L changed))) third))
