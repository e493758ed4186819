-- What the items of a plan make of each block: the image that the transaction has of it.
use Rattle.std.proofs.Common.{◌≡◌, ◌≢◌, ℕ, zero, suc, ◌+◌, ◌*◌, ◌-◌, ◌/◌, ◌<◌, ◌≤◌, Bool, true, false, ◌||◌, ◌==◌, List, [], ◌∷◌, ◌++◌, length, take, get_or, map, refl, sym, ap, subst, ◌∙◌, arith, inl, inr, eq-eqb}
use Rattle.std.specs.Prelude.{nat_lt, if◌then◌else◌}
use Rattle.std.specs.List.{AllByRecursion, AllPairs, list_any}
use Rattle.std.proofs.lemmas.Bool.{eqb-true, false≢true, ne_eqb}
use Rattle.std.proofs.lemmas.List.{append-nil, take_all}
use Rattle.xr_base.specs.declared.geometry.TheConstants.{BLOCK_BYTES, BLOCK_SECTORS, FILE_BLOCKS, FIRST_FILE_BLOCK, FIRST_INODE}
use Rattle.xr_headers.specs.Padded.{zero_padded}
use Rattle.xr_headers.specs.PaddedLaws.{zero_padded_is}
use Rattle.xr_headers.specs.HeaderValueLaws.{take-core_block}
use Rattle.xr_headers.specs.declared.layout.TheConstants.{CORE_BYTES}
use Rattle.xr_items.specs.declared.item.Item.{Item}
use Rattle.xr_items.specs.declared.trans.Logged.{Logged as Changed}
use Rattle.xr_items.specs.declared.work.Work.{Work}
use Rattle.xr_items.specs.Items.{following}
use Rattle.xr_items.specs.Transactions.{TransView}
use Rattle.xr_commit.specs.LoggedItems.{Logged}
use Rattle.xr_scan.specs.Replayed.{is_logged, logs_block, replayed}
use Rattle.xr_log.specs.declared.held.Slotted.{Slotted}
use Rattle.xr_log.specs.declared.transaction.Planned.{Planned}
use Rattle.xr_log.specs.States.{block_after}
use Rattle.xr_log.specs.TransactionItems.{begun_items, block_at, block_entry, block_item, done_item, ended_in, image_at, logged_in, placed_among, planned, rising}
use Rattle.xr_log.proofs.GoodPlanLemmas.{IsWholeChange, all_append, buffer_item, change_at, core_item, logged_in-append}

-- The places of blocks are all of them, each below their number

all_among : (P : ℕ → Type 0) (blocks : List Changed) (i : ℕ) (order : List ℕ) → P i → AllByRecursion P order → AllByRecursion P (placed_among blocks i order)
all_among P blocks i [] here all = (here, tt)
all_among P blocks i (j ∷ order) here all = by_test (nat_lt (block_at blocks i) (block_at blocks j)) (all_among P blocks i order here all.1) where
  by_test : (b : Bool) → AllByRecursion P (placed_among blocks i order) → AllByRecursion P (if b then (i ∷ j ∷ order) else (j ∷ placed_among blocks i order))
  by_test true rest = (here, all)
  by_test false rest = (all.0, rest)

weaker : (m n : ℕ) (order : List ℕ) → m ≤ n → AllByRecursion (λ (i : ℕ). i < m) order → AllByRecursion (λ (i : ℕ). i < n) order
weaker m n [] le all = tt
weaker m n (i ∷ order) le all = (let below = all.0 in omega (arith, le, below), weaker m n order le all.1)

pub places_below : (blocks : List Changed) (n : ℕ) → AllByRecursion (λ (i : ℕ). i < n) (rising blocks n)
unfolding rising
places_below blocks zero = tt
places_below blocks (suc n) =
    all_among (λ (i : ℕ). i < suc n) blocks n (rising blocks n) (omega arith) (weaker n (suc n) (rising blocks n) (omega arith) (places_below blocks n))

or_swap : (a b c : Bool) → (a || (b || c)) ≡ (b || (a || c))
or_swap true true c = refl
or_swap true false c = refl
or_swap false b c = refl

any_among : (p : ℕ → Bool) (blocks : List Changed) (i : ℕ) (order : List ℕ) → list_any p (placed_among blocks i order) ≡ (p i || list_any p order)
any_among p blocks i [] = refl
any_among p blocks i (j ∷ order) = by_test (nat_lt (block_at blocks i) (block_at blocks j)) (any_among p blocks i order) where
  by_test : (b : Bool) → list_any p (placed_among blocks i order) ≡ (p i || list_any p order)
      → list_any p (if b then (i ∷ j ∷ order) else (j ∷ placed_among blocks i order)) ≡ (p i || (p j || list_any p order))
  by_test true rest = refl
  by_test false rest = ap (λ (b : Bool). p j || b) rest ∙ or_swap (p j) (p i) (list_any p order)

or_comm : (a b : Bool) → (a || b) ≡ (b || a)
or_comm true true = refl
or_comm true false = refl
or_comm false true = refl
or_comm false false = refl

abbrev is_block : ℕ → Changed → Bool
is_block block l = l.block == block

any_take : (block : ℕ) (blocks : List Changed) (n : ℕ) → n < length blocks
    → list_any (is_block block) (take (suc n) blocks) ≡ ((block_at blocks n == block) || list_any (is_block block) (take n blocks))
any_take block [] n below = absurd (omega (arith, below))
any_take block (l ∷ ls) zero below = refl
any_take block (l ∷ ls) (suc n) below =
    ap (λ (b : Bool). (l.block == block) || b) (any_take block ls n (omega (arith, below)))
    ∙ or_swap (l.block == block) (block_at ls n == block) (list_any (is_block block) (take n ls))

any_rising : (block : ℕ) (blocks : List Changed) (n : ℕ) → n ≤ length blocks
    → list_any (λ (i : ℕ). block_at blocks i == block) (rising blocks n) ≡ list_any (is_block block) (take n blocks)
unfolding rising
any_rising block blocks zero within = refl
any_rising block blocks (suc n) within =
    any_among (λ (i : ℕ). block_at blocks i == block) blocks n (rising blocks n)
    ∙ ap (λ (b : Bool). (block_at blocks n == block) || b) (any_rising block blocks n (omega (arith, within)))
    ∙ sym (any_take block blocks n (omega (arith, within)))

-- The image of a block

abbrev GivesOnly : ℕ → List ℕ → Logged → Type 0
GivesOnly block image l = logs_block block l.item ≡ true → zero_padded BLOCK_BYTES l.bytes ≡ image

-- where all items that log a block have one image of it, it is that, or as it was
one_image : (block : ℕ) (image : List ℕ) (ls : List Logged) (bytes : List ℕ) → AllByRecursion (GivesOnly block image) ls
    → replayed block bytes ls ≡ (if is_logged block ls then image else bytes)
one_image block image [] bytes all = refl
one_image block image (l ∷ ls) bytes all =
    by_test (logs_block block l.item) all.0 (λ (now : List ℕ). one_image block image ls now all.1) where
      both : (b : Bool) → (if b then image else image) ≡ image
      both true = refl
      both false = refl

      by_test : (b : Bool) → (b ≡ true → zero_padded BLOCK_BYTES l.bytes ≡ image) → ((now : List ℕ) → replayed block now ls ≡ (if is_logged block ls then image else now))
          → replayed block (if b then zero_padded BLOCK_BYTES l.bytes else bytes) ls ≡ (if (b || is_logged block ls) then image else bytes)
      by_test true is rest =
          rest (zero_padded BLOCK_BYTES l.bytes) ∙ ap (λ (now : List ℕ). if is_logged block ls then image else now) (is refl) ∙ both (is_logged block ls)
      by_test false is rest = rest bytes

after_none : (block : ℕ) (blocks : List Changed) (bytes others : List ℕ)
    → block_after block blocks bytes ≡ (if list_any (is_block block) blocks then block_after block blocks others else bytes)
after_none block [] bytes others = refl
after_none block (l ∷ ls) bytes others = by_test (l.block == block) (after_none block ls bytes others) where
  by_test : (b : Bool) → block_after block ls bytes ≡ (if list_any (is_block block) ls then block_after block ls others else bytes)
      → (if b then l.image else block_after block ls bytes) ≡ (if (b || list_any (is_block block) ls) then (if b then l.image else block_after block ls others) else bytes)
  by_test true rest = refl
  by_test false rest = rest

later_pairs : (l : Changed) (ls : List Changed) → AllPairs (λ (one two : Changed). one.block ≢ two.block) (l ∷ ls) → AllPairs (λ (one two : Changed). one.block ≢ two.block) ls
later_pairs l ls apart = λ i j d before within. apart (suc i) (suc j) d (omega (arith, before)) (omega (arith, within))

block_at-get : (blocks : List Changed) (i : ℕ) (d : Changed) → i < length blocks → (get_or blocks i d).block ≡ block_at blocks i
block_at-get [] i d below = absurd (omega (arith, below))
block_at-get (l ∷ ls) zero d below = refl
block_at-get (l ∷ ls) (suc i) d below = block_at-get ls i d (omega (arith, below))

-- no two are of one block
only_image : (block : ℕ) (blocks : List Changed) (i : ℕ) (bytes : List ℕ) → AllPairs (λ (one two : Changed). one.block ≢ two.block) blocks → i < length blocks
    → block_at blocks i ≡ block → image_at blocks i ≡ block_after block blocks bytes
only_image block [] i bytes apart below is = absurd (omega (arith, below))
only_image block (l ∷ ls) zero bytes apart below is = sym (ap (λ (b : Bool). if b then l.image else block_after block ls bytes) (eq-eqb l.block block is))
only_image block (l ∷ ls) (suc i) bytes apart below is =
    let other : l.block ≢ block =
    (λ (same : l.block ≡ block). apart zero (suc i) l (omega arith) below (same ∙ sym is ∙ sym (block_at-get ls i l (omega (arith, below))))) in
    only_image block ls i bytes (later_pairs l ls apart) (omega (arith, below)) is
    ∙ sym (ap (λ (b : Bool). if b then l.image else block_after block ls bytes) (ne_eqb l.block block other))

-- The items of a plan

whole_pad : (image : List ℕ) → length image ≡ BLOCK_BYTES → zero_padded BLOCK_BYTES (take BLOCK_BYTES image) ≡ image
whole_pad image long =
    ap (zero_padded BLOCK_BYTES) (take_all BLOCK_BYTES image (omega (arith, long)))
    ∙ zero_padded_is BLOCK_BYTES 0 image (omega (arith, long)) ∙ append-nil image

change_logs : (uuid : List ℕ) (block : ℕ) (image : List ℕ) → IsWholeChange uuid (record { block = block; image = image }) → (n : ℕ)
    → logs_block n (block_item block) ≡ (block == n)
change_logs uuid block image (inl buffer, long, own) n =
    let back : (BLOCK_SECTORS * block) / BLOCK_SECTORS ≡ block = omega arith in
    ap (logs_block n) (buffer_item block buffer) ∙ ap (λ (m : ℕ). m == n) back
change_logs uuid block image (inr (core, image_is), long, own) n =
    let first = core.first in
    let rest = core.core in
    let back : FIRST_FILE_BLOCK + FILE_BLOCKS * ((FIRST_INODE + (block - FIRST_FILE_BLOCK) / FILE_BLOCKS) - FIRST_INODE) ≡ block = omega (arith, first, rest) in
    ap (logs_block n) (core_item block core) ∙ ap (λ (m : ℕ). m == n) back

change_pads : (uuid : List ℕ) (block : ℕ) (image : List ℕ) → IsWholeChange uuid (record { block = block; image = image })
    → zero_padded BLOCK_BYTES (take (following (block_item block)) image) ≡ image
change_pads uuid block image (inl buffer, long, own) =
    ap (λ (it : Item). zero_padded BLOCK_BYTES (take (following it) image)) (buffer_item block buffer) ∙ whole_pad image long
change_pads uuid block image (inr (core, image_is), long, own) =
    ap (λ (it : Item). zero_padded BLOCK_BYTES (take (following it) image)) (core_item block core)
    ∙ ap (λ (xs : List ℕ). zero_padded BLOCK_BYTES (take CORE_BYTES xs)) image_is.is
    ∙ ap (zero_padded BLOCK_BYTES) (take-core_block image_is.core) ∙ sym image_is.is

done_gives : (block : ℕ) (image : List ℕ) (blocks : List Changed) (ended : List Slotted) → AllByRecursion (GivesOnly block image) (logged_in blocks (map done_item ended))
done_gives block image blocks [] = tt
done_gives block image blocks (s ∷ ended) = ((λ logs. absurd (false≢true logs)), done_gives block image blocks ended)

begun_gives : (block : ℕ) (image : List ℕ) (blocks : List Changed) (next : ℕ) (works : List Work) → AllByRecursion (GivesOnly block image) (logged_in blocks (begun_items next works))
begun_gives block image blocks next [] = tt
begun_gives block image blocks next (work ∷ works) = ((λ logs. absurd (false≢true logs)), begun_gives block image blocks (suc next) works)

change_gives : (uuid : List ℕ) (block : ℕ) (bytes : List ℕ) (blocks : List Changed) (order : List ℕ) → AllByRecursion (IsWholeChange uuid) blocks
    → AllPairs (λ (one two : Changed). one.block ≢ two.block) blocks → AllByRecursion (λ (i : ℕ). i < length blocks) order
    → AllByRecursion (GivesOnly block (block_after block blocks bytes)) (logged_in blocks (map (block_entry blocks) order))
change_gives uuid block bytes blocks [] whole apart places = tt
change_gives uuid block bytes blocks (i ∷ order) whole apart places =
    let change = change_at (IsWholeChange uuid) blocks i whole places.0 in (
      (λ logs. change_pads uuid (block_at blocks i) (image_at blocks i) change
          ∙ only_image block blocks i bytes apart places.0
          (eqb-true (block_at blocks i) block (sym (change_logs uuid (block_at blocks i) (image_at blocks i) change block) ∙ logs))),
      change_gives uuid block bytes blocks order whole apart places.1,
    )

done_logs : (block : ℕ) (blocks : List Changed) (ended : List Slotted) → is_logged block (logged_in blocks (map done_item ended)) ≡ false
done_logs block blocks [] = refl
done_logs block blocks (s ∷ ended) = done_logs block blocks ended

begun_logs : (block : ℕ) (blocks : List Changed) (next : ℕ) (works : List Work) → is_logged block (logged_in blocks (begun_items next works)) ≡ false
begun_logs block blocks next [] = refl
begun_logs block blocks next (work ∷ works) = begun_logs block blocks (suc next) works

changes_log : (uuid : List ℕ) (block : ℕ) (blocks : List Changed) (order : List ℕ) → AllByRecursion (IsWholeChange uuid) blocks
    → AllByRecursion (λ (i : ℕ). i < length blocks) order
    → is_logged block (logged_in blocks (map (block_entry blocks) order)) ≡ list_any (λ (i : ℕ). block_at blocks i == block) order
changes_log uuid block blocks [] whole places = refl
changes_log uuid block blocks (i ∷ order) whole places =
    ap (λ (b : Bool). b || is_logged block (logged_in blocks (map (block_entry blocks) order)))
    (change_logs uuid (block_at blocks i) (image_at blocks i) (change_at (IsWholeChange uuid) blocks i whole places.0) block)
    ∙ ap (λ (b : Bool). (block_at blocks i == block) || b) (changes_log uuid block blocks order whole places.1)

pub any_append : (block : ℕ) (xs ys : List Logged) → is_logged block (xs ++ ys) ≡ (is_logged block xs || is_logged block ys)
any_append block [] ys = refl
any_append block (x ∷ xs) ys = ap (λ (b : Bool). logs_block block x.item || b) (any_append block xs ys) ∙ or_left (logs_block block x.item) (is_logged block xs) (is_logged block ys) where
  or_left : (a b c : Bool) → (a || (b || c)) ≡ ((a || b) || c)
  or_left true b c = refl
  or_left false b c = refl

or_none : (b : Bool) → (b || false) ≡ b
or_none true = refl
or_none false = refl

-- which blocks a plan logs
pub plan_logs : (uuid : List ℕ) (block : ℕ) (table : List Slotted) (next : ℕ) (trans : TransView) → AllByRecursion (IsWholeChange uuid) trans.blocks
    → is_logged block (logged_in trans.blocks (planned table next trans)) ≡ list_any (is_block block) trans.blocks
plan_logs uuid block table next trans whole =
    let n = length trans.blocks in
    let order : List ℕ = rising trans.blocks n in
    let done : List Planned = map done_item (ended_in table trans.done) in
    let changed : List Planned = map (block_entry trans.blocks) order in
    let begun : List Planned = begun_items next trans.works in
    let L = logged_in trans.blocks in
    ap (is_logged block) (logged_in-append trans.blocks (done ++ changed) begun ∙ ap (λ (ls : List Logged). ls ++ L begun) (logged_in-append trans.blocks done changed))
    ∙ any_append block (L done ++ L changed) (L begun) ∙ ap (λ (b : Bool). b || is_logged block (L begun)) (any_append block (L done) (L changed))
    ∙ ap (λ (b : Bool). (b || is_logged block (L changed)) || is_logged block (L begun)) (done_logs block trans.blocks (ended_in table trans.done))
    ∙ ap (λ (b : Bool). is_logged block (L changed) || b) (begun_logs block trans.blocks next trans.works) ∙ or_none (is_logged block (L changed))
    ∙ changes_log uuid block trans.blocks order whole (places_below trans.blocks n)
    ∙ any_rising block trans.blocks n (omega arith) ∙ ap (list_any (is_block block)) (take_all n trans.blocks (omega arith))

-- what it makes of each
pub plan_replays : (uuid : List ℕ) (block : ℕ) (bytes : List ℕ) (table : List Slotted) (next : ℕ) (trans : TransView) → AllByRecursion (IsWholeChange uuid) trans.blocks
    → AllPairs (λ (one two : Changed). one.block ≢ two.block) trans.blocks
    → replayed block bytes (logged_in trans.blocks (planned table next trans)) ≡ block_after block trans.blocks bytes
plan_replays uuid block bytes table next trans whole apart =
    let n = length trans.blocks in
    let done : List Planned = map done_item (ended_in table trans.done) in
    let changed : List Planned = map (block_entry trans.blocks) (rising trans.blocks n) in
    let begun : List Planned = begun_items next trans.works in
    let L = logged_in trans.blocks in
    let image : List ℕ = block_after block trans.blocks bytes in
    let are : L done ++ L changed ++ L begun ≡ L (planned table next trans) =
    sym (logged_in-append trans.blocks (done ++ changed) begun ∙ ap (λ (ls : List Logged). ls ++ L begun) (logged_in-append trans.blocks done changed)) in
    let gives : AllByRecursion (GivesOnly block image) (L (planned table next trans)) =
    subst (AllByRecursion (GivesOnly block image)) are
    (all_append (GivesOnly block image) (L done ++ L changed) (L begun)
    (all_append (GivesOnly block image) (L done) (L changed) (done_gives block image trans.blocks (ended_in table trans.done))
    (change_gives uuid block bytes trans.blocks (rising trans.blocks n) whole apart (places_below trans.blocks n)))
    (begun_gives block image trans.blocks next trans.works)) in
    one_image block image (L (planned table next trans)) bytes gives
    ∙ ap (λ (b : Bool). if b then image else bytes) (plan_logs uuid block table next trans whole)
    ∙ sym (after_none block trans.blocks bytes bytes)
