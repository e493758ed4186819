-- The rows below some blocks: how often a block stands in them, what they are where blocks hold the same, and changes of what stands under
-- a block: none, and one after another.
use Rattle.std.proofs.Common.{⊎_elim, ◌≡◌, ℕ, ◌+◌, ◌≤◌, false, List, [], ◌∷◌, ◌++◌, refl, ap, ◌∙◌, arith, zero, suc, None, map, sym, subst, length, append-nil, flat_map}
use Rattle.std.proofs.lemmas.List.Concat.{flat_map-append}
use Rattle.std.proofs.lemmas.Bool.{cases_eq}
use Rattle.xr_block.specs.TimesLaws.{times_of, times_other, times_same, times-append}
use Rattle.xr_kinds.specs.Form.{Form}
use Rattle.xr_block.specs.FrameLaws.{are_rows_same, flat_map_same, linked_same}
use Rattle.xr_pool.specs.Overlay.{Blocks, is_free, block_at, pool_size}
use Rattle.xr_block.specs.Rows.{min_records, AreNamed, AreRowsOf, IsWhole, IsWholeLeaf, IsWholeNode, key_held, key_of_entries, key_of_records, leaves_from, named_below, rows_from}
use Rattle.xr_block.specs.Times.{times}
use Rattle.xr_block.specs.Tree.{IsUsed, blocks_of, records_of, site_of, tree_held}
use Rattle.xr_block.specs.TreeBlock.{Entry, Place, entries_in, records_in}
use Rattle.xr_change.specs.Alters.{Alters, AreRowsIn, HoldsSame, IsSamePool, IsUntouched, Takes}
use Rattle.xr_change.specs.Paths.{item_count}

pub same_or_other : {P : Type 0} (m n : ℕ) → (m ≡ n → P) → ((m ≡ n → ⊥) → P) → P
same_or_other m n same other = ⊎_elim same other (cases_eq m n)

-- a number that doesn't stand in a list of one is another one
pub not_alone : (m n : ℕ) → times m (n ∷ []) ≡ 0 → m ≡ n → ⊥
not_alone m n none is = absurd (omega (arith, rw is at none, times_same n []))

pub used_still : (a b : Blocks) (m : ℕ) → IsSamePool a b → is_free b m ≡ false → IsUsed (is_free a) (pool_size a) m → IsUsed (is_free b) (pool_size b) m
used_still a b m same taken used = record { from = used.from; below = omega (arith, used.below, same.pool); taken = taken }

-- a block that was given other items is whole at its place
pub whole_given : {I : Type 0} (least most : ℕ) (made : Place → List I → List ℕ) (was now : ℕ → List I) (at at' : ℕ → List ℕ) (n : ℕ) (items : List I) (place : Place)
    → place.number ≡ n → now n ≡ items → (at n ≡ made place (was n) → at' n ≡ made place items) → (least ≤ length (was n) → least ≤ length items) → length items ≤ most
    → IsWhole least most made (was place.number) place (at place.number) → IsWhole least most made (now place.number) place (at' place.number)
whole_given least most made was now at at' n items place is holds block many few whole =
    let whole_n : IsWhole least most made (was n) place (at n) = subst (λ (m : ℕ). IsWhole least most made (was m) place (at m)) is whole in
    subst (λ (m : ℕ). IsWhole least most made (now m) place (at' m)) (sym is)
    (record {
      whole = block whole_n.whole ∙ ap (made place) (sym holds);
      least_items = omega (arith, many whole_n.least_items, ap length holds);
      most_items = omega (arith, few, ap length holds);
    })

-- the blocks that some name
abbrev pub children : {X : Type 0} → Form X → Blocks → List ℕ → List ℕ
children form b row = flat_map (named_below (tree_held form b)) row

module _ {X : Type 0} (form : Form X) (b : Blocks) where
  pub times_leaves : (n : ℕ) (row : List ℕ) → times n (blocks_of form b zero row) ≡ times n row
  unfolding rows_from
  times_leaves n row = ap (times n) (append-nil row)

  pub times_below : (n level : ℕ) (row : List ℕ) → times n (blocks_of form b (suc level) row) ≡ times n row + times n (blocks_of form b level (children form b row))
  unfolding rows_from
  times_below n level row = times-append n row (blocks_of form b level (children form b row))

  pub times_blocks_append : (n level : ℕ) (xs ys : List ℕ) → times n (blocks_of form b level (xs ++ ys)) ≡ times n (blocks_of form b level xs) + times n (blocks_of form b level ys)
  times_blocks_append n zero xs ys = omega (arith, times_leaves n (xs ++ ys), times_leaves n xs, times_leaves n ys, times-append n xs ys)
  times_blocks_append n (suc level) xs ys =
      let split = ap (λ (row : List ℕ). times n (blocks_of form b level row)) (flat_map-append (named_below (tree_held form b)) xs ys) in
      omega (arith, split, times_blocks_append n level (children form b xs) (children form b ys), times-append, times_below)

  -- blocks of a row between others
  pub times_parts : (n level : ℕ) (pre mid post : List ℕ)
      → times n (blocks_of form b level (pre ++ (mid ++ post)))
      ≡ times n (blocks_of form b level pre) + (times n (blocks_of form b level mid) + times n (blocks_of form b level post))
  times_parts n level pre mid post = omega (arith, times_blocks_append n level pre (mid ++ post), times_blocks_append n level mid post)

  -- a row is the first of those from it on down
  pub times_row : (n level : ℕ) (row : List ℕ) → times n row ≤ times n (blocks_of form b level row)
  times_row n zero row = omega (arith, times_leaves n row)
  times_row n (suc level) row = omega (arith, times_below n level row)

  pub records_append : (level : ℕ) (xs ys : List ℕ) → records_of form b level (xs ++ ys) ≡ records_of form b level xs ++ records_of form b level ys
  unfolding leaves_from
  records_append zero xs ys = flat_map-append (tree_held form b).records xs ys
  records_append (suc level) xs ys = rw (flat_map-append (named_below (tree_held form b)) xs ys) (records_append level (children form b xs) (children form b ys))

  pub records_below : (level : ℕ) (row : List ℕ) → records_of form b (suc level) row ≡ records_of form b level (children form b row)
  unfolding leaves_from
  records_below level row = refl

  -- the blocks and the records under a node, by some of its children
  module _ (level n : ℕ) (front mid after : List ℕ) (named : named_below (tree_held form b) n ≡ front ++ (mid ++ after)) where
    children_alone : children form b (n ∷ []) ≡ front ++ (mid ++ after)
    children_alone = append-nil (named_below (tree_held form b) n) ∙ named

    pub times_under : (m : ℕ)
        → times m (blocks_of form b (suc level) (n ∷ []))
        ≡ times m (n ∷ []) + (times m (blocks_of form b level front) + (times m (blocks_of form b level mid) + times m (blocks_of form b level after)))
    times_under m =
        omega (arith, times_below m level (n ∷ []), ap (λ (row : List ℕ). times m (blocks_of form b level row)) children_alone, times_parts m level front mid after)

    pub records_under_node : records_of form b (suc level) (n ∷ []) ≡ records_of form b level front ++ (records_of form b level mid ++ records_of form b level after)
    records_under_node = records_below level (n ∷ []) ∙ rw (children_alone, records_append level front (mid ++ after), records_append level mid after) refl

  -- the rows below a row
  pub below : (least level : ℕ) (row : List ℕ) → AreRowsIn form b least (suc level) row → AreRowsIn form b (min_records form level) level (children form b row)
  unfolding AreRowsOf
  below least level row known = record {
    rows = known.rows.2;
    once = λ m. omega (arith, known.once m, times_below m level row);
    owned = λ m some. known.owned m (omega (arith, some, times_below m level row));
  }

  pub rows_named : (least level : ℕ) (row : List ℕ) → AreRowsIn form b least (suc level) row → AreNamed form (tree_held form b) level row
  unfolding AreRowsOf
  rows_named least level row known = known.rows.1

  -- blocks with more items than one bound have more than another
  linked_least : (least least' level : ℕ) (row : List ℕ)
      → ((m : ℕ) → 1 ≤ times m row → least ≤ item_count form b level m → least' ≤ item_count form b level m)
      → AreRowsOf form (site_of b) (block_at b) (tree_held form b) least level row
      → AreRowsOf form (site_of b) (block_at b) (tree_held form b) least' level row
  unfolding AreRowsOf
  linked_least least least' zero row many rows =
      linked_same form (block_at b) (block_at b) (IsWholeLeaf form (site_of b) (tree_held form b) least) (IsWholeLeaf form (site_of b) (tree_held form b) least') zero None row None
      (λ place within whole.
      record { whole = whole.whole; least_items = many place.number (times_of row place.number within) whole.least_items; most_items = whole.most_items }) rows
  linked_least least least' (suc level) row many rows = (
    linked_same form (block_at b) (block_at b) (IsWholeNode form (site_of b) (tree_held form b) least) (IsWholeNode form (site_of b) (tree_held form b) least') (suc level) None row None
        (λ place within whole.
        record { whole = whole.whole; least_items = many place.number (times_of row place.number within) whole.least_items; most_items = whole.most_items }) rows.0,
    rows.1,
    rows.2,
  )

  pub least_down : (least least' level : ℕ) (row : List ℕ) → AreRowsIn form b least level row
      → ((m : ℕ) → 1 ≤ times m row → least ≤ item_count form b level m → least' ≤ item_count form b level m) → AreRowsIn form b least' level row
  least_down least least' level row known many = record { rows = linked_least least least' level row many known.rows; once = known.once; owned = known.owned }

  pub least_less : (least least' level : ℕ) (row : List ℕ) → AreRowsIn form b least level row → least' ≤ least → AreRowsIn form b least' level row
  least_less least least' level row known less = least_down least least' level row known (λ m some many. omega (arith, less, many))

  pub least_alone : (least least' level n : ℕ) → AreRowsIn form b least level (n ∷ []) → least' ≤ item_count form b level n → AreRowsIn form b least' level (n ∷ [])
  least_alone least least' level n known many =
      least_down least least' level (n ∷ []) known (λ m some before.
      same_or_other n m (λ same. rw (← same) many) (λ other. absurd (omega (arith, some, times_other m n [] other))))

module _ {X : Type 0} (form : Form X) (a b : Blocks) where
  -- each of some blocks holds in b what it holds in a
  abbrev pub HoldSame : List ℕ → Type 0
  HoldSame blocks = (m : ℕ) → 1 ≤ times m blocks → HoldsSame form a b m

  -- a block of the same bytes holds the same
  pub holds_same : (m : ℕ) → block_at b m ≡ block_at a m → HoldsSame form a b m
  holds_same m same = record { same_records = ap (records_in form) same; same_entries = ap (entries_in form) same }

  pub key_same : (level m : ℕ) → HoldsSame form a b m → key_held form (tree_held form b) level m ≡ key_held form (tree_held form a) level m
  unfolding key_held
  key_same zero m same = ap (key_of_records form) same.same_records
  key_same (suc level) m same = ap (key_of_entries form) same.same_entries

  below_same : (level : ℕ) (row : List ℕ) → HoldSame (blocks_of form a (suc level) row)
      → (children form b row ≡ children form a row) × HoldSame (blocks_of form a level (children form a row))
  below_same level row same = (
    flat_map_same (named_below (tree_held form b)) (named_below (tree_held form a)) row
        (λ m within. ap (map (λ (e : Entry). e.child)) (same m (omega (arith, times_of row m within, times_below form a m level row))).same_entries),
    λ m some. same m (omega (arith, some, times_below form a m level row)),
  )

  -- where all blocks of the rows from one on down hold the same, these rows are the same
  pub blocks_same : (level : ℕ) (row : List ℕ) → HoldSame (blocks_of form a level row) → blocks_of form b level row ≡ blocks_of form a level row
  unfolding rows_from
  blocks_same zero row same = refl
  blocks_same (suc level) row same =
      let down = below_same level row same in ap (λ (blocks : List ℕ). row ++ blocks) (ap (blocks_of form b level) down.0 ∙ blocks_same level (children form a row) down.1)

  pub records_same : (level : ℕ) (row : List ℕ) → HoldSame (blocks_of form a level row) → records_of form b level row ≡ records_of form a level row
  unfolding leaves_from
  records_same zero row same =
      flat_map_same (tree_held form b).records (tree_held form a).records row
      (λ m within. (same m (omega (arith, times_leaves form a m row, times_of row m within))).same_records)
  records_same (suc level) row same =
      let down = below_same level row same in ap (records_of form b level) down.0 ∙ records_same level (children form a row) down.1

  -- rows stay where their blocks have the same bytes and aren't free
  pub rows_stay : (least level : ℕ) (row : List ℕ) → AreRowsIn form a least level row → IsSamePool a b
      → ((m : ℕ) → 1 ≤ times m (blocks_of form a level row) → (block_at b m ≡ block_at a m) × (is_free b m ≡ false)) → AreRowsIn form b least level row
  rows_stay least level row known pool stay =
      let same = blocks_same level row (λ m some. holds_same m (stay m some).0) in
      record {
        rows = rw pool.site (are_rows_same form (block_at a) (block_at b) (site_of a) least level row
            (λ m within. (stay m (times_of (blocks_of form a level row) m within)).0) known.rows);
        once = λ m. rw same (known.once m);
        owned = λ m some.
            let there : 1 ≤ times m (blocks_of form a level row) = omega (arith, some, ap (times m) same) in
            used_still a b m pool (stay m there).1 (known.owned m there);
      }

pub pool_then : (a b c : Blocks) → IsSamePool a b → IsSamePool b c → IsSamePool a c
pool_then a b c one two = record {
  site = two.site ∙ one.site;
  pool = two.pool ∙ one.pool;
  kept = two.kept ∙ one.kept;
  kept_free = two.kept_free ∙ one.kept_free;
}

pub pool_same : (a : Blocks) → IsSamePool a a
pool_same a = record { site = refl; pool = refl; kept = refl; kept_free = refl }

pub untouched_then : (a b c : Blocks) (m : ℕ) → IsUntouched a b m → IsUntouched b c m → IsUntouched a c m
untouched_then a b c m one two = record { bytes = two.bytes ∙ one.bytes; mark = two.mark ∙ one.mark }

pub untouched_same : (a : Blocks) (m : ℕ) → IsUntouched a a m
untouched_same a m = record { bytes = refl; mark = refl }

pub holds_then : {X : Type 0} (form : Form X) (a b c : Blocks) (m : ℕ) → HoldsSame form a b m → HoldsSame form b c m → HoldsSame form a c m
holds_then form a b c m one two = record { same_records = two.same_records ∙ one.same_records; same_entries = two.same_entries ∙ one.same_entries }

-- blocks beside some in their row keep all below them
module _ {X : Type 0} (form : Form X) (a b : Blocks) (level : ℕ) (old new : List ℕ)
    (held : (m : ℕ) → is_free a m ≡ false → times m (blocks_of form a level old) ≡ 0 → HoldsSame form a b m × (is_free b m ≡ false) × (times m (blocks_of form b level new) ≡ 0))
    (least : ℕ) (pre post : List ℕ) (known : AreRowsIn form a least level (pre ++ (old ++ post))) where
  pub held_beside : (m : ℕ) → 1 ≤ times m (blocks_of form a level pre) + times m (blocks_of form a level post)
      → HoldsSame form a b m × (is_free b m ≡ false) × (times m (blocks_of form b level new) ≡ 0)
  held_beside m some =
      let parts = times_parts form a m level pre old post in
      let used = known.owned m (omega (arith, some, parts)) in held m used.taken (omega (arith, some, parts, known.once m))

  -- the blocks of a row after the change
  pub times_after : (m : ℕ)
      → times m (blocks_of form b level (pre ++ (new ++ post)))
      ≡ times m (blocks_of form a level pre) + (times m (blocks_of form b level new) + times m (blocks_of form a level post))
  times_after m =
      let before = ap (times m) (blocks_same form a b level pre (λ k some. (held_beside k (omega (arith, some))).0)) in
      let after = ap (times m) (blocks_same form a b level post (λ k some. (held_beside k (omega (arith, some))).0)) in
      omega (arith, times_parts form b m level pre new post, before, after)

  -- what stands in no row from these blocks on down doesn't come in
  pub still_out : (m : ℕ) → is_free a m ≡ false → times m (blocks_of form a level (pre ++ (old ++ post))) ≡ 0
      → (is_free b m ≡ false) × (times m (blocks_of form b level (pre ++ (new ++ post))) ≡ 0)
  still_out m used out =
      let parts = times_parts form a m level pre old post in
      let kept = held m used (omega (arith, out, parts)) in (kept.1, omega (arith, out, parts, kept.2, times_after m))

module _ {X : Type 0} (form : Form X) where
  pub alters_same : (a : Blocks) (floor level n : ℕ) → Alters form a a floor level n
  alters_same a floor level n = record {
    same = pool_same a;
    rows = λ least pre post low known. known;
    held = λ m used out. (holds_same form a a m refl, used, out);
    untouched = λ least pre post low known m used out. untouched_same a m;
    freed = λ m some none. absurd (omega (arith, some, none));
    spare = λ m free out. free;
  }

  pub alters_then : (a b c : Blocks) (floor level n : ℕ) → Alters form a b floor level n → Alters form b c floor level n → Alters form a c floor level n
  alters_then a b c floor level n one two = record {
    same = pool_then a b c one.same two.same;
    rows = λ least pre post low known. two.rows least pre post low (one.rows least pre post low known);
    held = λ m used out.
        let first = one.held m used out in
        let second = two.held m first.1 first.2 in (holds_then form a b c m first.0 second.0, second.1, second.2);
    untouched = λ least pre post low known m used out.
        let still = still_out form a b level (n ∷ []) (n ∷ []) one.held least pre post known m used out in
        untouched_then a b c m (one.untouched least pre post low known m used out)
        (two.untouched least pre post low (one.rows least pre post low known) m still.0 still.1);
    freed = λ m some none. same_or_other (times m (blocks_of form b level (n ∷ []))) 0
        (λ gone. two.spare m (one.freed m some gone) none)
        (λ between. two.freed m (omega (arith, between)) none);
    spare = λ m free out. same_or_other (times m (blocks_of form b level (n ∷ []))) 0
        (λ never. two.spare m (one.spare m free never) out)
        (λ between. two.freed m (omega (arith, between)) out);
  }

  pub alters_takes : (a b : Blocks) (level n : ℕ) → Alters form a b (min_records form level) level n → Takes form a b level (n ∷ []) (n ∷ [])
  alters_takes a b level n one = record {
    same = one.same;
    rows = λ pre post. one.rows (min_records form level) pre post (omega arith);
    held = one.held;
    untouched = λ pre post. one.untouched (min_records form level) pre post (omega arith);
    freed = one.freed;
    spare = one.spare;
  }
