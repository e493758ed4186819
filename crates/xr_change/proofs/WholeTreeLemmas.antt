-- A whole tree by its rows, what a change under its root leaves of it and of the pool, and a tree that gets a level more or one less.
use Rattle.std.proofs.Common.{◌≡◌, ℕ, zero, suc, ◌+◌, ◌^◌, ◌-◌, ◌*◌, ◌<◌, ◌≤◌, true, false, None, Some, List, [], ◌∷◌, ◌++◌, length, get_or, map, refl, sym, ap, ◌∙◌, subst, inl, inr, ⊎_elim, arith, slice_index_or}
use Rattle.std.proofs.lemmas.List.{length-map}
use Rattle.std.proofs.lemmas.Bool.{cases_Bool}
use Rattle.std.proofs.lemmas.Bool.Decides.{nat_tests}
use Rattle.std.specs.List.{Contains}
use Rattle.xr_block.specs.TimesLaws.{times_other, times_same, all_of, distinct_of, each_of, found_in, once_of, times_of}
use Rattle.xr_pool.specs.BitLaws.{bit_cleared, bit_cleared_other, bit_set, bit_set_other}
use Rattle.xr_block.specs.BlockLaws.{AreEntries}
use Rattle.xr_kinds.specs.Form.{Form, IsForm, key_size, pointer_size}
use Rattle.xr_block.specs.Frame.{ChangesOnly}
use Rattle.xr_block.specs.FrameLaws.{then_changes}
use Rattle.xr_pool.specs.Overlay.{AreBlocks, Blocks, block_at, is_free, pool_size, with_given, with_taken, AreKnown}
use Rattle.xr_block.specs.Rows.{AreLinked, AreNamed, AreRowsOf, min_records, named_below}
use Rattle.xr_block.specs.Times.{times}
use Rattle.xr_block.specs.Tree.{AreRecords, IsTreeIn, IsUsed, blocks_of, least_of_root, records_of, site_of, tree_held, tree_records, tree_blocks}
use Rattle.xr_block.specs.TreeBlock.{Entry, entries_in}
use Rattle.xr_change.proofs.DescentLemmas.{row_least}
use Rattle.xr_change.proofs.FullPathLemmas.{full_below, full_one, full_same}
use Rattle.xr_change.proofs.BlockInTreeLemmas.{one_more, leaf_alone}
use Rattle.xr_change.proofs.SameItemLemmas.{item_same}
use Rattle.xr_change.proofs.RowItemLemmas.{min_records_is, items_counted}
use Rattle.xr_change.proofs.SiblingLemmas.{names_small}
use Rattle.xr_change.proofs.RowBlockLemmas.{HoldSame, below, blocks_same, children, holds_same, key_same, least_alone, least_less, not_alone, records_below, records_same, pool_same, rows_stay, times_below, times_row, same_or_other, untouched_same}
use Rattle.xr_change.specs.SetLaws.{removed_rules}
use Rattle.xr_change.proofs.WriteLemmas.{more_free, taken_count, unmarked_few}
use Rattle.xr_change.specs.Alters.{AreRowsIn, HoldsSame, Alters, IsSamePool, IsUntouched}
use Rattle.xr_change.specs.Changes.{Changes}
use Rattle.xr_change.specs.Roots.{ShrinksRoot, GrowsRoot}
use Rattle.xr_change.specs.Regroups.{entry_for}
use Rattle.xr_change.specs.Sets.{removed}
use Rattle.xr_change.specs.Paths.{child_of, full_on_path, item_count, max_records, passing, path_index, HasSome, HasTwo, IsInTree}
use Rattle.xr_change.specs.Writes.{Writes}
use Rattle.xr_block.specs.EditLaws.{node_entries}
use Rattle.xr_block.specs.Edits.{IsNodeOf}
use Rattle.xr_block.specs.UnderLaws.{min_records_some}

none_of : (n : ℕ) (xs : List ℕ) → ¬ (Contains xs n) → times n xs ≡ 0
none_of n xs without = same_or_other (times n xs) 0
    (λ none. none)
    (λ some. absurd (without (found_in xs n (omega (arith, some)))))

pub root_few : (level : ℕ) → least_of_root level ≤ 2
root_few zero = omega arith
root_few (suc level) = omega arith

-- a block under which a record stands has an item
some_item : {X : Type 0} (form : Form X) (a : Blocks) (level n : ℕ) → least_of_root level ≤ item_count form a level n → (r : X) → Contains (tree_records form a n level) r
    → 1 ≤ item_count form a level n
some_item form a zero n least r found = omega (arith, (subst (λ (xs : List _). Contains xs r) (leaf_alone form a n) found).1)
some_item form a (suc level) n least r found = omega (arith, least)

-- a block with the items that a root of its level has, if it is a node, has two children, and one where an item is missing
pub two_if : {X : Type 0} (form : Form X) (b : Blocks) (level n : ℕ) → least_of_root level ≤ item_count form b level n → HasTwo form b level n
two_if form b zero n many = tt
two_if form b (suc level) n many = many

pub some_if : {X : Type 0} (form : Form X) (b : Blocks) (level n : ℕ) → least_of_root level ≤ item_count form b level n + 1 → HasSome form b level n
some_if form b zero n many = tt
some_if form b (suc level) n many = omega (arith, many)

module _ {X : Type 0} (form : Form X) where
  -- a tree is the rows from its root on down, with what is asked of its records
  pub tree_of_rows : (b : Blocks) (root level : ℕ) → AreRowsIn form b (least_of_root level) level (root ∷ []) → AreRecords form (tree_records form b root level)
      → IsTreeIn form b root level
  tree_of_rows b root level known records = record {
    rows = known.rows;
    records = records;
    distinct = distinct_of (blocks_of form b level (root ∷ [])) known.once;
    owned = all_of (IsUsed (is_free b) (pool_size b)) (blocks_of form b level (root ∷ [])) known.owned;
  }

  pub root_less : (laws : IsForm form) (level : ℕ) → least_of_root level ≤ min_records form level
  unfolding min_records
  root_less laws zero = omega arith
  root_less laws (suc level) = omega (arith, laws.node_some)

  pub root_in_row : (b : Blocks) (least level n : ℕ) → AreRowsIn form b least level (n ∷ []) → AreRecords form (tree_records form b n level) → IsInTree form b level n
  root_in_row b least level n rows rules = record { least = least; pre = []; post = []; rows = rows; valid = rules.valid; ascend = rules.ascend; agree = rules.agree }

  -- what a change leaves of the pool, by how often blocks stand in the tree
  pub frame_of : (a b : Blocks) → IsSamePool a b → (old new : List ℕ)
      → ((m : ℕ) → is_free a m ≡ false → times m old ≡ 0 → IsUntouched a b m × (is_free b m ≡ false) × (times m new ≡ 0))
      → ((m : ℕ) → 1 ≤ times m new → is_free b m ≡ false) → ((m : ℕ) → 1 ≤ times m old → times m new ≡ 0 → is_free b m ≡ true)
      → ((m : ℕ) → is_free a m ≡ true → times m new ≡ 0 → is_free b m ≡ true) → ChangesOnly a old b new
  frame_of a b same old new others taken freed spare = record {
    site = same.site;
    pool = same.pool;
    kept = same.kept;
    kept_free = same.kept_free;
    others = λ n used without.
        let beside = others n used (none_of n old without) in (beside.0.bytes, beside.1, λ found. absurd (omega (arith, beside.2, times_of new n found)));
    taken = λ n within. taken n (times_of new n within);
    freed = λ n within without. freed n (times_of old n within) (none_of n new without);
    spare = λ n free without. spare n free (none_of n new without);
    marked = λ n is. same_or_other (times n old) 0
        (λ out. ⊎_elim
        (λ (free : is_free a n ≡ true). inr (inr free))
        (λ (used : is_free a n ≡ false). let beside = others n used out in inl (sym beside.0.mark ∙ is))
        (cases_Bool (is_free a n)))
        (λ some. inr (inl (found_in old n (omega (arith, some)))));
  }

  -- a change under the root of a tree in its row, which leaves it a tree where its records keep the rules and its root has children enough
  module _ (a b : Blocks) (least lost level n : ℕ) (change : List X → List X) (rows : AreRowsIn form a least level (n ∷ [])) (low : least + lost ≤ item_count form a level n)
      (below : Changes form a b lost level n change) where
    one : Alters form a b least level n
    one = below.alters least low

    pub changed_rows : AreRowsIn form b least level (n ∷ [])
    changed_rows = one.rows least [] [] (omega arith) rows

    pub changed_least : least ≤ item_count form b level n
    changed_least = row_least form b least level [] n [] changed_rows

    pub changed_tree : AreRecords form (change (tree_records form a n level)) → least_of_root level ≤ item_count form b level n → IsTreeIn form b n level
    changed_tree rules many = tree_of_rows b n level (least_alone form b least (least_of_root level) level n changed_rows many) (subst (AreRecords form) (sym below.set) rules)

    pub changed_frame : ChangesOnly a (tree_blocks form a n level) b (tree_blocks form b n level)
    changed_frame =
        frame_of a b one.same (tree_blocks form a n level) (tree_blocks form b n level)
        (λ m used out. let held = one.held m used out in (one.untouched least [] [] (omega arith) rows m used out, held.1, held.2))
        (λ m some. (changed_rows.owned m some).taken) one.freed one.spare

  -- a tree's own root: it stands in its row, and has a child or two where it is a node
  module _ (a : Blocks) (level n : ℕ) (tree : IsTreeIn form a n level) where
    pub tree_rows : AreRowsIn form a (least_of_root level) level (n ∷ [])
    tree_rows = record {
      rows = tree.rows;
      once = once_of (blocks_of form a level (n ∷ [])) tree.distinct;
      owned = each_of (IsUsed (is_free a) (pool_size a)) (blocks_of form a level (n ∷ [])) tree.owned;
    }

    pub root_here : IsInTree form a level n
    root_here = root_in_row a (least_of_root level) level n tree_rows tree.records

    pub root_least : least_of_root level ≤ item_count form a level n
    root_least = row_least form a (least_of_root level) level [] n [] tree_rows

    -- a change that takes no item from the root
    pub tree_after : (b : Blocks) (change : List X → List X) → Changes form a b 0 level n change → AreRecords form (change (tree_records form a n level))
        → IsTreeIn form b n level × ChangesOnly a (tree_blocks form a n level) b (tree_blocks form b n level)
    tree_after b change below rules =
        let low : least_of_root level + 0 ≤ item_count form a level n = omega (arith, root_least) in (
          changed_tree a b (least_of_root level) 0 level n change tree_rows low below rules (changed_least a b (least_of_root level) 0 level n change tree_rows low below),
          changed_frame a b (least_of_root level) 0 level n change tree_rows low below,
        )

    -- a record less: the root may have too few children then
    module _ (b : Blocks) (r : X) (held : Contains (tree_records form a n level) r) (below : Changes form a b 1 level n (removed form.order r)) where
      loose : AreRowsIn form a (least_of_root level - 1) level (n ∷ [])
      loose = least_less form a (least_of_root level) (least_of_root level - 1) level (n ∷ []) tree_rows (omega arith)

      low : least_of_root level - 1 + 1 ≤ item_count form a level n
      low = omega (arith, root_least, some_item form a level n root_least r held)

      pub removed_some : HasSome form b level n
      removed_some = some_if form b level n (omega (arith, changed_least a b (least_of_root level - 1) 1 level n (removed form.order r) loose low below))

      pub split_rows : AreRowsIn form b 0 level (n ∷ [])
      split_rows = least_alone form b (least_of_root level - 1) 0 level n (changed_rows a b (least_of_root level - 1) 1 level n (removed form.order r) loose low below) (omega arith)

      pub removed_frame : (z : Blocks) (root' level' : ℕ) → ShrinksRoot form b z n level root' level' → ChangesOnly a (tree_blocks form a n level) z (tree_blocks form z root' level')
      removed_frame z root' level' shrink_root =
          then_changes a b z (tree_blocks form a n level) (tree_blocks form b n level) (tree_blocks form z root' level')
          (changed_frame a b (least_of_root level - 1) 1 level n (removed form.order r) loose low below) shrink_root.frame

      pub rules_after_removal : AreRecords form (tree_records form b n level)
      rules_after_removal = subst (AreRecords form) (sym below.set) (removed_rules form r (tree_records form a n level) tree.records)

pub pointer_fits : {X : Type 0} (form : Form X) (b : Blocks) → AreKnown b → (n : ℕ) → n < pool_size b → n < 256 ^ pointer_size form
pointer_fits form b known n within =
    let small : n < 256 ^ pointer_size form - 1 = names_small form.long (Some n) (λ q is. let same : n ≡ q = cc in omega (arith, known.small, within, same)) in omega arith

pub one_entry : {X : Type 0} (form : Form X) (e : Entry) → length e.key ≡ key_size form → e.child < 256 ^ pointer_size form → AreEntries form (e ∷ [])
one_entry form e long small zero d within = (long, small)
one_entry form e long small (suc k) d within = absurd (omega (arith, within))

module _ {X : Type 0} (form : Form X) (laws : IsForm form) (a : Blocks) (level root : ℕ) (tree : IsTreeIn form a root level) (full : item_count form a level root ≡ max_records form level)
    (p : ℕ) (was : is_free a p ≡ true) (all : AreBlocks a) (range : (1 ≤ p) × (p < pool_size a)) where
  abbrev old : List ℕ
  old = blocks_of form a level (root ∷ [])

  known : AreRowsIn form a (min_records form level) level (root ∷ [])
  known = least_alone form a (least_of_root level) (min_records form level) level root (tree_rows form a level root tree) (omega (arith, full, min_records_is form level))

  room : p < 8 * length a.free
  room = omega (arith, range.1, all.map_room)

  apart : (m : ℕ) → is_free a m ≡ false → m ≡ p → ⊥
  apart m used same = let lie : true ≡ false = sym was ∙ subst (λ (k : ℕ). is_free a k ≡ false) same used in absurd cc

  -- the blocks below the root are no other ones where p alone is taken and written
  beside : (b : Blocks) → IsSamePool a b → ((m : ℕ) → (m ≡ p → ⊥) → IsUntouched a b m × (is_free b m ≡ is_free a m))
      → AreRowsIn form b (min_records form level) level (root ∷ [])
  beside b pool same =
      rows_stay form a b (min_records form level) level (root ∷ []) known pool
      (λ m some. let used = (known.owned m some).taken in let still = same m (apart m used) in (still.0.bytes, still.1 ∙ used))

  pub rows_taken : AreRowsIn form (with_taken a p) (min_records form level) level (root ∷ [])
  rows_taken = beside (with_taken a p) (record { site = refl; pool = refl; kept = refl; kept_free = refl }) (λ m other. (record { bytes = refl; mark = refl }, bit_cleared_other a.free p m room other))

  out : times p old ≡ 0
  out = none_of p old (λ there. apart p (known.owned p (times_of old p there)).taken refl)

  module _ (b : Blocks) (writes : Writes (with_taken a p) b (p ∷ []))
      (node : IsNodeOf form (site_of a) (record { number = p; level = level + 1; left = None; right = None }) (entry_for form a level root ∷ []) (block_at b p)) where
    abbrev new : List ℕ
    new = blocks_of form b (suc level) (p ∷ [])

    pool : IsSamePool a b
    pool = record { site = writes.same.site; pool = writes.same.pool; kept = writes.same.kept; kept_free = writes.same.kept_free }

    others : (m : ℕ) → (m ≡ p → ⊥) → IsUntouched a b m × (is_free b m ≡ is_free a m)
    others m other =
        let still = writes.others m (times_other m p [] (λ same. other (sym same))) in
        (record { bytes = still.bytes; mark = still.mark }, rw writes.free (bit_cleared_other a.free p m room other))

    holds : entries_in form (block_at b p) ≡ entry_for form a level root ∷ []
    holds = node_entries form laws (site_of a) _ (block_at b p) (entry_for form a level root ∷ []) node

    same : HoldSame form a b old
    same m some = let here = others m (apart m (known.owned m some).taken) in holds_same form a b m here.0.bytes

    same_root : HoldsSame form a b root
    same_root = same root (omega (arith, times_row form a root level (root ∷ []), times_same root []))

    parent : children form b (p ∷ []) ≡ root ∷ []
    parent = ap (λ (entries : List Entry). map (λ (e : Entry). e.child) entries ++ []) holds

    counted : (m : ℕ) → times m new ≡ times m (p ∷ []) + times m old
    counted m = times_below form b m level (p ∷ []) ∙ rw (parent, blocks_same form a b level (root ∷ []) same) refl

    top : AreRowsIn form b 1 (suc level) (p ∷ [])
    unfolding AreRowsOf AreLinked AreNamed
    top = record {
      rows = (
        rw pool.site (
          record {
            whole = rw (holds, ← one_more level) node.whole;
            least_items = omega (arith, ap length holds);
            most_items = omega (arith, laws.node_some, ap length holds);
          },
          tt,
        ),
        (rw holds (ap (λ (key : List ℕ). key ∷ []) (sym (key_same form a b level root same_root))), tt),
        rw parent (beside b pool others).rows,
      );
      once = λ m. grind (arith, nat_tests, out, counted m, known.once m);
      owned = λ m some. same_or_other p m
          (λ is. rw (← is) (record { from = range.0; below = omega (arith, range.1, pool.pool); taken = rw writes.free (bit_cleared a.free p room) }))
          (λ other.
          (beside b pool others).owned m (omega (arith, some, times_other m p [] other, counted m, ap (times m) (blocks_same form a b level (root ∷ []) same))));
    }

    pub root_grown : (r : X) → GrowsRoot form a b root level p (suc level) r
    unfolding passing
    root_grown r =
        let records : records_of form b (suc level) (p ∷ []) ≡ tree_records form a root level =
        records_below form b level (p ∷ []) ∙ rw parent (records_same form a b level (root ∷ []) same) in
        let child : child_of form b p 0 ≡ root = ap (λ (es : List Entry). get_or (map (λ (e : Entry). e.child) es) 0 0) holds in
        let first : 0 ≡ path_index form r (entries_in form (block_at b p)) = rw holds (grind arith) in
        let one : item_count form b (suc level) p ≡ 1 = ap length holds in
        let some : 1 ≤ item_count form a level root = omega (arith, full, min_records_is form level, min_records_some form laws level) in
        let count : item_count form b level root ≡ item_count form a level root =
        items_counted form b level root ∙ ap length (item_same form a b level root same_root) ∙ sym (items_counted form a level root) in
        record {
          rows = top;
          records = records;
          frame = frame_of form a b pool old new
              (λ m used none.
              let other = apart m used in let here = others m other in (here.0, here.1 ∙ used, omega (arith, none, counted m, times_other m p [] (λ is. other (sym is)))))
              (λ m there. (top.owned m there).taken) (λ m there none. absurd (omega (arith, there, none, counted m)))
              (λ m free none. (others m (not_alone m p (omega (arith, none, counted m)))).1 ∙ free);
          here = root_in_row form b 1 (suc level) p top (subst (AreRecords form) (sym records) tree.records);
          some = omega (arith, one);
          one = one;
          room = omega (arith, one, laws.node_some);
          next = rw (← first) (full_one (item_count form b level (child_of form b p 0)) (max_records form level) (ap (item_count form b level) child ∙ count ∙ full));
          free = omega (
            arith,
            full_below form laws r b level p 0 (omega (arith, one, laws.node_some)) first,
            ap (λ (m : ℕ). full_on_path form b level m r) child,
            full_same form laws r a b level root (root_here form a level root tree) some same,
            full_one (item_count form a level root) (max_records form level) full,
          );
          count = taken_count a b p all range.0 range.1 was writes.same.pool writes.free;
          marks = record { stay = writes.marks.stay; few = omega (arith, writes.marks.few, unmarked_few a (p ∷ [])) };
          changed = writes.changed p (omega (arith, times_same p []));
        }

-- a root that stays, and one whose only child takes its place
module _ {X : Type 0} (form : Form X) (laws : IsForm form) (a : Blocks) where
  pub root_stays : (level n : ℕ) → AreRowsIn form a 0 level (n ∷ []) → AreRecords form (tree_records form a n level) → least_of_root level ≤ item_count form a level n
      → ShrinksRoot form a a n level n level
  root_stays level n known rules many = record {
    tree = tree_of_rows form a n level (least_alone form a 0 (least_of_root level) level n known many) rules;
    records = refl;
    frame = frame_of form a a (pool_same a) (blocks_of form a level (n ∷ [])) (blocks_of form a level (n ∷ []))
        (λ m used none. (untouched_same a m, used, none)) (λ m there. (known.owned m there).taken) (λ m there none. absurd (omega (arith, there, none))) (λ m free none. free);
    free = omega arith;
    changed = refl;
  }

  only_one : (ms : List ℕ) → length ms ≡ 1 → ms ≡ slice_index_or ms 0 0 ∷ []
  only_one [] one = absurd (omega (arith, one))
  only_one (m ∷ []) one = refl
  only_one (m ∷ m' ∷ ms) one = absurd (omega (arith, one))

  module _ (all : AreBlocks a) (level n : ℕ) (known : AreRowsIn form a 0 (suc level) (n ∷ [])) (one : length (entries_in form (block_at a n)) ≡ 1) where
    abbrev c : ℕ
    c = child_of form a n 0

    abbrev after : Blocks
    after = with_given a n

    row : children form a (n ∷ []) ≡ c ∷ []
    row = ap (λ (ms : List ℕ). ms ++ []) (only_one (named_below (tree_held form a) n) (length-map (entries_in form (block_at a n)) (λ (e : Entry). e.child) ∙ one))

    times_low : (m : ℕ) → times m (blocks_of form a (suc level) (n ∷ [])) ≡ times m (n ∷ []) + times m (blocks_of form a level (c ∷ []))
    times_low m = times_below form a m level (n ∷ []) ∙ ap (λ (ms : List ℕ). times m (n ∷ []) + times m (blocks_of form a level ms)) row

    own : IsUsed (is_free a) (pool_size a) n
    own = known.owned n (omega (arith, times_low n, times_same n []))

    given : n < 8 * length a.free
    given = omega (arith, own.below, all.map_room)

    still : (m : ℕ) → (m ≡ n → ⊥) → is_free after m ≡ is_free a m
    still m other = bit_set_other a.free n m given other

    kept : IsSamePool a after
    kept = record { site = refl; pool = refl; kept = refl; kept_free = refl }

    lower_rows : AreRowsIn form after (min_records form level) level (c ∷ [])
    lower_rows =
        let before = subst (AreRowsIn form a (min_records form level) level) row (below form a 0 level (n ∷ []) known) in
        rows_stay form a after (min_records form level) level (c ∷ []) before kept
        (λ m some. (refl, still m (not_alone m n (omega (arith, some, known.once m, times_low m))) ∙ (before.owned m some).taken))

    pub root_shrunk : AreRecords form (tree_records form a n (suc level)) → ShrinksRoot form a after n (suc level) c level
    root_shrunk rules =
        let records : tree_records form a n (suc level) ≡ tree_records form a c level = records_below form a level (n ∷ []) ∙ ap (records_of form a level) row in
        let here : is_free after n ≡ true = bit_set a.free n given in
        record {
          tree = tree_of_rows form after c level (least_less form after (min_records form level) (least_of_root level) level (c ∷ []) lower_rows (root_less form laws level))
              (subst (AreRecords form) records rules);
          records = sym records;
          frame = frame_of form a after kept (blocks_of form a (suc level) (n ∷ [])) (blocks_of form a level (c ∷ []))
              (λ m used out. (record { bytes = refl; mark = refl }, still m (not_alone m n (omega (arith, out, times_low m))) ∙ used, omega (arith, out, times_low m)))
              (λ m there. (lower_rows.owned m there).taken)
              (λ m there none. same_or_other n m (λ is. rw (← is) here) (λ other. absurd (omega (arith, there, none, times_low m, times_other m n [] other))))
              (λ m free none. still m (λ is. let lie : true ≡ false = sym free ∙ ap (is_free a) is ∙ own.taken in absurd cc) ∙ free);
          free = more_free a after (pool_size a) (λ m free. same_or_other n m (λ is. rw (← is) here) (λ other. still m (λ is. other (sym is)) ∙ free));
          changed = refl;
        }
