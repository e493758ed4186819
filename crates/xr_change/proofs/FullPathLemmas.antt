-- The full blocks on the path of a record down from a block: they are the same where the blocks below hold the same, and the path
-- through two blocks that have the entries of one goes where it went through that one.
use Rattle.std.proofs.Common.{◌≡◌, ℕ, zero, suc, ◌+◌, ◌-◌, ◌<◌, ◌≤◌, Bool, true, false, List, [], ◌∷◌, ◌++◌, length, take, drop, map, get_or, refl, sym, ap, ◌∙◌, subst, arith, ◌==◌, if◌then◌else◌}
use Rattle.std.proofs.Math.ListN.{get_or-append}
use Rattle.std.proofs.Math.Seq.{drop-cons}
use Rattle.std.proofs.lemmas.Bool.Decides.{nat_tests}
use Rattle.std.proofs.lemmas.Bool.{cond_both}
use Rattle.std.proofs.lemmas.List.Concat.{flat_map-append}
use Rattle.std.proofs.lemmas.List.Elements.{All-drop}
use Rattle.std.proofs.lemmas.List.Folds.{flat_map-map}
use Rattle.std.proofs.lemmas.List.{drop-map, get_or-drop, length-drop, take-append-drop, take-map, get_or-append-add, length-map, map-append}
use Rattle.std.specs.Cmp.{IsTotalOrder}
use Rattle.std.specs.List.{All, AllPairs, flat_map}
use Rattle.std.specs.Ordering.{is_le}
use Rattle.std.specs.declared.cmp.Ordering.TheVariants.{Less}
use Rattle.std.specs.declared.cmp.Ordering.{Ordering}
use Rattle.xr_block.specs.TimesLaws.{times_same}
use Rattle.xr_kinds.specs.Form.{Form, IsForm}
use Rattle.xr_pool.specs.Overlay.{Blocks, block_at}
use Rattle.xr_block.specs.Rows.{named_below}
use Rattle.xr_block.specs.Tree.{records_of, tree_held, tree_records, blocks_of}
use Rattle.xr_block.specs.TreeBlock.{Entry, count_in, entries_in}
use Rattle.xr_change.proofs.DescentLemmas.{child_in_tree, child_least, names_around}
use Rattle.xr_change.proofs.BlockInTreeLemmas.{is_under}
use Rattle.xr_change.proofs.RowItemLemmas.{child_at}
use Rattle.xr_change.proofs.ReadLemmas.{read_key}
use Rattle.xr_change.proofs.RowBlockLemmas.{HoldSame, times_row, times_under, same_or_other}
use Rattle.xr_change.proofs.SetLemmas.{place_down}
use Rattle.xr_change.specs.Draft.{ReadsAs}
use Rattle.xr_change.specs.Paths.{IsInTree, IsOnPath, passing, child_of, full_on_path, is_full, item_count, max_records, path_index}
use Rattle.xr_block.specs.DescentLaws.{all_ascend, begin, falls, lower_too, node_parted, leaf_is, node_few}
use Rattle.xr_block.specs.PartLaws.{Begins, all_fail, split_rows_at, pairs_before, pairs_right}
use Rattle.xr_block.specs.Bounds.{IsPlaceOf, entry_is_before, is_before, key_is_before, IsParted}
use Rattle.xr_block.specs.Under.{IsUnder}
use Rattle.xr_block.specs.UnderLaws.{row_records, min_records_some, node_records}
use Rattle.xr_block.specs.declared.bound.Bound.TheVariants.{After}
use Rattle.xr_block.specs.NodeEntries.{low_key_in}
use Rattle.xr_block.specs.NodeEntryLaws.{entry_read, length-entries}

-- a place is how many items pass in front of the first that fails
pub passing_is : {A : Type 0} (test : A → Bool) (xs : List A) (k : ℕ) → IsPlaceOf test xs k → passing test xs ≡ k
unfolding passing
passing_is test [] zero place = refl
passing_is test [] (suc k) place = absurd (omega (arith, place.within))
passing_is test (x ∷ xs) zero place = let fails : test x ≡ false = place.from 0 x (omega arith) (omega arith) in rw fails refl
passing_is test (x ∷ xs) (suc k) place =
    let passes : test x ≡ true = place.below 0 x (omega arith) (omega arith) in
    rw passes (ap suc (passing_is test xs k (place_down place)))

above_if : {X : Type 0} (order : X → X → Ordering) (total : IsTotalOrder order) (x r : X) → is_le (order x r) ≡ false → order r x ≡ Less
above_if order total x r not = total.antisymm r x ∙ grind (arith, not)

module _ {X : Type 0} (form : Form X) (laws : IsForm form) (b : Blocks) (level n : ℕ) (here : IsInTree form b (suc level) n) (r : X) where
  abbrev es : List Entry
  es = entries_in form (block_at b n)

  abbrev under : Entry → List X
  under e = tree_records form b e.child level

  abbrev cs : List ℕ
  cs = named_below (tree_held form b) n

  abbrev passes : Entry → Bool
  passes = entry_is_before form (After r)

  abbrev Ascends : X → X → Type 0
  Ascends x y = form.order x y ≡ Less

  abbrev Below : List X → Type 0
  Below = All (λ (x : X). form.order x r ≡ Less)

  abbrev Above : List X → Type 0
  Above = All (λ (x : X). form.order r x ≡ Less)

  abbrev under_n : IsUnder form b (suc level) n
  under_n = is_under form b (suc level) n here

  starts : All (Begins under passes (is_before form (After r))) es
  starts = begin form laws b (suc level) level n refl under_n (After r)

  rises : AllPairs Ascends (flat_map under es)
  rises = all_ascend form laws b (suc level) level n refl under_n

  -- the records under some children, one after the other
  records_list : (xs : List Entry) → records_of form b level (map (λ (e : Entry). e.child) xs) ≡ flat_map under xs
  records_list xs = row_records (tree_held form b) level (map (λ (e : Entry). e.child) xs) ∙ flat_map-map (λ (m : ℕ). tree_records form b m level) (λ (e : Entry). e.child) xs

  -- those in front of a child that begins in front of the record
  in_front : (k : ℕ) → k < length es → ((d : Entry) → 1 ≤ k → passes (get_or es k d) ≡ true) → Below (records_of form b level (take k cs))
  in_front k within test = subst Below (sym (ap (records_of form b level) (take-map (λ (e : Entry). e.child) k es) ∙ records_list (take k es))) (λ m e inside.
      let d : Entry = record { key = []; child = 0 } in
      let own = starts k d within in
      let some : 1 ≤ k = same_or_other k 0 (λ none. absurd (omega (arith, subst (λ (j : ℕ). m < length (flat_map under (take j es))) none inside))) (λ more. omega (arith, more)) in
      let bound = split_rows_at {E = Entry} {X = X} Ascends under passes (is_before form (After r)) (falls form laws (After r)) es k d within in
      let all = pairs_before Ascends (flat_map under (take k es)) own.first (own.others ++ flat_map under (drop (suc k) es))
      (subst (λ (xs : List X). AllPairs Ascends (flat_map under (take k es) ++ (xs ++ flat_map under (drop (suc k) es)))) own.part (subst (AllPairs Ascends) bound rises)) in
      lower_too form.order laws.total (get_or (flat_map under (take k es)) m e) own.first r (form.order own.first r) refl (sym own.same ∙ test d some) (all m e inside))

  -- those under children that begin after it
  after_all : (k : ℕ) → ((i : ℕ) (d : Entry) → k ≤ i → i < length es → passes (get_or es i d) ≡ false) → Above (records_of form b level (drop k cs))
  after_all k fails = subst Above (sym (ap (records_of form b level) (drop-map (λ (e : Entry). e.child) k es) ∙ records_list (drop k es))) (λ m e inside.
      let pairs : AllPairs Ascends (flat_map under (drop k es)) =
      pairs_right Ascends (flat_map under (take k es)) (flat_map under (drop k es))
      (subst (AllPairs Ascends) (ap (flat_map under) (sym (take-append-drop k es)) ∙ flat_map-append under (take k es) (drop k es)) rises) in
      let none = all_fail Ascends under passes (is_before form (After r)) (falls form laws (After r)) (drop k es)
      (All-drop (Begins under passes (is_before form (After r))) k es starts) pairs
      (λ i d within.
      let there : k + i < length es = omega (arith, within, length-drop k es) in
      rw (get_or-drop k es i d) (fails (k + i) d (omega arith) there)) in
      above_if form.order laws.total (get_or (flat_map under (drop k es)) m e) r (none m e inside))

  pub path_at : (p k : ℕ) → IsPlaceOf passes es p → k ≡ p - 1 → 1 ≤ length es → IsOnPath form b level n r k
  path_at p k place is some =
      let within : k < length es = omega (arith, is, some, place.within) in
      record {
        within = within;
        before = in_front k within (λ d more. place.below k d (omega arith) (omega (arith, is, more)));
        after = after_all (suc k) (λ i d from inside. place.from i d (omega (arith, is, from)) inside);
      }

  -- of two children, by whether the second begins in front of the record
  pub path_second : (k : ℕ) → k + 1 < length es → ((d : Entry) → passes (get_or es (k + 1) d) ≡ true) → Above (records_of form b level (drop (k + 2) cs))
      → IsOnPath form b level n r (k + 1)
  path_second k within test after = record {
    within = within;
    before = in_front (k + 1) within (λ d more. test d);
    after = let place : k + 2 ≡ suc (k + 1) = omega arith in subst (λ (j : ℕ). Above (records_of form b level (drop j cs))) place after;
  }

  pub path_first : (k : ℕ) → k + 1 < length es → ((d : Entry) → passes (get_or es (k + 1) d) ≡ false) → Below (records_of form b level (take k cs)) → IsOnPath form b level n r k
  path_first k within fails before = record {
    within = omega (arith, within);
    before = before;
    after = after_all (suc k) (λ i d from inside. grind (arith, from, inside, fails d, node_parted form laws b (suc level) level n refl under_n (After r) (k + 1) i d));
  }

-- whether a child begins in front of a record, as its key is read
pub passed : {X : Type 0} (form : Form X) (b : Blocks) (n k : ℕ) (r : X) {bytes low : List ℕ} {found : Bool} → ReadsAs form bytes (block_at b n) → low ≡ low_key_in form k bytes
    → found ≡ key_is_before form (After r) low → k < count_in (block_at b n) → (d : Entry) → entry_is_before form (After r) (get_or (entries_in form (block_at b n)) k d) ≡ found
passed form b n k r reads read test within d =
    ap (entry_is_before form (After r)) (entry_read form (block_at b n) k d within)
    ∙ ap (key_is_before form (After r)) (sym (read ∙ ap (take form.low) (read_key form _ (block_at b n) reads k))) ∙ sym test

module _ {A : Type 0} (test : A → Bool) where
  pub passing_most : (xs : List A) → passing test xs ≤ length xs
  unfolding passing
  passing_most [] = omega arith
  passing_most (x ∷ xs) = cond_both (test x) (suc (passing test xs)) 0 (λ (m : ℕ). m ≤ suc (length xs)) (λ is. omega (arith, passing_most xs)) (λ is. omega arith)

  -- the last item that passes, by the first of the second part
  front_fails : (xs : List A) (y : A) (ys : List A) → test y ≡ false → passing test (xs ++ y ∷ ys) ≡ passing test xs
  unfolding passing
  front_fails [] y ys fails = rw fails refl
  front_fails (x ∷ xs) y ys fails = ap (λ (n : ℕ). if test x then suc n else 0) (front_fails xs y ys fails)

  passing_after : (xs ys : List A) → All (λ (x : A). test x ≡ true) xs → passing test (xs ++ ys) ≡ length xs + passing test ys
  unfolding passing
  passing_after [] ys all = omega arith
  passing_after (x ∷ xs) ys all = grind (arith, all 0 x (omega arith), passing_after xs ys (λ k d within. all (suc k) d (omega (arith, within))))

  after_passes : (xs : List A) (y : A) (ys : List A) → IsParted test (xs ++ y ∷ ys) → test y ≡ true
      → passing test (xs ++ y ∷ ys) - 1 ≡ length xs + (passing test (y ∷ ys) - 1)
  unfolding passing
  after_passes xs y ys parted passes =
      let all = pairs_before (λ (a b : A). test b ≡ true → test a ≡ true) xs y ys parted in
      let some : 1 ≤ passing test (y ∷ ys) = rw passes (omega arith) in
      omega (arith, some, passing_after xs (y ∷ ys) (λ k d within. all k d within passes))

-- the child on the path through the entries of two nodes, as those of one
module _ {X : Type 0} (form : Form X) (r : X) where
  abbrev names : List Entry → List ℕ
  names es = map (λ (e : Entry). e.child) es

  abbrev way_child : List Entry → ℕ
  way_child es = get_or (names es) (path_index form r es) 0

  pub path_within : (es : List Entry) → 1 ≤ length es → path_index form r es < length es
  path_within es some = omega (arith, some, passing_most (entry_is_before form (After r)) es)

  pub path_in_front : (xs ys : List Entry) → 1 ≤ length xs → 1 ≤ length ys
      → ((d : Entry) → entry_is_before form (After r) (get_or ys 0 d) ≡ false) → way_child (xs ++ ys) ≡ way_child xs
  path_in_front xs [] some more fails = absurd (omega (arith, more))
  path_in_front xs (y ∷ ys) some more fails =
      let place : path_index form r (xs ++ y ∷ ys) ≡ path_index form r xs = ap (λ (n : ℕ). n - 1) (front_fails (entry_is_before form (After r)) xs y ys (fails y)) in
      let kept = get_or-append (names xs) (names (y ∷ ys)) 0 (path_index form r xs) (omega (arith, path_within xs some, length-map xs (λ (e : Entry). e.child))) in
      cc (place, kept, map-append (λ (e : Entry). e.child) xs (y ∷ ys))

  pub path_after : (xs ys : List Entry) → 1 ≤ length ys → IsParted (entry_is_before form (After r)) (xs ++ ys)
      → ((d : Entry) → entry_is_before form (After r) (get_or ys 0 d) ≡ true) → way_child (xs ++ ys) ≡ way_child ys
  path_after xs [] more parted passes = absurd (omega (arith, more))
  path_after xs (y ∷ ys) more parted passes =
      let long : length (names xs) ≡ length xs = length-map xs (λ (e : Entry). e.child) in
      let place : path_index form r (xs ++ y ∷ ys) ≡ length (names xs) + path_index form r (y ∷ ys) =
      after_passes (entry_is_before form (After r)) xs y ys parted (passes y) ∙ ap (λ (n : ℕ). n + path_index form r (y ∷ ys)) (sym long) in
      cc (place, map-append (λ (e : Entry). e.child) xs (y ∷ ys), get_or-append-add (names xs) (names (y ∷ ys)) (path_index form r (y ∷ ys)) 0)

-- 1 for a full block
abbrev pub full_mark : ℕ → ℕ → ℕ
full_mark count most = if count == most then 1 else 0

pub full_one : (count most : ℕ) → count ≡ most → full_mark count most ≡ 1
full_one count most same = grind (arith, nat_tests)

pub full_none : (count most : ℕ) → count < most → full_mark count most ≡ 0
full_none count most less = grind (arith, nat_tests)

-- how many items a block of a tree has is what is read of it, and whether it is full
pub counted : {X : Type 0} (form : Form X) (laws : IsForm form) (b : Blocks) (level n : ℕ) → IsInTree form b level n
    → (count_in (block_at b n) ≡ item_count form b level n) × (item_count form b level n ≤ max_records form level)
counted form laws b zero n here = let whole = leaf_is form laws b n (is_under form b zero n here) in (sym whole.counted, omega (arith, whole.counted, whole.few))
counted form laws b (suc level) n here =
    let few = node_few form laws b (suc level) level n refl (is_under form b (suc level) n here) in
    (sym (length-entries form (block_at b n)), omega (arith, few, length-entries form (block_at b n)))

pub full_read : {X : Type 0} (form : Form X) (laws : IsForm form) (b : Blocks) (level n : ℕ) → IsInTree form b level n → {bytes : List ℕ} (count most : ℕ)
    → count ≡ count_in bytes → ReadsAs form bytes (block_at b n) → most ≡ max_records form level → (count == most) ≡ is_full form b level n
full_read form laws b level n here count most read reads same =
    ap (λ (x : ℕ). x == most) (read ∙ reads.count ∙ (counted form laws b level n here).0) ∙ ap (λ (x : ℕ). item_count form b level n == x) same

pub most_of_node : {X : Type 0} (form : Form X) (level : ℕ) → (level ≡ 0 → ⊥) → form.node_max ≡ max_records form level
most_of_node form zero node = absurd (node refl)
most_of_node form (suc level) node = refl

pub full_if : {X : Type 0} (form : Form X) (b : Blocks) (level n : ℕ) → is_full form b level n ≡ true → item_count form b level n ≡ max_records form level
full_if form b level n is = grind (arith, nat_tests)

pub room_if : {X : Type 0} (form : Form X) (laws : IsForm form) (b : Blocks) (level n : ℕ) → IsInTree form b level n → is_full form b level n ≡ false
    → item_count form b level n < max_records form level
room_if form laws b level n here not = let few = counted form laws b level n here in grind (arith, nat_tests, few.1)

module _ {X : Type 0} (form : Form X) (laws : IsForm form) (r : X) where
  -- a full block counts
  pub full_some : (b : Blocks) (level n : ℕ) → item_count form b level n ≡ max_records form level → 1 ≤ full_on_path form b level n r
  unfolding full_on_path
  full_some b zero n full = omega (arith, full_one (item_count form b zero n) form.leaf_max full)
  full_some b (suc level) n full = omega (arith, full_one (item_count form b (suc level) n) form.node_max full)

  -- a node that isn't full doesn't
  pub full_below : (b : Blocks) (level n k : ℕ) → item_count form b (suc level) n < form.node_max → k ≡ path_index form r (entries_in form (block_at b n))
      → full_on_path form b (suc level) n r ≡ full_on_path form b level (child_of form b n k) r
  unfolding full_on_path
  full_below b level n k room is =
      let child = ap (λ (j : ℕ). full_on_path form b level (child_of form b n j) r) is in
      omega (arith, child, full_none (item_count form b (suc level) n) form.node_max room)

  pub full_same : (a b : Blocks) (level n : ℕ) → IsInTree form a level n → 1 ≤ item_count form a level n → HoldSame form a b (blocks_of form a level (n ∷ []))
      → full_on_path form b level n r ≡ full_on_path form a level n r
  unfolding full_on_path
  full_same a b zero n here some same =
      let holds = same n (omega (arith, times_same n [], times_row form a n zero (n ∷ []))) in
      ap (λ (items : List X). full_mark (length items) form.leaf_max) holds.same_records
  full_same a b (suc level) n here some same =
      let holds = same n (omega (arith, times_same n [], times_row form a n (suc level) (n ∷ []))) in
      let es : List Entry = entries_in form (block_at a n) in
      let k : ℕ = path_index form r es in
      let within : k < length es = path_within form r es some in
      let c : ℕ = child_of form a n k in
      let cs : List ℕ = named_below (tree_held form a) n in
      let below : full_on_path form b level c r ≡ full_on_path form a level c r =
      full_same a b level c (child_in_tree form a level n k here within) (omega (arith, min_records_some form laws level, child_least form a level n k here within))
      (λ m there. same m (omega (arith, there, times_under form a level n (take k cs) (c ∷ []) (drop (suc k) cs) (names_around form a level n k here within) m))) in
      ap (λ (entries : List Entry). full_mark (length entries) form.node_max + full_on_path form b level (way_child form r entries) r) holds.same_entries
      ∙ ap (λ (rest : ℕ). full_mark (length es) form.node_max + rest) below

-- whether a child begins in front of a record is whether its first child does
pub first_passes : {X : Type 0} (form : Form X) (laws : IsForm form) (b : Blocks) (level n k : ℕ) (r : X) (here : IsInTree form b (suc (suc level)) n)
    (within : k < length (entries_in form (block_at b n))) (d d' : Entry)
    → entry_is_before form (After r) (get_or (entries_in form (block_at b (child_of form b n k))) 0 d')
    ≡ entry_is_before form (After r) (get_or (entries_in form (block_at b n)) k d)
first_passes {X = X} form laws b level n k r here within d d' =
    let c : ℕ = child_of form b n k in
    let child_here : IsInTree form b (suc level) c = child_in_tree form b (suc level) n k here within in
    let es : List Entry = entries_in form (block_at b c) in
    let some : 1 ≤ length es = omega (arith, min_records_some form laws (suc level), child_least form b (suc level) n k here within) in
    let own = begin form laws b (suc (suc level)) (suc level) n refl (is_under form b (suc (suc level)) n here) (After r) k d within in
    let first = begin form laws b (suc level) level c refl (is_under form b (suc level) c child_here) (After r) 0 d' some in
    let under : Entry → List X = λ e. tree_records form b e.child level in
    let same : own.first ∷ own.others ≡ first.first ∷ (first.others ++ flat_map under (drop 1 es)) =
    sym own.part ∙ ap (λ (m : ℕ). tree_records form b m (suc level)) (child_at form b n k c d within refl)
    ∙ node_records (tree_held form b) level c ∙ ap (flat_map under) (drop-cons es 0 d' some)
    ∙ ap (λ (xs : List X). xs ++ flat_map under (drop 1 es)) first.part in
    let head : own.first ≡ first.first = ap (λ (xs : List X). get_or xs 0 own.first) same in
    first.same ∙ ap (is_before form (After r)) (sym head) ∙ sym own.same
