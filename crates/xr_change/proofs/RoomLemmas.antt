-- The child on the path of a record has room: it has it already, or it was split, and the record belongs under one of the halves.
use Rattle.std.proofs.Common.{if◌then◌else◌, ◌≡◌, ℕ, zero, suc, ◌+◌, ◌<◌, ◌≤◌, Bool, true, false, List, [], ◌∷◌, ◌++◌, length, take, drop, map, get_or, refl, sym, ap, ◌∙◌, subst, arith, ⊎_elim, ◌⊎◌}
use Rattle.std.proofs.Math.Seq.{drop-append-add}
use Rattle.std.proofs.lemmas.List.{take_at}
use Rattle.std.specs.List.{All}
use Rattle.xr_kinds.specs.Form.{Form, IsForm}
use Rattle.xr_pool.specs.Overlay.{Blocks, block_at, free_count, is_changed}
use Rattle.xr_block.specs.Rows.{min_records, named_below}
use Rattle.xr_block.specs.Tree.{records_of, tree_held}
use Rattle.xr_block.specs.TreeBlock.{Entry, entries_in}
use Rattle.xr_change.proofs.RowItemLemmas.{counts_same, one_flat, two_flat}
use Rattle.xr_change.proofs.DescentLemmas.{child_in_tree, child_least, in_tree_still, inserted_there, names_around, path_for, path_here}
use Rattle.xr_change.proofs.FullPathLemmas.{first_passes, full_below, full_mark, full_none, full_one, full_same, path_after, path_in_front, path_within}
use Rattle.xr_change.proofs.BlockInTreeLemmas.{is_under}
use Rattle.xr_change.proofs.NodeChangeLemmas.{after_same, child_after, front_long, front_same, long_after, names_after, regroups_same}
use Rattle.xr_change.proofs.WriteLemmas.{unchanged_less}
use Rattle.xr_change.proofs.RowBlockLemmas.{records_same, times_below, times_under}
use Rattle.xr_change.specs.Regroups.{IsSameUnder, Regroups, items_held}
use Rattle.xr_change.specs.Changes.{HasPathWithRoom}
use Rattle.xr_change.specs.Sets.{inserted}
use Rattle.xr_change.specs.Paths.{IsInTree, IsOnPath, child_of, full_on_path, is_full, item_count, max_records, path_index}
use Rattle.xr_change.specs.Writes.{MarksAtMost, unchanged}
use Rattle.xr_block.specs.DescentLaws.{node_parted}
use Rattle.xr_block.specs.Bounds.{IsParted, entry_is_before}
use Rattle.xr_block.specs.UnderLaws.{min_records_some}
use Rattle.xr_block.specs.declared.bound.Bound.TheVariants.{After}

module _ {X : Type 0} {form : Form X} (laws : IsForm form) {a s : Blocks} {level n k m : ℕ} (here : IsInTree form a (suc level) n)
    (inside : k < length (entries_in form (block_at a n)))
    (split : Regroups form a s level n k (k + 1) (child_of form a n k ∷ []) (child_of form a n k ∷ m ∷ [])) where
  abbrev c : ℕ
  c = child_of form a n k

  abbrev es : List Entry
  es = entries_in form (block_at a n)

  abbrev cs : List ℕ
  cs = named_below (tree_held form a) n

  abbrev front : List ℕ
  front = take k cs

  abbrev after : List ℕ
  after = drop (k + 1) cs

  -- the items of both halves are those of the block that was split
  joined : items_held form level (block_at s c) ++ items_held form level (block_at s m) ≡ items_held form level (block_at a c)
  joined = sym (two_flat (λ (x : ℕ). items_held form level (block_at s x)) c m) ∙ split.items ∙ one_flat (λ (x : ℕ). items_held form level (block_at a x)) c

  items_add : item_count form s level c + item_count form s level m ≡ item_count form a level c
  items_add = omega (arith, counts_same form a s level (c ∷ []) (c ∷ m ∷ []) split.items)

  names_now : named_below (tree_held form s) n ≡ front ++ (c ∷ m ∷ after)
  names_now = names_after form a s level n k (k + 1) (c ∷ []) (c ∷ m ∷ []) split refl (omega (arith, inside))

  long_front : length front ≡ k
  long_front = front_long form a s level n k (k + 1) (c ∷ []) (c ∷ m ∷ []) split refl (omega (arith, inside))

  pub one_more_now : length (entries_in form (block_at s n)) ≡ length es + 1
  one_more_now = omega (arith, long_after form a s level n k (k + 1) (c ∷ []) (c ∷ m ∷ []) split refl (omega (arith, inside)))

  same_under : (floor : ℕ) → floor ≤ length es + 1 → IsSameUnder form a s floor (suc level) n
  same_under floor low = regroups_same form a s level n k (k + 1) (c ∷ []) (c ∷ m ∷ []) split here floor (omega (arith, low, one_more_now))

  pub split_here : IsInTree form s (suc level) n
  split_here = in_tree_still form a s (suc level) n here (same_under 0 (omega arith))

  -- what stands under the node beside the child holds the same
  pub before_now : (P : X → Type 0) → All P (records_of form a level front) → All P (records_of form s level (take k (named_below (tree_held form s) n)))
  before_now P all =
      let still = front_same form a split.between level n front (c ∷ []) (c ∷ m ∷ []) after split.children split.takes here.least here.pre here.post here.rows s split.naming in
      subst (All P) (sym (records_same form a s level front still) ∙ ap (records_of form s level) (sym (ap (take k) names_now ∙ take_at front (c ∷ m ∷ after) k long_front))) all

  pub after_now : (P : X → Type 0) → All P (records_of form a level (drop (suc k) cs)) → All P (records_of form s level (drop (k + 2) (named_below (tree_held form s) n)))
  after_now P all =
      let still = after_same form a split.between level n front (c ∷ []) (c ∷ m ∷ []) after split.children split.takes here.least here.pre here.post here.rows s split.naming in
      let place : suc k ≡ k + 1 = omega arith in
      subst (All P) (ap (λ (i : ℕ). records_of form a level (drop i cs)) place ∙ sym (records_same form a s level after still)
      ∙ ap (records_of form s level) (sym (ap (drop (k + 2)) names_now
      ∙ ap (λ (j : ℕ). drop (j + 2) (front ++ (c ∷ m ∷ after))) (sym long_front) ∙ drop-append-add front (c ∷ m ∷ after) 2))) all

  -- each half is a child of the node, and neither is full
  now_at : (i j x : ℕ) → j ≡ k + i → i < 2 → get_or (c ∷ m ∷ []) i 0 ≡ x → child_of form s n j ≡ x
  now_at i j x place within is = child_after form a s level n k (k + 1) (c ∷ []) (c ∷ m ∷ []) split refl (omega (arith, inside)) i j place within ∙ is

  second_now : child_of form s n (k + 1) ≡ m
  second_now = now_at 1 (k + 1) m refl (omega arith) refl

  halves : (min_records form level ≤ item_count form s level c) × (min_records form level ≤ item_count form s level m)
  halves =
      let least = λ (j : ℕ) (within : j < length es + 1). child_least form s level n j split_here (omega (arith, within, one_more_now)) in (
        subst (λ (x : ℕ). min_records form level ≤ item_count form s level x) (now_at 0 k c (omega arith) (omega arith) refl) (least k (omega (arith, inside))),
        subst (λ (x : ℕ). min_records form level ≤ item_count form s level x) second_now (least (k + 1) (omega (arith, inside))),
      )

  picked : (P : ℕ → Type 0) (j : ℕ) → (j ≡ k → P c) → (j ≡ k + 1 → P m) → (j ≡ k) ⊎ (j ≡ k + 1) → P (child_of form s n j)
  picked P j first second = ⊎_elim
      (λ (is : j ≡ k). subst P (sym (now_at 0 j c (omega (arith, is)) (omega arith) refl)) (first is))
      (λ (is : j ≡ k + 1). subst P (sym (now_at 1 j m is (omega arith) refl)) (second is))

  halves_roomy : (item_count form a level c ≡ max_records form level) → (j : ℕ) → (j ≡ k) ⊎ (j ≡ k + 1) → item_count form s level (child_of form s n j) < max_records form level
  halves_roomy full j =
      let both : (item_count form s level c < max_records form level) × (item_count form s level m < max_records form level) =
      (omega (arith, full, items_add, halves, min_records_some form laws level), omega (arith, full, items_add, halves, min_records_some form laws level)) in
      picked (λ (x : ℕ). item_count form s level x < max_records form level) j (λ is. both.0) (λ is. both.1)

-- the child of a node on the path
abbrev next_on : {X : Type 0} → Form X → X → Blocks → ℕ → ℕ
next_on form r b n = child_of form b n (path_index form r (entries_in form (block_at b n)))

-- below a node that was split the path goes where it went
module _ {X : Type 0} {form : Form X} (laws : IsForm form) {a s : Blocks} {level n k m : ℕ} (here : IsInTree form a (suc (suc level)) n)
    (inside : k < length (entries_in form (block_at a n)))
    (split : Regroups form a s (suc level) n k (k + 1) (child_of form a n k ∷ []) (child_of form a n k ∷ m ∷ [])) (r : X) where
  abbrev p : ℕ
  p = child_of form a n k

  abbrev passes : List Entry → ℕ → Entry → Bool
  passes entries i d = entry_is_before form (After r) (get_or entries i d)

  abbrev place : Blocks → ℕ → ℕ
  place b x = path_index form r (entries_in form (block_at b x))

  both : entries_in form (block_at s p) ++ entries_in form (block_at s m) ≡ entries_in form (block_at a p)
  unfolding items_held
  both = joined laws here inside split

  some : (1 ≤ length (entries_in form (block_at s p))) × (1 ≤ length (entries_in form (block_at s m)))
  some = let many = halves laws here inside split in let least = min_records_some form laws (suc level) in (omega (arith, least, many.0), omega (arith, least, many.1))

  child_here : IsInTree form a (suc level) p
  child_here = child_in_tree form a (suc level) n k here inside

  -- the first entry of the new block passes where its own entry in the node does
  second_passes : (is : Bool) → ((d : Entry) → passes (entries_in form (block_at s n)) (k + 1) d ≡ is) → (d : Entry) → passes (entries_in form (block_at s m)) 0 d ≡ is
  second_passes is above d =
      ap (λ (x : ℕ). passes (entries_in form (block_at s x)) 0 d) (sym (second_now laws here inside split))
      ∙ first_passes form laws s level n (k + 1) r (split_here laws here inside split) (omega (arith, inside, one_more_now laws here inside split)) d d ∙ above d

  step_first : ((d : Entry) → passes (entries_in form (block_at s n)) (k + 1) d ≡ false) → next_on form r s p ≡ next_on form r a p
  step_first fails =
      sym (path_in_front form r (entries_in form (block_at s p)) (entries_in form (block_at s m)) some.0 some.1 (second_passes false fails))
      ∙ ap (λ (entries : List Entry). get_or (map (λ (e : Entry). e.child) entries) (path_index form r entries) 0) both

  step_second : ((d : Entry) → passes (entries_in form (block_at s n)) (k + 1) d ≡ true) → next_on form r s m ≡ next_on form r a p
  step_second test =
      let parts = node_parted form laws a (suc level) level p refl (is_under form a (suc level) p child_here) (After r) in
      sym (path_after form r (entries_in form (block_at s p)) (entries_in form (block_at s m)) some.1
      (subst (IsParted (entry_is_before form (After r))) (sym both) parts) (second_passes true test))
      ∙ ap (λ (entries : List Entry). get_or (map (λ (e : Entry). e.child) entries) (path_index form r entries) 0) both

  -- and what stands there holds the same
  full_step : full_on_path form s level (next_on form r a p) r ≡ full_on_path form a level (next_on form r a p) r
  full_step =
      let within = path_within form r (entries_in form (block_at a p)) (omega (arith, min_records_some form laws (suc level), child_least form a (suc level) n k here inside)) in
      let names : List ℕ = named_below (tree_held form a) p in
      full_same form laws r a s level (next_on form r a p) (child_in_tree form a level p (place a p) child_here within)
      (omega (arith, min_records_some form laws level, child_least form a level p (place a p) child_here within))
      (λ x there. split.below x (omega (
        arith,
        there,
        times_under form a level p (take (place a p) names) (next_on form r a p ∷ []) (drop (suc (place a p)) names) (names_around form a level p (place a p) child_here within) x,
        times_below form a x level (p ∷ []),
      )))

mark_most : (full : Bool) → (if full then 1 else 0) ≤ 1
mark_most full = grind arith

-- a child that isn't full
pub room_here : {X : Type 0} (form : Form X) (laws : IsForm form) (a : Blocks) (r : X) (level n k : ℕ) → length (entries_in form (block_at a n)) < form.node_max
    → k ≡ path_index form r (entries_in form (block_at a n)) → IsInTree form a (suc level) n → IsOnPath form a level n r k
    → item_count form a level (child_of form a n k) < max_records form level → HasPathWithRoom form a a level n r k
room_here form laws a r level n k few is here path room = record {
  path = path_here form laws a level n k here path.within 0 (inserted form.order r) (omega arith) (omega (arith, child_least form a level n k here path.within))
      (inserted_there form laws a level n k here path.within r path);
  grown = omega (
    arith,
    subst (λ (j : ℕ). full_mark (item_count form a level (child_of form a n j)) (max_records form level) ≡ 0) is
        (full_none (item_count form a level (child_of form a n k)) (max_records form level) room),
  );
  room = room;
  taken = omega (arith, full_below form laws r a level n k few is);
}

-- a child that was split, and the half that is chosen
module _ {X : Type 0} {form : Form X} (laws : IsForm form) (r : X) {a s : Blocks} {n k m j : ℕ}
    (first : (d : Entry) → j ≡ k → entry_is_before form (After r) (get_or (entries_in form (block_at s n)) (k + 1) d) ≡ false)
    (second : (d : Entry) → j ≡ k + 1 → entry_is_before form (After r) (get_or (entries_in form (block_at s n)) (k + 1) d) ≡ true) (either : (j ≡ k) ⊎ (j ≡ k + 1)) where
  -- one full block fewer is on the path
  less_full : (level : ℕ) (here : IsInTree form a (suc level) n) (inside : k < length (entries_in form (block_at a n)))
      (split : Regroups form a s level n k (k + 1) (child_of form a n k ∷ []) (child_of form a n k ∷ m ∷ [])) → item_count form a level (child_of form a n k) ≡ max_records form level
      → full_on_path form s level (child_of form s n j) r + 1 ≡ full_on_path form a level (child_of form a n k) r
  unfolding full_on_path
  less_full zero here inside split full =
      omega (
        arith,
        full_one (item_count form a zero (child_of form a n k)) form.leaf_max full,
        full_none (item_count form s zero (child_of form s n j)) form.leaf_max (halves_roomy laws here inside split full j either),
      )
  less_full (suc level) here inside split full =
      let p : ℕ = child_of form a n k in
      let goes : next_on form r s (child_of form s n j) ≡ next_on form r a p =
      picked laws here inside split (λ (x : ℕ). next_on form r s x ≡ next_on form r a p) j
      (λ is. step_first laws here inside split r (λ d. first d is)) (λ is. step_second laws here inside split r (λ d. second d is)) either in
      omega (
        arith,
        ap (λ (x : ℕ). full_on_path form s level x r) goes ∙ full_step laws here inside split r,
        full_one (item_count form a (suc level) p) form.node_max full,
        full_none (item_count form s (suc level) (child_of form s n j)) form.node_max (halves_roomy laws here inside split full j either),
      )

  pub room_made : {level : ℕ} (here : IsInTree form a (suc level) n) (inside : k < length (entries_in form (block_at a n)))
      (split : Regroups form a s level n k (k + 1) (child_of form a n k ∷ []) (child_of form a n k ∷ m ∷ [])) → item_count form a level (child_of form a n k) ≡ max_records form level
      → length (entries_in form (block_at a n)) < form.node_max → k ≡ path_index form r (entries_in form (block_at a n))
      → IsOnPath form s level n r j → free_count a ≡ free_count s + 1 → MarksAtMost a s (unchanged a n + 3)
      → (is_changed s n ≡ true) × (is_changed s (child_of form a n k) ≡ true) × (is_changed s m ≡ true) → HasPathWithRoom form a s level n r j
  room_made {level = level} here inside split full few is path free marks changed =
      let child = picked laws here inside split (λ (x : ℕ). is_changed s x ≡ true) j (λ same. changed.1) (λ same. changed.2) either in
      let now = split_here laws here inside split in
      record {
        path = path_for form laws s level n j now path.within a 0 (inserted form.order r) (λ floor low. same_under laws here inside split floor (omega (arith, low)))
            (omega arith) (omega (arith, child_least form s level n j now path.within)) (inserted_there form laws s level n j now path.within r path) marks.stay
            (omega (
              arith,
              marks.few,
              unchanged_less true (is_changed s n) (λ was. changed.0),
              unchanged_less true (is_changed s (child_of form s n j)) (λ was. child),
            ));
        grown = omega (arith, one_more_now laws here inside split, mark_most (is_full form a level (child_of form a n (path_index form r (entries_in form (block_at a n))))));
        room = halves_roomy laws here inside split full j either;
        taken = omega (arith, free, full_below form laws r a level n k few is, less_full level here inside split full);
      }
