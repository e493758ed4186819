-- A tree is what its own blocks say. So another tree stays as it is, with all its records, where a change leaves its blocks
-- alone, and changes one after the other are one change.
use Rattle.std.proofs.Common.{◌≡◌, ◌≢◌, ◌⊎◌, ℕ, zero, suc, ◌<◌, true, false, List, [], ◌∷◌, ◌++◌, Option, Some, None, map, get_or, refl, sym, ap, ◌∙◌, subst, inl, inr, ⊎_elim, arith}
use Rattle.std.proofs.lemmas.Bool.{cases_Bool, cases_eq}
use Rattle.std.proofs.lemmas.List.{get_or_default}
use Rattle.std.proofs.lemmas.List.Elements.{All-contains, Contains-append_cases, Contains-append_left, Contains-append_right}
use Rattle.std.specs.List.{All, AllPairs, Contains, concat, flat_map}
use Rattle.xr_kinds.specs.Form.{Form}
use Rattle.xr_block.specs.Frame.{ChangesOnly, Stays}
use Rattle.xr_pool.specs.Overlay.{Blocks, block_at, is_changed, is_free, pool_size}
use Rattle.xr_block.specs.Rows.{AreLinked, AreNamed, AreRowsOf, IsWhole, IsWholeLeaf, IsWholeNode, first_of, min_records, held_in, key_held, key_of_entries, key_of_records, leaves_from, named_below, rows_from}
use Rattle.xr_block.specs.Tree.{AreRecords, IsTreeIn, IsUsed, least_of_root, site_of, tree_blocks, tree_held, tree_records}
use Rattle.xr_block.specs.TreeBlock.{Entry, Place, Site, entries_in, leaf_bytes, node_bytes, records_in}

pub only_member : (x n : ℕ) → Contains (x ∷ []) n → x ≡ n
only_member x n (zero, within, is) = is
only_member x n (suc k, within, is) = absurd (omega (arith, within))

pub member_cases : (xs : List ℕ) (n : ℕ) → Contains xs n ⊎ ¬ (Contains xs n)
member_cases [] n = inr (λ found. absurd (omega (arith, found.1)))
member_cases (x ∷ xs) n = ⊎_elim
    (λ (same : x ≡ n). inl (0, omega arith, same))
    (λ (other : x ≡ n → ⊥). ⊎_elim
    (λ (within : Contains xs n). inl (Contains-append_right (x ∷ []) xs n within))
    (λ (without : ¬ (Contains xs n)). inr (λ found. ⊎_elim
    (λ (first : Contains (x ∷ []) n). other (only_member x n first))
    (λ (rest : Contains xs n). without rest)
    (Contains-append_cases (x ∷ []) xs n found)))
    (member_cases xs n))
    (cases_eq x n)

-- two functions to the bytes of blocks that are the same at some blocks
abbrev pub AreSameAt : (ℕ → List ℕ) → (ℕ → List ℕ) → List ℕ → Type 0
AreSameAt at now ns = (n : ℕ) → Contains ns n → now n ≡ at n

same_left : (at now : ℕ → List ℕ) (xs ys : List ℕ) → AreSameAt at now (xs ++ ys) → AreSameAt at now xs
same_left at now xs ys same n within = same n (Contains-append_left xs ys n within)

same_right : (at now : ℕ → List ℕ) (xs ys : List ℕ) → AreSameAt at now (xs ++ ys) → AreSameAt at now ys
same_right at now xs ys same n within = same n (Contains-append_right xs ys n within)

pub flat_map_same : {B : Type 0} (f g : ℕ → List B) (xs : List ℕ) → ((n : ℕ) → Contains xs n → f n ≡ g n) → flat_map f xs ≡ flat_map g xs
flat_map_same f g [] same = refl
flat_map_same f g (x ∷ xs) same =
    let first : f x ≡ g x = same x (0, omega arith, refl) in
    let rest : flat_map f xs ≡ flat_map g xs = flat_map_same f g xs (λ n within. same n (Contains-append_right (x ∷ []) xs n within)) in
    rw (first, rest) refl

pub map_same : {B : Type 0} (f g : ℕ → B) (xs : List ℕ) → ((n : ℕ) → Contains xs n → f n ≡ g n) → map f xs ≡ map g xs
map_same f g [] same = refl
map_same f g (x ∷ xs) same =
    let first : f x ≡ g x = same x (0, omega arith, refl) in
    let rest : map f xs ≡ map g xs = map_same f g xs (λ n within. same n (Contains-append_right (x ∷ []) xs n within)) in
    rw (first, rest) refl

module _ {X : Type 0} (form : Form X) (at now : ℕ → List ℕ) where
  below_same : (row : List ℕ) → AreSameAt at now row → flat_map (named_below (held_in form now)) row ≡ flat_map (named_below (held_in form at)) row
  below_same row same =
      flat_map_same (named_below (held_in form now)) (named_below (held_in form at)) row
      (λ n within. ap (λ (bytes : List ℕ). map (λ (e : Entry). e.child) (entries_in form bytes)) (same n within))

  pub rows_same : (level : ℕ) (row : List ℕ) → AreSameAt at now (concat (rows_from (held_in form at) level row))
      → rows_from (held_in form now) level row ≡ rows_from (held_in form at) level row
  unfolding rows_from
  rows_same zero row same = refl
  rows_same (suc level) row same =
      let below : List ℕ = flat_map (named_below (held_in form at)) row in
      let rest : List ℕ = concat (rows_from (held_in form at) level below) in
      let next = below_same row (same_left at now row rest same) in
      ap (λ (rows : List (List ℕ)). row ∷ rows)
      (ap (rows_from (held_in form now) level) next ∙ rows_same level below (same_right at now row rest same))

  pub leaves_same : (level : ℕ) (row : List ℕ) → AreSameAt at now (concat (rows_from (held_in form at) level row))
      → leaves_from (held_in form now) level row ≡ leaves_from (held_in form at) level row
  unfolding rows_from leaves_from
  leaves_same zero row same = refl
  leaves_same (suc level) row same =
      let below : List ℕ = flat_map (named_below (held_in form at)) row in
      let rest : List ℕ = concat (rows_from (held_in form at) level below) in
      let next = below_same row (same_left at now row rest same) in
      ap (leaves_from (held_in form now) level) next ∙ leaves_same level below (same_right at now row rest same)

  -- the first row and the leaves are among the blocks of all rows
  first_row : (level : ℕ) (row : List ℕ) → AreSameAt at now (concat (rows_from (held_in form at) level row)) → AreSameAt at now row
  unfolding rows_from
  first_row zero row same = same_left at now row [] same
  first_row (suc level) row same = same_left at now row _ same

  leaf_row : (level : ℕ) (row : List ℕ) → AreSameAt at now (concat (rows_from (held_in form at) level row))
      → AreSameAt at now (leaves_from (held_in form at) level row)
  unfolding rows_from leaves_from
  leaf_row zero row same = same_left at now row [] same
  leaf_row (suc level) row same = leaf_row level (flat_map (named_below (held_in form at)) row) (same_right at now row _ same)

  pub linked_same : (P Q : Place → List ℕ → Type 0) (level : ℕ) (left : Option ℕ) (row : List ℕ) (right : Option ℕ)
      → ((place : Place) → Contains row place.number → P place (at place.number) → Q place (now place.number))
      → AreLinked P at level left row right → AreLinked Q now level left row right
  unfolding AreLinked
  linked_same P Q level left [] right each linked = linked
  linked_same P Q level left (n ∷ ns) right each linked = (
    each (record { number = n; level = level; left = left; right = first_of ns right }) (0, omega arith, refl) linked.0,
    linked_same P Q level (Some n) ns right (λ place within. each place (Contains-append_right (n ∷ []) ns place.number within)) linked.1,
  )

  pub leaf_same : (site : Site) (least : ℕ) (place : Place) → now place.number ≡ at place.number
      → IsWholeLeaf form site (held_in form at) least place (at place.number) → IsWholeLeaf form site (held_in form now) least place (now place.number)
  leaf_same site least place same whole =
      let P : List ℕ → Type 0 = λ bytes. IsWhole least form.leaf_max (leaf_bytes form site) (records_in form bytes) place bytes in
      subst P (sym same) whole

  pub node_same : (site : Site) (least : ℕ) (place : Place) → now place.number ≡ at place.number
      → IsWholeNode form site (held_in form at) least place (at place.number) → IsWholeNode form site (held_in form now) least place (now place.number)
  node_same site least place same whole =
      let P : List ℕ → Type 0 = λ bytes. IsWhole least form.node_max (node_bytes form site) (entries_in form bytes) place bytes in
      subst P (sym same) whole

  key_same : (level n : ℕ) → now n ≡ at n → key_held form (held_in form now) level n ≡ key_held form (held_in form at) level n
  unfolding key_held
  key_same zero n same = ap (λ (bytes : List ℕ). key_of_records form (records_in form bytes)) same
  key_same (suc level) n same = ap (λ (bytes : List ℕ). key_of_entries form (entries_in form bytes)) same

  named_same : (level : ℕ) (row : List ℕ) → AreSameAt at now row → AreSameAt at now (flat_map (named_below (held_in form at)) row)
      → AreNamed form (held_in form at) level row → AreNamed form (held_in form now) level row
  unfolding AreNamed
  named_same level [] same below named = named
  named_same level (n ∷ ns) same below named =
      let here : now n ≡ at n = same n (0, omega arith, refl) in
      let children : List ℕ = named_below (held_in form at) n in
      let others : List ℕ = flat_map (named_below (held_in form at)) ns in
      let keys : map (key_held form (held_in form now) level) children ≡ map (key_held form (held_in form at) level) children =
      map_same (key_held form (held_in form now) level) (key_held form (held_in form at) level) children
      (λ m within. key_same level m (below m (Contains-append_left children others m within))) in (
        ap (λ (bytes : List ℕ). map (λ (e : Entry). e.key) (entries_in form bytes)) here ∙ named.0 ∙ sym keys
            ∙ ap (λ (bytes : List ℕ). map (key_held form (held_in form now) level) (map (λ (e : Entry). e.child) (entries_in form bytes))) (sym here),
        named_same level ns (same_right at now (n ∷ []) ns same) (same_right at now children others below) named.1,
      )

  pub are_rows_same : (site : Site) (least level : ℕ) (row : List ℕ) → AreSameAt at now (concat (rows_from (held_in form at) level row))
      → AreRowsOf form site at (held_in form at) least level row → AreRowsOf form site now (held_in form now) least level row
  unfolding rows_from AreRowsOf
  are_rows_same site least zero row same rows =
      linked_same (IsWholeLeaf form site (held_in form at) least) (IsWholeLeaf form site (held_in form now) least) zero None row None
      (λ place within. leaf_same site least place (same_left at now row [] same place.number within)) rows
  are_rows_same site least (suc level) row same rows =
      let below : List ℕ = flat_map (named_below (held_in form at)) row in
      let rest : List ℕ = concat (rows_from (held_in form at) level below) in
      let here = same_left at now row rest same in
      let under = same_right at now row rest same in (
        linked_same (IsWholeNode form site (held_in form at) least) (IsWholeNode form site (held_in form now) least) (suc level) None row None
            (λ place within. node_same site least place (here place.number within)) rows.0,
        named_same level row here (first_row level below under) rows.1,
        subst (AreRowsOf form site now (held_in form now) (min_records form level) level) (sym (below_same row here))
            (are_rows_same site (min_records form level) level below under rows.2),
      )

module _ {X : Type 0} (form : Form X) (before after : Blocks) (root level : ℕ) (old new : List ℕ) (tree : IsTreeIn form before root level) (change : ChangesOnly before old after new) (own : (n : ℕ) → Contains (tree_blocks form before root level) n → ¬ (Contains old n)) where
  used : (n : ℕ) → Contains (tree_blocks form before root level) n → IsUsed (is_free before) (pool_size before) n
  used n within = All-contains (IsUsed (is_free before) (pool_size before)) (tree_blocks form before root level) n tree.owned within

  kept_block : (n : ℕ) → Contains (tree_blocks form before root level) n
      → (block_at after n ≡ block_at before n) × (is_free after n ≡ false) × ¬ (Contains new n)
  kept_block n within = let mine = used n within in change.others n mine.taken (own n within)

  same_at : AreSameAt (block_at before) (block_at after) (tree_blocks form before root level)
  same_at n within = let kept = kept_block n within in kept.0

  blocks_stay : tree_blocks form after root level ≡ tree_blocks form before root level
  blocks_stay = ap concat (rows_same form (block_at before) (block_at after) level (root ∷ []) same_at)

  records_stay : tree_records form after root level ≡ tree_records form before root level
  records_stay =
      let leaves : List ℕ = leaves_from (tree_held form before) level (root ∷ []) in
      let at_leaves = leaf_row form (block_at before) (block_at after) level (root ∷ []) same_at in
      ap (flat_map (λ (n : ℕ). records_in form (block_at after n)))
      (leaves_same form (block_at before) (block_at after) level (root ∷ []) same_at)
      ∙ flat_map_same (λ (n : ℕ). records_in form (block_at after n)) (λ (n : ℕ). records_in form (block_at before n)) leaves
      (λ n within. ap (records_in form) (at_leaves n within))

  owned_after : All (IsUsed (is_free after) (pool_size after)) (tree_blocks form before root level)
  owned_after k d within =
      let n : ℕ = get_or (tree_blocks form before root level) k d in
      let here : Contains (tree_blocks form before root level) n =
      (k, within, get_or_default (tree_blocks form before root level) k n d within) in
      let mine = used n here in
      let kept = kept_block n here in
      record { from = mine.from; below = subst (λ (pool : ℕ). n < pool) (sym change.pool) mine.below; taken = kept.1 }

  -- another tree stays as it is
  pub stays_tree : Stays form before after root level new
  stays_tree = record {
    tree = record {
      rows = subst (λ (site : Site). AreRowsOf form site (block_at after) (tree_held form after) (least_of_root level) level (root ∷ [])) (sym change.site)
          (are_rows_same form (block_at before) (block_at after) (site_of before) (least_of_root level) level (root ∷ []) same_at tree.rows);
      records = subst (AreRecords form) (sym records_stay) tree.records;
      distinct = subst (AllPairs (λ (m n : ℕ). m ≢ n)) (sym blocks_stay) tree.distinct;
      owned = subst (All (IsUsed (is_free after) (pool_size after))) (sym blocks_stay) owned_after;
    };
    same_records = records_stay;
    same_blocks = blocks_stay;
    own = λ n within.
        let kept = kept_block n (subst (λ (ns : List ℕ). Contains ns n) blocks_stay within) in kept.2;
  }

-- two changes of one tree are a change of it
module _ (a b c : Blocks) (u v w : List ℕ) (one : ChangesOnly a u b v) (two : ChangesOnly b v c w) where
  others_stay : (n : ℕ) → is_free a n ≡ false → ¬ (Contains u n)
      → (block_at c n ≡ block_at a n) × (is_free c n ≡ false) × ¬ (Contains w n)
  others_stay n used without =
      let first = one.others n used without in
      let second = two.others n first.1 first.2 in (second.0 ∙ first.0, second.1, second.2)

  freed_stay : (n : ℕ) → Contains u n → ¬ (Contains w n) → is_free c n ≡ true
  freed_stay n within without = ⊎_elim
      (λ (between : Contains v n). two.freed n between without)
      (λ (gone : ¬ (Contains v n)). two.spare n (one.freed n within gone) without)
      (member_cases v n)

  spare_stay : (n : ℕ) → is_free a n ≡ true → ¬ (Contains w n) → is_free c n ≡ true
  spare_stay n free without = ⊎_elim
      (λ (between : Contains v n). two.freed n between without)
      (λ (never : ¬ (Contains v n)). two.spare n (one.spare n free never) without)
      (member_cases v n)

  -- what the second change had or found free, the first had or found free
  own_before : (n : ℕ) → Contains v n ⊎ (is_free b n ≡ true) → Contains u n ⊎ (is_free a n ≡ true)
  own_before n own = ⊎_elim
      (λ (free : is_free a n ≡ true). inr free)
      (λ (used : is_free a n ≡ false). ⊎_elim
      (λ (within : Contains u n). inl within)
      (λ (without : ¬ (Contains u n)).
      let kept = one.others n used without in
      ⊎_elim (λ (between : Contains v n). absurd (kept.2 between)) (λ (lie : is_free b n ≡ true). let used_still = kept.1 in absurd cc) own)
      (member_cases u n))
      (cases_Bool (is_free a n))

  marked_stay : (n : ℕ) → is_changed c n ≡ true → (is_changed a n ≡ true) ⊎ Contains u n ⊎ (is_free a n ≡ true)
  marked_stay n is = ⊎_elim
      (λ (between : is_changed b n ≡ true). one.marked n between)
      (λ (own : Contains v n ⊎ (is_free b n ≡ true)). inr (own_before n own))
      (two.marked n is)

  pub then_changes : ChangesOnly a u c w
  then_changes = record {
    site = two.site ∙ one.site;
    pool = two.pool ∙ one.pool;
    kept = two.kept ∙ one.kept;
    kept_free = two.kept_free ∙ one.kept_free;
    others = others_stay;
    taken = two.taken;
    freed = freed_stay;
    spare = spare_stay;
    marked = marked_stay;
  }
