-- A node some of whose children were taken for others, with the node that names them now: what stands under it is another tree.
use Rattle.std.proofs.Common.{get_or, ◌<◌, ◌≡◌, ℕ, suc, ◌+◌, ◌≤◌, Some, List, [], ◌∷◌, ◌++◌, length, take, drop, map, refl, sym, ap, ◌∙◌, subst, arith, false, None, All, flat_map}
use Rattle.std.proofs.lemmas.List.Concat.{flat_map-append}
use Rattle.std.proofs.lemmas.List.Elements.{All-append, All-drop, All-map, All-take}
use Rattle.std.proofs.Math.ListN.{get_or-append}
use Rattle.std.proofs.lemmas.List.{drop-map, get_or-append-add, length-append, length-drop, length-map, length-take-le, map-append, take-map}
use Rattle.xr_block.specs.TimesLaws.{found_in, times_of, times-append}
use Rattle.xr_kinds.specs.Form.{Form}
use Rattle.xr_block.specs.FrameLaws.{flat_map_same, linked_same, node_same}
use Rattle.xr_pool.specs.Overlay.{Blocks, block_at, is_free}
use Rattle.xr_block.specs.Rows.{key_held, named_below, AreNamed, AreRowsOf, IsWholeNode, min_records}
use Rattle.xr_block.specs.Times.{times}
use Rattle.xr_block.specs.Tree.{site_of, tree_held, blocks_of, records_of}
use Rattle.xr_block.specs.TreeBlock.{Entry, Place, entries_in, node_bytes}
use Rattle.xr_change.proofs.SameItemLemmas.{GivesKey, each_key, entries_named, keys_stay, named_entries, named_flat}
use Rattle.xr_block.specs.PartLaws.{all_left, all_right}
use Rattle.xr_change.proofs.SiblingLemmas.{whole_as}
use Rattle.xr_change.proofs.NodeContextLemmas.{children_around, row_has, row_joined}
use Rattle.xr_change.proofs.RowBlockLemmas.{HoldSame, below, blocks_same, children, held_beside, holds_same, holds_then, key_same, not_alone, pool_then, records_same, records_under_node, rows_named, rows_stay, still_out, times_after, times_below, times_blocks_append, times_parts, times_row, times_under, same_or_other, untouched_then, used_still, whole_given}
use Rattle.xr_change.proofs.WriteLemmas.{times_is}
use Rattle.xr_change.specs.Alters.{HoldsSame, IsWholeAt, Alters, AreRowsIn, IsSamePool, Takes}
use Rattle.xr_change.specs.Regroups.{HasNewLeft, entry_for, HoldsNow, IsSameUnder, NamesChildren, Regroups}
use Rattle.xr_change.specs.Paths.{IsInTree, child_of}
use Rattle.xr_change.specs.Writes.{WritesOnly}
use Rattle.xr_block.specs.UnderLaws.{named_at, same_each}

-- a block that names another left sibling is whole still
pub whole_with_left : {X : Type 0} (form : Form X) (before after : Blocks) (q last last' : ℕ) (least level : ℕ) (place : Place) → place.number ≡ q → place.left ≡ Some last
    → HasNewLeft form before after q last last' → HoldsSame form before after q
    → IsWholeAt form (site_of before) (tree_held form before) level least place (block_at before q)
    → IsWholeAt form (site_of before) (tree_held form after) level least (record place { left = Some last' }) (block_at after q)
whole_with_left form before after q last last' least level place here left relinked same whole =
    let now : HoldsSame form before after place.number = subst (HoldsSame form before after) (sym here) same in
    whole_as form (site_of before) (tree_held form before) (tree_held form after) least level place (record place { left = Some last' }) (block_at before q) (block_at after q)
    now.same_records now.same_entries (λ count items. relinked place count items here left) whole

-- entries of some blocks name these
entries_name : {X : Type 0} (form : Form X) (b : Blocks) (level : ℕ) (blocks : List ℕ) → map (λ (e : Entry). e.child) (map (entry_for form b level) blocks) ≡ blocks
entries_name form b level [] = refl
entries_name form b level (m ∷ ms) = ap (λ (rest : List ℕ). m ∷ rest) (entries_name form b level ms)

module _ {X : Type 0} (form : Form X) (a b : Blocks) (level n : ℕ) (front old new after : List ℕ)
    (named : named_below (tree_held form a) n ≡ front ++ (old ++ after)) (one : Takes form a b level old new) where
  -- a row that the node stands in
  module _ (least : ℕ) (pre post : List ℕ) (known : AreRowsIn form a least (suc level) (pre ++ n ∷ post)) where
    abbrev row : List ℕ
    row = pre ++ n ∷ post

    -- the blocks below it before and after the child
    abbrev left : List ℕ
    left = children form a pre ++ front

    abbrev right : List ℕ
    right = after ++ children form a post

    below_is : children form a row ≡ left ++ (old ++ right)
    below_is = children_around form a n front old after named pre post

    down : AreRowsIn form a (min_records form level) level (left ++ (old ++ right))
    down = subst (AreRowsIn form a (min_records form level) level) below_is (below form a least level row known)

    down_after : AreRowsIn form b (min_records form level) level (left ++ (new ++ right))
    down_after = one.rows left right down

    times_all : (m : ℕ) → times m (blocks_of form a (suc level) row) ≡ times m row + times m (blocks_of form a level (left ++ (old ++ right)))
    times_all m = times_below form a m level row ∙ ap (λ (ms : List ℕ). times m row + times m (blocks_of form a level ms)) below_is

    -- no block of the row itself is touched by the change below
    untouched : (m : ℕ) → 1 ≤ times m row
        → (block_at b m ≡ block_at a m) × (is_free b m ≡ false) × (times m (blocks_of form b level (left ++ (new ++ right))) ≡ 0)
    untouched m some =
        let used = known.owned m (omega (arith, some, times_all m)) in
        let out : times m (blocks_of form a level (left ++ (old ++ right))) ≡ 0 = omega (arith, some, known.once m, times_all m) in
        let still = still_out form a b level old new one.held (min_records form level) left right down m used.taken out in
        ((one.untouched left right down m used.taken out).bytes, still.0, still.1)

    -- the node has the bytes that it had before the change below it
    pub node_stays : block_at b n ≡ block_at a n
    node_stays = (untouched n (row_has n n pre post refl)).0

    -- the node's other children hold what they held
    pub sibling_held : (k : ℕ) → 1 ≤ times k front + times k after → HoldsSame form a b k
    sibling_held k some =
        (held_beside form a b level old new one.held (min_records form level) left right down k
        (omega (arith, some, times-append, times_row form a k level left, times_row form a k level right))).0

    module _ (d : Blocks) (naming : NamesChildren form a b d level n (front ++ (new ++ after))) where
      another : (k : ℕ) → 1 ≤ times k (blocks_of form b level (left ++ (new ++ right))) → k ≡ n → ⊥
      another k some is = absurd (omega (arith, (untouched n (row_has n n pre post refl)).2, rw is at some))

      below_mended : HoldSame form b d (blocks_of form b level (left ++ (new ++ right)))
      below_mended k some = holds_same form b d k (naming.only.others k (another k some)).bytes

      -- what stands below beside the child holds what it held
      beside : (k : ℕ) → 1 ≤ times k (blocks_of form a level left) + times k (blocks_of form a level right) → HoldsSame form a d k
      beside k some =
          holds_then form a b d k (held_beside form a b level old new one.held (min_records form level) left right down k some).0
          (below_mended k (omega (arith, some, times_after form a b level old new one.held (min_records form level) left right down k)))

      down_mended : AreRowsIn form d (min_records form level) level (left ++ (new ++ right))
      down_mended =
          rows_stay form b d (min_records form level) level (left ++ (new ++ right)) down_after naming.only.same
          (λ m some. ((naming.only.others m (another m some)).bytes, naming.only.free m ∙ (down_after.owned m some).taken))

      names_now : named_below (tree_held form d) n ≡ front ++ (new ++ after)
      names_now = ap (map (λ (e : Entry). e.child)) naming.now.holds ∙ naming.names

      -- another node of the row
      bytes_same : (m : ℕ) → 1 ≤ times m row → (m ≡ n → ⊥) → block_at d m ≡ block_at a m
      bytes_same m some other = (naming.only.others m other).bytes ∙ (untouched m some).0

      -- the nodes before and after it have other numbers
      other_than : (m : ℕ) → 1 ≤ times m pre + times m post → m ≡ n → ⊥
      other_than m some same =
          absurd (omega (arith, some, times-append, times_is m n post (sym same), known.once m, times_all m))

      entries_beside : (ms : List ℕ) → ((m : ℕ) → 1 ≤ times m ms → 1 ≤ times m pre + times m post) → flat_map (tree_held form d).entries ms ≡ flat_map (tree_held form a).entries ms
      entries_beside ms within =
          flat_map_same (tree_held form d).entries (tree_held form a).entries ms
          (λ m there. let some = within m (times_of ms m there) in
          ap (entries_in form) (bytes_same m (omega (arith, some, times-append, times-append m (n ∷ []) post)) (other_than m some)))

      entries_now : flat_map (tree_held form d).entries row ≡ flat_map (tree_held form a).entries pre ++ (naming.entries ++ flat_map (tree_held form a).entries post)
      entries_now =
          flat_map-append (tree_held form d).entries pre (n ∷ post)
          ∙ rw (entries_beside pre (λ m some. omega (arith, some)), naming.now.holds, entries_beside post (λ m some. omega (arith, some))) refl

      below_same : children form d row ≡ left ++ (new ++ right)
      below_same =
          named_flat (tree_held form d) row
          ∙ rw (entries_now, map-append, map-append, naming.names, ← named_flat (tree_held form a) pre, ← named_flat (tree_held form a) post)
          (row_joined (children form a pre) front new after (children form a post))

      times_mended : (m : ℕ) → times m (blocks_of form d (suc level) row) ≡ times m row + times m (blocks_of form b level (left ++ (new ++ right)))
      times_mended m = times_below form d m level row ∙ rw (below_same, blocks_same form b d level (left ++ (new ++ right)) below_mended) refl

      -- the entries of the other nodes of the row have the keys of their children still
      keyed_beside : (ms : List ℕ) → ((k : ℕ) → 1 ≤ times k (children form a ms) → 1 ≤ times k left + times k right)
          → All (GivesKey form (tree_held form a) level) (flat_map (tree_held form a).entries ms)
          → All (GivesKey form (tree_held form d) level) (flat_map (tree_held form a).entries ms)
      keyed_beside ms within =
          keys_stay form (tree_held form a) (tree_held form d) level (flat_map (tree_held form a).entries ms)
          (λ k some. let there = within k (omega (arith, some, ap (times k) (named_flat (tree_held form a) ms))) in
          key_same form a d level k (beside k (omega (arith, there, times_row form a k level left, times_row form a k level right))))

      named_mended : AreNamed form (tree_held form a) level row → AreNamed form (tree_held form d) level row
      named_mended all =
          let before : List Entry = flat_map (tree_held form a).entries pre in
          let after : List Entry = flat_map (tree_held form a).entries post in
          let was : Entry → Type 0 = GivesKey form (tree_held form a) level in
          let has : Entry → Type 0 = GivesKey form (tree_held form d) level in
          let held = rw (flat_map-append (tree_held form a).entries pre (n ∷ post)) at (named_entries form (tree_held form a) level row all) in
          let own : All has naming.entries =
          keys_stay form (tree_held form b) (tree_held form d) level naming.entries
          (λ k some. key_same form b d level k
          (below_mended k (omega (arith, some, ap (times k) naming.names, times-append, times_row form b k level (left ++ (new ++ right))))))
          (same_each (λ (e : Entry). e.key) (λ (e : Entry). e.child) (key_held form (tree_held form b) level) naming.entries
          (naming.keys ∙ ap (map (key_held form (tree_held form b) level)) (sym naming.names))) in
          entries_named form (tree_held form d) level row (rw entries_now
          (All-append has before (naming.entries ++ after)
          (keyed_beside pre (λ k some. omega (arith, some, times-append)) (all_left was before (entries_in form (block_at a n) ++ after) held))
          (All-append has naming.entries after own
          (keyed_beside post (λ k some. omega (arith, some, times-append))
          (all_right was (entries_in form (block_at a n)) after (all_right was before (entries_in form (block_at a n) ++ after) held))))))

      mended_pool : IsSamePool a d
      mended_pool = pool_then a b d one.same naming.only.same

      rows_mended : (least ≤ length (entries_in form (block_at a n)) → least ≤ length naming.entries) → AreRowsIn form d least (suc level) row
      unfolding AreRowsOf
      rows_mended many = record {
        rows = (
          rw mended_pool.site (linked_same form (block_at a) (block_at d) (IsWholeNode form (site_of a) (tree_held form a) least)
              (IsWholeNode form (site_of a) (tree_held form d) least)
              (suc level) None row None
              (λ place within whole. same_or_other place.number n
              (λ is.
              whole_given least form.node_max (node_bytes form (site_of a)) (tree_held form a).entries (tree_held form d).entries (block_at a) (block_at d) n naming.entries place is
              naming.now.holds (naming.now.node place is) many naming.few whole)
              (λ other.
              node_same form (block_at a) (block_at d) (site_of a) least place (bytes_same place.number (times_of row place.number within) other) whole)) known.rows.0),
          named_mended known.rows.1,
          rw below_same down_mended.rows,
        );
        once = λ m. same_or_other (times m row) 0
            (λ out. omega (arith, out, times_mended m, down_after.once m))
            (λ here. omega (arith, (untouched m (omega (arith, here))).2, times_mended m, times_all m, known.once m));
        owned = λ m some. same_or_other (times m row) 0
            (λ out.
            down_mended.owned m (omega (arith, some, out, times_mended m, ap (times m) (blocks_same form b d level (left ++ (new ++ right)) below_mended))))
            (λ here.
            used_still a d m mended_pool (naming.only.free m ∙ (untouched m (omega (arith, here))).1) (known.owned m (omega (arith, here, times_all m))));
      }

      -- the node's other children keep all below them
      pub front_same : HoldSame form a d (blocks_of form a level front)
      front_same k some = beside k (omega (arith, some, times_blocks_append form a k level (children form a pre) front))

      pub after_same : HoldSame form a d (blocks_of form a level after)
      after_same k some = beside k (omega (arith, some, times_blocks_append form a k level after (children form a post)))

      child_same : HoldSame form b d (blocks_of form b level new)
      child_same k some = below_mended k (omega (arith, some, times_parts form b k level left new right))

      -- the blocks under the node
      times_own : (m : ℕ)
          → times m (blocks_of form d (suc level) (n ∷ []))
          ≡ times m (n ∷ []) + (times m (blocks_of form a level front) + (times m (blocks_of form b level new) + times m (blocks_of form a level after)))
      times_own m =
          times_under form d level n front new after names_now m
          ∙ rw (blocks_same form a d level front front_same, blocks_same form b d level new child_same, blocks_same form a d level after after_same) refl

      -- the records under the node
      pub records_above : records_of form d (suc level) (n ∷ []) ≡ records_of form a level front ++ (records_of form b level new ++ records_of form a level after)
      records_above =
          records_under_node form d level n front new after names_now
          ∙ rw (records_same form a d level front front_same, records_same form b d level new child_same, records_same form a d level after after_same) refl

  pub alters_above : (least0 : ℕ) (pre0 post0 : List ℕ) → AreRowsIn form a least0 (suc level) (pre0 ++ n ∷ post0)
      → (d : Blocks) → (naming : NamesChildren form a b d level n (front ++ (new ++ after)))
      → (floor : ℕ) → ((least : ℕ) → least ≤ floor → least ≤ length (entries_in form (block_at a n)) → least ≤ length naming.entries) → Alters form a d floor (suc level) n
  alters_above least0 pre0 post0 known0 d naming floor many =
      let only = naming.only in
      let before = times_under form a level n front old after named in
      let after = times_own least0 pre0 post0 known0 d naming in
      record {
        same = pool_then a b d one.same only.same;
        rows = λ least pre post low known. rows_mended least pre post known d naming (many least low);
        held = λ m used out.
            let kept = one.held m used (omega (arith, out, before m)) in (
              holds_then form a b d m kept.0 (holds_same form b d m (only.others m (not_alone m n (omega (arith, out, before m)))).bytes),
              only.free m ∙ kept.1,
              omega (arith, out, before m, after m, kept.2),
            );
        untouched = λ least pre post low known m used out.
            let all = times_all least pre post known m in
            untouched_then a b d m
            (one.untouched (left least pre post known) (right least pre post known) (down least pre post known) m used (omega (arith, out, all)))
            (only.others m (not_alone m n (omega (arith, out, all, times-append, times-append m (n ∷ []) post))));
        freed = λ m some none. only.free m ∙ one.freed m (omega (arith, some, none, before m, after m)) (omega (arith, none, after m));
        spare = λ m free out. only.free m ∙ one.spare m free (omega (arith, out, after m));
      }

-- a node that was given other entries for some children
module _ {X : Type 0} (form : Form X) (a b : Blocks) (level n k t : ℕ) (old new : List ℕ) where
  abbrev es : List Entry
  es = entries_in form (block_at a n)

  abbrev cs : List ℕ
  cs = named_below (tree_held form a) n

  abbrev next : List Entry
  next = take k es ++ (map (entry_for form b level) new ++ drop t es)

  abbrev key : ℕ → List ℕ
  key = key_held form (tree_held form b) level

  pub node_names : cs ≡ take k cs ++ (old ++ drop t cs) → Takes form a b level old new → (least : ℕ) (pre post : List ℕ) → AreRowsIn form a least (suc level) (pre ++ n ∷ post)
      → (d : Blocks) → WritesOnly b d n → HoldsNow form a d n next → length next ≤ form.node_max → NamesChildren form a b d level n (take k cs ++ (new ++ drop t cs))
  node_names named one least pre post known d only now few =
      let child : Entry → ℕ = λ e. e.child in
      let was : Entry → Type 0 = GivesKey form (tree_held form a) level in
      let has : Entry → Type 0 = GivesKey form (tree_held form b) level in
      let names : map child next ≡ take k cs ++ (new ++ drop t cs) =
      rw (map-append, map-append, entries_name form b level new, take-map child k es, drop-map child t es) refl in
      let all = named_at form (tree_held form a) level (pre ++ n ∷ post) n
      (rows_named form a least level (pre ++ n ∷ post) known) (found_in (pre ++ n ∷ post) n (row_has n n pre post refl)) in
      -- the children beside these have their keys still
      let stay : (part : List Entry) → ((m : ℕ) → 1 ≤ times m (map child part) → 1 ≤ times m (take k cs) + times m (drop t cs)) → All was part → All has part =
      λ part within. keys_stay form (tree_held form a) (tree_held form b) level part
      (λ m some. key_same form a b level m (sibling_held form a b level n (take k cs) old new (drop t cs) named one least pre post known m (within m some))) in
      record {
        only = only;
        entries = next;
        now = now;
        names = names;
        keys = each_key key next (All-append has (take k es) (map (entry_for form b level) new ++ drop t es)
            (stay (take k es) (λ m some. omega (arith, some, ap (times m) (take-map child k es))) (All-take was k es all))
            (All-append has (map (entry_for form b level) new) (drop t es) (All-map has (entry_for form b level) new (λ i d within. refl))
            (stay (drop t es) (λ m some. omega (arith, some, ap (times m) (drop-map child t es))) (All-drop was t es all)))) ∙ ap (map key) names;
        few = few;
      }

  -- what stands under a node whose children were regrouped is another tree with the same records
  pub regroups_same : Regroups form a b level n k t old new → IsInTree form a (suc level) n → (floor : ℕ) → floor ≤ length (entries_in form (block_at b n))
      → IsSameUnder form a b floor (suc level) n
  regroups_same made here floor many = record {
    alters = alters_above form a made.between level n (take k cs) old new (drop t cs) made.children made.takes here.least here.pre here.post here.rows b made.naming floor
        (λ least low some. omega (arith, low, many, ap length made.naming.now.holds));
    records = records_above form a made.between level n (take k cs) old new (drop t cs) made.children made.takes here.least here.pre here.post here.rows b made.naming
        ∙ rw made.records (sym (records_under_node form a level n (take k cs) old (drop t cs) made.children));
  }

  -- the children that a node names once some of them were regrouped
  module _ (made : Regroups form a b level n k t old new) (place : t ≡ k + length old) (inside : t ≤ length es) where
    pub names_after : named_below (tree_held form b) n ≡ take k cs ++ (new ++ drop t cs)
    names_after = ap (map (λ (e : Entry). e.child)) made.naming.now.holds ∙ made.naming.names

    pub front_long : length (take k cs) ≡ k
    front_long = length-take-le k cs (omega (arith, place, inside, length-map es (λ (e : Entry). e.child)))

    pub child_after : (i j : ℕ) → j ≡ k + i → i < length new → child_of form b n j ≡ get_or new i 0
    child_after i j is within =
        let spot : j ≡ length (take k cs) + i = omega (arith, is, front_long) in
        rw (names_after, spot) (get_or-append-add (take k cs) (new ++ drop t cs) i 0 ∙ get_or-append new (drop t cs) 0 i within)

    pub long_after : length (entries_in form (block_at b n)) + length old ≡ length es + length new
    long_after =
        omega (
          arith,
          ap length names_after,
          place,
          inside,
          front_long,
          length-map es (λ (e : Entry). e.child),
          length-map (entries_in form (block_at b n)) (λ (e : Entry). e.child),
          length-append {A = ℕ},
          length-drop {A = ℕ},
        )
