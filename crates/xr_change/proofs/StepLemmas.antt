-- A step down under a node and back: the tree under a child became another one, and the node's key of it is mended.
use Rattle.std.proofs.Common.{◌≡◌, ℕ, suc, ◌<◌, ◌≤◌, List, ◌∷◌, ◌++◌, length, take, drop, get_or, set, sym, ap, ◌∙◌, subst, [], refl, arith}
use Rattle.std.proofs.Math.Seq.{drop-cons, split_at}
use Rattle.std.proofs.lemmas.List.{length-append, length-drop, length-take-le}
use Rattle.xr_kinds.specs.Form.{Form, IsForm}
use Rattle.xr_pool.specs.Overlay.{AreKnown, Blocks, block_at, is_changed, pool_size}
use Rattle.xr_block.specs.Rows.{min_records, key_held, named_below}
use Rattle.xr_block.specs.Tree.{site_of, records_of, tree_held}
use Rattle.xr_block.specs.TreeBlock.{Entry, Place, Site, count_in, entries_in}
use Rattle.xr_change.proofs.DescentLemmas.{names_around}
use Rattle.xr_change.proofs.NodeContextLemmas.{row_has, rows_among}
use Rattle.xr_change.proofs.BlockInTreeLemmas.{in_pool, is_under}
use Rattle.xr_change.proofs.RowItemLemmas.{block_key, block_whole, child_at, items_counted, row_whole, whole_least}
use Rattle.xr_change.proofs.NodeChangeLemmas.{alters_above, node_names, node_stays, records_above}
use Rattle.xr_change.proofs.ParentLemmas.{kth_node, kth_of}
use Rattle.xr_change.proofs.RowBlockLemmas.{alters_takes, times_row, alters_then, children}
use Rattle.xr_change.proofs.WriteLemmas.{set_around, same_count, unchanged_less}
use Rattle.xr_change.specs.Alters.{AreRowsIn, Takes}
use Rattle.xr_change.specs.Changes.{Changes, HasPathWithRoom, HasPathWithSurplus, HasPath, Inserts, MayUpdateKey, Removes, Replaces}
use Rattle.xr_change.specs.Regroups.{HoldsNow, GivesKey, NamesChildren, entry_for, items_held, place_named}
use Rattle.xr_change.specs.Sets.{inserted, removed, replaced}
use Rattle.xr_change.specs.Paths.{IsInTree, IsChildAt, child_of, full_on_path, item_count}
use Rattle.xr_change.specs.Writes.{WritesOnly, MarksAtMost, unchanged, unmarked}
use Rattle.xr_block.specs.EditLaws.{node_count, node_entries, node_moved}
use Rattle.xr_block.specs.Edits.{IsNodeOf, with_key}
use Rattle.xr_block.specs.DescentLaws.{node_few}
use Rattle.xr_block.specs.UnderLaws.{min_records_some}
use Rattle.xr_block.specs.NodeEntries.{key_in}
use Rattle.xr_block.specs.NodeEntryLaws.{entry_read, length-entries}

-- another key at a place is another entry there
keyed_at : (held : List Entry) (k c : ℕ) (key : List ℕ) (d : Entry) → k < length held → (get_or held k d).child ≡ c
    → with_key k key held ≡ take k held ++ record { key = key; child = c } ∷ drop (suc k) held
keyed_at held k c key d within is = rw (drop-cons held k d within, is) refl

pub keyed_is : (held : List Entry) (k c : ℕ) (key : List ℕ) (d : Entry) → k < length held → (get_or held k d).child ≡ c
    → with_key k key held ≡ set held k (record { key = key; child = c })
keyed_is held k c key d within is = keyed_at held k c key d within is ∙ sym (set_around held k (record { key = key; child = c }) within)

-- what an edit of a node does, whatever the node held
abbrev pub Edits : {X : Type 0} → Form X → Blocks → Blocks → ℕ → (List Entry → List Entry) → Type 0
Edits form b d n edit = (site : Site) (place : Place) (entries : List Entry) → IsNodeOf form site place entries (block_at b n)
    → IsNodeOf form site place (edit entries) (block_at d n)

module _ {X : Type 0} (form : Form X) (laws : IsForm form) (a : Blocks) (n : ℕ) (here : Place) (node : IsNodeOf form (site_of a) here (entries_in form (block_at a n)) (block_at a n)) where
  abbrev held : List Entry
  held = entries_in form (block_at a n)

  -- the node has other entries, at each place that it has
  abbrev pub Has : Blocks → List Entry → Type 0
  Has b entries = (place : Place) → IsNodeOf form (site_of a) place held (block_at a n) → IsNodeOf form (site_of a) place entries (block_at b n)

  pub has_same : (b : Blocks) → block_at b n ≡ block_at a n → Has b held
  has_same b same = λ place was. rw same was

  pub has_edited : (b d : Blocks) (entries next : List Entry) (edit : List Entry → List Entry) → Edits form b d n edit → Has b entries → edit entries ≡ next → Has d next
  has_edited b d entries next edit edits has is = λ place was. rw (← is) (edits (site_of a) place entries (has place was))

  pub has_count : (b : Blocks) (entries : List Entry) → Has b entries → count_in (block_at b n) ≡ length entries
  has_count b entries has = node_count form laws (site_of a) here (block_at b n) entries (has here node)

  pub has_few : (b : Blocks) (entries : List Entry) → Has b entries → length entries ≤ form.node_max
  has_few b entries has = (has here node).few

  pub holds_now : (z : Blocks) (entries : List Entry) → Has z entries → HoldsNow form a z n entries
  holds_now z entries has = record {
    node = λ place number was. (has place (node_moved form laws (site_of a) here (block_at a n) place held (block_at a n) node was)).whole;
    holds = node_entries form laws (site_of a) here (block_at z n) entries (has here node);
  }

-- a block in a row of its level has a key
module _ {X : Type 0} (form : Form X) where
  pub row_below : (b : Blocks) (least level : ℕ) (pre : List ℕ) (c : ℕ) (post : List ℕ) → AreRowsIn form b least level (pre ++ c ∷ post) → c < pool_size b
  row_below b least level pre c post rows = (rows.owned c (omega (arith, row_has c c pre post refl, times_row form b c level (pre ++ c ∷ post)))).below

  pub row_keyed : (laws : IsForm form) (b : Blocks) (known : AreKnown b) (level : ℕ) (pre : List ℕ) (c : ℕ) (post : List ℕ)
      → AreRowsIn form b (min_records form level) level (pre ++ c ∷ post) → GivesKey form level (block_at b c)
  row_keyed laws b known level pre c post rows =
      let whole = row_whole form laws b known (min_records form level) level (pre ++ c ∷ post) rows c (row_has c c pre post refl) in
      let place : Place = place_named form b level c in
      block_key form laws level (site_of b) place (items_held form level (block_at b c)) (block_at b c)
      (block_whole form laws b level (min_records form level) place known.identified (known.whole c (row_below b (min_records form level) level pre c post rows)) whole)
      (omega (arith, items_counted form b level c, whole_least form b level (min_records form level) place whole, min_records_some form laws level))

-- a child that has its key already
pub keyed_again : {X : Type 0} (form : Form X) (laws : IsForm form) (site : Site) (place : Place) (entries : List Entry) (bytes : List ℕ) → IsNodeOf form site place entries bytes
    → (k : ℕ) (key : List ℕ) → k < count_in bytes → key_in form k bytes ≡ key → with_key k key entries ≡ entries
keyed_again form laws site place entries bytes whole k key within is =
    let d : Entry = record { key = []; child = 0 } in
    let inside : k < length entries = omega (arith, within, node_count form laws site place bytes entries whole) in
    let had : key ≡ (get_or entries k d).key =
    sym is ∙ ap (λ (e : Entry). e.key) (sym (entry_read form bytes k d within))
    ∙ ap (λ (es : List Entry). (get_or es k d).key) (node_entries form laws site place bytes entries whole) in
    keyed_at entries k (get_or entries k d).child key d inside refl ∙ rw had (sym (split_at entries k d inside))

-- the tree under a child became another one, and the node gives it its key
module _ {X : Type 0} (form : Form X) (laws : IsForm form) (a s b : Blocks) (lost level n k c : ℕ) (change : List X → List X)
    (path : HasPath form a s lost level n k change) (child : c ≡ child_of form s n k) (below : Changes form s b lost level c change) where
  abbrev at : IsInTree form s (suc level) n
  at = path.here

  abbrev cs : List ℕ
  cs = named_below (tree_held form s) n

  abbrev es : List Entry
  es = entries_in form (block_at s n)

  around : cs ≡ take k cs ++ c ∷ drop (suc k) cs
  around = names_around form s level n k at path.within ∙ ap (λ (m : ℕ). take k cs ++ m ∷ drop (suc k) cs) (sym child)

  takes : Takes form s b level (c ∷ []) (c ∷ [])
  takes = alters_takes form s b level c (below.alters (min_records form level) (omega (arith, path.least, ap (item_count form s level) child)))

  stays : block_at b n ≡ block_at s n
  stays = node_stays form s b level n (take k cs) (c ∷ []) (c ∷ []) (drop (suc k) cs) around takes at.least at.pre at.post at.rows

  pub may_update_key : MayUpdateKey form b level n k c
  may_update_key = record {
    here = subst (λ (size : ℕ). suc n ≤ size) (sym takes.same.pool) (in_pool form s (suc level) n at);
    pre = children form s at.pre ++ take k cs;
    post = drop (suc k) cs ++ children form s at.post;
    rows = takes.rows (children form s at.pre ++ take k cs) (drop (suc k) cs ++ children form s at.post)
        (rows_among form s n (take k cs) (c ∷ []) (drop (suc k) cs) around at.pre at.post at.least level at.rows);
    within = omega (arith, ap count_in stays, path.within, length-entries form (block_at s n));
    few = omega (arith, ap count_in stays, node_few form laws s (suc level) level n refl (is_under form s (suc level) n at));
  }

  module _ (known : AreKnown s) (d : Blocks) (only : WritesOnly b d n) (marks : MarksAtMost b d (unmarked b (n ∷ [])))
      (made : Edits form b d n (with_key k (key_held form (tree_held form b) level c))) where
    abbrev mended : List Entry
    mended = take k es ++ entry_for form b level c ∷ drop (suc k) es

    kth : IsChildAt form s level n k c
    kth = kth_of form laws s level n k c known at path.within child

    long : length mended ≡ length es
    long = omega (arith, path.within, length-append {A = Entry}, length-take-le k es (omega (arith, path.within)), length-drop {A = Entry})

    now : HoldsNow form s d n mended
    now =
        let place : Place = place_named form s (suc level) n in
        let node = kth_node form laws s level n k c kth in
        let none : Entry = record { key = []; child = 0 } in
        let key : List ℕ = key_held form (tree_held form b) level c in
        holds_now form laws s n place node d mended
        (has_edited form laws s n place node b d es mended (with_key k key) made (has_same form laws s n place node b stays)
        (keyed_at es k c key none path.within (child_at form s n k c none path.within (sym child))))

    naming : NamesChildren form s b d level n (take k cs ++ c ∷ drop (suc k) cs)
    naming = node_names form s b level n k (suc k) (c ∷ []) (c ∷ []) around takes at.least at.pre at.post at.rows d only now (omega (arith, long, kth.few))

    count_above : length (entries_in form (block_at d n)) ≡ length es
    count_above = ap length now.holds ∙ long

    changes_above : Changes form a d lost (suc level) n change
    changes_above = record {
      alters = λ floor low. alters_then form a s d floor (suc level) n (path.same floor low).alters
          (alters_above form s b level n (take k cs) (c ∷ []) (c ∷ []) (drop (suc k) cs) around takes at.least at.pre at.post at.rows d naming floor
          (λ least low some. omega (arith, some, count_above, ap length naming.now.holds)));
      set = records_above form s b level n (take k cs) (c ∷ []) (c ∷ []) (drop (suc k) cs) around takes at.least at.pre at.post at.rows d naming
          ∙ ap (λ (rs : List X). records_of form s level (take k cs) ++ (rs ++ records_of form s level (drop (suc k) cs)))
          (below.set ∙ ap (λ (m : ℕ). change (records_of form s level (m ∷ []))) child) ∙ sym path.there;
      marks = record {
        stay = λ m is. marks.stay m (below.marks.stay m (path.stay m is));
        few = omega (arith, path.few, below.marks.few, marks.few, ap (unchanged s) child, unchanged_less (is_changed s n) (is_changed b n) (below.marks.stay n));
      };
    }

module _ {X : Type 0} (form : Form X) (laws : IsForm form) (a s b : Blocks) (level n k c : ℕ) (child : c ≡ child_of form s n k) (known : AreKnown s) (d : Blocks)
    (only : WritesOnly b d n) (free : d.free ≡ b.free) (marks : MarksAtMost b d (unmarked b (n ∷ []))) (made : Edits form b d n (with_key k (key_held form (tree_held form b) level c))) where
  pub inserts_above : (r : X) → HasPathWithRoom form a s level n r k → Inserts form s b level c r → Inserts form a d (suc level) n r
  inserts_above r room under = record {
    changes = changes_above form laws a s b 0 level n k c (inserted form.order r) room.path child under.changes known d only marks made;
    grown = omega (arith, room.grown, count_above form laws a s b 0 level n k c (inserted form.order r) room.path child under.changes known d only marks made);
    free = omega (arith, under.free, room.taken, ap (λ (m : ℕ). full_on_path form s level m r) child, same_count b d free only.same.pool);
  }

  pub removes_above : (r : X) → HasPathWithSurplus form a s level n r k → Removes form s b level c r → Removes form a d (suc level) n r
  removes_above r spare under = record {
    changes = changes_above form laws a s b 1 level n k c (removed form.order r) spare.path child under.changes known d only marks made;
    free = omega (arith, spare.free, under.free, same_count b d free only.same.pool);
  }

  pub replaces_above : (old new : X) → HasPath form a s 0 level n k (replaced form.order old new) → s.free ≡ a.free → Replaces form s b level c old new → Replaces form a d (suc level) n old new
  replaces_above old new path same under = record {
    changes = changes_above form laws a s b 0 level n k c (replaced form.order old new) path child under.changes known d only marks made;
    free = free ∙ under.free ∙ same;
  }
