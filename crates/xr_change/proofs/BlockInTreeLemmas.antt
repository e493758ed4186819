-- A block of a tree in its row: what a lookup may do there, and what a leaf is after its records were changed.
use Rattle.std.proofs.Common.{◌≡◌, ℕ, zero, suc, ◌≤◌, None, List, [], ◌∷◌, ◌++◌, length, sym, ap, ◌∙◌, subst, arith, ◌+◌, ◌<◌, true, get_or, append-nil, Contains, is_eq}
use Rattle.xr_block.specs.TimesLaws.{all_of, found_in, times_same, times-append}
use Rattle.xr_kinds.specs.Form.{Form, IsForm}
use Rattle.xr_block.specs.FrameLaws.{leaf_same, linked_same}
use Rattle.xr_pool.specs.Overlay.{Blocks, block_at, free_count, pool_size, with_block, AreKnown}
use Rattle.xr_pool.specs.OverlayLaws.{block_written}
use Rattle.xr_block.specs.Rows.{AreRowsOf, IsWholeLeaf, leaves_from}
use Rattle.xr_block.specs.Times.{times}
use Rattle.xr_block.specs.Tree.{blocks_of, site_of, tree_held, records_of}
use Rattle.xr_block.specs.TreeBlock.{Place, Site, leaf_bytes, records_in, count_in, entries_in}
use Rattle.xr_change.proofs.EditLemmas.{leaf_read}
use Rattle.xr_change.proofs.RowItemLemmas.{row_whole, whole_leaf}
use Rattle.xr_change.proofs.ReadLemmas.{read_records}
use Rattle.xr_change.proofs.WriteLemmas.{block_writes, same_count, written_only}
use Rattle.xr_change.proofs.RowBlockLemmas.{holds_same, not_alone, times_leaves, times_parts, times_row, same_or_other, used_still, whole_given}
use Rattle.xr_change.proofs.SetLemmas.{IsPlaceFor, stands_at}
use Rattle.xr_change.specs.Alters.{Alters}
use Rattle.xr_change.specs.Changes.{Changes}
use Rattle.xr_change.specs.Draft.{ReadsAs}
use Rattle.xr_change.specs.Regroups.{place_named}
use Rattle.xr_change.specs.Paths.{IsInTree, item_count}
use Rattle.xr_change.specs.Writes.{WritesOnly, Writes}
use Rattle.xr_block.specs.EditLaws.{leaf_count, leaf_of_whole, leaf_records}
use Rattle.xr_block.specs.Edits.{IsLeafOf, sealed}
use Rattle.xr_block.specs.DescentLaws.{leaf_is, leaf_parted, node_few}
use Rattle.xr_block.specs.Bounds.{IsParted, IsPlaceOf, is_before}
use Rattle.xr_block.specs.Leaf.{IsLeaf}
use Rattle.xr_block.specs.declared.bound.Bound.{Bound}
use Rattle.xr_block.specs.declared.bound.Bound.TheVariants.{Before}
use Rattle.xr_block.specs.Under.{IsUnder}
use Rattle.xr_block.specs.NodeEntryLaws.{length-entries}

module _ {X : Type 0} (form : Form X) (b : Blocks) (level n : ℕ) (here : IsInTree form b level n) where
  pub in_row : 1 ≤ times n (here.pre ++ n ∷ here.post)
  in_row = omega (arith, times-append n here.pre (n ∷ here.post), times_same n here.post)

  pub in_pool : n < pool_size b
  in_pool = (here.rows.owned n (omega (arith, in_row, times_row form b n level (here.pre ++ n ∷ here.post)))).below

  pub is_under : IsUnder form b level n
  is_under = record {
    least = here.least;
    row = here.pre ++ n ∷ here.post;
    within = found_in (here.pre ++ n ∷ here.post) n in_row;
    rows = here.rows.rows;
    own = all_of (λ (m : ℕ). m < pool_size b) (blocks_of form b level (here.pre ++ n ∷ here.post)) (λ m some. (here.rows.owned m some).below);
    valid = here.valid;
    ascend = here.ascend;
    agree = here.agree;
  }

pub leaf_alone : {X : Type 0} (form : Form X) (b : Blocks) (n : ℕ) → records_of form b zero (n ∷ []) ≡ records_in form (block_at b n)
unfolding leaves_from
leaf_alone form b n = append-nil (records_in form (block_at b n))

-- a leaf that was written with other records
module _ {X : Type 0} (form : Form X) (laws : IsForm form) (b : Blocks) (known : AreKnown b) (n : ℕ) (here : IsInTree form b zero n) where
  abbrev held : List X
  held = records_in form (block_at b n)

  leaf_here : (place : Place) → block_at b n ≡ leaf_bytes form (site_of b) place held → length held ≤ form.leaf_max → IsLeafOf form (site_of b) place held (block_at b n)
  leaf_here place whole few =
      let own = known.whole n (in_pool form b zero n here) in
      leaf_of_whole form laws (site_of b) place (block_at b n) 0 known.identified own.long own.are_bytes (record { whole = whole; least_items = omega arith; most_items = few })

  own_place : (place : Place) × IsLeafOf form (site_of b) place held (block_at b n)
  own_place =
      let whole = (whole_leaf form (site_of b) (tree_held form b) here.least (place_named form b zero n) (block_at b n)).0
      (row_whole form laws b known here.least zero (here.pre ++ n ∷ here.post) here.rows n (in_row form b zero n here)) in
      (place_named form b zero n, leaf_here (place_named form b zero n) whole.whole whole.most_items)

  pub leaf_counts : (old : List ℕ) → ReadsAs form old (block_at b n) → (count_in old ≡ length held) × (count_in old ≤ form.leaf_max)
  leaf_counts old reads =
      let count = reads.count ∙ leaf_count form laws (site_of b) own_place.0 (block_at b n) held own_place.1 in (count, omega (arith, count, own_place.1.few))

  -- where a record is looked for, and where it is found
  pub leaf_sought : (old : List ℕ) → ReadsAs form old (block_at b n) → (bound : Bound X) → IsLeaf form old × IsParted (is_before form bound) (records_in form old)
  leaf_sought old reads bound =
      let under = is_under form b zero n here in
      let is = leaf_is form laws b n under in
      let same = read_records form old (block_at b n) reads in (
        record { counted = ap length same ∙ is.counted ∙ sym reads.count; few = omega (arith, reads.count, is.few) },
        subst (IsParted (is_before form bound)) (sym same) (leaf_parted form laws b n under bound),
      )

  pub leaf_found : (old : List ℕ) → ReadsAs form old (block_at b n) → (r : X) (k : ℕ) → IsPlaceOf (is_before form (Before r)) (records_in form old) k
      → IsPlaceFor form.order r held k
  leaf_found old reads r k place = rw (read_records form old (block_at b n) reads) at place

  -- a record of the leaf stands where the first does that isn't below it
  pub leaf_stands : (r : X) (k : ℕ) → IsPlaceFor form.order r held k → Contains (records_of form b zero (n ∷ [])) r
      → (k < length held) × ((d : X) → is_eq (form.order (get_or held k d) r) ≡ true)
  leaf_stands r k place found =
      stands_at form.order laws.total r held (rw (leaf_alone form b n) at here.ascend) k place (rw (leaf_alone form b n) at found)

  module _ (old bytes : List ℕ) (reads : ReadsAs form old (block_at b n)) (records : List X) (made : (site : Site) (place : Place)
      → IsLeafOf form site place held (sealed form old) → IsLeafOf form site place records bytes) where
    abbrev after : Blocks
    after = with_block b n bytes

    written : block_at after n ≡ bytes
    written = block_written b n bytes (in_pool form b zero n here)

    writes : Writes b after (n ∷ [])
    writes = block_writes b n bytes known.all (in_pool form b zero n here)

    only : WritesOnly b after n
    only = written_only b after n writes

    now : (place : Place) → IsLeafOf form (site_of b) place held (block_at b n) → IsLeafOf form (site_of b) place records bytes
    now place was = made (site_of b) place (leaf_read form old (block_at b n) reads (site_of b) place held was)

    holds : records_in form (block_at after n) ≡ records
    holds = ap (records_in form) written ∙ leaf_records form laws (site_of b) own_place.0 bytes records (now own_place.0 own_place.1)

    apart : (m : ℕ) → times m (blocks_of form b zero (n ∷ [])) ≡ 0 → m ≡ n → ⊥
    apart m out = not_alone m n (omega (arith, out, times_leaves form b m (n ∷ [])))

    alters_leaf : (floor : ℕ) → floor ≤ length records → Alters form b after floor zero n
    unfolding AreRowsOf
    alters_leaf floor many = record {
      same = writes.same;
      rows = λ least pre post low rows. record {
        rows = rw writes.same.site
            (linked_same form (block_at b) (block_at after) (IsWholeLeaf form (site_of b) (tree_held form b) least) (IsWholeLeaf form (site_of b) (tree_held form after) least)
            zero None (pre ++ n ∷ post) None
            (λ place within whole. same_or_other place.number n
            (λ is.
            whole_given least form.leaf_max (leaf_bytes form (site_of b)) (tree_held form b).records (tree_held form after).records
            (block_at b) (block_at after) n records place is holds
            (λ was. written ∙ (now place (leaf_here place was own_place.1.few)).whole) (λ some. omega (arith, low, many)) (now own_place.0 own_place.1).few whole)
            (λ other. leaf_same form (block_at b) (block_at after) (site_of b) least place (only.others place.number other).bytes whole)) rows.rows);
        once = λ m. omega (arith, rows.once m, times_leaves form b m (pre ++ n ∷ post), times_leaves form after m (pre ++ n ∷ post));
        owned = λ m some.
            let used = rows.owned m (omega (arith, some, times_leaves form b m (pre ++ n ∷ post), times_leaves form after m (pre ++ n ∷ post))) in
            used_still b after m writes.same (only.free m ∙ used.taken) used;
      };
      held = λ m used out.
          (holds_same form b after m (only.others m (apart m out)).bytes, only.free m ∙ used, omega (arith, out, times_leaves form b m (n ∷ []), times_leaves form after m (n ∷ [])));
      untouched = λ least pre post low rows m used out. only.others m (apart m (omega (arith, out, times_parts form b m zero pre (n ∷ []) post)));
      freed = λ m some none. absurd (omega (arith, some, none, times_leaves form b m (n ∷ []), times_leaves form after m (n ∷ [])));
      spare = λ m free out. only.free m ∙ free;
    }

    pub leaf_changes : (lost : ℕ) (change : List X → List X) → records ≡ change held → length held ≤ length records + lost → Changes form b after lost zero n change
    leaf_changes lost change is many = record {
      alters = λ floor low. alters_leaf floor (omega (arith, low, many));
      set = leaf_alone form after n ∙ holds ∙ is ∙ ap change (sym (leaf_alone form b n));
      marks = record { stay = writes.marks.stay; few = omega (arith, writes.marks.few) };
    }

    pub leaf_long : length (records_in form (block_at after n)) ≡ length records
    leaf_long = ap length holds

    pub leaf_free : free_count after ≡ free_count b
    leaf_free = same_count b after writes.free writes.same.pool

-- a node is one level above its children
pub one_more : (level : ℕ) → level + 1 ≡ suc level
one_more level = omega arith

pub node_in : {X : Type 0} (form : Form X) (b : Blocks) (level n : ℕ) → IsInTree form b (level + 1) n → IsInTree form b (suc level) n
node_in form b level n = subst (λ (l : ℕ). IsInTree form b l n) (one_more level)

pub node_items : {X : Type 0} (form : Form X) (b : Blocks) (level n : ℕ) → item_count form b (level + 1) n ≡ length (entries_in form (block_at b n))
node_items form b level n = ap (λ (l : ℕ). item_count form b l n) (one_more level)

pub node_room : {X : Type 0} (form : Form X) (laws : IsForm form) (b : Blocks) (level n : ℕ) → IsInTree form b (level + 1) n
    → length (entries_in form (block_at b n)) ≤ form.node_max
node_room form laws b level n here =
    omega (arith, node_few form laws b (level + 1) level n (omega arith) (is_under form b (level + 1) n here), length-entries form (block_at b n))
