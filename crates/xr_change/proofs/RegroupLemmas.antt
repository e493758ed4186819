-- Some blocks of a row are taken for others that hold the same items: what stands under them is another tree of the same records.
use Rattle.std.proofs.Common.{take, drop, ◌≡◌, ℕ, ◌+◌, ◌<◌, ◌≤◌, true, false, Option, Some, None, List, ◌∷◌, ◌++◌, refl, sym, ap, ◌∙◌, subst, arith, ⊎_elim}
use Rattle.std.specs.List.{last_or}
use Rattle.xr_kinds.specs.Form.{Form, IsForm}
use Rattle.xr_pool.specs.Overlay.{Blocks, block_at, is_changed, is_free, pool_size, AreKnown}
use Rattle.xr_block.specs.Rows.{AreLinked, AreRowsOf, first_of, min_records, named_below}
use Rattle.xr_block.specs.Times.{times}
use Rattle.xr_block.specs.Tree.{IsUsed, blocks_of, records_of, site_of, tree_held}
use Rattle.xr_block.specs.TreeBlock.{Place, Site}
use Rattle.xr_change.proofs.SameItemLemmas.{items_append, items_same, records_regrouped, rest_regrouped, rows_regrouped, times_rest_append, times_rows, whole_same}
use Rattle.xr_change.proofs.NodeContextLemmas.{counted, first_after, first_within, is_some_of, last_names, linked_after, linked_joined, linked_stays, row_parts}
use Rattle.xr_change.proofs.SiblingLemmas.{block_of, with_left_holds}
use Rattle.xr_change.proofs.NodeChangeLemmas.{whole_with_left}
use Rattle.xr_change.proofs.RowBlockLemmas.{holds_same, times_row}
use Rattle.xr_block.specs.TimesLaws.{times-append}
use Rattle.xr_change.specs.Alters.{AreRowsIn, HoldsSame, IsSamePool, IsUntouched, IsWholeAt, Takes}
use Rattle.xr_change.specs.Regroups.{GivesKey, HaveSameItems, HasNewLeft, StayLinked, rows_below}
use Rattle.xr_change.specs.Writes.{MarksAtMost}
use Rattle.xr_block.specs.Checks.{right_in}

-- c and the blocks after it are taken for c and others with the same items, and the node n that names them as its k-th and the next is as it was
pub record Moves {X : Type 0} (form : Form X) (before after : Blocks) (level n k t c more : ℕ) (olds news : List ℕ) : Type 0 where
  pub last : ℕ
  pub last' : ℕ
  pub same : IsSamePool before after
  pub last_is : last_or (Some c) olds ≡ Some last
  pub last_now : last_or (Some c) news ≡ Some last'
  pub linked : StayLinked form before after level (c ∷ olds) (c ∷ news)
  pub items : HaveSameItems form before after level (c ∷ olds) (c ∷ news)
  -- the block after them in their level is linked to the last of them, and nothing else is touched
  pub next : (q : ℕ) → right_in form (block_at before last) ≡ Some q → HasNewLeft form before after q last last'
  pub others : (m : ℕ) → times m (c ∷ olds) ≡ 0 → times m (c ∷ news) ≡ 0 → (right_in form (block_at before last) ≡ Some m → ⊥) → IsUntouched before after m
  -- blocks that come in were free, and those that leave are
  pub once : (m : ℕ) → times m (c ∷ news) ≤ 1
  pub taken : (m : ℕ) → 1 ≤ times m (c ∷ news) → times m (c ∷ olds) ≡ 0 → (is_free before m ≡ true) × (1 ≤ m) × (m < pool_size before)
  pub used : (m : ℕ) → 1 ≤ times m (c ∷ news) → is_free after m ≡ false
  pub freed : (m : ℕ) → 1 ≤ times m (c ∷ olds) → times m (c ∷ news) ≡ 0 → is_free after m ≡ true
  pub free : (m : ℕ) → times m (c ∷ olds) ≡ 0 → times m (c ∷ news) ≡ 0 → is_free after m ≡ is_free before m
  pub around : (let cs = named_below (tree_held form before) n in cs ≡ take k cs ++ ((c ∷ olds) ++ drop t cs))
  pub kept : block_at after n ≡ block_at before n
  -- what is known of those that n is to name
  pub apart : (m : ℕ) → 1 ≤ times m (c ∷ news) → m ≡ n → ⊥
  pub below : (m : ℕ) → 1 ≤ times m (c ∷ news) → m < pool_size before
  pub keyed : (m : ℕ) → 1 ≤ times m (c ∷ news) → GivesKey form level (block_at after m)
  pub changed : (m : ℕ) → 1 ≤ times m (c ∷ news) → is_changed after m ≡ true
  pub marks : MarksAtMost before after more

module _ {X : Type 0} {form : Form X} (laws : IsForm form) {before after : Blocks} (known : AreKnown before) {level n k t c more : ℕ} {olds news : List ℕ}
    (r : Moves form before after level n k t c more olds news) where
  abbrev old : List ℕ
  old = c ∷ olds

  abbrev new : List ℕ
  new = c ∷ news

  -- what isn't free and isn't taken isn't new
  not_new : (m : ℕ) → is_free before m ≡ false → times m old ≡ 0 → times m new ≡ 0
  not_new m used without = grind (arith, r.taken m, used, without)

  module _ (left right : List ℕ) (rows : AreRowsIn form before (min_records form level) level (left ++ (old ++ right))) where
    abbrev row : List ℕ
    row = left ++ (old ++ right)

    abbrev row_now : List ℕ
    row_now = left ++ (new ++ right)

    here : (m : ℕ) → times m (blocks_of form before level row) ≡ (times m left + (times m old + times m right)) + times m (rows_below form before level row)
    here = counted form before level left old right rows

    right_of_old : right_in form (block_at before r.last) ≡ first_of right None
    right_of_old = last_names form before level left old right rows c olds refl r.last r.last_is laws known

    -- the block right of the last holds what it held
    next_holds : (q : ℕ) → right_in form (block_at before r.last) ≡ Some q → HoldsSame form before after q
    next_holds q is =
        let next : first_of right None ≡ Some q = sym right_of_old ∙ is in
        let found = first_after form before level left old right rows c olds refl r.last r.last_is q next in
        let place : Place = record { number = q; level = level; left = Some r.last; right = found.0 } in
        let used = rows.owned q (omega (arith, first_within right q next, here q)) in
        let block = block_of form laws before known (min_records form level) level place used.below found.1 in
        with_left_holds form laws before known after place (record place { left = Some r.last' }) block (r.next q is place block.count block.items refl refl block.block)

    -- and so do all blocks beside those that were taken, which keep their bytes but for that one
    others_hold : (m : ℕ) → is_free before m ≡ false → times m old ≡ 0 → HoldsSame form before after m
    others_hold m used without = ⊎_elim
        (λ (is : right_in form (block_at before r.last) ≡ Some m). next_holds m is)
        (λ (beside : right_in form (block_at before r.last) ≡ Some m → ⊥). holds_same form before after m (r.others m without (not_new m used without) beside).bytes)
        (is_some_of (right_in form (block_at before r.last)) m)

    apart : (m : ℕ) → 1 ≤ times m left + (times m right + times m (rows_below form before level row)) → (is_free before m ≡ false) × (times m old ≡ 0)
    apart m some = ((rows.owned m (omega (arith, some, here m))).taken, omega (arith, some, here m, rows.once m))

    untouched : (m : ℕ) → is_free before m ≡ false → times m old ≡ 0 → (first_of right None ≡ Some m → ⊥) → IsUntouched before after m
    untouched m used without beside = r.others m without (not_new m used without) (λ is. beside (sym right_of_old ∙ is))

    stays : (m : ℕ) → 1 ≤ times m left + times m (rows_below form before level row) → block_at after m ≡ block_at before m
    stays m some =
        let out = apart m (omega (arith, some)) in (untouched m out.0 out.1 (λ is. absurd (omega (arith, some, first_within right m is, here m, rows.once m)))).bytes

    below_stays : (m : ℕ) → 1 ≤ times m (rows_below form before level row) → block_at after m ≡ block_at before m
    below_stays m some = stays m (omega (arith, some))

    hold_beside : (m : ℕ) → 1 ≤ times m left + times m right → HoldsSame form before after m
    hold_beside m some = let out = apart m (omega (arith, some)) in others_hold m out.0 out.1

    items_now : HaveSameItems form before after level row row_now
    items_now =
        items_append form before after level left (old ++ right) left (new ++ right) (items_same form before after level left (λ m some. hold_beside m (omega (arith, some))))
        (items_append form before after level old right new right r.items (items_same form before after level right (λ m some. hold_beside m (omega (arith, some)))))

    linked_now : AreLinked (IsWholeAt form (site_of before) (tree_held form after) level (min_records form level)) (block_at after) level None row_now None
    linked_now =
        let P : Place → List ℕ → Type 0 = IsWholeAt form (site_of before) (tree_held form before) level (min_records form level) in
        let Q : Place → List ℕ → Type 0 = IsWholeAt form (site_of before) (tree_held form after) level (min_records form level) in
        let o : Option ℕ = last_or None left in
        let parts = row_parts form before level left old right rows in
        let after_it : AreLinked Q (block_at after) level (Some r.last') right None =
        linked_after P Q (block_at before) (block_at after) level (Some r.last) (Some r.last') right None
        (λ m. omega (arith, here m, rows.once m))
        (λ q is place at low near whole.
        whole_with_left form before after q r.last r.last' (min_records form level) level place at near (r.next q (right_of_old ∙ is)) (next_holds q (right_of_old ∙ is)) whole)
        (λ place low some beside whole.
        let out = apart place.number (omega (arith, some)) in
        whole_same form before after (site_of before) (min_records form level) level place (untouched place.number out.0 out.1 beside).bytes whole)
        (subst (λ (l : Option ℕ). AreLinked P (block_at before) level l right None) r.last_is parts.2) in
        linked_joined Q (block_at after) level None left (new ++ right) None
        (linked_stays P Q (block_at before) (block_at after) level None left (first_of (new ++ right) None)
        (λ place low some whole. whole_same form before after (site_of before) (min_records form level) level place (stays place.number (omega (arith, some))) whole) parts.0)
        (linked_joined Q (block_at after) level o new right None (r.linked o (first_of right None) parts.1)
        (subst (λ (l : Option ℕ). AreLinked Q (block_at after) level l right None) (sym r.last_now) after_it))

    counted_now : (m : ℕ) → times m (blocks_of form after level row_now) + times m old ≡ times m (blocks_of form before level row) + times m new
    counted_now m =
        omega (
          arith,
          ap (times m) (rest_regrouped form before after row row_now level items_now below_stays),
          here m,
          times_rows form after m level row_now,
          times-append m left (new ++ right),
          times-append m new right,
        )

    -- a block that comes in stood nowhere
    once_now : (m : ℕ) → times m (blocks_of form after level row_now) ≤ 1
    once_now m = grind (arith, r.once m, counted_now m, rows.once m, not_new m, λ (there : 1 ≤ times m (blocks_of form before level row)). (rows.owned m there).taken)

    owned_now : (m : ℕ) → 1 ≤ times m (blocks_of form after level row_now) → IsUsed (is_free after) (pool_size after) m
    owned_now m some =
        let had : 1 ≤ times m old → 1 ≤ times m (blocks_of form before level row) = λ within. omega (arith, within, here m) in
        record {
          from = grind (arith, some, had, counted_now m, r.taken m, λ (there : 1 ≤ times m (blocks_of form before level row)). (rows.owned m there).from);
          below = grind (arith, some, had, counted_now m, r.taken m, r.same.pool, λ (there : 1 ≤ times m (blocks_of form before level row)). (rows.owned m there).below);
          taken = grind (arith, some, had, counted_now m, rows.once m, r.used m, r.free m, λ (there : 1 ≤ times m (blocks_of form before level row)). (rows.owned m there).taken);
        }

    rows_after : AreRowsIn form after (min_records form level) level row_now
    rows_after = record {
      rows = subst (λ (site : Site). AreRowsOf form site (block_at after) (tree_held form after) (min_records form level) level row_now) (sym r.same.site)
          (rows_regrouped form before after row row_now (site_of before) (min_records form level) level items_now below_stays linked_now rows.rows);
      once = once_now;
      owned = owned_now;
    }

    -- what stands below them stays
    pub moves_below : (m : ℕ) → 1 ≤ times m (rows_below form before level old) → block_at after m ≡ block_at before m
    moves_below m some = below_stays m (omega (arith, some, times_rest_append form before m level left (old ++ right), times_rest_append form before m level old right))

    pub moves_records : records_of form after level new ≡ records_of form before level old
    moves_records = records_regrouped form before after old new level r.items moves_below

  pub moves_takes : (left right : List ℕ) → AreRowsIn form before (min_records form level) level (left ++ (old ++ right)) → Takes form before after level old new
  moves_takes left right rows =
      let counts : (m : ℕ) → times m (blocks_of form after level new) + times m old ≡ times m (blocks_of form before level old) + times m new =
      λ m. omega (
        arith,
        ap (times m) (rest_regrouped form before after old new level r.items (moves_below left right rows)),
        times_rows form before m level old,
        times_rows form after m level new,
      ) in
      record {
        same = r.same;
        rows = rows_after;
        held = λ m used none.
            let without : times m old ≡ 0 = omega (arith, none, times_row form before m level old) in
            let out : times m new ≡ 0 = not_new m used without in
            (others_hold left right rows m used without, r.free m without out ∙ used, omega (arith, none, without, out, counts m));
        untouched = λ left right rows m used none.
            untouched left right rows m used (omega (arith, none, here left right rows m)) (λ is. absurd (omega (arith, none, first_within right m is, here left right rows m)));
        freed = λ m some none. r.freed m (omega (arith, some, none, counts m)) (omega (arith, none, times_row form after m level new));
        spare = λ m free none. grind (arith, free, none, times_row form after m level new, r.free m, r.freed m);
      }
