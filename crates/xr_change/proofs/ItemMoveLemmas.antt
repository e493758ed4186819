-- Items that are moved to a block and a new one, to two blocks anew, or to the first of two.
use Rattle.std.proofs.Common.{◌≡◌, ℕ, zero, suc, ◌+◌, ◌-◌, ◌/◌, ◌≤◌, Option, Some, None, List, [], ◌∷◌, ◌++◌, length, take, drop, refl, sym, ap, ◌∙◌, subst, arith, take-append-drop}
use Rattle.std.proofs.lemmas.List.{length-append, length-drop, length-take-le}
use Rattle.std.specs.Option.{option_to_list}
use Rattle.xr_block.specs.TimesLaws.{times_other}
use Rattle.xr_kinds.specs.Form.{Form, IsForm, pointer_size}
use Rattle.xr_pool.specs.Overlay.{Blocks, block_at, AreKnown}
use Rattle.xr_block.specs.Rows.{AreLinked, min_records}
use Rattle.xr_block.specs.Times.{times}
use Rattle.xr_block.specs.Tree.{site_of, tree_held}
use Rattle.xr_block.specs.TreeBlock.{Place, Site, count_in, sibling, tree_block}
use Rattle.xr_change.specs.Alters.{IsWholeAt}
use Rattle.xr_change.proofs.RowItemLemmas.{Gathers, block_holds, block_key, block_whole, min_records_is, items_counted, one_flat, two_flat, whole_least, whole_now}
use Rattle.xr_change.proofs.SiblingLemmas.{links_read, whole_moved}
use Rattle.xr_change.proofs.WriteLemmas.{for_one, for_two, one_beside, writes_then}
use Rattle.xr_change.specs.Draft.{ReadsAs}
use Rattle.xr_change.specs.Regroups.{MovesItems, GivesKey, IsBlockOf, IsBetweenSiblings, HasNewLeft, Item, items_held, place_named}
use Rattle.xr_change.specs.Paths.{item_count, max_records}
use Rattle.xr_change.specs.Writes.{Writes}
use Rattle.xr_block.specs.EditLaws.{first_stretch, last_stretch, other_stretch, whole_stretch}
use Rattle.xr_block.specs.Edits.{sealed}
use Rattle.xr_block.specs.SealLaws.{sealed_block}
use Rattle.xr_block.specs.UnderLaws.{min_records_some}
use Rattle.xr_block.specs.Checks.{right_in}

-- a block that isn't the next one
pub not_next : (m : ℕ) (next : Option ℕ) → ((q : ℕ) → next ≡ Some q → q ≡ m → ⊥) → times m (option_to_list next) ≡ 0
not_next m None apart = refl
not_next m (Some q) apart = times_other m q [] (apart q refl)

-- a link between what was there and what is there in the end
relinked_between : {X : Type 0} (form : Form X) (a b z : Blocks) (q old new : ℕ) → block_at b q ≡ block_at a q → site_of b ≡ site_of a
    → HasNewLeft form b z q old new → HasNewLeft form a z q old new
relinked_between form a b z q old new same site relinked = λ place count items is left was.
    relinked place count items is left (same ∙ was ∙ ap (λ (s : Site). tree_block form s place count items) (sym site))
    ∙ ap (λ (s : Site). tree_block form s (record place { left = Some new }) count items) site

-- a whole block has its checksum
block_sealed : {X : Type 0} (form : Form X) (level : ℕ) (site : Site) (place : Place) (items : List (Item X level)) (bytes : List ℕ)
    → IsBlockOf form level site place items bytes → sealed form bytes ≡ bytes
unfolding IsBlockOf
block_sealed form zero site place items bytes is = ap (sealed form) is.whole ∙ sealed_block form site place _ _ is.identified ∙ sym is.whole
block_sealed form (suc level) site place items bytes is = ap (sealed form) is.whole ∙ sealed_block form site place _ _ is.identified ∙ sym is.whole

-- a block that was moved some items
record IsDealt {X : Type 0} (form : Form X) (a : Blocks) (level : ℕ) (z : Blocks) (place : Place) (items : List (Item X level)) : Type 0 where
  many : min_records form level ≤ length items
  of : IsBlockOf form level (site_of a) place items (block_at z place.number)

module _ {X : Type 0} (form : Form X) (laws : IsForm form) (a : Blocks) (known : AreKnown a) (level : ℕ) where
  abbrev Of : Place → List (Item X level) → List ℕ → Type 0
  Of = IsBlockOf form level (site_of a)

  abbrev items_of : ℕ → List (Item X level)
  items_of c = items_held form level (block_at a c)

  placed_block : (c : ℕ) → IsBetweenSiblings form a level c → Of (place_named form a level c) (items_of c) (block_at a c)
  placed_block c placed = block_whole form laws a level (min_records form level) (place_named form a level c) known.identified (known.whole c placed.below) placed.whole

  -- what a block has by its count
  pub placed_count : (c : ℕ) → IsBetweenSiblings form a level c → (count_in (block_at a c) ≡ item_count form a level c) × (item_count form a level c ≤ max_records form level)
  placed_count c placed =
      let holds = block_holds form laws level (site_of a) (place_named form a level c) (items_of c) (block_at a c) (placed_block c placed) in
      let counted = items_counted form a level c in (holds.1 ∙ sym counted, omega (arith, counted, holds.2))

  -- the same of a copy, which may have no checksum
  pub copy_count : (c : ℕ) (block : List ℕ) → ReadsAs form block (block_at a c) → IsBetweenSiblings form a level c
      → (count_in block ≡ item_count form a level c) × (count_in block ≤ max_records form level)
  copy_count c block reads placed =
      let size = placed_count c placed in
      let counted : count_in block ≡ item_count form a level c = reads.count ∙ size.0 in
      (counted, omega (arith, counted, size.1))

  -- a copy with its checksum is the block, which has its own
  pub copy_sealed : (c : ℕ) (block : List ℕ) → ReadsAs form block (block_at a c) → IsBetweenSiblings form a level c → sealed form block ≡ block_at a c
  copy_sealed c block reads placed =
      reads.sealed ∙ block_sealed form level (site_of a) (place_named form a level c) (items_of c) (block_at a c) (placed_block c placed)

  -- it has the links that it names
  links_of : (c : ℕ) → IsBetweenSiblings form a level c → (left right : Option ℕ)
      → IsWholeAt form (site_of a) (tree_held form a) level (min_records form level) (record { number = c; level = level; left = left; right = right }) (block_at a c)
      → (let place = place_named form a level c in let p = pointer_size form in (sibling p left ≡ sibling p place.left) × (sibling p right ≡ sibling p place.right))
  links_of c placed left right whole =
      let links = links_read form laws a known (min_records form level) level (record { number = c; level = level; left = left; right = right }) placed.below whole in
      (sym links.0, sym links.1)

  module _ {z : Blocks} {place : Place} {items : List (Item X level)} (moved : IsDealt form a level z place items) where
    dealt_items : items_held form level (block_at z place.number) ≡ items
    dealt_items = (block_holds form laws level (site_of a) place items (block_at z place.number) moved.of).0

    dealt_key : GivesKey form level (block_at z place.number)
    dealt_key = block_key form laws level (site_of a) place items (block_at z place.number) moved.of (omega (arith, moved.many, min_records_some form laws level))

    -- and is whole between other siblings, if their numbers have the same bytes
    dealt_at : (left right : Option ℕ) → sibling (pointer_size form) left ≡ sibling (pointer_size form) place.left
        → sibling (pointer_size form) right ≡ sibling (pointer_size form) place.right
        → IsWholeAt form (site_of a) (tree_held form z) level (min_records form level) (record place { left = left; right = right }) (block_at z place.number)
    dealt_at left right is_left is_right =
        whole_moved form (site_of a) (tree_held form z) (min_records form level) level place (record place { left = left; right = right }) (block_at z place.number) refl refl
        is_left is_right (whole_now form laws a z level place items moved.of moved.many)

  -- the items are gathered of two blocks, and stay where they were written
  gathered : (c d : ℕ) → IsBetweenSiblings form a level c → IsBetweenSiblings form a level d → (b z : Blocks) (site : Site) → site ≡ site_of a
      → (from to : ℕ) (place : Place) (items : List (Item X level)) → Gathers form level site (block_at a c) (block_at a d) from to place (block_at b place.number)
      → block_at z place.number ≡ block_at b place.number → take (to - from) (drop from (items_of c ++ items_of d)) ≡ items
      → min_records form level ≤ length items → IsDealt form a level z place items
  gathered c d placed after b z site same from to place items gathers stays is many =
      let here = subst (λ (s : Site). Gathers form level s (block_at a c) (block_at a d) from to place (block_at b place.number)) same gathers in
      record {
        many = many;
        of = subst (Of place items) (sym stays)
            (subst (λ (list : List (Item X level)). Of place list (block_at b place.number)) is (here _ _ _ _ (placed_block c placed) (placed_block d after)));
      }

  module _ (c m : ℕ) (placed : IsBetweenSiblings form a level c) (full : item_count form a level c ≡ max_records form level) (apart : c ≡ m → ⊥)
      (beside : (q : ℕ) → right_in form (block_at a c) ≡ Some q → q ≡ m → ⊥)
      (b d z : Blocks) (count : ℕ) (counted : count ≡ count_in (block_at a c))
      (first : Writes a b (c ∷ [])) (second : Writes b d (m ∷ [])) (third : Writes d z (option_to_list (right_in form (block_at a c)))) where
    abbrev low_place : Place
    low_place = record (place_named form a level c) { right = Some m }

    abbrev high_place : Place
    high_place = record (place_named form a level c) { number = m; left = Some c }

    pub split_moved : Gathers form level (site_of a) (block_at a c) (block_at a c) 0 (count / 2) low_place (block_at b c)
        → Gathers form level (site_of b) (block_at a c) (block_at a c) (count / 2) count high_place (block_at d m)
        → ((q old : ℕ) → right_in form (block_at a c) ≡ Some q → HasNewLeft form d z q old m)
        → MovesItems form a z level (c ∷ []) (c ∷ m ∷ []) (c ∷ m ∷ option_to_list (right_in form (block_at a c))) c m
    unfolding AreLinked
    split_moved low high linked =
        let next : Option ℕ = right_in form (block_at a c) in
        let xs : List (Item X level) = items_of c in
        let size = placed_count c placed in
        let all : count ≡ length xs = counted ∙ size.0 ∙ items_counted form a level c in
        let h : ℕ = count / 2 in
        let halved : min_records form level ≡ h = min_records_is form level ∙ ap (λ (n : ℕ). n / 2) (sym full ∙ sym size.0 ∙ sym counted) in
        let front : IsDealt form a level z low_place (take h xs) =
        gathered c c placed placed b z (site_of a) refl 0 h low_place (take h xs) low ((third.others c (not_next c next placed.right_apart)).bytes ∙ one_beside b d m second c apart)
        (first_stretch xs xs h (omega (arith, all))) (omega (arith, halved, length-take-le h xs (omega (arith, all)))) in
        let rest : IsDealt form a level z high_place (drop h xs) =
        gathered c c placed placed d z (site_of b) first.same.site h count high_place (drop h xs) high (third.others m (not_next m next beside)).bytes
        (other_stretch xs xs h count (omega arith) all) (omega (arith, halved, all, length-drop h xs)) in
        record {
          writes = writes_then a d z (c ∷ m ∷ []) (writes_then a b d (c ∷ []) first (m ∷ []) second) (option_to_list next) third;
          linked = λ left right was.
              let links = links_of c placed left right was.0 in (dealt_at front left (Some m) links.0 refl, (dealt_at rest (Some c) right refl links.1, tt));
          keyed = for_two (λ (x : ℕ). GivesKey form level (block_at z x)) c m (dealt_key front) (dealt_key rest);
          items = two_flat (λ (x : ℕ). items_held form level (block_at z x)) c m
              ∙ rw (dealt_items front, dealt_items rest) (take-append-drop h xs ∙ sym (one_flat items_of c));
          next = λ q right.
              relinked_between form a d z q c m (one_beside b d m second q (beside q right) ∙ one_beside a b c first q (placed.right_apart q right))
              (second.same.site ∙ first.same.site) (linked q c right);
        }

  module _ (c d : ℕ) (placed : IsBetweenSiblings form a level c) (after : IsBetweenSiblings form a level d) (first_count next_count : ℕ)
      (counted : first_count ≡ count_in (block_at a c)) (next_counted : next_count ≡ count_in (block_at a d)) where
    abbrev total : ℕ
    total = first_count + next_count

    abbrev xs : List (Item X level)
    xs = items_of c

    abbrev ys : List (Item X level)
    ys = items_of d

    all_long : total ≡ length xs + length ys
    all_long =
        omega (arith, counted, next_counted, (placed_count c placed).0, (placed_count d after).0, items_counted form a level c, items_counted form a level d)

    pub rebalance_moved : (c ≡ d → ⊥) → ((q : ℕ) → right_in form (block_at a d) ≡ Some q → q ≡ c → ⊥) → (count : ℕ) (b z : Blocks) → Writes a b (c ∷ []) → Writes b z (d ∷ [])
        → min_records form level ≤ count → min_records form level + count ≤ item_count form a level c + item_count form a level d
        → Gathers form level (site_of a) (block_at a c) (block_at a d) 0 count (place_named form a level c) (block_at b c)
        → Gathers form level (site_of b) (block_at a c) (block_at a d) count total (place_named form a level d) (block_at z d)
        → MovesItems form a z level (c ∷ d ∷ []) (c ∷ d ∷ []) (c ∷ d ∷ []) d d × (item_count form z level c ≡ count)
    unfolding AreLinked
    rebalance_moved apart beside count b z first second many_low many_high low high =
        let joined : List (Item X level) = xs ++ ys in
        let both : length joined ≡ total = length-append xs ys ∙ sym all_long in
        let high_long : min_records form level + count ≤ total = omega (arith, all_long, many_high, items_counted form a level c, items_counted form a level d) in
        let low_long : length (take count joined) ≡ count = length-take-le count joined (omega (arith, both, high_long)) in
        let front : IsDealt form a level z (place_named form a level c) (take count joined) =
        gathered c d placed after b z (site_of a) refl 0 count (place_named form a level c) (take count joined) low (one_beside b z d second c apart)
        (let none : count - 0 ≡ count = omega arith in ap (λ (n : ℕ). take n joined) none) (omega (arith, many_low, low_long)) in
        let rest : IsDealt form a level z (place_named form a level d) (drop count joined) =
        gathered c d placed after z z (site_of b) first.same.site count total (place_named form a level d) (drop count joined) high refl
        (last_stretch xs ys count total all_long) (omega (arith, high_long, both, length-drop count joined)) in (
          record {
            writes = writes_then a b z (c ∷ []) first (d ∷ []) second;
            linked = λ left right was.
                let one = links_of c placed left (Some d) was.0 in
                let two = links_of d after (Some c) right was.1.0 in (dealt_at front left (Some d) one.0 one.1, (dealt_at rest (Some c) right two.0 two.1, tt));
            keyed = for_two (λ (x : ℕ). GivesKey form level (block_at z x)) c d (dealt_key front) (dealt_key rest);
            items = two_flat (λ (x : ℕ). items_held form level (block_at z x)) c d
                ∙ rw (dealt_items front, dealt_items rest) (take-append-drop count joined ∙ sym (two_flat items_of c d));
            next = λ q right place count items at left block.
                one_beside b z d second q (after.right_apart q right) ∙ one_beside a b c first q (beside q right) ∙ block
                ∙ ap (λ (l : Option ℕ). tree_block form (site_of a) (record place { left = l }) count items) left;
          },
          items_counted form z level c ∙ ap length (dealt_items front) ∙ low_long,
        )

    pub merge_moved : (beside : (q : ℕ) → right_in form (block_at a d) ≡ Some q → q ≡ c → ⊥) (b z : Blocks) → Writes a b (c ∷ [])
        → Writes b z (option_to_list (right_in form (block_at a d)))
        → Gathers form level (site_of a) (block_at a c) (block_at a d) 0 total (record (place_named form a level c) { right = right_in form (block_at a d) }) (block_at b c)
        → ((q old : ℕ) → right_in form (block_at a d) ≡ Some q → HasNewLeft form b z q old c)
        → MovesItems form a z level (c ∷ d ∷ []) (c ∷ []) (c ∷ option_to_list (right_in form (block_at a d))) d c
    unfolding AreLinked
    merge_moved beside b z first second whole linked =
        let next : Option ℕ = right_in form (block_at a d) in
        let least = whole_least form a level (min_records form level) (place_named form a level c) placed.whole in
        let all : IsDealt form a level z (record (place_named form a level c) { right = next }) (xs ++ ys) =
        gathered c d placed after b z (site_of a) refl 0 total (record (place_named form a level c) { right = next }) (xs ++ ys) whole (second.others c (not_next c next beside)).bytes
        (whole_stretch xs ys total all_long) (omega (arith, length-append xs ys, items_counted form a level c, least)) in
        record {
          writes = writes_then a b z (c ∷ []) first (option_to_list next) second;
          linked = λ left right was.
              let one = links_of c placed left (Some d) was.0 in
              let two = links_of d after (Some c) right was.1.0 in (dealt_at all left right one.0 two.1, tt);
          keyed = for_one (λ (x : ℕ). GivesKey form level (block_at z x)) c (dealt_key all);
          items = one_flat (λ (x : ℕ). items_held form level (block_at z x)) c ∙ dealt_items all ∙ sym (two_flat items_of c d);
          next = λ q right. relinked_between form a b z q d c (one_beside a b c first q (beside q right)) first.same.site (linked q d right);
        }
