-- Replaying the items of a transaction, one after another.
use Rattle.std.proofs.Common.{◌≡◌, ◌∙◌, ◌||◌, ℕ, ◌+◌, ◌<◌, ◌≤◌, Bool, true, false, List, [], ◌∷◌, ◌++◌, length, get_or, map, drop, refl, sym, ap, subst, arith}
use Rattle.std.specs.List.{AllByRecursion, flat_map}
use Rattle.std.proofs.Math.Seq.{drop-append_seam, get_or-append_seam}
use Rattle.std.proofs.lemmas.Grind.{flat_map-append}
use Rattle.std.proofs.lemmas.List.{append-nil, append_assoc, length-append, length-map, map-append}
use Rattle.xr_items.specs.declared.item.Item.{Item}
use Rattle.xr_commit.specs.ItemsOf.{region_count}
use Rattle.xr_commit.specs.LoggedItems.{Logged, logged_regions}
use Rattle.xr_scan.specs.LoggedEntries.{IsWholeItem, Logs, logged_items}
use Rattle.xr_scan.specs.Replayed.{is_logged, logs_block}
use Rattle.xr_scan.specs.Replaying.{AreCopies, IsNextLogged, Replays}
use Rattle.xr_scan.specs.Scanned.{copy_number, copy_of}
use Rattle.xr_scan.specs.Replayed.{replayed}
use Rattle.xr_scan.specs.CopyLaws.{or_false, replays_then}
use Rattle.xr_commit.specs.ItemsOfLaws.{length-logged_regions}

-- the first of these items were replayed, whose regions come to this place
pub record IsReplaying (ls : List Logged) (at i : ℕ) (old : List ℕ) (marks : List Bool) (now : List ℕ) (marks' : List Bool) : Type 0 where
  pub front : List Logged
  pub back : List Logged
  pub all : ls ≡ front ++ back
  pub index : i ≡ length front
  pub place : at ≡ length (flat_map logged_regions front)
  pub so_far : Replays front old marks now marks'

pub begins : (ls : List Logged) (old : List ℕ) (marks : List Bool) → AreCopies old marks → IsReplaying ls 0 0 old marks old marks
begins ls old marks copies = record {
  front = [];
  back = ls;
  all = refl;
  index = refl;
  place = refl;
  so_far = record { copies = copies; blocks = λ block has. refl; dirty = λ block has. sym (or_false (get_or marks (copy_number block) false)) };
}

whole_at : (front back : List Logged) (l : Logged) → AllByRecursion IsWholeItem (front ++ l ∷ back) → IsWholeItem l
whole_at [] back l all = all.0
whole_at (m ∷ front) back l all = whole_at front back l all.1

-- the next item, and what is replayed with it
pub record GoesOn (regions : List (List ℕ)) (ls : List Logged) (at i : ℕ) (item : Item) (old : List ℕ) (marks : List Bool) (now : List ℕ) (marks' : List Bool) : Type 0 where
  pub l : Logged
  pub next : IsNextLogged regions at item l
  pub within : at + region_count item ≤ length regions
  pub on : (new : List ℕ) (marks'' : List Bool) → Replays (l ∷ []) now marks' new marks'' → IsReplaying ls (at + region_count item) (i + 1) old marks new marks''

pub goes_on : (regions : List (List ℕ)) (items : List Item) (ls : List Logged) (at i : ℕ) (item d : Item) (old : List ℕ) (marks : List Bool) (now : List ℕ) (marks' : List Bool)
    → Logs regions ls → items ≡ logged_items ls → i < length items → item ≡ get_or items i d → (t : IsReplaying ls at i old marks now marks')
    → GoesOn regions ls at i item old marks now marks'
goes_on regions items ls at i item d old marks now marks' logs are below is t = step t.back t.all where
  step : (back : List Logged) → ls ≡ t.front ++ back → GoesOn regions ls at i item old marks now marks'
  step [] all = absurd (omega (arith, below, ap length are, length-map ls (λ (l : Logged). l.item), ap length all, ap length (append-nil t.front), t.index))
  step (l ∷ rest) all =
      let f : Logged → Item = λ m. m.item in
      let more : List (List ℕ) = flat_map logged_regions rest in
      let parts : regions ≡ flat_map logged_regions t.front ++ (logged_regions l ++ more) =
      logs.regions_are ∙ ap (flat_map logged_regions) all ∙ flat_map-append logged_regions t.front (l ∷ rest) in
      let here : drop at regions ≡ logged_regions l ++ more =
      ap (λ (n : ℕ). drop n regions) t.place ∙ ap (drop (length (flat_map logged_regions t.front))) parts
      ∙ drop-append_seam (flat_map logged_regions t.front) (logged_regions l ++ more) in
      let items_are : items ≡ map f t.front ++ l.item ∷ map f rest = are ∙ ap (map f) all ∙ map-append f t.front (l ∷ rest) in
      let at_item : i ≡ length (map f t.front) = t.index ∙ sym (length-map t.front f) in
      let same : item ≡ l.item = is ∙ ap (λ (xs : List Item). get_or xs i d) items_are ∙ ap (λ (n : ℕ). get_or (map f t.front ++ l.item ∷ map f rest) n d) at_item
      ∙ get_or-append_seam (map f t.front) l.item (map f rest) d in
      let many : length (logged_regions l) ≡ region_count item = length-logged_regions l ∙ ap region_count (sym same) in
      record {
        l = l;
        next = record {
          item_is = sym same;
          whole = whole_at t.front rest l (subst (AllByRecursion IsWholeItem) all logs.whole);
          rest = more;
          here = here;
        };
        within = omega (arith, ap length parts, length-append (flat_map logged_regions t.front) (logged_regions l ++ more), length-append (logged_regions l) more, t.place, many);
        on = λ new marks'' one. record {
          front = t.front ++ l ∷ [];
          back = rest;
          all = all ∙ sym (append_assoc t.front (l ∷ []) rest);
          index = omega (arith, t.index, length-append t.front (l ∷ []));
          place = omega (
            arith,
            t.place,
            many,
            ap length (flat_map-append logged_regions t.front (l ∷ [])),
            length-append (flat_map logged_regions t.front) (flat_map logged_regions (l ∷ [])),
            ap length (append-nil (logged_regions l)),
          );
          so_far = replays_then t.front (l ∷ []) old now new marks marks' marks'' t.so_far one;
        };
      }

pub ends : (items : List Item) (ls : List Logged) (at i : ℕ) (old : List ℕ) (marks : List Bool) (now : List ℕ) (marks' : List Bool) → items ≡ logged_items ls → length items ≤ i
    → (t : IsReplaying ls at i old marks now marks') → Replays ls old marks now marks'
ends items ls at i old marks now marks' are past t = step t.back t.all where
  step : (back : List Logged) → ls ≡ t.front ++ back → Replays ls old marks now marks'
  step [] all = subst (λ (xs : List Logged). Replays xs old marks now marks') (sym (all ∙ append-nil t.front)) t.so_far
  step (l ∷ rest) all = absurd (omega (arith, past, ap length are, length-map ls (λ (m : Logged). m.item), ap length all, length-append t.front (l ∷ rest), t.index))
