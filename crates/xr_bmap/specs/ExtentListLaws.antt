-- Extents that are valid, ascend and agree are the longest runs of the map that they make.
use Rattle.std.proofs.Common.{◌≡◌, ℕ, ◌+◌, ◌-◌, ◌<◌, ◌≤◌, true, List, length, map, get_or, Option, Some, None, refl, sym, ap, subst, ◌∙◌, ⊎_elim, arith}
use mathlib.Core.Path.{fun_ext}
use Rattle.std.proofs.lemmas.Bool.{cases_lt, false≢true}
use Rattle.std.proofs.lemmas.Bool.Decides.{nat_tests}
use Rattle.std.proofs.lemmas.List.{get_or-map, length-map}
use Rattle.std.proofs.lemmas.List.Elements.{All-map, Contains-get_or}
use Rattle.std.specs.List.{AllPairs, Any, Contains}
use Rattle.std.specs.Prelude.{IsSome}
use Rattle.std.specs.declared.cmp.Ordering.TheVariants.{Less}
use Rattle.xr_base.specs.Address.{address_after, address_of}
use Rattle.xr_base.specs.declared.address.Addr.{Addr}
use Rattle.xr_block.specs.Tree.{AreRecords}
use Rattle.xr_bmap.specs.ExtentLists.{ExtentsFollowFromMap, extent_of}
use Rattle.xr_bmap.specs.File.{extents_in}
use Rattle.xr_bmap.specs.SlotLaws.{block_at_offset, ends, known_slot, list_slot, one_extent, valid_in}
use Rattle.xr_bmap.specs.Slots.{HasOffset, mapped_in}
use Rattle.xr_kinds.specs.Mapping.{is_mapping, mapping_form}
use Rattle.xr_kinds.specs.declared.mapping.Mapping.{Mapping}
use Rattle.xr_maps.specs.Records.{AreExtentsOf, RunsOn, span_of_extent}
use Rattle.xr_maps.specs.Runs.{Covers, IsLongestRun, Span}
use Rattle.xr_maps.specs.declared.records.Extent.{Extent}

abbrev span_of : Mapping → Span
span_of r = span_of_extent (extent_of r)

abbrev no_extent : Mapping
no_extent = record { off = 0; at = 0; len = 0 }

covered : (r : Mapping) (k : ℕ) → Covers k (span_of r) → HasOffset r k
covered r k c = let from = c.begun in let below = c.not_ended in grind (arith, nat_tests)

covers : (r : Mapping) (k : ℕ) → HasOffset r k → Covers k (span_of r)
covers r k has = record { begun = grind (arith, nat_tests); not_ended = grind (arith, nat_tests) }

some_offsets : (r : Mapping) → is_mapping r ≡ true → 0 < r.len
some_offsets r good = grind (arith, nat_tests)

goes_behind : (a b : Mapping) → is_mapping a ≡ true → is_mapping b ≡ true → mapping_form.order a b ≡ Less → mapping_form.agree a b ≡ true → a.off + a.len ≤ b.off
goes_behind a b one other less agree = grind (arith, nat_tests)

pub address_same : (m n : ℕ) → m ≡ n → Some (address_of m) ≡ Some (address_of n)
address_same m n same = ap (λ (k : ℕ). Some (address_of k)) same

next_same : (a b : Addr) → Some a ≡ Some b → Some (address_after a 1) ≡ Some (address_after b 1)
next_same a b same = let is : a ≡ b = cc in ap (λ (x : Addr). Some (address_after x 1)) is

module _ (xs : List Mapping) (rules : AreRecords mapping_form xs) where
  at_next : (x : Mapping) → Contains xs x → (k : ℕ) → HasOffset x k → k + 1 ≡ x.off + x.len → RunsOn (mapped_in xs) k → ⊥
  at_next x held k has last on =
      let from = covers x k has in
      let here : Some on.here ≡ Some (block_at_offset x k) = sym on.is_here ∙ known_slot xs rules x held k has in
      ends xs rules x held
      (ap (mapped_in xs) (sym last) ∙ on.is_next ∙ next_same on.here (block_at_offset x k) here
      ∙ address_same (x.at + (k - x.off) + 1) (x.at + x.len) (omega (arith, from.begun, last)))

  -- what runs on to the first offset of an extent is of another one, which ends there
  not_before : (x : Mapping) → Contains xs x → (k : ℕ) → k + 1 ≡ x.off → RunsOn (mapped_in xs) k → ⊥
  not_before x held k first on = ⊎_elim
      (λ (none : (mapped_in xs k ≡ None) × ((y : Mapping) → Contains xs y → ¬ (HasOffset y k))). let is = on.is_here in let no = none.0 in absurd cc)
      (λ (some : (y : Mapping) × Contains xs y × HasOffset y k × (mapped_in xs k ≡ Some (block_at_offset y k))).
      let y : Mapping = some.0 in
      let in_y = covers y k some.2 in
      ⊎_elim
      (λ (more : k + 1 < y.off + y.len).
      let both : x ≡ y =
      one_extent xs rules x y (k + 1) held some.1 (covered x (k + 1) (record { begun = omega (arith, first); not_ended = omega (arith, first, some_offsets x (valid_in xs rules x held)) }))
      (covered y (k + 1) (record { begun = omega (arith, in_y.begun); not_ended = more })) in
      let off : x.off ≡ y.off = ap (λ (r : Mapping). r.off) both in
      absurd (omega (arith, off, first, in_y.begun)))
      (λ (last : y.off + y.len ≤ k + 1). at_next y some.1 k some.2 (omega (arith, last, in_y.not_ended)) on)
      (cases_lt (k + 1) (y.off + y.len)))
      (list_slot xs k)

  longest_run : (x : Mapping) → Contains xs x → IsLongestRun (λ (o : ℕ). IsSome (mapped_in xs o)) (RunsOn (mapped_in xs)) (span_of x)
  longest_run x held =
      let at = λ (k : ℕ) (c : Covers k (span_of x)). known_slot xs rules x held k (covered x k c) in
      record {
        some = some_offsets x (valid_in xs rules x held);
        there = λ k c. rw (at k c) refl;
        joined = λ k c d. record {
          here = block_at_offset x k;
          is_here = at k c;
          is_next = at (k + 1) d ∙ address_same (x.at + (k + 1 - x.off)) (x.at + (k - x.off) + 1) (let from = c.begun in omega (arith, from));
        };
        left = λ k first. not_before x held k first;
        right = λ k last.
            let some = some_offsets x (valid_in xs rules x held) in
            at_next x held k (covered x k (record { begun = omega (arith, last, some); not_ended = omega (arith, last, some) })) last;
      }

  abbrev spans : List Span
  spans = map span_of_extent (map extent_of xs)

  span_at : (k : ℕ) (d : Mapping) (e : Span) → k < length xs → get_or spans k e ≡ span_of (get_or xs k d)
  span_at k d e within =
      get_or-map span_of_extent (map extent_of xs) k (extent_of d) e (omega (arith, within, length-map xs extent_of))
      ∙ ap span_of_extent (get_or-map extent_of xs k d (extent_of d) within)

  rising : AllPairs (λ (s t : Span). s.start + s.len ≤ t.start) spans
  rising i j d before within =
      let late : j < length xs = omega (arith, within, length-map (map extent_of xs) span_of_extent, length-map xs extent_of) in
      let early : i < length xs = omega (arith, before, late) in
      let a : Mapping = get_or xs i no_extent in
      let b : Mapping = get_or xs j no_extent in
      rw (span_at i no_extent d early, span_at j no_extent d late)
      (goes_behind a b (rules.valid i no_extent early) (rules.valid j no_extent late) (rules.ascend i j no_extent before late) (rules.agree i j no_extent before late))

  every : (k : ℕ) → IsSome (mapped_in xs k) → Any (Covers k) spans
  every k some = ⊎_elim
      (λ (none : (mapped_in xs k ≡ None) × ((y : Mapping) → Contains xs y → ¬ (HasOffset y k))). let lie = rw none.0 at some in absurd (false≢true lie))
      (λ (found : (y : Mapping) × Contains xs y × HasOffset y k × (mapped_in xs k ≡ Some (block_at_offset y k))).
      let y : Mapping = found.0 in
      let place = found.1 in (
        place.0,
        span_of y,
        omega (arith, place.1, length-map (map extent_of xs) span_of_extent, length-map xs extent_of),
        span_at place.0 y (span_of y) place.1 ∙ ap span_of place.2,
        covers y k found.2,
      ))
      (list_slot xs k)

  pub extents_are : AreExtentsOf (mapped_in xs) (map extent_of xs)
  extents_are = record {
    runs = record {
      each = All-map (IsLongestRun (λ (o : ℕ). IsSome (mapped_in xs o)) (RunsOn (mapped_in xs))) span_of_extent (map extent_of xs)
          (All-map (λ (e : Extent). IsLongestRun (λ (o : ℕ). IsSome (mapped_in xs o)) (RunsOn (mapped_in xs)) (span_of_extent e)) extent_of xs
          (λ k d within. longest_run (get_or xs k d) (Contains-get_or xs k d within)));
      rising = rising;
      every = every;
    };
    starts = All-map (λ (e : Extent). mapped_in xs e.off ≡ Some e.at) extent_of xs
        (λ k d within.
        let x : Mapping = get_or xs k d in
        let held = Contains-get_or xs k d within in
        known_slot xs rules x held x.off (covered x x.off (record { begun = omega arith; not_ended = omega (arith, some_offsets x (valid_in xs rules x held)) }))
        ∙ address_same (x.at + (x.off - x.off)) x.at (omega arith));
  }

pub extents_follow_from_map : ExtentsFollowFromMap
extents_follow_from_map file uuid blocks slots is same =
    subst (λ (s : ℕ → Option Addr). AreExtentsOf s (map extent_of (extents_in file uuid blocks))) (fun_ext same)
    (extents_are (extents_in file uuid blocks) is.tree.mapping.records)
