-- Why the records of a tree of owners follow from their pairs: two that agree neither say one pair nor pairs that run on.
use Rattle.std.proofs.Common.{◌≡◌, ◌≢◌, ℕ, ◌+◌, ◌-◌, ◌*◌, ◌^◌, ◌<◌, ◌≤◌, ◌==◌, true, false, if◌then◌else◌, List, length, map, get_or, refl, sym, ap, ◌∙◌, subst, ⊎_elim, arith}
use Rattle.std.proofs.lemmas.Bool.{cases_lt}
use Rattle.std.proofs.lemmas.Bool.Decides.{Decides-eqb, nat_tests}
use Rattle.std.proofs.lemmas.Cmp.{nat_eq_equiv, tied_itself}
use Rattle.std.proofs.lemmas.List.{get_or-map, length-map}
use Rattle.std.proofs.lemmas.List.Elements.{All-contains, Contains-get_or}
use Rattle.std.proofs.lemmas.Map.Made.{IsDistinct-from_AllPairs, is_member-Decides, length-le_from_is_member}
use Rattle.std.specs.List.{AllPairs, Contains}
use Rattle.std.specs.declared.cmp.Ordering.TheVariants.{Less}
use Rattle.xr_base.specs.declared.geometry.TheConstants.{OWN_COW}
use Rattle.xr_block.specs.Tree.{AreRecords}
use Rattle.xr_change.specs.SetLaws.{agree_in}
use Rattle.xr_kinds.specs.Reverse.{is_reverse, reverse_form, reverse_span}
use Rattle.xr_kinds.specs.ReverseLaws.{is_reverse_form}
use Rattle.xr_kinds.specs.Spans.{end_of}
use Rattle.xr_kinds.specs.declared.reverse.Reverse.{Reverse}
use Rattle.xr_maps.specs.RunLaws.{same_sorted}
use Rattle.xr_rmap.specs.Pairs.{HasPairIn, HaveSamePairs, IsMaximal, IsPair, NoMoreRecordsThanPairs, Pair, PairsDetermineRecords, PairsHaveOneRecord, RecordsAreMaximal, is_in_front, offset_after, pair}

-- two records that say one pair, or of which the second says the pair behind one of the first, don't agree
pub same_clash : (x y : Reverse) (w o n : ℕ) → IsPair x w o n → IsPair y w o n → reverse_form.agree x y ≡ false
same_clash x y w o n one other = grind (arith, nat_tests, one.same_owner, other.same_owner, one.at, other.at)

next_clash : (x y : Reverse) (w o n p m : ℕ) → IsPair x w o n → IsPair y w p m → m ≡ n + 1 → (if w == OWN_COW then p == 0 else p == o + 1) ≡ true
    → reverse_form.agree x y ≡ false
next_clash x y w o n p m one other next on = grind (arith, nat_tests, one.same_owner, other.same_owner, one.at, other.at)

pub some_blocks : (r : Reverse) → is_reverse r ≡ true → 0 < r.len
some_blocks r good = grind (arith, nat_tests)

-- the first pair of a record and the last one
pub first_pair : (r : Reverse) → is_reverse r ≡ true → IsPair r r.owner r.off r.start
first_pair r good = record { same_owner = refl; from = omega arith; below = omega (arith, some_blocks r good); at = grind (arith, nat_tests) }

abbrev last_offset : Reverse → ℕ
last_offset r = if r.owner == OWN_COW then 0 else r.off + r.len - 1

last_pair : (r : Reverse) → is_reverse r ≡ true → IsPair r r.owner (last_offset r) (r.start + r.len - 1)
last_pair r good = record {
  same_owner = refl;
  from = omega (arith, some_blocks r good);
  below = omega (arith, some_blocks r good);
  at = grind (arith, nat_tests, some_blocks r good);
}

module _ (xs : List Reverse) (rules : AreRecords reverse_form xs) where
  pub valid_in : (x : Reverse) → Contains xs x → is_reverse x ≡ true
  valid_in x held = All-contains (λ (y : Reverse). reverse_form.is_valid y ≡ true) xs x rules.valid held

  one_of : (x y : Reverse) → Contains xs x → Contains xs y → reverse_form.agree x y ≡ false → x ≡ y
  one_of x y here there clash = ⊎_elim (λ (same : x ≡ y). same) (λ (agree : reverse_form.agree x y ≡ true). absurd cc)
      (agree_in reverse_form is_reverse_form xs rules x y here there)

  pub one_record : (x y : Reverse) → Contains xs x → Contains xs y → (w o n : ℕ) → IsPair x w o n → IsPair y w o n → x ≡ y
  one_record x y here there w o n one other = one_of x y here there (same_clash x y w o n one other)

  nothing_in_front : (r : Reverse) → Contains xs r → (off n : ℕ) → n + 1 ≡ r.start → is_in_front r off ≡ true → ¬ (HasPairIn (Contains xs) r.owner off n)
  nothing_in_front r held off n before front (y, within, says) =
      let first = first_pair r (valid_in r held) in
      let same : y ≡ r = one_of y r within held (next_clash y r r.owner off n r.off r.start says first (omega arith) (grind (arith, nat_tests, front))) in
      let from = rw same at says in
      absurd (omega (arith, from.from, before))

  pub nothing_after : (r : Reverse) → Contains xs r → ¬ (HasPairIn (Contains xs) r.owner (offset_after r) (end_of (reverse_span r)))
  nothing_after r held (y, within, says) =
      let some = some_blocks r (valid_in r held) in
      let last = last_pair r (valid_in r held) in
      let same : r ≡ y = one_of r y held within
      (next_clash r y r.owner (last_offset r) (r.start + r.len - 1) (offset_after r) (r.start + r.len) last says (omega arith) (grind (arith, nat_tests, some))) in
      let below = rw (← same) at says in
      absurd (omega (arith, below.below))

  pub maximal : (r : Reverse) → Contains xs r → IsMaximal (Contains xs) r
  maximal r held = record { front = nothing_in_front r held; after = nothing_after r held }

pub are_maximal : RecordsAreMaximal
are_maximal xs rules r held = maximal xs rules r held

pub have_one_record : PairsHaveOneRecord
have_one_record xs rules x y here there w o n one other = one_record xs rules x y here there w o n one other

-- the offset of the block in front of a record, of one that says its first pair, and has a block in front of it
abbrev pub front_offset : Reverse → ℕ
front_offset r = if r.owner == OWN_COW then 0 else r.off - 1

module _ (r s : Reverse) (good : is_reverse r ≡ true) (says : IsPair s r.owner r.off r.start) where
  earlier_pair : s.start < r.start → IsPair s r.owner (front_offset r) (r.start - 1) × (is_in_front r (front_offset r) ≡ true)
  earlier_pair less = (
    record {
      same_owner = says.same_owner;
      from = omega (arith, less);
      below = omega (arith, says.below);
      at = grind (arith, nat_tests, less, says.at, says.same_owner);
    },
    grind (arith, nat_tests, less, says.at, says.same_owner),
  )

  same_offset : is_reverse s ≡ true → s.start ≡ r.start → s.off ≡ r.off
  same_offset valid start = grind (arith, nat_tests, says.at, says.same_owner, good, valid, start)

-- a longer record says the pair behind a shorter one that begins as it does
longer_pair : (a b : Reverse) → b.start ≡ a.start → b.owner ≡ a.owner → b.off ≡ a.off → a.len < b.len → IsPair b a.owner (offset_after a) (end_of (reverse_span a))
longer_pair a b start owner off less = record {
  same_owner = owner;
  from = omega (arith, start);
  below = omega (arith, start, less);
  at = grind (arith, nat_tests, start, owner, off, less);
}

module _ (xs ys : List Reverse) (one : AreRecords reverse_form xs) (other : AreRecords reverse_form ys) (same : HaveSamePairs xs ys) where
  same_start : (r s : Reverse) → Contains xs r → Contains ys s → IsPair s r.owner r.off r.start → s.start ≡ r.start
  same_start r s here there says = ⊎_elim
      (λ (less : s.start < r.start).
      let earlier = earlier_pair r s (valid_in xs one r here) says less in
      let max = maximal xs one r here in
      absurd (max.front (front_offset r) (r.start - 1) (omega (arith, less)) earlier.1
      ((same r.owner (front_offset r) (r.start - 1)).1 (s, there, earlier.0))))
      (λ (from : r.start ≤ s.start). omega (arith, from, says.from))
      (cases_lt s.start r.start)

  same_len : (r s : Reverse) → Contains xs r → Contains ys s → s.start ≡ r.start → s.owner ≡ r.owner → s.off ≡ r.off → s.len ≡ r.len
  same_len r s here there start owner off =
      let longer : ¬ (r.len < s.len) =
      λ less. let max = maximal xs one r here in
      max.after ((same r.owner (offset_after r) (end_of (reverse_span r))).1 (s, there, longer_pair r s start owner off less)) in
      let shorter : ¬ (s.len < r.len) =
      λ less. let max = maximal ys other s there in
      max.after ((same s.owner (offset_after s) (end_of (reverse_span s))).0 (r, here, longer_pair s r (sym start) (sym owner) (sym off) less)) in
      omega (arith, longer, shorter)

  in_other : (r : Reverse) → Contains xs r → Contains ys r
  in_other r here =
      let good = valid_in xs one r here in
      let found = (same r.owner r.off r.start).0 (r, here, first_pair r good) in
      let s = found.0 in
      let says = found.2 in
      let start = same_start r s here found.1 says in
      let off = same_offset r s good says (valid_in ys other s found.1) start in
      let len = same_len r s here found.1 start says.same_owner off in
      let is : s ≡ r = λ i. record { start = start i; len = len i; owner = says.same_owner i; off = off i } in
      subst (Contains ys) is found.1

pub are_determined : PairsDetermineRecords
are_determined xs ys one other same =
    let total = is_reverse_form.total in
    same_sorted (λ (a b : Reverse). reverse_form.order a b ≡ Less) (λ x less. let tied = tied_itself total x in absurd cc) total.trans
    xs ys one.ascend other.ascend (in_other xs ys one other same)
    (in_other ys xs other one (λ w o n. ((same w o n).1, (same w o n).0)))

-- a number for each pair, which rises with the first pairs of valid records
abbrev pair_number : Pair → ℕ
pair_number p = (p.block * 2 ^ 64 + p.owner) * 1024 + p.off

pub number_of : Reverse → ℕ
number_of r = pair_number (pair r.owner r.off r.start)

pub rises : (r x : Reverse) → is_reverse r ≡ true → is_reverse x ≡ true → reverse_form.order r x ≡ Less → number_of r < number_of x
unfolding number_of
rises r x one other less = grind (arith, nat_tests)

pub bounded : (r : Reverse) → is_reverse r ≡ true → number_of r < 2 ^ 90
unfolding number_of
bounded r good = grind (arith, nat_tests)

no_record : Reverse
no_record = record { start = 0; len = 0; owner = 0; off = 0 }

module _ (xs : List Reverse) (rules : AreRecords reverse_form xs) where
  numbers_differ : AllPairs (λ (m n : ℕ). m ≢ n) (map number_of xs)
  numbers_differ i j d before within same =
      let late : j < length xs = omega (arith, within, length-map xs number_of) in
      let early : i < length xs = omega (arith, before, late) in
      let one = get_or-map number_of xs i no_record d early in
      let other = get_or-map number_of xs j no_record d late in
      let less = rises (get_or xs i no_record) (get_or xs j no_record) (rules.valid i no_record early) (rules.valid j no_record late)
      (rules.ascend i j no_record before late) in
      absurd (omega (arith, same, one, other, less))

  pair_is_numbered : (pairs : List Pair) → ((w o n : ℕ) → HasPairIn (Contains xs) w o n → Contains pairs (pair w o n)) → (q : ℕ)
      → Contains (map number_of xs) q → Contains (map pair_number pairs) q
  unfolding number_of
  pair_is_numbered pairs each q (k, within, is) =
      let inside : k < length xs = omega (arith, within, length-map xs number_of) in
      let r : Reverse = get_or xs k no_record in
      let held : Contains xs r = Contains-get_or xs k no_record inside in
      let found = each r.owner r.off r.start (r, held, first_pair r (valid_in xs rules r held)) in
      let one = get_or-map number_of xs k no_record q inside in
      let other = get_or-map pair_number pairs found.0 (pair r.owner r.off r.start) q found.1 in
      (found.0, omega (arith, found.1, length-map pairs pair_number), other ∙ ap pair_number found.2 ∙ sym one ∙ is)

pub no_more_than_pairs : NoMoreRecordsThanPairs
no_more_than_pairs xs rules pairs each =
    let numbers : List ℕ = map number_of xs in
    let all : List ℕ = map pair_number pairs in
    let few = length-le_from_is_member nat_eq_equiv numbers all (IsDistinct-from_AllPairs Decides-eqb numbers (numbers_differ xs rules))
    (λ q found. (is_member-Decides Decides-eqb all q).1 (pair_is_numbered xs rules pairs each q ((is_member-Decides Decides-eqb numbers q).0 found))) in
    omega (arith, few, length-map xs number_of, length-map pairs pair_number)
