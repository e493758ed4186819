-- A group has no more records of owners than what is committed has pairs in it: all these pairs in a list.
use Rattle.std.proofs.Common.{◌≡◌, ◌≢◌, ℕ, zero, suc, ◌+◌, ◌-◌, ◌*◌, ◌/◌, ◌%◌, ◌<◌, ◌≤◌, Bool, true, false, cond, List, [], ◌∷◌, ◌++◌, length, length-append, slice_get, refl, sym, ◌∙◌, ap, subst, ⊎_elim, arith}
use Rattle.std.proofs.lemmas.Bool.{and_parts, cases_Bool, cases_eq, eqb-true, leb-true, lt-ltb, ltb-true}
use Rattle.std.proofs.lemmas.List.Elements.{Contains-append_left, Contains-append_right}
use Rattle.std.specs.List.{Contains}
use Rattle.std.specs.Prelude.{◌&&◌, ◌==◌, if◌then◌else◌, nat_le, nat_lt}
use Rattle.xr_balance.specs.Ready.{pairs_of}
use Rattle.xr_balance.specs.Settled.{Committed}
use Rattle.xr_base.specs.declared.geometry.TheConstants.{FILES, FIRST_INODE, GROUP_BLOCKS, OFFSETS, OWN_COW}
use Rattle.xr_bmap.specs.File.{FileState}
use Rattle.xr_chain.proofs.AwayLemmas.{bounds, in_group}
use Rattle.xr_chain.specs.CommittedBlocks.{IsListed, committed_of, group_of_block, has_file_pair, owner_records_of, told_by}
use Rattle.xr_chain.specs.OwnerRecords.{OwnerRecordsAreFew}
use Rattle.xr_group.specs.Group.{GroupState, IsGroup, records_now}
use Rattle.xr_group.specs.Sets.{has_pair, is_run_pair}
use Rattle.xr_group.specs.ToldRecords.{GroupsTellRecords, OwnersAreNoMoreThanPairs, TellsOwner}
use Rattle.xr_maps.specs.Holdings.{one_if, sum_below}
use Rattle.xr_maps.specs.Steps.{is_within}
use Rattle.xr_maps.specs.declared.records.Rev.{Rev}
use Rattle.xr_rmap.specs.Pairs.{Pair, pair}

-- what a function gives of the numbers below n
collect : {X : Type 0} → ℕ → (ℕ → List X) → List X
collect zero f = []
collect (suc n) f = f n ++ collect n f

length-collect : {X : Type 0} (n : ℕ) (f : ℕ → List X) (g : ℕ → ℕ) → ((k : ℕ) → length (f k) ≡ g k) → length (collect n f) ≡ sum_below n g
unfolding collect sum_below
length-collect zero f g same = refl
length-collect (suc n) f g same = omega (arith, length-append (f n) (collect n f), same n, length-collect n f g same)

collected : {X : Type 0} (n : ℕ) (f : ℕ → List X) (k : ℕ) (x : X) → k < n → Contains (f k) x → Contains (collect n f) x
unfolding collect
collected zero f k x below held = absurd (omega (arith, below))
collected (suc n) f k x below held = ⊎_elim
    (λ (last : k ≡ n). Contains-append_left (f n) (collect n f) x (subst (λ j. Contains (f j) x) last held))
    (λ (before : k ≢ n). Contains-append_right (f n) (collect n f) x (collected n f k x (omega (arith, below, before)) held))
    (cases_eq k n)

one_where : {X : Type 0} → Bool → X → List X
one_where true x = x ∷ []
one_where false x = []

length-one_where : {X : Type 0} (t : Bool) (x : X) → length (one_where t x) ≡ one_if t
unfolding one_where
length-one_where true x = refl
length-one_where false x = refl

one_there : {X : Type 0} (t : Bool) (x : X) → t ≡ true → Contains (one_where t x) x
unfolding one_where
one_there true x is = (0, omega arith, refl)
one_there false x is = absurd cc

module _ (C : Committed) (n : ℕ) where
  block : ℕ → ℕ
  block k = n * GROUP_BLOCKS + k

  abbrev at_block : ℕ → ℕ → ℕ → List Pair
  at_block f o k = one_where (C.has_pair f o (n * GROUP_BLOCKS + k)) (pair (FIRST_INODE + f) o (n * GROUP_BLOCKS + k))

  abbrev at_offset : ℕ → ℕ → List Pair
  at_offset f o = collect GROUP_BLOCKS (at_block f o)

  abbrev of_file : ℕ → List Pair
  of_file f = collect OFFSETS (at_offset f)

  abbrev staged_at : ℕ → List Pair
  staged_at k = one_where (C.has_staging_pair (n * GROUP_BLOCKS + k)) (pair OWN_COW 0 (n * GROUP_BLOCKS + k))

  abbrev all_pairs : List Pair
  all_pairs = collect FILES of_file ++ collect GROUP_BLOCKS staged_at

  how_many : length all_pairs ≡ pairs_of C n
  how_many =
      length-append (collect FILES of_file) (collect GROUP_BLOCKS staged_at)
      ∙ ap (λ k. k + length (collect GROUP_BLOCKS staged_at)) (length-collect FILES of_file _ (λ f.
      length-collect OFFSETS (at_offset f) _ (λ o.
      length-collect GROUP_BLOCKS (at_block f o) _ (λ k. length-one_where (C.has_pair f o (n * GROUP_BLOCKS + k)) (pair (FIRST_INODE + f) o (n * GROUP_BLOCKS + k))))))
      ∙ ap (λ k. sum_below FILES (λ f. sum_below OFFSETS (λ o. sum_below GROUP_BLOCKS (λ k. one_if (C.has_pair f o (n * GROUP_BLOCKS + k))))) + k)
      (length-collect GROUP_BLOCKS staged_at _ (λ k. length-one_where (C.has_staging_pair (n * GROUP_BLOCKS + k)) (pair OWN_COW 0 (n * GROUP_BLOCKS + k))))

  file_pair_there : (f o k : ℕ) → f < FILES → o < OFFSETS → k < GROUP_BLOCKS → C.has_pair f o (n * GROUP_BLOCKS + k) ≡ true
      → Contains all_pairs (pair (FIRST_INODE + f) o (n * GROUP_BLOCKS + k))
  file_pair_there f o k file off inside has =
      let x = pair (FIRST_INODE + f) o (n * GROUP_BLOCKS + k) in
      Contains-append_left (collect FILES of_file) (collect GROUP_BLOCKS staged_at) x
      (collected FILES of_file f x file (collected OFFSETS (at_offset f) o x off (collected GROUP_BLOCKS (at_block f o) k x inside
      (one_there (C.has_pair f o (n * GROUP_BLOCKS + k)) x has))))

  staging_pair_there : (k : ℕ) → k < GROUP_BLOCKS → C.has_staging_pair (n * GROUP_BLOCKS + k) ≡ true → Contains all_pairs (pair OWN_COW 0 (n * GROUP_BLOCKS + k))
  staging_pair_there k inside has =
      let x = pair OWN_COW 0 (n * GROUP_BLOCKS + k) in
      Contains-append_right (collect FILES of_file) (collect GROUP_BLOCKS staged_at) x
      (collected GROUP_BLOCKS staged_at k x inside (one_there (C.has_staging_pair (n * GROUP_BLOCKS + k)) x has))

module _ (files : List FileState) (groups : List GroupState) (g : GroupState) (listed : IsListed groups g) (is : IsGroup g.number g.uuid g.blocks)
    (told : GroupsTellRecords) where
  abbrev held : Committed
  held = committed_of files groups

  -- a pair of the group stands in the list
  module _ (w o a : ℕ) (has : has_pair g w o a ≡ true) where
    r : Rev
    r = ((told g is).pair_of w o a has).0

    in_record : is_run_pair r.run r.owner r.off w o a ≡ true
    unfolding r
    in_record = ((told g is).pair_of w o a has).2

    owner : TellsOwner g r
    unfolding r
    owner = (told g is).revs r ((told g is).pair_of w o a has).1

    parts : (((r.owner == w) && is_within r.run.start.0 r.run.len a) ≡ true) × ((if r.owner == OWN_COW then o == 0 else o + r.run.start.0 == r.off + a) ≡ true)
    parts = and_parts ((r.owner == w) && is_within r.run.start.0 r.run.len a) (if r.owner == OWN_COW then o == 0 else o + r.run.start.0 == r.off + a) in_record

    named : r.owner ≡ w
    named = eqb-true r.owner w (and_parts (r.owner == w) (is_within r.run.start.0 r.run.len a) parts.0).0

    within : is_within r.run.start.0 r.run.len a ≡ true
    within = (and_parts (r.owner == w) (is_within r.run.start.0 r.run.len a) parts.0).1

    here : a / GROUP_BLOCKS ≡ g.number
    here = in_group r.run owner.mine.good g.number owner.mine.here a within

    told_at : {A : Type 0} (none : A) (tells : GroupState → A) → told_by none tells (group_of_block groups a) ≡ tells g
    told_at none tells = ap (told_by none tells) (ap (slice_get groups) here ∙ listed)

    placed : g.number * GROUP_BLOCKS + a % GROUP_BLOCKS ≡ a
    placed = omega (arith, here)

    staged_pair : (r.owner == OWN_COW) ≡ true → Contains (all_pairs held g.number) (pair w o a)
    staged_pair cow =
        let is_cow : OWN_COW ≡ w = sym (eqb-true r.owner OWN_COW cow) ∙ named in
        let first : o ≡ 0 = eqb-true o 0 (ap (λ t. cond t (o == 0) (o + r.run.start.0 == r.off + a)) (sym cow) ∙ parts.1) in
        let has_it : held.has_staging_pair a ≡ true =
        told_at false (λ (s : GroupState). has_pair s OWN_COW 0 a) ∙ ap (λ x. has_pair g x 0 a) is_cow ∙ ap (λ x. has_pair g w x a) (sym first) ∙ has in
        let at_place : held.has_staging_pair (g.number * GROUP_BLOCKS + a % GROUP_BLOCKS) ≡ true = ap held.has_staging_pair placed ∙ has_it in
        let there : Contains (all_pairs held g.number) (pair OWN_COW 0 (g.number * GROUP_BLOCKS + a % GROUP_BLOCKS)) =
        staging_pair_there held g.number (a % GROUP_BLOCKS) (omega arith) at_place in
        subst (λ x. Contains (all_pairs held g.number) (pair x o a)) is_cow
        (subst (λ x. Contains (all_pairs held g.number) (pair OWN_COW x a)) (sym first)
        (subst (λ x. Contains (all_pairs held g.number) (pair OWN_COW 0 x)) placed there))

    file_pair_of : (r.owner == OWN_COW) ≡ false → Contains (all_pairs held g.number) (pair w o a)
    file_pair_of file =
        let good : (nat_le FIRST_INODE r.owner && nat_lt r.owner (FIRST_INODE + FILES) && nat_le (r.off + r.run.len) OFFSETS) ≡ true =
        ap (λ t. cond t (r.off == 0) (nat_le FIRST_INODE r.owner && nat_lt r.owner (FIRST_INODE + FILES) && nat_le (r.off + r.run.len) OFFSETS)) (sym file) ∙ owner.owner in
        let ends = and_parts (nat_le FIRST_INODE r.owner && nat_lt r.owner (FIRST_INODE + FILES)) (nat_le (r.off + r.run.len) OFFSETS) good in
        let names = and_parts (nat_le FIRST_INODE r.owner) (nat_lt r.owner (FIRST_INODE + FILES)) ends.0 in
        let low : FIRST_INODE ≤ r.owner = leb-true FIRST_INODE r.owner names.0 in
        let high : r.owner < FIRST_INODE + FILES = ltb-true r.owner (FIRST_INODE + FILES) names.1 in
        let end : r.off + r.run.len ≤ OFFSETS = leb-true (r.off + r.run.len) OFFSETS ends.1 in
        let on : o + r.run.start.0 ≡ r.off + a =
        eqb-true (o + r.run.start.0) (r.off + a) (ap (λ t. cond t (o == 0) (o + r.run.start.0 == r.off + a)) (sym file) ∙ parts.1) in
        let inside = bounds r.run.start.0 r.run.len a within in
        let f : ℕ = w - FIRST_INODE in
        let back : FIRST_INODE + f ≡ w = omega (arith, low, named) in
        let has_it : held.has_pair f o a ≡ true =
        told_at false (λ (s : GroupState). has_file_pair s f o a)
        ∙ ap (λ t. t && has_pair g (FIRST_INODE + f) o a) (lt-ltb f FILES (omega (arith, low, high, named)))
        ∙ ap (λ x. has_pair g x o a) back ∙ has in
        let at_place : held.has_pair f o (g.number * GROUP_BLOCKS + a % GROUP_BLOCKS) ≡ true = ap (held.has_pair f o) placed ∙ has_it in
        let there : Contains (all_pairs held g.number) (pair (FIRST_INODE + f) o (g.number * GROUP_BLOCKS + a % GROUP_BLOCKS)) =
        file_pair_there held g.number f o (a % GROUP_BLOCKS) (omega (arith, low, high, named)) (omega (arith, on, end, inside.1, inside.0)) (omega arith) at_place in
        subst (λ x. Contains (all_pairs held g.number) (pair x o a)) back
        (subst (λ x. Contains (all_pairs held g.number) (pair (FIRST_INODE + f) o x)) placed there)

    pair_there : Contains (all_pairs held g.number) (pair w o a)
    pair_there = ⊎_elim staged_pair file_pair_of (cases_Bool (r.owner == OWN_COW))

  few_records : OwnersAreNoMoreThanPairs → owner_records_of groups g.number ≤ pairs_of held g.number
  few_records few =
      let all = few g is (all_pairs held g.number) (λ w o a has. pair_there w o a has) in
      let mine : owner_records_of groups g.number ≡ length (records_now g).reverse = ap (told_by 0 (λ (s : GroupState). length (records_now s).reverse)) listed in
      omega (arith, all, mine, how_many held g.number)

pub owner_records_are_few : GroupsTellRecords → OwnersAreNoMoreThanPairs → OwnerRecordsAreFew
owner_records_are_few told few files groups g listed is = few_records files groups g listed is told few
