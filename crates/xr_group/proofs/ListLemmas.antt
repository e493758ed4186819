-- The records of owners of a group are those that are defined from the file maps.
use Rattle.std.proofs.Common.{◌≡◌, ◌≢◌, ℕ, ◌+◌, ◌-◌, ◌*◌, ◌/◌, ◌%◌, ◌<◌, ◌≤◌, Bool, true, not, List, get_or, Option, Some, None, IfSome, if◌then◌else◌, ◌==◌, refl, sym, ap, subst, ◌∙◌, ⊎_elim, arith}
use Rattle.std.proofs.lemmas.Bool.{cases_lt}
use Rattle.std.proofs.lemmas.Bool.Decides.{nat_tests}
use Rattle.std.proofs.lemmas.List.{get_or_past}
use Rattle.std.proofs.lemmas.List.Elements.{All-contains, Contains-get_or}
use Rattle.std.proofs.lemmas.List.Kept.{AllPairs-filter}
use Rattle.std.proofs.lemmas.List.Folds.{Any-from_list_any, list_any_at}
use Rattle.std.specs.FinMap as finite
use Rattle.std.specs.List.{AllPairs, Contains, list_any}
use Rattle.std.specs.Ordering.{nat_cmp}
use Rattle.std.specs.declared.cmp.Ordering.TheVariants.{Less}
use Rattle.xr_base.specs.Address.{IsData, address_after, address_of}
use Rattle.xr_base.specs.declared.address.Addr.{Addr}
use Rattle.xr_base.specs.declared.geometry.TheConstants.{FILES, FIRST_INODE, GROUP_BLOCKS, OWN_COW}
use Rattle.xr_block.specs.Tree.{AreRecords}
use Rattle.xr_group.proofs.AddressLemmas.{pair_says, says_is}
use Rattle.xr_group.proofs.FilterLemmas.{all_pass, from_filter, in_filter, pairs_of_map}
use Rattle.xr_group.proofs.NextLemmas.{from_map, into_map}
use Rattle.xr_group.specs.Group.{GroupState, IsGroup, records_now}
use Rattle.xr_group.specs.Next.{rev_at, revs_now}
use Rattle.xr_group.specs.RecordLists.{ArePairsOf, HasNoStagedPair, IsFilePair, OwnersFollowFromMaps, file_revs_now}
use Rattle.xr_group.specs.Sets.{has_pair, is_in_group, says_pair}
use Rattle.xr_kinds.specs.Reverse.{is_reverse, reverse_form, reverse_span}
use Rattle.xr_kinds.specs.Spans.{end_of}
use Rattle.xr_kinds.specs.declared.reverse.Reverse.{Reverse}
use Rattle.xr_maps.specs.FileMaps.{AreGoodMaps, FileMap, FileMaps, IsOwner, address_at}
use Rattle.xr_maps.specs.Records.{AreReverseRecords, CoversOwner, IsBefore, IsReverseRecord}
use Rattle.xr_maps.specs.declared.records.Rev.{Rev}
use Rattle.xr_rmap.specs.PairLaws.{are_maximal}
use Rattle.xr_rmap.specs.Pairs.{HasPairIn, IsPair}

before_at : (number : ℕ) (a b : Reverse) → reverse_form.order a b ≡ Less → IsBefore (rev_at number a) (rev_at number b)
before_at number a b less = grind (arith, nat_tests, less)

no_reverse : Reverse
no_reverse = record { start = 0; len = 0; owner = 0; off = 0 }

-- what maps a block is one of the files
file_known : (maps : FileMaps) → AreGoodMaps maps → (a : Addr) (file off : ℕ) → IsOwner maps a file off → file < FILES
file_known maps good a file off owner = ⊎_elim
    (λ (known : file < FILES). known)
    (λ (past : FILES ≤ file).
    let empty : get_or maps file finite.empty ≡ finite.empty = get_or_past maps file finite.empty (omega (arith, past, good.files)) in
    let none : address_at maps file off ≡ None = ap (λ (m : FileMap). finite.get m off) empty ∙ finite.get-empty nat_cmp off in
    let lie : None ≡ Some a = sym none ∙ owner in absurd cc)
    (cases_lt file FILES)

module _ (maps : FileMaps) (g : GroupState) (good : AreGoodMaps maps) (group : IsGroup g.number g.uuid g.blocks) (pairs : ArePairsOf maps g) where
  abbrev xs : List Reverse
  xs = (records_now g).reverse

  rules : AreRecords reverse_form xs
  rules = group.trees.rmap.records

  valid : (r : Reverse) → Contains xs r → is_reverse r ≡ true
  valid r held = All-contains (λ (y : Reverse). reverse_form.is_valid y ≡ true) xs r rules.valid held

  -- the pair of a record, and the record of a pair
  has_of : (r : Reverse) (w o n a : ℕ) → Contains xs r → IsPair r w o n → a ≡ GROUP_BLOCKS * g.number + n → n < GROUP_BLOCKS → has_pair g w o a ≡ true
  has_of r w o n a held is place small =
      let here : a / GROUP_BLOCKS ≡ g.number = omega (arith, place, small) in
      let at : a % GROUP_BLOCKS ≡ n = omega (arith, place, small) in
      let test : says_pair r w o (a % GROUP_BLOCKS) ≡ true = pair_says r w o (a % GROUP_BLOCKS) (rw at is) in
      let any : list_any (λ (x : Reverse). says_pair x w o (a % GROUP_BLOCKS)) xs ≡ true =
      list_any_at (λ (x : Reverse). says_pair x w o (a % GROUP_BLOCKS)) xs held.0 r held.1
      (subst (λ (x : Reverse). says_pair x w o (a % GROUP_BLOCKS) ≡ true) (sym held.2) test) in
      grind (arith, nat_tests, here, any)

  record_of : (w o a : ℕ) → has_pair g w o a ≡ true → HasPairIn (Contains xs) w o (a % GROUP_BLOCKS)
  record_of w o a has =
      let any : list_any (λ (x : Reverse). says_pair x w o (a % GROUP_BLOCKS)) xs ≡ true = grind (arith, nat_tests, has) in
      let found = Any-from_list_any (λ (x : Reverse). says_pair x w o (a % GROUP_BLOCKS)) xs any in
      (found.1, (found.0, found.2, found.3), says_is found.1 w o (a % GROUP_BLOCKS) found.4)

  module _ (r : Reverse) (held : Contains xs r) (unstaged : r.owner ≢ OWN_COW) where
    from : 512 ≤ r.start
    from = grind (arith, nat_tests, valid r held)

    some : 0 < r.len
    some = grind (arith, nat_tests, valid r held)

    ends : r.start + r.len ≤ GROUP_BLOCKS
    ends = grind (arith, nat_tests, valid r held)

    -- its first pair says what its owner is
    first_says : (o : ℕ) → IsPair r r.owner o r.start → IsFilePair maps r.owner o (GROUP_BLOCKS * g.number + r.start)
    first_says o is = pairs.each r.owner o _ (has_of r r.owner o r.start _ held is refl (omega (arith, some, ends))) unstaged

    is_file : (FIRST_INODE ≤ r.owner) × (r.owner < OWN_COW)
    is_file =
        let valid_r = valid r held in
        let first : IsPair r r.owner (if r.owner == OWN_COW then 0 else r.off) r.start = record {
          same_owner = refl;
          from = omega arith;
          below = omega (arith, some);
          at = grind (arith, nat_tests);
        } in
        let is = first_says _ first in
        (is.first_inode, omega (arith, is.last_inode))

    pair_after : (i : ℕ) → i < r.len → IsPair r r.owner (r.off + i) (r.start + i)
    pair_after i within =
        let file = is_file.1 in
        record { same_owner = refl; from = omega arith; below = omega (arith, within); at = grind (arith, nat_tests, file) }

    -- a pair of the maps beside it would be one of the group
    beside : (o n : ℕ) (a : Addr) → n < GROUP_BLOCKS → a.0 ≡ GROUP_BLOCKS * g.number + n → IsOwner maps a (r.owner - FIRST_INODE) o
        → HasPairIn (Contains xs) r.owner o n
    beside o n a small place owner =
        let here : is_in_group g a.0 ≡ true = let which : a.0 / GROUP_BLOCKS ≡ g.number = omega (arith, place, small) in grind (arith, nat_tests, which) in
        let same : FIRST_INODE + (r.owner - FIRST_INODE) ≡ r.owner = omega (arith, is_file.0) in
        let at : a.0 % GROUP_BLOCKS ≡ n = omega (arith, place, small) in
        let has = pairs.every (r.owner - FIRST_INODE) o a.0 here owner in
        subst (λ (k : ℕ). HasPairIn (Contains xs) r.owner o k) at
        (subst (λ (w : ℕ). HasPairIn (Contains xs) w o (a.0 % GROUP_BLOCKS)) same (record_of (FIRST_INODE + (r.owner - FIRST_INODE)) o a.0 has))

    is_record : IsReverseRecord maps g.number (rev_at g.number r)
    is_record = record {
      some = some;
      inode = is_file.0;
      in_group = λ i within. omega (arith, within, ends);
      owned = λ i within.
          let is = pairs.each r.owner (r.off + i) (GROUP_BLOCKS * g.number + r.start + i)
          (has_of r r.owner (r.off + i) (r.start + i) _ held (pair_after i within) (omega arith) (omega (arith, within, ends))) unstaged in is.is_owner;
      left = λ a off next before owner.
          let file = is_file.1 in
          let n : ℕ = r.start - 1 in
          let place : n + 1 ≡ r.start = omega (arith, from) in
          (are_maximal xs rules r held).front off n place (grind (arith, nat_tests, file, before))
          (beside off n a (omega (arith, ends)) (omega (arith, next, place)) owner);
      right = λ owner. ⊎_elim
          (λ (inside : r.start + r.len < GROUP_BLOCKS).
          let file = is_file.1 in
          let same : (if r.owner == OWN_COW then 0 else r.off + r.len) ≡ r.off + r.len = grind (arith, nat_tests, file) in
          (are_maximal xs rules r held).after (subst (λ (o : ℕ). HasPairIn (Contains xs) r.owner o (end_of (reverse_span r))) (sym same)
          (beside (r.off + r.len) (r.start + r.len) (address_after (rev_at g.number r).run.start r.len) inside (omega arith) owner)))
          (λ (past : GROUP_BLOCKS ≤ r.start + r.len).
          let slot = good.data_blocks (r.owner - FIRST_INODE) (r.off + r.len) in
          let data_block : IsData (address_after (rev_at g.number r).run.start r.len) = subst (λ (found : Option Addr). IfSome found IsData) owner slot in
          absurd (omega (arith, data_block.block, past, ends)))
          (cases_lt (r.start + r.len) GROUP_BLOCKS);
    }

  covers : (r : Reverse) (w o n : ℕ) (a : Addr) → IsPair r w o n → a.0 ≡ GROUP_BLOCKS * g.number + n → (file : ℕ) → file < FILES → w ≡ FIRST_INODE + file
      → CoversOwner a file o (rev_at g.number r)
  covers r w o n a is place file known inode =
      let low : r.owner < OWN_COW = omega (arith, is.same_owner, inode, known) in
      let from_here = is.from in
      let below_here = is.below in
      record {
        place = n - r.start;
        within = omega (arith, from_here, below_here);
        is_block = ap address_of (omega (arith, place, from_here));
        is_owner = is.same_owner ∙ inode;
        is_off = grind (arith, nat_tests, low, is.at, from_here);
      }

  abbrev of_file : Rev → Bool
  of_file r = not (r.owner == OWN_COW)

  rising : AllPairs IsBefore (revs_now g)
  rising = pairs_of_map IsBefore (rev_at g.number) xs no_reverse (λ i j d before within. before_at g.number (get_or xs i d) (get_or xs j d) (rules.ascend i j d before within))

  pub owners_listed : AreReverseRecords maps g.number (file_revs_now g)
  owners_listed = record {
    each = λ k d within.
        let kept = from_filter of_file (revs_now g) (get_or (file_revs_now g) k d) (Contains-get_or (file_revs_now g) k d within) in
        let found = from_map (rev_at g.number) xs (get_or (file_revs_now g) k d) kept.0 in
        let passes : of_file (rev_at g.number found.0) ≡ true = subst (λ (r : Rev). of_file r ≡ true) (sym found.2) kept.1 in
        subst (IsReverseRecord maps g.number) found.2 (is_record found.0 found.1 (λ same. absurd (grind (arith, nat_tests, passes, same))));
    rising = AllPairs-filter IsBefore of_file (revs_now g) rising;
    every = λ a file off here owner.
        let inside : is_in_group g a.0 ≡ true = grind (arith, nat_tests, here) in
        let known = file_known maps good a file off owner in
        let found = record_of (FIRST_INODE + file) off a.0 (pairs.every file off a.0 inside owner) in
        let r : Reverse = found.0 in
        let whose = found.2.same_owner in
        let passes : of_file (rev_at g.number r) ≡ true = grind (arith, nat_tests, whose, known) in
        let at = in_filter of_file (revs_now g) (rev_at g.number r) (into_map (rev_at g.number) xs r found.1) passes in (
          at.0,
          rev_at g.number r,
          at.1,
          at.2,
          covers r (FIRST_INODE + file) off (a.0 % GROUP_BLOCKS) a found.2 (omega (arith, here)) file known refl,
        );
  }

  pub all_of_files : HasNoStagedPair g → file_revs_now g ≡ revs_now g
  all_of_files none = all_pass of_file (revs_now g) (λ x held.
      let found = from_map (rev_at g.number) xs x held in
      let r : Reverse = found.0 in
      let good_r = valid r found.1 in
      let some : 0 < r.len = grind (arith, nat_tests, good_r) in
      let ends : r.start + r.len ≤ GROUP_BLOCKS = grind (arith, nat_tests, good_r) in
      let unstaged : r.owner ≢ OWN_COW = λ same.
      let first : IsPair r OWN_COW 0 r.start = record { same_owner = same; from = omega arith; below = omega (arith, some); at = grind (arith, nat_tests, same) } in
      let has = has_of r OWN_COW 0 r.start _ found.1 first refl (omega (arith, some, ends)) in
      let out = none 0 (GROUP_BLOCKS * g.number + r.start) in absurd cc in
      subst (λ (y : Rev). of_file y ≡ true) found.2 (grind (arith, nat_tests, unstaged)))

pub owners_follow_from_maps : OwnersFollowFromMaps
owners_follow_from_maps maps g good group pairs = (owners_listed maps g good group pairs, all_of_files maps g good group pairs)
