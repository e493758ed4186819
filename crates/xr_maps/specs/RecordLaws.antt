-- The maps determine their records: no two lists are the extents of one file, or the records of one kind of one group.
use Rattle.std.specs.Prelude.{◌≡◌, ℕ, ◌+◌, ◌-◌, ◌<◌, ◌≤◌, List, length, map, AllPairs, Contains}
use Rattle.std.proofs.Common.{refl, sym, ap, ◌∙◌, subst, arith, ⊎_elim, get_or}
use Rattle.std.proofs.lemmas.List.{get_or-map, length-map, same_lists, get_or_default}
use Rattle.std.proofs.lemmas.Bool.{cases_lt}
use Rattle.xr_base.specs.Address.{address_of, address_after}
use Rattle.xr_base.specs.declared.address.Addr.{Addr}
use Rattle.xr_base.specs.declared.address.Run.{Run}
use Rattle.xr_base.specs.declared.geometry.TheConstants.{FIRST_INODE}
use Rattle.xr_maps.specs.declared.records.Extent.{Extent}
use Rattle.xr_maps.specs.declared.records.Rev.{Rev}
use Rattle.xr_maps.specs.declared.records.Counted.{Counted}
use Rattle.xr_maps.specs.FileMaps.{FileMaps, IsOwner}
use Rattle.xr_maps.specs.Runs.{Span, IsLongestRun, AreLongestRuns}
use Rattle.xr_maps.specs.RunLaws.{Contains-longest_run, same_sorted}
use Rattle.xr_maps.specs.Records.{AreExtents, owner_count, span_of_extent, IsReverseRecord, CoversOwner, IsBefore, AreReverseRecords, span_of_run, AreReferenceRecords, AreFreeRecords}

-- each of the laws, as a contract states it
abbrev pub ExtentsAreDetermined : Type 0
ExtentsAreDetermined = (maps : FileMaps) (file : ℕ) (xs ys : List Extent) → AreExtents maps file xs → AreExtents maps file ys → xs ≡ ys

abbrev pub OwnersAreDetermined : Type 0
OwnersAreDetermined = (maps : FileMaps) (group : ℕ) (xs ys : List Rev) → AreReverseRecords maps group xs → AreReverseRecords maps group ys → xs ≡ ys

abbrev pub SharedAreDetermined : Type 0
SharedAreDetermined = (maps : FileMaps) (group : ℕ) (xs ys : List Counted) → AreReferenceRecords maps group xs → AreReferenceRecords maps group ys → xs ≡ ys

abbrev pub FreeAreDetermined : Type 0
FreeAreDetermined = (maps : FileMaps) (group : ℕ) (xs ys : List Run) → AreFreeRecords maps group xs → AreFreeRecords maps group ys → xs ≡ ys

-- Runs

module _ {IsThere IsJoined : ℕ → Type 0} where
  rising_starts : (spans : List Span) → AreLongestRuns IsThere IsJoined spans → AllPairs (λ s t. s.start < t.start) spans
  rising_starts spans runs i j d below h =
      let up = runs.rising i j d below h in
      let some = (runs.each i d (omega arith)).some in
      omega arith

  one_in_other : (xs ys : List Span) → AreLongestRuns IsThere IsJoined xs → AreLongestRuns IsThere IsJoined ys → (s : Span) → Contains xs s → Contains ys s
  one_in_other xs ys runs others s found =
      Contains-longest_run ys s others (subst (IsLongestRun IsThere IsJoined) found.2 (runs.each found.0 s found.1))

  same_runs : (xs ys : List Span) → AreLongestRuns IsThere IsJoined xs → AreLongestRuns IsThere IsJoined ys → xs ≡ ys
  same_runs xs ys runs others =
      same_sorted (λ (s : Span) t. s.start < t.start) (λ s h. omega arith) (λ s t u h k. omega arith) xs ys (rising_starts xs runs) (rising_starts ys others)
      (one_in_other xs ys runs others) (one_in_other ys xs others runs)

-- lists with the same parts are one where a part determines its element
same_by_part : {X Y : Type 0} (part : X → Y) (xs ys : List X) → map part xs ≡ map part ys
    → ((k : ℕ) (d : X) → k < length xs → k < length ys → part (get_or xs k d) ≡ part (get_or ys k d) → get_or xs k d ≡ get_or ys k d) → xs ≡ ys
same_by_part part xs ys same one =
    let a : length (map part xs) ≡ length xs = length-map xs part in
    let b : length (map part ys) ≡ length ys = length-map ys part in
    let c : length (map part xs) ≡ length (map part ys) = ap length same in
    same_lists xs ys (omega arith) (λ k d h. one k d h (omega arith)
    (sym (get_or-map part xs k d (part d) h) ∙ ap (λ parts. get_or parts k (part d)) same ∙ get_or-map part ys k d (part d) (omega arith)))

pub extents_are_determined : ExtentsAreDetermined
extents_are_determined maps file xs ys are others =
    same_by_part span_of_extent xs ys (same_runs _ _ are.runs others.runs) (λ k d h g same.
    let x = get_or xs k d in
    let y = get_or ys k d in
    let off : x.off ≡ y.off = ap (λ s. s.start) same in
    let len : x.len ≡ y.len = ap (λ s. s.len) same in
    let from_x = are.starts k d h in
    let from_y = others.starts k d g in
    let at : x.at ≡ y.at = cc in
    λ i. record { off = off i; len = len i; at = at i })

same_run_of_span : (x y : Run) → span_of_run x ≡ span_of_run y → x ≡ y
same_run_of_span x y same = ap (λ s. let r : Run = record { start = address_of s.start; len = s.len } in r) same

pub free_are_determined : FreeAreDetermined
free_are_determined maps group xs ys are others =
    same_by_part span_of_run xs ys (same_runs _ _ are others) (λ k d h g same. same_run_of_span (get_or xs k d) (get_or ys k d) same)

-- Reverse records

module _ (maps : FileMaps) (group : ℕ) where
  no_earlier : (r s : Rev) (a : Addr) (file off : ℕ) → IsReverseRecord maps group r → IsReverseRecord maps group s → (c : CoversOwner a file off r) → (d : CoversOwner a file off s)
      → c.place ≤ d.place → d.place ≤ c.place
  no_earlier r s a file off is other c d le = ⊎_elim
      (λ (less : c.place < d.place).
      let n = d.place - c.place - 1 in
      let in_r : a.0 ≡ r.run.start.0 + c.place = ap (λ b. b.0) c.is_block in
      let in_s : a.0 ≡ s.run.start.0 + d.place = ap (λ b. b.0) d.is_block in
      let off_r = c.is_off in
      let off_s = d.is_off in
      let within = d.within in
      let same : s.owner ≡ r.owner = d.is_owner ∙ sym c.is_owner in
      absurd (is.left (address_after s.run.start n) (s.off + n) (omega arith) (omega arith)
      (subst (λ o. IsOwner maps (address_after s.run.start n) (o - FIRST_INODE) (s.off + n)) same (other.owned n (omega arith)))))
      (λ (h : d.place ≤ c.place). h)
      (cases_lt c.place d.place)

  same_place : (r s : Rev) (a : Addr) (file off : ℕ) → IsReverseRecord maps group r → IsReverseRecord maps group s → (c : CoversOwner a file off r) → (d : CoversOwner a file off s) → c.place ≡ d.place
  same_place r s a file off is other c d = ⊎_elim
      (λ (h : c.place < d.place). let k = no_earlier r s a file off is other c d (omega arith) in omega arith)
      (λ (h : d.place ≤ c.place). let k = no_earlier s r a file off other is d c h in omega arith)
      (cases_lt c.place d.place)

  no_longer : (r s : Rev) → r.run.start ≡ s.run.start → r.owner ≡ s.owner → r.off ≡ s.off → IsReverseRecord maps group r → IsReverseRecord maps group s → s.run.len ≤ r.run.len
  no_longer r s start owner off is other = ⊎_elim
      (λ (longer : r.run.len < s.run.len). absurd (is.right (
      let owned = other.owned r.run.len longer in
      let moved = subst (λ b. IsOwner maps (address_after b r.run.len) (s.owner - FIRST_INODE) (s.off + r.run.len)) (sym start) owned in
      let named = subst (λ o. IsOwner maps (address_after r.run.start r.run.len) (o - FIRST_INODE) (s.off + r.run.len)) (sym owner) moved in
      subst (λ o. IsOwner maps (address_after r.run.start r.run.len) (r.owner - FIRST_INODE) (o + r.run.len)) (sym off) named)))
      (λ (h : s.run.len ≤ r.run.len). h)
      (cases_lt r.run.len s.run.len)

  -- two reverse records with an owner in common are one
  same_record : (r s : Rev) (a : Addr) (file off : ℕ) → IsReverseRecord maps group r → IsReverseRecord maps group s → CoversOwner a file off r → CoversOwner a file off s → r ≡ s
  same_record r s a file off is other c d =
      let place = same_place r s a file off is other c d in
      let in_r : a.0 ≡ r.run.start.0 + c.place = ap (λ b. b.0) c.is_block in
      let in_s : a.0 ≡ s.run.start.0 + d.place = ap (λ b. b.0) d.is_block in
      let off_r = c.is_off in
      let off_s = d.is_off in
      let number : r.run.start.0 ≡ s.run.start.0 = omega arith in
      let start : r.run.start ≡ s.run.start = ap address_of number in
      let owner : r.owner ≡ s.owner = c.is_owner ∙ sym d.is_owner in
      let offs : r.off ≡ s.off = omega arith in
      let a = no_longer r s start owner offs is other in
      let b = no_longer s r (sym start) (sym owner) (sym offs) other is in
      let len : r.run.len ≡ s.run.len = omega arith in
      λ i. record { run = record { start = start i; len = len i }; owner = owner i; off = offs i }

  -- each reverse record is among them
  Contains-reverse_record : (records : List Rev) (r : Rev) → AreReverseRecords maps group records → IsReverseRecord maps group r → Contains records r
  Contains-reverse_record records r are is =
      let some = is.some in
      let inode = is.inode in
      let first = address_after r.run.start 0 in
      let file = r.owner - FIRST_INODE in
      let begun : CoversOwner first file (r.off + 0) r = record { place = 0; within = some; is_block = refl; is_owner = omega arith; is_off = refl } in
      let found = are.every first file (r.off + 0) (is.in_group 0 some) (is.owned 0 some) in
      let found_is = subst (IsReverseRecord maps group) found.3 (are.each found.0 found.1 found.2) in
      (found.0, found.2, get_or_default records found.0 r found.1 found.2 ∙ found.3 ∙ same_record found.1 r first file (r.off + 0) found_is is found.4 begun)

not_before_itself : (r : Rev) → ¬ IsBefore r r
not_before_itself r before = ⊎_elim (λ (h : r.run.start.0 < r.run.start.0). absurd (omega arith))
    (λ h. ⊎_elim (λ (k : r.owner < r.owner). absurd (omega arith)) (λ k. let l = k.1 in absurd (omega arith)) h.1) before

before_trans : (r s t : Rev) → IsBefore r s → IsBefore s t → IsBefore r t
before_trans r s t first second = grind arith

one_in_other_records : (maps : FileMaps) (group : ℕ) (xs ys : List Rev) → AreReverseRecords maps group xs → AreReverseRecords maps group ys → (r : Rev) → Contains xs r → Contains ys r
one_in_other_records maps group xs ys are others r found =
    Contains-reverse_record maps group ys r others (subst (IsReverseRecord maps group) found.2 (are.each found.0 r found.1))

pub owners_are_determined : OwnersAreDetermined
owners_are_determined maps group xs ys are others =
    same_sorted IsBefore not_before_itself before_trans xs ys are.rising others.rising
    (one_in_other_records maps group xs ys are others) (one_in_other_records maps group ys xs others are)

-- Reference records

pub shared_are_determined : SharedAreDetermined
shared_are_determined maps group xs ys are others =
    let runs : map (λ (r : Counted). r.run) xs ≡ map (λ (r : Counted). r.run) ys =
    same_by_part span_of_run _ _ (same_runs _ _ are.runs others.runs) (λ k d h g same. same_run_of_span _ _ same) in
    same_by_part (λ (r : Counted). r.run) xs ys runs (λ k d h g run.
    let x = get_or xs k d in
    let y = get_or ys k d in
    let count : x.count ≡ y.count = are.counts k d h ∙ ap (λ (r : Run). owner_count maps r.start) run ∙ sym (others.counts k d g) in
    let staged : x.staged ≡ y.staged = are.unstaged k d h ∙ sym (others.unstaged k d g) in
    λ i. record { run = run i; count = count i; staged = staged i })
