-- The calls of a disk as its events, and what is picked of those that no sync has covered.
use Rattle.std.proofs.Common.{◌≡◌, ◌⊎◌, ℕ, zero, suc, ◌+◌, ◌-◌, ◌*◌, ◌/◌, ◌<◌, ◌≤◌, true, ◌&&◌, IsTrue, nat_le, Option, List, [], ◌∷◌, ◌++◌, map, reverse, length, take, drop, get_or, refl, sym, ap, subst, ◌∙◌, inl, inr, arith}
use Rattle.std.proofs.Math.Seq.{take-suc}
use Rattle.std.proofs.lemmas.Bool.{leb-true}
use Rattle.std.proofs.lemmas.List.{append-nil, append_assoc, drop-drop, drop_at, length-append, length-drop, length-take, length-take-le, map-append, reverse-append}
use Rattle.std.proofs.lemmas.List.Folds.{list_all-append}
use Rattle.std.specs.List.{AllByRecursion, list_all}
use Rattle.xr_base.specs.declared.geometry.TheConstants.{SECTORS, SECTOR_BYTES}
use Rattle.xr_base.specs.Image.{overlaid, part}
use Rattle.xr_disk.specs.Crash.{Crash, SameOutside, Write as InFlight, at_rest}
use Rattle.xr_disk.specs.CrashLaws.{overlaid_outside, unchanged_outside}
use Rattle.xr_disk.specs.EventLaws.{head_passes, left_sized, tail_passes}
use Rattle.xr_disk.specs.Events.{Event, HasRead, HasSynced, HasWritten, MayLeave, event_of, events_of, has_bytes, lies_within, reads_after, synced_after}
use Rattle.xr_disk.specs.Picks.{AreCovered, FitsIn, IsNoSync, MayLeaveImage, half_of, laid, picked, uncovered, with_pick}
use Rattle.xr_disk.specs.declared.call.Call.{Call}
use Rattle.xr_disk.specs.declared.call.Call.TheVariants.{Read, Sync, Write}
use Rattle.xr_disk.specs.declared.picks.Pick.{Pick}
use Rattle.xr_disk.specs.declared.picks.Pick.TheVariants.{Half, New, Old}

bare_more : (calls : List Call) (call : Call) → AllByRecursion IsNoSync calls → IsNoSync call → AllByRecursion IsNoSync (calls ++ call ∷ [])
bare_more [] call bare one = (one, tt)
bare_more (c ∷ calls) call bare one = (bare.0, bare_more calls call bare.1 one)

-- one more call: it is a sync, or the same are covered
pub covered_by_sync : (calls : List Call) (number : ℕ) → AreCovered (calls ++ Sync number ∷ []) (length calls + 1)
covered_by_sync calls number = record {
  front = calls ++ Sync number ∷ [];
  back = [];
  calls_are = sym (append-nil (calls ++ Sync number ∷ []));
  long = length-append calls (Sync number ∷ []);
  ends = inr (calls, number, refl);
  bare = tt;
}

pub covered_still : (calls : List Call) (call : Call) (n : ℕ) → AreCovered calls n → IsNoSync call → AreCovered (calls ++ call ∷ []) n
covered_still calls call n covered one = record {
  front = covered.front;
  back = covered.back ++ call ∷ [];
  calls_are = ap (λ (cs : List Call). cs ++ call ∷ []) covered.calls_are ∙ append_assoc covered.front covered.back (call ∷ []);
  long = covered.long;
  ends = covered.ends;
  bare = bare_more covered.back call covered.bare one;
}

-- the calls up to one in a list, and it
next_calls : (done : List Call) (i : ℕ) (d call : Call) → i < length done → get_or done i d ≡ call → take (i + 1) done ≡ take i done ++ call ∷ []
next_calls done i d call within is =
    ap (λ (n : ℕ). take n done) (let e : i + 1 ≡ suc i = omega arith in e) ∙ take-suc done i d within ∙ ap (λ (c : Call). take i done ++ c ∷ []) is

pub covered_at_sync : (done : List Call) (i : ℕ) (d : Call) (n : ℕ) → i < length done → (number : ℕ) → get_or done i d ≡ Sync number → n ≡ i + 1
    → AreCovered (take (i + 1) done) n
covered_at_sync done i d n within number is count =
    subst (λ (cs : List Call). AreCovered cs n) (sym (next_calls done i d (Sync number) within is))
    (subst (AreCovered (take i done ++ Sync number ∷ []))
    (ap (λ (k : ℕ). k + 1) (length-take-le i done (omega (arith, within))) ∙ sym count) (covered_by_sync (take i done) number))

no_sync : (call : Call) → ((number : ℕ) → call ≡ Sync number → ⊥) → IsNoSync call
no_sync (Read number at) out = tt
no_sync (Write number at «from» len) out = tt
no_sync (Sync number) out = out number refl

pub covered_on : (done : List Call) (i : ℕ) (d : Call) (n m : ℕ) → i < length done → AreCovered (take i done) n
    → ((number : ℕ) → get_or done i d ≡ Sync number → ⊥) → m ≡ n → AreCovered (take (i + 1) done) m
covered_on done i d n m within covered out same =
    subst (λ (cs : List Call). AreCovered cs m) (sym (next_calls done i d (get_or done i d) within refl))
    (subst (AreCovered (take i done ++ get_or done i d ∷ [])) (sym same)
    (covered_still (take i done) (get_or done i d) n covered (no_sync (get_or done i d) out)))

module _ (first bytes : List ℕ) (stop : Option ℕ) (picks : List Pick) where
  events_more : (calls : List Call) (call : Call) → events_of (calls ++ call ∷ []) bytes stop ≡ event_of bytes stop call ∷ events_of calls bytes stop
  events_more calls call =
      ap reverse (map-append (event_of bytes stop) calls (call ∷ [])) ∙ reverse-append (map (event_of bytes stop) calls) (event_of bytes stop call ∷ [])

  -- after the last sync the calls are laid one by one
  one_laid : (calls : List Call) (call : Call) (rest : List Call) → IsNoSync call
      → laid bytes picks rest (uncovered (events_of (calls ++ call ∷ []) bytes stop)) (picked first (events_of (calls ++ call ∷ []) bytes stop) picks)
      ≡ laid bytes picks (call ∷ rest) (uncovered (events_of calls bytes stop)) (picked first (events_of calls bytes stop) picks)
  one_laid calls (Read number at) rest one = rw (events_more calls (Read number at)) refl
  one_laid calls (Write number at «from» len) rest one = rw (events_more calls (Write number at «from» len)) refl
  one_laid calls (Sync number) rest one = absurd one

  all_laid : (front back : List Call) → AllByRecursion IsNoSync back
      → picked first (events_of (front ++ back) bytes stop) picks
      ≡ laid bytes picks back (uncovered (events_of front bytes stop)) (picked first (events_of front bytes stop) picks)
  all_laid front [] bare = ap (λ (cs : List Call). picked first (events_of cs bytes stop) picks) (append-nil front)
  all_laid front (call ∷ back) bare =
      ap (λ (cs : List Call). picked first (events_of cs bytes stop) picks) (sym (append_assoc front (call ∷ []) back))
      ∙ all_laid (front ++ call ∷ []) back bare.1
      ∙ one_laid front call back bare.0

  -- nothing after it is covered
  one_synced : (calls : List Call) (call : Call) → IsNoSync call
      → synced_after first (events_of (calls ++ call ∷ []) bytes stop) ≡ synced_after first (events_of calls bytes stop)
  one_synced calls (Read number at) one = rw (events_more calls (Read number at)) refl
  one_synced calls (Write number at «from» len) one = rw (events_more calls (Write number at «from» len)) refl
  one_synced calls (Sync number) one = absurd one

  all_synced : (front back : List Call) → AllByRecursion IsNoSync back
      → synced_after first (events_of (front ++ back) bytes stop) ≡ synced_after first (events_of front bytes stop)
  all_synced front [] bare = ap (λ (cs : List Call). synced_after first (events_of cs bytes stop)) (append-nil front)
  all_synced front (call ∷ back) bare =
      ap (λ (cs : List Call). synced_after first (events_of cs bytes stop)) (sym (append_assoc front (call ∷ []) back))
      ∙ all_synced (front ++ call ∷ []) back bare.1
      ∙ one_synced front call bare.0

  -- what a sync covers, nothing is picked of
  none_left : (front : List Call) → (front ≡ []) ⊎ ((before : List Call) × (number : ℕ) × (front ≡ before ++ Sync number ∷ []))
      → (picked first (events_of front bytes stop) picks ≡ synced_after first (events_of front bytes stop)) × (uncovered (events_of front bytes stop) ≡ 0)
  none_left front (inl none) = rw none (refl, refl)
  none_left front (inr (before, number, is)) = rw (is, events_more before (Sync number)) (refl, refl)

  picked_is_laid : (done : List Call) (n : ℕ) → AreCovered done n
      → picked first (events_of done bytes stop) picks ≡ laid bytes picks (drop n done) 0 (synced_after first (events_of done bytes stop))
  picked_is_laid done n covered =
      let none = none_left covered.front covered.ends in
      ap (λ (cs : List Call). picked first (events_of cs bytes stop) picks) covered.calls_are
      ∙ all_laid covered.front covered.back covered.bare
      ∙ rw (none.0, none.1) refl
      ∙ ap (laid bytes picks covered.back 0) (sym (all_synced covered.front covered.back covered.bare))
      ∙ ap (λ (cs : List Call). laid bytes picks covered.back 0 (synced_after first (events_of cs bytes stop))) (sym covered.calls_are)
      ∙ ap (λ (cs : List Call). laid bytes picks cs 0 (synced_after first (events_of done bytes stop)))
      (sym (ap (drop n) covered.calls_are ∙ drop_at covered.front covered.back n covered.long))

  -- the same of what a function is given of them
  pub laid_is_picked : (done one two : List Call) (bytes' synced : List ℕ) (n : ℕ) → one ≡ done → AreCovered one n → two ≡ done → bytes' ≡ bytes
      → synced ≡ synced_after first (events_of done bytes stop) → laid bytes' picks (drop n two) 0 synced ≡ picked first (events_of done bytes stop) picks
  laid_is_picked done one two bytes' synced n found covered again bytes_are synced_is =
      rw (again, bytes_are, synced_is) (sym (picked_is_laid done n (subst (λ (cs : List Call). AreCovered cs n) found covered)))

-- each call that was made has its bytes and its place
one_fits : (bytes : List ℕ) (stop : Option ℕ) (call : Call) → IsTrue (has_bytes (length bytes) call) → IsTrue (lies_within (event_of bytes stop call))
    → FitsIn (length bytes) (SECTOR_BYTES * SECTORS) call
one_fits bytes stop (Read number at) kept lies = tt
one_fits bytes stop (Write number at «from» len) kept lies =
    let there : «from» + len ≤ length bytes = leb-true _ _ kept in
    let place : SECTOR_BYTES * at + length (part «from» len bytes) ≤ SECTOR_BYTES * SECTORS = leb-true _ _ lies in
    let size : length (part «from» len bytes) ≡ len = length-take-le len (drop «from» bytes) (omega (arith, there, length-drop «from» bytes)) in
    (there, omega (arith, place, size))
one_fits bytes stop (Sync number) kept lies = tt

events_front : (bytes : List ℕ) (stop : Option ℕ) (call : Call) (calls : List Call)
    → events_of (call ∷ calls) bytes stop ≡ events_of calls bytes stop ++ event_of bytes stop call ∷ []
events_front bytes stop call calls = reverse-append (event_of bytes stop call ∷ []) (map (event_of bytes stop) calls)

both_lie : (bytes : List ℕ) (stop : Option ℕ) (call : Call) (calls : List Call) → IsTrue (list_all lies_within (events_of (call ∷ calls) bytes stop))
    → IsTrue (list_all lies_within (events_of calls bytes stop) && list_all lies_within (event_of bytes stop call ∷ []))
both_lie bytes stop call calls lie =
    sym (list_all-append lies_within (events_of calls bytes stop) (event_of bytes stop call ∷ []))
    ∙ ap (list_all lies_within) (sym (events_front bytes stop call calls)) ∙ lie

pub all_fit : (bytes : List ℕ) (stop : Option ℕ) (done : List Call) → IsTrue (list_all (has_bytes (length bytes)) done)
    → IsTrue (list_all lies_within (events_of done bytes stop)) → (i : ℕ) (d : Call) → i < length done → FitsIn (length bytes) (SECTOR_BYTES * SECTORS) (get_or done i d)
all_fit bytes stop [] kept lie i d within = absurd (omega (arith, within))
all_fit bytes stop (call ∷ calls) kept lie zero d within =
    one_fits bytes stop call (head_passes (has_bytes (length bytes) call) _ kept)
    (head_passes (lies_within (event_of bytes stop call)) true
    (tail_passes (list_all lies_within (events_of calls bytes stop)) _ (both_lie bytes stop call calls lie)))
all_fit bytes stop (call ∷ calls) kept lie (suc i) d within =
    all_fit bytes stop calls (tail_passes (has_bytes (length bytes) call) _ kept)
    (head_passes (list_all lies_within (events_of calls bytes stop)) _ (both_lie bytes stop call calls lie)) i d (omega (arith, within))

-- what is picked of a write changes its range alone
half_within : (bytes : List ℕ) → length (half_of bytes) ≤ length bytes
half_within bytes = let e = length-take (SECTOR_BYTES * (length bytes / SECTOR_BYTES / 2)) bytes in omega (arith, e)

front_outside : (at n : ℕ) (front image : List ℕ) → length front ≤ n → at + n ≤ length image → SameOutside at n image (overlaid at front image)
front_outside at n front image less fits =
    let over = overlaid_outside at front image (omega arith) in
    let k : ℕ = n - length front in
    let past : (xs : List ℕ) → drop (at + n) xs ≡ drop k (drop (at + length front) xs) =
    λ xs. ap (λ (m : ℕ). drop m xs) (let e : at + n ≡ at + length front + k = omega arith in e) ∙ sym (drop-drop k (at + length front) xs) in
    record { below = over.below; above = past (overlaid at front image) ∙ ap (drop k) over.above ∙ sym (past image); long = over.long }

pick_outside : (pick : Pick) (at : ℕ) (bytes image : List ℕ) → at + length bytes ≤ length image → SameOutside at (length bytes) image (with_pick pick at bytes image)
pick_outside New at bytes image fits = overlaid_outside at bytes image fits
pick_outside Half at bytes image fits = front_outside at (length bytes) (half_of bytes) image (half_within bytes) fits
pick_outside Old at bytes image fits = unchanged_outside at (length bytes) image

-- so what is picked is among what a crash may leave
picked_left : (first : List ℕ) (es : List Event) (picks : List Pick) → length first ≡ SECTOR_BYTES * SECTORS → IsTrue (list_all lies_within es)
    → (c : Crash) × (c.image ≡ picked first es picks) × MayLeave first es c
picked_left first [] picks long within = (at_rest first, refl, refl)
picked_left first (HasRead n ∷ es) picks long within = picked_left first es picks long (tail_passes true _ within)
picked_left first (HasWritten n at bytes lands ∷ es) picks long within =
    let rest = tail_passes (nat_le (at + length bytes) (SECTOR_BYTES * SECTORS)) _ within in
    let before : (c : Crash) × (c.image ≡ picked first es picks) × MayLeave first es c = picked_left first es picks long rest in
    let size = left_sized first es before.0 long rest before.2 in
    let fits : at + length bytes ≤ SECTOR_BYTES * SECTORS = leb-true _ _ (head_passes (nat_le (at + length bytes) (SECTOR_BYTES * SECTORS)) _ within) in
    let pick : Pick = get_or picks (uncovered es) New in
    let write : InFlight = record { at = at; bytes = bytes; before = part at (length bytes) before.0.image } in (
      record { image = with_pick pick at bytes before.0.image; in_flight = write ∷ before.0.in_flight },
      ap (with_pick pick at bytes) before.1,
      (before.0, before.2, record { outside = pick_outside pick at bytes before.0.image (omega (arith, fits, size)); in_flight = refl }),
    )
picked_left first (HasSynced n ∷ es) picks long within = (at_rest (reads_after first es), refl, refl)

pub picked_stays : (first : List ℕ) (es : List Event) (picks : List Pick) (image : List ℕ) → length first ≡ SECTOR_BYTES * SECTORS
    → IsTrue (list_all lies_within es) → image ≡ picked first es picks → MayLeaveImage first es image
picked_stays first es picks image long within is =
    let left : (c : Crash) × (c.image ≡ picked first es picks) × MayLeave first es c = picked_left first es picks long within in
    (left.0.in_flight, subst (λ (bytes : List ℕ). MayLeave first es (record { image = bytes; in_flight = left.0.in_flight })) (left.1 ∙ sym is) left.2)
