-- What a list of events tells of crashes: the laws that each disk keeps.
use Rattle.std.specs.Prelude.{◌≡◌, ℕ, ◌+◌, ◌*◌, ◌<◌, ◌≤◌, nat_le, Bool, true, false, not, if◌then◌else◌, ◌&&◌, Option, Some, List, [], ◌∷◌, ◌++◌, map, reverse, length, IsTrue, refl}
use Rattle.std.specs.List.{list_all}
use Rattle.std.proofs.Common.{inl, inr, arith, ap, ◌∙◌}
use Rattle.std.proofs.lemmas.Grind.{common_steps}
use Rattle.std.proofs.lemmas.List.{map-append, reverse-append}
use Rattle.std.proofs.lemmas.Bool.{leb-true}
use Rattle.xr_base.specs.declared.geometry.TheConstants.{SECTOR_BYTES, SECTORS}
use Rattle.xr_base.specs.Image.{overlaid, part}
use Rattle.xr_base.specs.ImageLaws.{length-overlaid}
use Rattle.xr_disk.specs.declared.call.Call.{Call}
use Rattle.xr_disk.specs.declared.call.Call.TheVariants.{Read, Write, Sync}
use Rattle.xr_disk.specs.Crash.{Crash, Write as InFlight, Torn, at_rest}
use Rattle.xr_disk.specs.CrashLaws.{overlaid_outside, unchanged_outside}
use Rattle.xr_disk.specs.Disk.{LeavesOnly}
use Rattle.xr_disk.specs.Events.{Event, HasRead, HasWritten, HasSynced, latest, reads_after, MayLeave, LeftSince, lies_within, event_of, events_of, has_bytes, IsHistory, view_of, stops_at, call_number}

-- the parts of a test on a list
pub head_passes : (b c : Bool) → IsTrue (b && c) → IsTrue b
head_passes true c both = refl
head_passes false c both = both

pub tail_passes : (b c : Bool) → IsTrue (b && c) → IsTrue c
tail_passes true c both = both
tail_passes false c both = cc

-- reads give as many bytes as at first
pub length-reads_after : (first : List ℕ) (es : List Event) → length first ≡ SECTOR_BYTES * SECTORS
    → IsTrue (list_all lies_within es) → length (reads_after first es) ≡ SECTOR_BYTES * SECTORS
length-reads_after first [] long within = long
length-reads_after first (HasRead n ∷ es) long within = length-reads_after first es long (tail_passes true _ within)
length-reads_after first (HasWritten n at bytes lands ∷ es) long within =
    let before : length (reads_after first es) ≡ SECTOR_BYTES * SECTORS =
    length-reads_after first es long (tail_passes (nat_le (at + length bytes) (SECTOR_BYTES * SECTORS)) _ within) in
    let fits : at + length bytes ≤ SECTOR_BYTES * SECTORS = leb-true _ _ (head_passes (nat_le (at + length bytes) (SECTOR_BYTES * SECTORS)) _ within) in
    elim lands as (λ (b : Bool). length (if b then overlaid at bytes (reads_after first es) else reads_after first es) ≡ SECTOR_BYTES * SECTORS)
    [ true ↦ length-overlaid at bytes (reads_after first es) (omega arith) ∙ before | false ↦ before ]
length-reads_after first (HasSynced n ∷ es) long within = length-reads_after first es long (tail_passes true _ within)

-- a write lies in what reads gave before it
write_fits : (first : List ℕ) (n at : ℕ) (bytes : List ℕ) (lands : Bool) (es : List Event) → length first ≡ SECTOR_BYTES * SECTORS
    → IsTrue (list_all lies_within (HasWritten n at bytes lands ∷ es)) → at + length bytes ≤ length (reads_after first es)
write_fits first n at bytes lands es long within =
    let before : length (reads_after first es) ≡ SECTOR_BYTES * SECTORS =
    length-reads_after first es long (tail_passes (nat_le (at + length bytes) (SECTOR_BYTES * SECTORS)) _ within) in
    let fits : at + length bytes ≤ SECTOR_BYTES * SECTORS = leb-true _ _ (head_passes (nat_le (at + length bytes) (SECTOR_BYTES * SECTORS)) _ within) in
    omega arith

-- what reads give may be left
pub seen_stays : (first : List ℕ) (es : List Event) → length first ≡ SECTOR_BYTES * SECTORS → IsTrue (list_all lies_within es)
    → (c : Crash) × (c.image ≡ reads_after first es) × MayLeave first es c
seen_stays first [] long within = (at_rest first, refl, refl)
seen_stays first (HasRead n ∷ es) long within = seen_stays first es long (tail_passes true _ within)
seen_stays first (HasWritten n at bytes lands ∷ es) long within =
    let before : (c : Crash) × (c.image ≡ reads_after first es) × MayLeave first es c =
    seen_stays first es long (tail_passes (nat_le (at + length bytes) (SECTOR_BYTES * SECTORS)) _ within) in
    let fits : at + length bytes ≤ length before.0.image =
    let h = write_fits first n at bytes lands es long within in let e = before.1 in omega (arith, ap length e) in
    let write : InFlight = record { at = at; bytes = bytes; before = part at (length bytes) before.0.image } in
    elim lands as (λ (b : Bool). (c : Crash) × (c.image ≡ (if b then overlaid at bytes (reads_after first es) else reads_after first es))
    × ((d : Crash) × MayLeave first es d × Torn at bytes d c)) [
      | true ↦ (
        record { image = overlaid at bytes before.0.image; in_flight = write ∷ before.0.in_flight },
        ap (overlaid at bytes) before.1,
        (before.0, before.2, record { outside = overlaid_outside at bytes before.0.image fits; in_flight = refl }),
      )
      | false ↦ (
        record { image = before.0.image; in_flight = write ∷ before.0.in_flight },
        before.1,
        (before.0, before.2, record { outside = unchanged_outside at (length bytes) before.0.image; in_flight = refl }),
      )
    ]
seen_stays first (HasSynced n ∷ es) long within = (at_rest (reads_after first es), refl, refl)

-- each image that may be left has the size of the disk
pub left_sized : (first : List ℕ) (es : List Event) (c : Crash) → length first ≡ SECTOR_BYTES * SECTORS → IsTrue (list_all lies_within es)
    → MayLeave first es c → length c.image ≡ SECTOR_BYTES * SECTORS
left_sized first [] c long within left = ap (λ (d : Crash). length d.image) left ∙ long
left_sized first (HasRead n ∷ es) c long within left = left_sized first es c long (tail_passes true _ within) left
left_sized first (HasWritten n at bytes lands ∷ es) c long within (d, before, torn) =
    torn.outside.long ∙ left_sized first es d long (tail_passes (nat_le (at + length bytes) (SECTOR_BYTES * SECTORS)) _ within) before
left_sized first (HasSynced n ∷ es) c long within left =
    ap (λ (d : Crash). length d.image) left ∙ length-reads_after first es long (tail_passes true _ within)

-- what may be left now was left since each moment, and what was left since the newest event may be left now
pub left_now : (first : List ℕ) (es : List Event) (t : ℕ) (c : Crash) → MayLeave first es c → LeftSince first es t c
left_now first [] t c left = left
left_now first (e ∷ es) t c left = inl left

pub since_now : (first : List ℕ) (es : List Event) (t : ℕ) (c : Crash) → latest es ≤ t → LeftSince first es t c → MayLeave first es c
since_now first [] t c newest left = left
since_now first (e ∷ es) t c newest (inl now) = now
since_now first (e ∷ es) t c newest (inr (before, left)) = absurd (omega arith)

-- what was left since a moment was left since each one before it
pub since_narrows : (first : List ℕ) (es : List Event) (t u : ℕ) (c : Crash) → t ≤ u → LeftSince first es u c → LeftSince first es t c
since_narrows first [] t u c earlier left = left
since_narrows first (e ∷ es) t u c earlier (inl now) = inl now
since_narrows first (e ∷ es) t u c earlier (inr (before, left)) = inr (omega arith, since_narrows first es t u c earlier left)

-- a call without an event, and one with
pub calls_on : (image image' first : List ℕ) (es : List Event) (calls faults calls' faults' : ℕ) → calls ≤ calls'
    → LeavesOnly (view_of image first es calls faults) (view_of image' first es calls' faults') (MayLeave first es)
calls_on image image' first es calls faults calls' faults' later = record {
  later = later;
  others = λ t c within left. inl left;
  kept = λ t c within left. left;
}

pub event_on : (image image' first : List ℕ) (e : Event) (es : List Event) (calls faults calls' faults' : ℕ) → calls ≤ calls' → calls < call_number e
    → LeavesOnly (view_of image first es calls faults) (view_of image' first (e ∷ es) calls' faults') (MayLeave first (e ∷ es))
event_on image image' first e es calls faults calls' faults' later newer = record {
  later = later;
  others = λ t c within left. elim left [ inl now ↦ inr now | inr (before, since) ↦ inl since ];
  kept = λ t c within left. inr (omega arith, left);
}

-- the bytes of the calls so far stay where they are while more are kept
event_kept : (bytes more : List ℕ) (stop : Option ℕ) (call : Call) → IsTrue (has_bytes (length bytes) call)
    → event_of (bytes ++ more) stop call ≡ event_of bytes stop call
event_kept bytes more stop (Read number at) kept = refl
event_kept bytes more stop (Write number at «from» len) kept =
    let fits : «from» + len ≤ length bytes = leb-true _ _ kept in
    ap (λ (xs : List ℕ). HasWritten number (SECTOR_BYTES * at) xs (not (stops_at stop number)))
    (let e : part «from» len (bytes ++ more) ≡ part «from» len bytes = grind (arith, common_steps) in e)
event_kept bytes more stop (Sync number) kept = refl

all_kept : (bytes more : List ℕ) (stop : Option ℕ) (calls : List Call) → IsTrue (list_all (has_bytes (length bytes)) calls)
    → map (event_of (bytes ++ more) stop) calls ≡ map (event_of bytes stop) calls
all_kept bytes more stop [] kept = refl
all_kept bytes more stop (call ∷ calls) kept =
    let first = event_kept bytes more stop call (head_passes (has_bytes (length bytes) call) _ kept) in
    let others = all_kept bytes more stop calls (tail_passes (has_bytes (length bytes) call) _ kept) in
    cc

pub events_of-push : (done : List Call) (call : Call) (bytes more : List ℕ) (stop : Option ℕ) → IsTrue (list_all (has_bytes (length bytes)) done)
    → events_of (done ++ call ∷ []) (bytes ++ more) stop ≡ event_of (bytes ++ more) stop call ∷ events_of done bytes stop
events_of-push done call bytes more stop kept =
    ap reverse (map-append (event_of (bytes ++ more) stop) done (call ∷ [])) ∙ reverse-append (map (event_of (bytes ++ more) stop) done) (event_of (bytes ++ more) stop call ∷ [])
    ∙ ap (λ (es : List Event). event_of (bytes ++ more) stop call ∷ reverse es) (all_kept bytes more stop done kept)

-- the disk's law: what reads give may be left, perhaps with writes in flight
pub seen_may_stay : (first image covered s : List ℕ) (es : List Event) (calls : ℕ) → IsHistory first image covered es calls
    → Some image ≡ Some s → (c : Crash) × (c.image ≡ s) × MayLeave first es c
seen_may_stay first image covered s es calls history seen =
    let left : (c : Crash) × (c.image ≡ reads_after first es) × MayLeave first es c = seen_stays first es history.size history.within in
    let reads = history.reads in
    let is : reads_after first es ≡ s = cc in
    (left.0, left.1 ∙ is, left.2)
