-- The calls of a disk in memory, over its lists alone.
use Rattle.std.proofs.Common.{◌≡◌, ℕ, ◌+◌, ◌*◌, ◌-◌, ◌^◌, ◌<◌, ◌≤◌, ◌∙◌, min, nat_le, Bool, true, false, not, if◌then◌else◌, Option, List, [], ◌∷◌, ◌++◌, length, IsTrue, IsErr, Result, refl, ap, sym, subst, inr, arith}
use Rattle.std.specs.List.{list_all}
use Rattle.std.proofs.lemmas.Bool.{leb-true, le-leb}
use Rattle.std.proofs.lemmas.Grind.{common_steps}
use Rattle.std.proofs.lemmas.List.Folds.{list_all-append}
use Rattle.xr_base.specs.Cause.{HasCause}
use Rattle.xr_base.specs.declared.geometry.TheConstants.{SECTOR_BYTES, SECTORS}
use Rattle.xr_base.specs.Image.{overlaid, part}
use Rattle.xr_disk.specs.declared.call.Call.{Call}
use Rattle.xr_disk.specs.declared.call.Call.TheVariants.{Read, Write, Sync}
use Rattle.xr_disk.specs.Crash.{SameOutside}
use Rattle.xr_disk.specs.CrashLaws.{overlaid_outside, unchanged_outside}
use Rattle.xr_disk.specs.Disk.{IsCall, MayTear}
use Rattle.xr_disk.specs.Events.{Event, HasWritten, MayLeave, events_of, has_bytes, IsHistory, view_of, stops_at, call_number}
use Rattle.std.specs.Cmp.Derive.{both_true}
use Rattle.xr_disk.specs.EventLaws.{head_passes, tail_passes, calls_on, event_on, events_of-push}

-- a call that is kept
pub event_call :
    {T E : Type 0} (result : Result T E) (image image' first : List ℕ) (e : Event) (es es' : List Event) (calls calls' faults faults' : ℕ)
    → es' ≡ e ∷ es → call_number e ≡ calls' → calls' ≡ min (calls + 1) (2 ^ 64 - 1) → calls + 1 < 2 ^ 64
    → HasCause result faults faults' → IsCall (view_of image first es calls faults) (view_of image' first es' calls' faults') result
event_call result image image' first e es es' calls calls' faults faults' is number clock early cause =
    subst (λ (xs : List Event). IsCall (view_of image first es calls faults) (view_of image' first xs calls' faults') result) (sym is) record {
      clock = clock;
      time = event_on image image' first e es calls faults calls' faults' (omega arith) (omega arith);
      cause = cause;
      ended = λ last. absurd (omega arith);
    }

-- a write that is kept is one more event
pub pushed_write :
    (done done' : List Call) (bytes bytes' more : List ℕ) (stop : Option ℕ) (calls number at : ℕ) (stops : Bool) → IsTrue (list_all (has_bytes (length bytes)) done)
    → done' ≡ done ++ Write number at (length bytes) (length more) ∷ [] → bytes' ≡ bytes ++ more
    → number ≡ min (calls + 1) (2 ^ 64 - 1) → calls + 1 < 2 ^ 64 → stops_at stop (calls + 1) ≡ stops
    → events_of done' bytes' stop ≡ HasWritten number (SECTOR_BYTES * at) more (not stops) ∷ events_of done bytes stop
pushed_write done done' bytes bytes' more stop calls number at stops kept is_done is_bytes is_number early is_stop =
    let next : number ≡ calls + 1 = omega arith in
    let whole : part (length bytes) (length more) (bytes ++ more) ≡ more = grind (arith, common_steps) in
    let pushed = events_of-push done (Write number at (length bytes) (length more)) bytes more stop kept in
    cc

-- and its bytes are there
has_more : (n m : ℕ) (call : Call) → n ≤ m → IsTrue (has_bytes n call) → IsTrue (has_bytes m call)
has_more n m (Read number at) more has = refl
has_more n m (Write number at «from» len) more has = le-leb («from» + len) m (let h = leb-true («from» + len) n has in omega arith)
has_more n m (Sync number) more has = refl

all_have_more : (n m : ℕ) (calls : List Call) → n ≤ m → IsTrue (list_all (has_bytes n) calls) → IsTrue (list_all (has_bytes m) calls)
all_have_more n m [] more have = refl
all_have_more n m (call ∷ calls) more have =
    both_true (has_more n m call more (head_passes (has_bytes n call) _ have)) (all_have_more n m calls more (tail_passes (has_bytes n call) _ have))

pub all_within :
    (done done' : List Call) (bytes bytes' more : List ℕ) (number at : ℕ) → IsTrue (list_all (has_bytes (length bytes)) done)
    → done' ≡ done ++ Write number at (length bytes) (length more) ∷ [] → bytes' ≡ bytes ++ more → IsTrue (list_all (has_bytes (length bytes')) done')
all_within done done' bytes bytes' more number at kept is_done is_bytes =
    let longer : length bytes' ≡ length bytes + length more = grind (arith, common_steps) in
    let last : IsTrue (nat_le (length bytes + length more) (length bytes')) = le-leb (length bytes + length more) (length bytes') (omega arith) in
    let test : Call → Bool = has_bytes (length bytes') in
    ap (list_all test) is_done ∙ list_all-append test done (Write number at (length bytes) (length more) ∷ [])
    ∙ both_true (all_have_more (length bytes) (length bytes') done (omega arith) kept) (both_true {t = true} last refl)

-- the history goes on with a write that is kept
pub write_history :
    (first image image' covered : List ℕ) (es es' : List Event) (calls calls' at : ℕ) (more : List ℕ) (stops : Bool)
    → IsHistory first image covered es calls → es' ≡ HasWritten calls' at more (not stops) ∷ es → at + length more ≤ SECTOR_BYTES * SECTORS → image' ≡ (if not stops then overlaid at more image else image)
    → IsHistory first image' covered es' calls'
write_history first image image' covered es es' calls calls' at more stops history is fits is_image =
    let whole : IsHistory first image' covered (HasWritten calls' at more (not stops) ∷ es) calls' = record {
      size = history.size;
      reads = is_image ∙ ap (λ (xs : List ℕ). if not stops then overlaid at more xs else xs) history.reads;
      covered = history.covered;
      numbered = omega arith;
      within = both_true (le-leb (at + length more) (SECTOR_BYTES * SECTORS) fits) history.within;
    } in
    subst (λ (xs : List Event). IsHistory first image' covered xs calls') (sym is) whole

-- and a crash may leave it torn
pub write_tears :
    (first image image' : List ℕ) (es es' : List Event) (calls calls' faults faults' number at : ℕ) (more : List ℕ) (stops : Bool)
    → es' ≡ HasWritten number at more (not stops) ∷ es → at + length more ≤ length image → image' ≡ (if not stops then overlaid at more image else image)
    → MayTear at more (view_of image first es calls faults) (view_of image' first es' calls' faults')
write_tears first image image' es es' calls calls' faults faults' number at more stops is fits is_image = record {
  crash = λ c left. inr (subst (λ (xs : List Event). MayLeave first xs c) is left);
  seen = λ s seen.
      let same : SameOutside at (length more) image image' = subst (λ (xs : List ℕ). SameOutside at (length more) image xs) (sym is_image)
      (elim stops as (λ (b : Bool). SameOutside at (length more) image (if not b then overlaid at more image else image))
      [ true ↦ unchanged_outside at (length more) image | false ↦ overlaid_outside at more image fits ]) in
      (image', refl, subst (λ (xs : List ℕ). SameOutside at (length more) xs image') (let e : image ≡ s = cc in e) same);
}

-- a call that isn't kept
pub failed_call :
    {T E : Type 0} (result : Result T E) (image first : List ℕ) (es : List Event) (calls calls' faults faults' : ℕ)
    → calls' ≡ min (calls + 1) (2 ^ 64 - 1) → calls < 2 ^ 64 → HasCause result faults faults' → IsErr result → IsCall (view_of image first es calls faults) (view_of image first es calls' faults') result
failed_call result image first es calls calls' faults faults' clock small cause failed = record {
  clock = clock;
  time = calls_on image image first es calls faults calls' faults' (omega arith);
  cause = cause;
  ended = λ last. (failed, record { seen = refl; crash = λ c. (λ left. left, λ left. left) });
}
