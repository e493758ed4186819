-- Bytes that are added to those of the operation that isn't whole.
use Rattle.std.proofs.Common.{◌≡◌, ℕ, ◌+◌, ◌≤◌, List, ◌++◌, length, drop, refl, sym, arith}
use Rattle.std.proofs.lemmas.List.{append_assoc, drop-append-le, length-append, take-append-le}
use Rattle.xr_record.specs.declared.reader_fields.ReaderFields.{ReaderFields}
use Rattle.xr_record.specs.declared.rules.Stage.{Stage}
use Rattle.xr_record.specs.declared.rules.Stage.TheVariants as stage
use Rattle.xr_record.specs.ReaderFields.{AwaitsMore, front_of, region_items, phase_at, TakesBytes}
use Rattle.xr_record.specs.Operations.{fields}

pub phase_at-append : (s : Stage) (regions : List (List ℕ)) (body more : List ℕ) → front_of s ≤ length body → phase_at s regions (body ++ more) ≡ phase_at s regions body
phase_at-append stage.Between regions body more h = refl
phase_at-append (stage.Begun tid) regions body more h = refl
phase_at-append (stage.Inside tid count) regions body more h = refl
phase_at-append (stage.Cut tid count front) regions body more h = rw (take-append-le front body more h) refl

pub body_grown : (old new : ReaderFields) (taken : List ℕ) → AwaitsMore old → new.stage ≡ old.stage → new.regions ≡ old.regions → new.header ≡ old.header → new.place ≡ old.place
    → new.body.items ≡ old.body.items ++ taken → 12 ≤ length old.header.items
    → length (old.body.items ++ taken) ≤ front_of old.stage + (fields old.header.items).len → TakesBytes old new taken
body_grown old new taken k s r h p b long most =
    let front : front_of old.stage ≤ length old.body.items = k.growing.front in
    record {
      growing = record {
        header = rw h k.growing.header;
        front = rw (s, b) (omega (arith, length-append old.body.items taken));
        bare = λ short. absurd (let l : 12 ≤ length new.header.items = rw h long in omega arith);
        most = λ l. rw (s, b, h) most;
      };
      place = p;
      phase = rw (s, r, b) (phase_at-append old.stage (region_items old.regions.items) old.body.items taken front);
      rest = rw (s, h, b, drop-append-le (front_of old.stage) old.body.items taken front) (sym (append_assoc old.header.items (drop (front_of old.stage) old.body.items) taken));
    }
