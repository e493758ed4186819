-- What reading an image was refused for is why a command has no text.
use Rattle.std.proofs.Common.{◌≡◌, ℕ, Option, List, refl}
use Rattle.xr_base.specs.Cause.{Rose}
use Rattle.xr_check.specs.LoadRefusals.{HasRisen, OfImage, RefusesLoad, told_of_scan}
use Rattle.xr_check.specs.declared.fault.Broken.{Broken}
use Rattle.xr_check.specs.declared.fault.Broken.TheVariants as broken
use Rattle.xr_check.specs.declared.fault.CheckFault.{CheckFault}
use Rattle.xr_check.specs.declared.fault.CheckFault.TheVariants as check
use Rattle.xr_commit.specs.DiskFaults.{WasCounted}
use Rattle.xr_commit.specs.Refusals.{IsReadable, OrOutside, RefusesImage}
use Rattle.xr_commit.specs.declared.fault.ScanFault.{ScanFault}
use Rattle.xr_commit.specs.declared.fault.ScanFault.TheVariants as scan
use Rattle.xr_disk.specs.Seen.{WasSeen}
use Rattle.xr_cmd.specs.Failures.{CheckFails, IsSoOfImage, RefusesLive, ShowFails, ShowLogFails, failure_of_check}

pub load_shows_none : (seen : Option (List ℕ)) (before after : ℕ) (fault : CheckFault) → WasSeen seen (λ image. RefusesLoad image fault)
    → OfImage (λ _. WasSeen seen IsReadable) fault → HasRisen before after fault → ShowFails seen (Rose before after) (failure_of_check fault)
load_shows_none seen before after (check.Dirty lsn) refused readable risen = record { readable = readable; refused = refused }
load_shows_none seen before after (check.Foreign block rule) refused readable risen = record { readable = readable; refused = refused }
load_shows_none seen before after (check.DiskFault faults) refused readable risen = risen.0
load_shows_none seen before after check.NoMemory refused readable risen = tt

pub check_calls_none : (seen : Option (List ℕ)) (before after : ℕ) (fault : CheckFault) → WasSeen seen (λ image. RefusesLoad image fault)
    → OfImage (λ _. WasSeen seen IsReadable) fault → HasRisen before after fault → CheckFails seen (Rose before after) (failure_of_check fault)
check_calls_none seen before after (check.Dirty lsn) refused readable risen = record { readable = readable; refused = refused }
check_calls_none seen before after (check.Foreign block rule) refused readable risen = record { readable = readable; refused = refused }
check_calls_none seen before after (check.DiskFault faults) refused readable risen = risen.0
check_calls_none seen before after check.NoMemory refused readable risen = tt

-- a refusal of the log, told by its block and its rule
refuses_live : (seen : Option (List ℕ)) (cause : ScanFault) (block : ℕ) (rule : Broken) → told_of_scan cause ≡ check.Foreign block rule
    → WasSeen seen (λ image. RefusesImage image cause) → WasSeen seen IsReadable → IsSoOfImage (RefusesLive block rule) seen
refuses_live seen cause block rule told refused readable = record {
  readable = readable;
  refused = λ image was. record { cause = cause; refuses = refused image was; told = told };
}

pub live_shows_none : (seen : Option (List ℕ)) (before after : ℕ) (fault : ScanFault) → OrOutside (λ f. WasSeen seen (λ image. RefusesImage image f)) fault
    → OrOutside (λ _. WasSeen seen IsReadable) fault → WasCounted before after fault
    → ShowLogFails seen (Rose before after) (failure_of_check (told_of_scan fault))
live_shows_none seen before after (scan.Magic block) refused readable counted = refuses_live seen _ block broken.Magic refl refused readable
live_shows_none seen before after (scan.Version block) refused readable counted = refuses_live seen _ block broken.Version refl refused readable
live_shows_none seen before after (scan.Length block) refused readable counted = refuses_live seen _ block broken.Length refl refused readable
live_shows_none seen before after (scan.Checksum block) refused readable counted = refuses_live seen _ block broken.Checksum refl refused readable
live_shows_none seen before after (scan.Place block) refused readable counted = refuses_live seen _ block broken.Place refl refused readable
live_shows_none seen before after (scan.Operation block) refused readable counted = refuses_live seen _ block broken.Operation refl refused readable
live_shows_none seen before after (scan.ItemType block) refused readable counted = refuses_live seen _ block broken.ItemType refl refused readable
live_shows_none seen before after (scan.Size block) refused readable counted = refuses_live seen _ block broken.Size refl refused readable
live_shows_none seen before after (scan.Field block) refused readable counted = refuses_live seen _ block broken.Field refl refused readable
live_shows_none seen before after (scan.Debt block) refused readable counted = refuses_live seen _ block broken.Debt refl refused readable
live_shows_none seen before after (scan.Header block) refused readable counted = refuses_live seen _ block broken.Header refl refused readable
live_shows_none seen before after (scan.DiskFault faults) refused readable counted = counted.0
live_shows_none seen before after scan.NoMemory refused readable counted = tt
