-- From the log's bytes to the image in which they were seen.
use Rattle.std.proofs.Common.{◌≡◌, ◌∙◌, ℕ, List, Option, Result, Ok, Err, length, ap, sym, subst, inr}
use Rattle.std.specs.Prelude.{IfOk, IfErr}
use Rattle.xr_base.specs.Fields.{AreBytes}
use Rattle.xr_commit.specs.declared.fault.ScanFault.{ScanFault}
use Rattle.xr_commit.specs.declared.fault.ScanFault.TheVariants.{Magic, Version, Length, Checksum, Place, Operation, ItemType, Size, Field, Debt, Header, DiskFault, NoMemory}
use Rattle.xr_commit.specs.declared.layout.TheConstants.{LOG_BYTES}
use Rattle.xr_commit.specs.declared.live_stream.Live.{Live}
use Rattle.xr_commit.specs.LiveStream.{EndsOpen, IsLiveIn, IsLiveStream, WasReadLive}
use Rattle.xr_commit.specs.LogRecords.{HasSuper, log_of}
use Rattle.xr_commit.specs.Refusals.{IsReadable, OrNoMemory, OrOutside, RefusesImage, RefusesLog}
use Rattle.xr_commit.specs.DiskFaults.{WasCounted}
use Rattle.xr_commit.specs.DiskFaultLaws.{uncounted}
use Rattle.xr_disk.specs.Seen.{WasSeen}

-- what was read of the image: its identifier and its log
pub record WasRead (seen : Option (List ℕ)) (uuid log : List ℕ) : Type 0 where
  pub superblock : WasSeen seen (λ image. HasSuper image uuid)
  pub log_is : WasSeen seen (λ image. log ≡ log_of image)

pub was_live : (seen : Option (List ℕ)) (uuid log : List ℕ) (result : Result Live ScanFault) → WasRead seen uuid log
    → IfOk result (λ (live : Live). live.uuid ≡ uuid) → IfOk result (λ (live : Live). IsLiveIn uuid log live.heads.items live.entries.items)
    → IfOk result (λ (live : Live). WasSeen seen (λ image. IsLiveStream image live))
was_live seen uuid log (Ok live) read own is = λ image at. record {
  superblock = subst (HasSuper image) (sym own) (read.superblock image at);
  live_in = subst (λ (bytes : List ℕ). IsLiveIn live.uuid bytes live.heads.items live.entries.items) (read.log_is image at)
      (subst (λ (u : List ℕ). IsLiveIn u log live.heads.items live.entries.items) (sym own) is);
}
was_live seen uuid log (Err fault) read own is = tt

pub was_read_live : (seen : Option (List ℕ)) (uuid log bytes : List ℕ) (result : Result Live ScanFault) → WasRead seen uuid bytes → bytes ≡ log → length log ≡ LOG_BYTES
    → IfOk result (λ (live : Live). live.uuid ≡ uuid) → IfOk result (λ (live : Live). IsLiveIn uuid bytes live.heads.items live.entries.items)
    → IfOk result (λ (live : Live). EndsOpen uuid bytes live) → IfOk result (WasReadLive seen)
was_read_live seen uuid log bytes (Ok live) read same long own is ends = record {
  log = bytes;
  long = ap length same ∙ long;
  live_in = subst (λ (u : List ℕ). IsLiveIn u bytes live.heads.items live.entries.items) (sym own) is;
  ends = subst (λ (u : List ℕ). EndsOpen u bytes live) (sym own) ends;
  log_is = read.log_is;
}
was_read_live seen uuid log bytes (Err fault) read same long own is ends = tt

at_image : (seen : Option (List ℕ)) (uuid log : List ℕ) (fault : ScanFault) → WasRead seen uuid log → RefusesLog uuid log fault
    → WasSeen seen (λ image. RefusesImage image fault)
at_image seen uuid log fault read refused =
    λ image at. inr (uuid, read.superblock image at, subst (λ (bytes : List ℕ). RefusesLog uuid bytes fault) (read.log_is image at) refused)

of_image : (seen : Option (List ℕ)) (uuid log : List ℕ) (fault : ScanFault) → WasRead seen uuid log → OrNoMemory (RefusesLog uuid log) fault
    → OrOutside (λ (f : ScanFault). WasSeen seen (λ image. RefusesImage image f)) fault
of_image seen uuid log (Magic b) read refused = at_image seen uuid log (Magic b) read refused
of_image seen uuid log (Version b) read refused = at_image seen uuid log (Version b) read refused
of_image seen uuid log (Length b) read refused = at_image seen uuid log (Length b) read refused
of_image seen uuid log (Checksum b) read refused = at_image seen uuid log (Checksum b) read refused
of_image seen uuid log (Place b) read refused = at_image seen uuid log (Place b) read refused
of_image seen uuid log (Operation b) read refused = at_image seen uuid log (Operation b) read refused
of_image seen uuid log (ItemType b) read refused = at_image seen uuid log (ItemType b) read refused
of_image seen uuid log (Size b) read refused = at_image seen uuid log (Size b) read refused
of_image seen uuid log (Field b) read refused = at_image seen uuid log (Field b) read refused
of_image seen uuid log (Header b) read refused = at_image seen uuid log (Header b) read refused
of_image seen uuid log (Debt b) read refused = at_image seen uuid log (Debt b) read refused
of_image seen uuid log (DiskFault n) read refused = tt
of_image seen uuid log NoMemory read refused = tt

pub was_refused : (seen : Option (List ℕ)) (uuid log : List ℕ) (result : Result Live ScanFault) → WasRead seen uuid log → IfErr result (OrNoMemory (RefusesLog uuid log))
    → IfErr result (OrOutside (λ (f : ScanFault). WasSeen seen (λ image. RefusesImage image f)))
was_refused seen uuid log (Ok live) read refused = tt
was_refused seen uuid log (Err fault) read refused = of_image seen uuid log fault read refused

pub was_read : (seen after : Option (List ℕ)) (uuid log bytes : List ℕ) → after ≡ seen → bytes ≡ log → WasSeen seen (λ image. HasSuper image uuid) → WasSeen after (λ image. log ≡ log_of image)
    → WasRead seen uuid bytes
was_read seen after uuid log bytes same is superblock log_is = record { superblock = superblock; log_is = λ image at. is ∙ log_is image (same ∙ at) }

pub was_uncounted : (uuid log : List ℕ) (before after : ℕ) (result : Result Live ScanFault) → IfErr result (OrNoMemory (RefusesLog uuid log))
    → IfErr result (WasCounted before after)
was_uncounted uuid log before after (Ok live) refused = tt
was_uncounted uuid log before after (Err fault) refused = uncounted uuid log before after fault refused

-- another word for each refusal but those from outside
pub or_outside : (P Q : ScanFault → Type 0) → ((fault : ScanFault) → P fault → Q fault) → (fault : ScanFault) → OrOutside P fault → OrOutside Q fault
or_outside P Q into (Magic b) p = into (Magic b) p
or_outside P Q into (Version b) p = into (Version b) p
or_outside P Q into (Length b) p = into (Length b) p
or_outside P Q into (Checksum b) p = into (Checksum b) p
or_outside P Q into (Place b) p = into (Place b) p
or_outside P Q into (Operation b) p = into (Operation b) p
or_outside P Q into (ItemType b) p = into (ItemType b) p
or_outside P Q into (Size b) p = into (Size b) p
or_outside P Q into (Field b) p = into (Field b) p
or_outside P Q into (Debt b) p = into (Debt b) p
or_outside P Q into (Header b) p = into (Header b) p
or_outside P Q into (DiskFault n) p = tt
or_outside P Q into NoMemory p = tt

-- what holds of any image that was read, whatever its refusal
pub where_read : (P : Type 0) → P → (fault : ScanFault) → OrOutside (λ (f : ScanFault). P) fault
where_read P p (Magic b) = p
where_read P p (Version b) = p
where_read P p (Length b) = p
where_read P p (Checksum b) = p
where_read P p (Place b) = p
where_read P p (Operation b) = p
where_read P p (ItemType b) = p
where_read P p (Size b) = p
where_read P p (Field b) = p
where_read P p (Debt b) = p
where_read P p (Header b) = p
where_read P p (DiskFault n) = tt
where_read P p NoMemory = tt

-- a log that was read is bytes
pub bytes_read : (seen : Option (List ℕ)) (uuid log : List ℕ) → WasRead seen uuid log → AreBytes log → WasSeen seen (λ image. AreBytes (log_of image))
bytes_read seen uuid log read small image at = subst AreBytes (read.log_is image at) small

pub readable_ok : (seen : Option (List ℕ)) (uuid log : List ℕ) (result : Result Live ScanFault) → WasRead seen uuid log → AreBytes log
    → IfOk result (λ (live : Live). WasSeen seen (λ image. AreBytes (log_of image)))
readable_ok seen uuid log (Ok live) read small = bytes_read seen uuid log read small
readable_ok seen uuid log (Err fault) read small = tt

pub readable_err : (seen : Option (List ℕ)) (uuid log : List ℕ) (result : Result Live ScanFault) → WasRead seen uuid log → AreBytes log
    → IfErr result (OrOutside (λ (f : ScanFault). WasSeen seen IsReadable))
readable_err seen uuid log (Ok live) read small = tt
readable_err seen uuid log (Err fault) read small = where_read (WasSeen seen IsReadable) (λ image at. inr (bytes_read seen uuid log read small image at)) fault
