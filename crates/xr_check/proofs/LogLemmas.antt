-- Why the superblock or the log of an image is refused.
use Rattle.std.proofs.Common.{◌≡◌, ◌∙◌, ◌⊎◌, ℕ, List, Option, ap, sym, subst, inl, inr, refl}
use Rattle.xr_check.proofs.ToldLemmas.{told_in_memory, told_of_image}
use Rattle.xr_check.specs.CleanImages.{HasCleanLog, IsCleanLog}
use Rattle.xr_check.specs.LoadRefusals.{OfImage, RefusesLoad, IsUnused, told_of_scan}
use Rattle.xr_check.specs.LoadRefusals.Layer.{OfLog, OfSuper}
use Rattle.xr_check.specs.Reading.{RefusesCleanLog}
use Rattle.xr_check.specs.declared.fault.Broken.{Broken}
use Rattle.xr_check.specs.declared.fault.Broken.TheVariants as broken
use Rattle.xr_check.specs.declared.fault.CheckFault.{CheckFault}
use Rattle.xr_check.specs.declared.fault.CheckFault.TheVariants.{Dirty, DiskFault, Foreign, NoMemory}
use Rattle.xr_commit.specs.LiveStream.{IsLiveIn}
use Rattle.xr_commit.specs.LogEnds.{EndsWith, IsCleanRecord}
use Rattle.xr_commit.specs.LogRecords.{HasSuper, LogRecord, log_of}
use Rattle.xr_commit.specs.OneRecordLaws.{one_head}
use Rattle.xr_commit.specs.Refusals.{HasNoSuper, IsReadable, OrNoMemory, OrOutside, RefusesImage, RefusesLog}
use Rattle.xr_commit.specs.declared.fault.ScanFault.{ScanFault}
use Rattle.xr_commit.specs.declared.fault.ScanFault.TheVariants as of_scan
use Rattle.xr_commit.specs.declared.log_ends.LogEnd.{LogEnd}
use Rattle.xr_commit.specs.declared.log_ends.LogEnd.TheVariants.{Empty, InUse, Unmounted}
use Rattle.xr_disk.specs.Seen.{WasSeen}
use Rattle.xr_record.specs.declared.entry.Entry.{Entry}
use Rattle.xr_record.specs.declared.head.Head.{Head}
use Rattle.xr_record.specs.declared.head.Lsn.{Lsn}

-- the superblock
no_super : (image : List ℕ) (cause : ScanFault) → HasNoSuper image → RefusesImage image cause → cause ≡ of_scan.Header 0
no_super image cause none (inl (lacks, named)) = named
no_super image cause none (inr (uuid, superblock, refused)) = absurd (none uuid superblock)

block_of_fault : ℕ → CheckFault → ℕ
block_of_fault d (Foreign block rule) = block
block_of_fault d fault = d

rule_of_fault : Broken → CheckFault → Broken
rule_of_fault d (Foreign block rule) = rule
rule_of_fault d fault = d

pub same_block : (a b : ℕ) (r s : Broken) → Foreign a r ≡ Foreign b s → a ≡ b
unfolding block_of_fault
same_block a b r s same = ap (block_of_fault a) same

pub same_rule : (a b : ℕ) (r s : Broken) → Foreign a r ≡ Foreign b s → r ≡ s
unfolding rule_of_fault
same_rule a b r s same = ap (rule_of_fault r) same

pub super_refused : (seen : Option (List ℕ)) (cause : ScanFault) → OrOutside (λ f. WasSeen seen (λ image. RefusesImage image f)) cause
    → OrOutside (λ _. WasSeen seen HasNoSuper) cause → WasSeen seen (λ image. RefusesLoad image (told_of_scan cause))
super_refused seen = told_of_image (λ f. WasSeen seen (λ image. RefusesImage image f)) (λ _. WasSeen seen HasNoSuper)
    (λ f. WasSeen seen (λ image. RefusesLoad image f)) (λ image at. tt) (λ n image at. tt)
    (λ cause block rule refused none named image at.
    let header : Foreign block rule ≡ Foreign 0 broken.Header = sym named ∙ ap told_of_scan (no_super image cause (none image at) (refused image at)) in
    (OfSuper, (none image at, same_block block 0 rule broken.Header header, same_rule block 0 rule broken.Header header)))

pub super_readable : (seen : Option (List ℕ)) (cause : ScanFault) → OrOutside (λ _. WasSeen seen HasNoSuper) cause → OfImage (λ _. WasSeen seen IsReadable) (told_of_scan cause)
super_readable seen cause none = told_of_image (λ _. WasSeen seen HasNoSuper) (λ _. WasSeen seen HasNoSuper) (OfImage (λ _. WasSeen seen IsReadable)) tt (λ n. tt)
    (λ cause block rule lacks also named image at. inl (lacks image at)) cause none none

-- the log
abbrev pub IsNotInUse : LogEnd → Type 0
IsNotInUse end = (lsn : Lsn) → end ≡ InUse lsn → ⊥

unused : (uuid log : List ℕ) (end : LogEnd) → IsNotInUse end → EndsWith uuid log end → IsUnused uuid log
unused uuid log Empty other ends = inl ends
unused uuid log Unmounted other ends = inr ends
unused uuid log (InUse lsn) other ends = absurd (other lsn refl)

pub log_refused : (uuid log : List ℕ) (end : LogEnd) → IsNotInUse end → EndsWith uuid log end
    → (cause : ScanFault) → OrNoMemory (RefusesLog uuid log) cause → RefusesCleanLog uuid log (told_of_scan cause)
log_refused uuid log end other ends = told_in_memory (RefusesLog uuid log) (RefusesCleanLog uuid log) tt (λ n _. tt)
    (λ cause block rule refused named. record { unused = unused uuid log end other ends; cause = cause; refused = refused; told = named })

-- a log with a live stream has a newest record, so it isn't empty
pub log_clean : (uuid log : List ℕ) (end : LogEnd) (heads : List Head) (entries : List Entry) → IsNotInUse end → EndsWith uuid log end → IsLiveIn uuid log heads entries → IsCleanLog uuid log
log_clean uuid log Empty heads entries other ends live = absurd (ends live.head.head.lsn.sector live.head live.newest.at)
log_clean uuid log Unmounted heads entries other ends live = record {
  heads = heads;
  entries = entries;
  live = live;
  clean = subst IsCleanRecord (one_head uuid log ends.newest live.head ends.head live.newest) ends.clean;
}
log_clean uuid log (InUse lsn) heads entries other ends live = absurd (other lsn refl)

-- the log of the image
pub image_refused : (image uuid log : List ℕ) (fault : CheckFault) → HasSuper image uuid → log ≡ log_of image → RefusesCleanLog uuid log fault → RefusesLoad image fault
image_refused image uuid log (Dirty lsn) superblock is refused =
    record { uuid = uuid; superblock = superblock; in_use = subst (λ (bytes : List ℕ). EndsWith uuid bytes (InUse lsn)) is refused }
image_refused image uuid log (Foreign block rule) superblock is refused =
    (OfLog, (uuid, superblock, subst (λ (bytes : List ℕ). RefusesCleanLog uuid bytes (Foreign block rule)) is refused))
image_refused image uuid log (DiskFault n) superblock is refused = tt
image_refused image uuid log NoMemory superblock is refused = tt

pub image_clean : (image uuid log : List ℕ) → HasSuper image uuid → log ≡ log_of image → IsCleanLog uuid log → HasCleanLog image uuid
image_clean image uuid log superblock is clean = record { superblock = superblock; log = subst (IsCleanLog uuid) is clean }
