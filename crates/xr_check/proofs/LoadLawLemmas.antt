-- What an image is refused for is exact, as far as that of its log, its files and its groups is.
use Rattle.std.proofs.Common.{◌≡◌, ◌∙◌, ◌≢◌, ◌⊎◌, ℕ, ◌<◌, ◌≤◌, List, ap, sym, subst, inl, inr, refl, ⊎_elim, arith}
use Rattle.std.proofs.lemmas.Bool.{cases_lt}
use Rattle.xr_base.specs.Fields.{AreBytes}
use Rattle.xr_base.specs.declared.geometry.TheConstants.{FILES, FILE_BLOCKS, FIRST_DATA_BLOCK, GROUPS}
use Rattle.xr_bmap.specs.OpenFile.{RefusesFile}
use Rattle.xr_bmap.specs.OpenFileLaws.{refused_are_no_files}
use Rattle.xr_check.proofs.GroupLemmas.{groups_are_first}
use Rattle.xr_check.proofs.LogLemmas.{same_block, same_rule}
use Rattle.xr_check.specs.CleanImages.{HasCleanLog, HasFilesBelow, HasGroupsBelow, IsCleanImage, bytes_of_group, groups_of_image, maps_of_image}
use Rattle.xr_check.specs.LoadLaws.{CleanIsTaken, DirtyIsAlone, DirtyIsOne, LayerIsOne, LogRefusalIsOne, VerdictIsOne}
use Rattle.xr_check.specs.LoadRefusals.{BreaksFile, BreaksFirst, BreaksGroup, BreaksLog, IsDirtyImage, IsUnused, Layer, told_of_open, told_of_scan}
use Rattle.xr_check.specs.LoadRefusals.Layer.{OfFile, OfGroup, OfLog, OfSuper}
use Rattle.xr_check.specs.Loading.{IsVerdictOn}
use Rattle.xr_check.specs.VerdictLaws.{verdicts_are_determined}
use Rattle.xr_check.specs.Verdicts.{IsVerdict}
use Rattle.xr_check.specs.declared.fault.Broken.{Broken}
use Rattle.xr_check.specs.declared.fault.CheckFault.{CheckFault}
use Rattle.xr_check.specs.declared.fault.CheckFault.TheVariants.{Dirty, DiskFault, Foreign, NoMemory}
use Rattle.xr_commit.specs.LogEnds.{EndsWith, IsCleanRecord}
use Rattle.xr_commit.specs.LogRecords.{HasSuper, LogRecord, log_of}
use Rattle.xr_commit.specs.OneRecordLaws.{one_head}
use Rattle.xr_commit.specs.Refusals.{HasNoSuper, IsReadable, RefusesImage, RefusesLog}
use Rattle.xr_commit.specs.declared.fault.ScanFault.{ScanFault}
use Rattle.xr_commit.specs.declared.log_ends.LogEnd.TheVariants.{InUse}
use Rattle.xr_group.specs.OpenGroup.{RefusedAreNoGroups}
use Rattle.xr_headers.specs.FreshLaws.{super_block-uuid}
use Rattle.xr_open.specs.declared.fault.OpenFault.{OpenFault}
use Rattle.xr_open.specs.declared.fault.OpenFault.TheVariants as of_open
use Rattle.xr_pool.specs.Overlay.{blocks_in}
use Rattle.xr_record.specs.declared.head.Lsn.{Lsn}
use Rattle.xr_scan.specs.RefusalLaws.{IsOneRefusal, LiveIsTaken}

same_super : (image uuid other : List ℕ) → HasSuper image uuid → HasSuper image other → uuid ≡ other
same_super image uuid other one two = super_block-uuid uuid other one.whole two.whole (sym one.block ∙ two.block)

-- the newest record is an unmount or isn't
used_or_not : (uuid log : List ℕ) (lsn : Lsn) → EndsWith uuid log (InUse lsn) → IsUnused uuid log → ⊥
used_or_not uuid log lsn (ends, is) (inl none) = none ends.newest.head.lsn.sector ends.newest ends.head.at
used_or_not uuid log lsn (ends, is) (inr clean) = ends.other (subst IsCleanRecord (one_head uuid log clean.newest ends.newest clean.head ends.head) clean.clean)

used_or_clean : (image uuid : List ℕ) (lsn : Lsn) → EndsWith uuid (log_of image) (InUse lsn) → HasCleanLog image uuid → ⊥
used_or_clean image uuid lsn ends clean =
    used_or_not uuid (log_of image) lsn ends (inr record { newest = clean.log.live.head; head = clean.log.live.newest; clean = clean.log.clean })

pub dirty_is_one : DirtyIsOne
dirty_is_one image lsn other one two =
    let same = same_super image one.uuid two.uuid one.superblock two.superblock in
    let ends : EndsWith two.uuid (log_of image) (InUse lsn) = subst (λ (uuid : List ℕ). EndsWith uuid (log_of image) (InUse lsn)) same one.in_use in
    ends.1 ∙ ap (λ (r : LogRecord). r.head.lsn) (one_head two.uuid (log_of image) ends.0.newest two.in_use.0.newest ends.0.head two.in_use.0.head) ∙ sym two.in_use.1

-- in use, and under the identifier of what else is known of the image
in_use_by : (image uuid : List ℕ) (lsn : Lsn) → IsDirtyImage image lsn → HasSuper image uuid → EndsWith uuid (log_of image) (InUse lsn)
in_use_by image uuid lsn dirty superblock =
    subst (λ (u : List ℕ). EndsWith u (log_of image) (InUse lsn)) (same_super image dirty.uuid uuid dirty.superblock superblock) dirty.in_use

pub dirty_is_alone : DirtyIsAlone
dirty_is_alone image lsn OfSuper block rule dirty broken = broken.0 dirty.uuid dirty.superblock
dirty_is_alone image lsn OfLog block rule dirty (uuid, superblock, broken) =
    used_or_not uuid (log_of image) lsn (in_use_by image uuid lsn dirty superblock) broken.unused
dirty_is_alone image lsn (OfFile file) block rule dirty (uuid, log, broken) = used_or_clean image uuid lsn (in_use_by image uuid lsn dirty log.superblock) log
dirty_is_alone image lsn (OfGroup number) block rule dirty (uuid, log, files, broken) =
    used_or_clean image uuid lsn (in_use_by image uuid lsn dirty log.superblock) log

pub verdict_is_one : VerdictIsOne
verdict_is_one image verdict other one two =
    let uuid : List ℕ = two.uuid in
    let same = same_super image one.uuid uuid one.clean.log.superblock two.clean.log.superblock in
    verdicts_are_determined (maps_of_image image uuid) (groups_of_image image uuid) verdict other (groups_are_first image uuid GROUPS)
    (subst (λ (u : List ℕ). IsVerdict (maps_of_image image u) (groups_of_image image u) verdict) same one.is) two.is

-- what is told with a block isn't want of memory
of_memory : (cause : OpenFault) (block : ℕ) (rule : Broken) → told_of_open cause ≡ Foreign block rule → cause ≢ of_open.NoMemory
of_memory cause block rule told none = let lie = sym told ∙ ap told_of_open none in absurd cc

file_refused : (image uuid : List ℕ) (n file block : ℕ) (rule : Broken) → BreaksFile image uuid file block rule → HasFilesBelow image uuid n → n ≤ file
file_refused image uuid n file block rule broken right = ⊎_elim
    (λ (below : file < n). absurd (refused_are_no_files file uuid _ broken.cause (of_memory broken.cause block rule broken.told) broken.refused (right file below)))
    (λ (from : n ≤ file). from)
    (cases_lt file n)

module _ (no_groups : RefusedAreNoGroups) (taken : LiveIsTaken) (one : IsOneRefusal) where
  group_refused : (image uuid : List ℕ) (n number block : ℕ) (rule : Broken) → BreaksGroup image uuid number block rule → HasGroupsBelow image uuid n → n ≤ number
  group_refused image uuid n number block rule broken right = ⊎_elim
      (λ (below : number < n). absurd (no_groups number uuid (blocks_in FIRST_DATA_BLOCK (bytes_of_group image number)) broken.cause
      (of_memory broken.cause block rule broken.told) broken.refused (right number below)))
      (λ (from : n ≤ number). from)
      (cases_lt number n)

  log_or_clean : (image uuid other : List ℕ) (block : ℕ) (rule : Broken) → IsReadable image → HasSuper image uuid → BreaksLog uuid (log_of image) block rule
      → HasCleanLog image other → ⊥
  log_or_clean image uuid other block rule (inl none) superblock broken clean = none uuid superblock
  log_or_clean image uuid other block rule (inr bytes) superblock broken clean =
      taken image other clean.log.heads clean.log.entries broken.cause bytes clean.superblock clean.log.live (inr (uuid, superblock, broken.refused))

  pub log_refusal_is_one : LogRefusalIsOne
  log_refusal_is_one image block place rule another readable (uuid, superblock, broken) (other, too, also) =
      let same = one image broken.cause also.cause readable (inr (uuid, superblock, broken.refused)) (inr (other, too, also.refused)) in
      let told : Foreign block rule ≡ Foreign place another = sym broken.told ∙ ap told_of_scan same ∙ also.told in
      (same_block block place rule another told, same_rule block place rule another told)

  -- each layer that breaks a rule is the same one as any other
  module _ (image : List ℕ) (readable : IsReadable image) where
    no_super : (other : Layer) (place : ℕ) (another : Broken) → HasNoSuper image → BreaksFirst image other place another → OfSuper ≡ other
    no_super OfSuper place another none broken = refl
    no_super OfLog place another none (uuid, superblock, broken) = absurd (none uuid superblock)
    no_super (OfFile file) place another none (uuid, log, broken) = absurd (none uuid log.superblock)
    no_super (OfGroup number) place another none (uuid, log, files, broken) = absurd (none uuid log.superblock)

    log_broken : (uuid : List ℕ) (block place : ℕ) (rule another : Broken) (other : Layer) → HasSuper image uuid → BreaksLog uuid (log_of image) block rule
        → BreaksFirst image other place another → OfLog ≡ other
    log_broken uuid block place rule another OfSuper superblock broken also = absurd (also.0 uuid superblock)
    log_broken uuid block place rule another OfLog superblock broken also = refl
    log_broken uuid block place rule another (OfFile file) superblock broken (also, log, more) =
        absurd (log_or_clean image uuid also block rule readable superblock broken log)
    log_broken uuid block place rule another (OfGroup number) superblock broken (also, log, files, more) =
        absurd (log_or_clean image uuid also block rule readable superblock broken log)

    file_broken : (uuid : List ℕ) (file block place : ℕ) (rule another : Broken) (other : Layer) → HasCleanLog image uuid → BreaksFile image uuid file block rule
        → BreaksFirst image other place another → OfFile file ≡ other
    file_broken uuid file block place rule another OfSuper log broken also = absurd (also.0 uuid log.superblock)
    file_broken uuid file block place rule another OfLog log broken (also, superblock, more) =
        absurd (log_or_clean image also uuid place another readable superblock more log)
    file_broken uuid file block place rule another (OfFile other) log broken (also, too, more) =
        let by : BreaksFile image uuid other place another =
        subst (λ (u : List ℕ). BreaksFile image u other place another) (same_super image also uuid too.superblock log.superblock) more in
        let up = file_refused image uuid file other place another by broken.before in
        let down = file_refused image uuid other file block rule broken by.before in
        ap OfFile (omega (arith, up, down))
    file_broken uuid file block place rule another (OfGroup number) log broken (also, too, files, more) =
        let right = subst (λ (u : List ℕ). HasFilesBelow image u FILES) (same_super image also uuid too.superblock log.superblock) files in
        let past = file_refused image uuid FILES file block rule broken right in
        absurd (omega (arith, past, broken.known))

    group_broken : (uuid : List ℕ) (number block place : ℕ) (rule another : Broken) (other : Layer) → HasCleanLog image uuid → HasFilesBelow image uuid FILES
        → BreaksGroup image uuid number block rule → BreaksFirst image other place another → OfGroup number ≡ other
    group_broken uuid number block place rule another OfSuper log files broken also = absurd (also.0 uuid log.superblock)
    group_broken uuid number block place rule another OfLog log files broken (also, superblock, more) =
        absurd (log_or_clean image also uuid place another readable superblock more log)
    group_broken uuid number block place rule another (OfFile file) log files broken (also, too, more) =
        let right = subst (λ (u : List ℕ). HasFilesBelow image u FILES) (same_super image uuid also log.superblock too.superblock) files in
        let past = file_refused image also FILES file place another more right in
        absurd (omega (arith, past, more.known))
    group_broken uuid number block place rule another (OfGroup other) log files broken (also, too, right, more) =
        let by : BreaksGroup image uuid other place another =
        subst (λ (u : List ℕ). BreaksGroup image u other place another) (same_super image also uuid too.superblock log.superblock) more in
        let up = group_refused image uuid number other place another by broken.before in
        let down = group_refused image uuid other number block rule broken by.before in
        ap OfGroup (omega (arith, up, down))

  pub layer_is_one : LayerIsOne
  layer_is_one image OfSuper other block place rule another readable broken also = no_super image readable other place another broken.0 also
  layer_is_one image OfLog other block place rule another readable (uuid, superblock, broken) also =
      log_broken image readable uuid block place rule another other superblock broken also
  layer_is_one image (OfFile file) other block place rule another readable (uuid, log, broken) also =
      file_broken image readable uuid file block place rule another other log broken also
  layer_is_one image (OfGroup number) other block place rule another readable (uuid, log, files, broken) also =
      group_broken image readable uuid number block place rule another other log files broken also

  -- a clean image breaks no rule
  clean_breaks_none : (image uuid : List ℕ) (layer : Layer) (block : ℕ) (rule : Broken) → IsReadable image → IsCleanImage image uuid
      → BreaksFirst image layer block rule → ⊥
  clean_breaks_none image uuid OfSuper block rule readable clean broken = broken.0 uuid clean.log.superblock
  clean_breaks_none image uuid OfLog block rule readable clean (also, superblock, broken) =
      log_or_clean image also uuid block rule readable superblock broken clean.log
  clean_breaks_none image uuid (OfFile file) block rule readable clean (also, log, broken) =
      let right = subst (λ (u : List ℕ). HasFilesBelow image u FILES) (same_super image uuid also clean.log.superblock log.superblock) clean.files in
      let past = file_refused image also FILES file block rule broken right in
      omega (arith, past, broken.known)
  clean_breaks_none image uuid (OfGroup number) block rule readable clean (also, log, files, broken) =
      let right = subst (λ (u : List ℕ). HasGroupsBelow image u GROUPS) (same_super image uuid also clean.log.superblock log.superblock) clean.groups in
      let past = group_refused image also GROUPS number block rule broken right in
      omega (arith, past, broken.known)

  pub clean_is_taken : CleanIsTaken
  clean_is_taken image uuid (Dirty lsn) readable clean dirty = used_or_clean image uuid lsn (in_use_by image uuid lsn dirty clean.log.superblock) clean.log
  clean_is_taken image uuid (Foreign block rule) readable clean (layer, broken) = clean_breaks_none image uuid layer block rule readable clean broken
  clean_is_taken image uuid (DiskFault n) readable clean refused = tt
  clean_is_taken image uuid NoMemory readable clean refused = tt
