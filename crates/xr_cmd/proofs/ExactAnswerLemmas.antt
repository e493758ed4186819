-- Whatever is said of an image tells of it what is so, and so nothing else than what is known.
use Rattle.std.proofs.Common.{◌≡◌, ℕ, Option, Some, List, [], length, codes, get_or, inl, inr, refl, sym, ap, subst, ◌∙◌, ⊎_elim, arith}
use Rattle.std.specs.Prelude.{◌⊎◌, ⊤}
use Rattle.xr_check.specs.CleanImages.{IsCleanImage}
use Rattle.xr_check.specs.LoadLaws.{CleanIsTaken, DirtyIsAlone, VerdictIsOne}
use Rattle.xr_check.specs.LoadRefusals.{BreaksFirst, IsDirtyImage, Layer}
use Rattle.xr_check.specs.Loading.{IsVerdictOn}
use Rattle.xr_check.specs.declared.fault.Broken.{Broken}
use Rattle.xr_check.specs.declared.fault.CheckFault.TheVariants as check
use Rattle.xr_check.specs.declared.verdict.Verdict.{Verdict}
use Rattle.xr_check.specs.declared.verdict.Verdict.TheVariants as verdict
use Rattle.xr_commit.specs.Refusals.{IsReadable}
use Rattle.xr_disk.specs.Disk.{DiskView}
use Rattle.xr_disk.specs.Seen.{WasSeen}
use Rattle.xr_record.specs.declared.head.Lsn.{Lsn}
use Rattle.xr_cmd.specs.Answer.{DoneWith, Finishes, Refuses, Says, code_of}
use Rattle.xr_cmd.specs.CommandLine.{IsCommand, IsNoCommand, name_of}
use Rattle.xr_cmd.specs.ExactAnswers.{AsksForTrees, HasOwnStatus, IsStatus, ReadsTrees}
use Rattle.xr_cmd.specs.Failures.{HasFailure}
use Rattle.xr_cmd.specs.declared.command_line.Command.{Command}
use Rattle.xr_cmd.specs.declared.command_line.Command.TheVariants.{Check, Expect, Mkfs, Show, ShowLog}
use Rattle.xr_cmd.specs.declared.command_line.Part.{Part}
use Rattle.xr_cmd.specs.declared.command_line.Part.TheVariants as part
use Rattle.xr_cmd.specs.declared.failure.Failure.{Failure}
use Rattle.xr_cmd.specs.declared.failure.Failure.TheVariants as failed
use Rattle.xr_cmd.specs.declared.program.Status.{Status}
use Rattle.xr_cmd.specs.declared.program.Status.TheVariants.{Differs, Dirty, Disk, Done, Foreign, Line, Memory, Sink, Source, Words}

-- words of `check` ask for nothing else
only_check : (words : List (List ℕ)) (other : Command) → length words ≡ 2 → IsCommand words other → other ≡ Check
only_check words Expect two also = let e : length words ≡ 1 = ap length also in absurd (omega arith)
only_check words (Mkfs uuid) two (image, text, has, also) = let e : length words ≡ 3 = ap length also in absurd (omega arith)
only_check words Check two also = refl
only_check words (Show p) two (image, name, has, also) = let e : length words ≡ 3 = ap length also in absurd (omega arith)
only_check words ShowLog two (image, name, has, also) = let e : length words ≡ 3 = ap length also in absurd (omega arith)

two_words : (words : List (List ℕ)) → IsCommand words Check → length words ≡ 2
two_words words (image, is, asked) = ap length asked

other_names : codes "mkfs" ≡ codes "show" → ⊥
other_names same = let first : get_or (codes "mkfs") 0 0 ≡ get_or (codes "show") 0 0 = ap (λ (word : List ℕ). get_or word 0 0) same in omega arith

no_log : (p : Part) → name_of p ≡ codes "log" → ⊥
no_log part.Files same = let first : get_or (codes "files") 0 0 ≡ get_or (codes "log") 0 0 = ap (λ (word : List ℕ). get_or word 0 0) same in omega arith
no_log part.Owners same = let first : get_or (codes "owners") 0 0 ≡ get_or (codes "log") 0 0 = ap (λ (word : List ℕ). get_or word 0 0) same in omega arith
no_log part.Shared same = let first : get_or (codes "shared") 0 0 ≡ get_or (codes "log") 0 0 = ap (λ (word : List ℕ). get_or word 0 0) same in omega arith
no_log part.Free same = let first : get_or (codes "free") 0 0 ≡ get_or (codes "log") 0 0 = ap (λ (word : List ℕ). get_or word 0 0) same in omega arith

word_at : ℕ → List (List ℕ) → List ℕ
word_at n words = get_or words n []

-- words of a part that is shown ask for a part alone
only_parts : (words : List (List ℕ)) (p : Part) (other : Command) → IsCommand words (Show p) → IsCommand words other → ReadsTrees other
unfolding word_at
only_parts words p Expect (image, name, is, asked) also =
    let e : length words ≡ 3 = ap length asked in let f : length words ≡ 1 = ap length also in absurd (omega arith)
only_parts words p (Mkfs uuid) (image, name, is, asked) (i, t, has, also) = absurd (other_names (sym (ap (word_at 0) also) ∙ ap (word_at 0) asked))
only_parts words p Check (image, name, is, asked) also = tt
only_parts words p (Show q) (image, name, is, asked) also = tt
only_parts words p ShowLog (image, name, is, asked) (i, n, has, also) =
    absurd (no_log p (sym is.name ∙ sym (ap (word_at 2) asked) ∙ ap (word_at 2) also ∙ has.name))

read_trees : (words : List (List ℕ)) (command other : Command) → ReadsTrees command → IsCommand words command → IsCommand words other → ReadsTrees other
read_trees words Expect other reads asked also = absurd reads
read_trees words (Mkfs uuid) other reads asked also = absurd reads
read_trees words Check other reads asked also = subst (λ (c : Command). ReadsTrees c) (sym (only_check words other (two_words words asked) also)) tt
read_trees words (Show p) other reads asked also = only_parts words p other asked also
read_trees words ShowLog other reads asked also = absurd reads

-- the status of a failure, in the place of which there may be want of memory
abbrev own_status : Failure → Status
own_status (failed.BadLine number) = Line
own_status failed.SourceFailed = Source
own_status failed.DiskFailed = Disk
own_status (failed.Differs _ _ _) = Differs
own_status (failed.Dirty lsn) = Dirty
own_status (failed.Foreign block rule) = Foreign
own_status failed.NoMemory = Memory

abbrev IsOutside : Status → Type 0
IsOutside Disk = ⊤
IsOutside Memory = ⊤
IsOutside _ = ⊥

refused_as : (failure : Failure) (said : Status) (text : List ℕ) → Refuses failure said text → IsOutside said ⊎ (said ≡ own_status failure)
refused_as (failed.BadLine number) Done text refuses = absurd refuses
refused_as (failed.BadLine number) Differs text refuses = absurd refuses
refused_as (failed.BadLine number) Words text refuses = absurd refuses
refused_as (failed.BadLine number) Line text refuses = inr refl
refused_as (failed.BadLine number) Source text refuses = absurd refuses
refused_as (failed.BadLine number) Sink text refuses = absurd refuses
refused_as (failed.BadLine number) Disk text refuses = absurd refuses
refused_as (failed.BadLine number) Foreign text refuses = absurd refuses
refused_as (failed.BadLine number) Memory text refuses = inl tt
refused_as (failed.BadLine number) Dirty text refuses = absurd refuses
refused_as failed.SourceFailed Done text refuses = absurd refuses
refused_as failed.SourceFailed Differs text refuses = absurd refuses
refused_as failed.SourceFailed Words text refuses = absurd refuses
refused_as failed.SourceFailed Line text refuses = absurd refuses
refused_as failed.SourceFailed Source text refuses = inr refl
refused_as failed.SourceFailed Sink text refuses = absurd refuses
refused_as failed.SourceFailed Disk text refuses = absurd refuses
refused_as failed.SourceFailed Foreign text refuses = absurd refuses
refused_as failed.SourceFailed Memory text refuses = absurd refuses
refused_as failed.SourceFailed Dirty text refuses = absurd refuses
refused_as failed.DiskFailed Done text refuses = absurd refuses
refused_as failed.DiskFailed Differs text refuses = absurd refuses
refused_as failed.DiskFailed Words text refuses = absurd refuses
refused_as failed.DiskFailed Line text refuses = absurd refuses
refused_as failed.DiskFailed Source text refuses = absurd refuses
refused_as failed.DiskFailed Sink text refuses = absurd refuses
refused_as failed.DiskFailed Disk text refuses = inr refl
refused_as failed.DiskFailed Foreign text refuses = absurd refuses
refused_as failed.DiskFailed Memory text refuses = absurd refuses
refused_as failed.DiskFailed Dirty text refuses = absurd refuses
refused_as (failed.Differs _ _ _) Done text refuses = absurd refuses
refused_as (failed.Differs _ _ _) Differs text refuses = inr refl
refused_as (failed.Differs _ _ _) Words text refuses = absurd refuses
refused_as (failed.Differs _ _ _) Line text refuses = absurd refuses
refused_as (failed.Differs _ _ _) Source text refuses = absurd refuses
refused_as (failed.Differs _ _ _) Sink text refuses = absurd refuses
refused_as (failed.Differs _ _ _) Disk text refuses = absurd refuses
refused_as (failed.Differs _ _ _) Foreign text refuses = absurd refuses
refused_as (failed.Differs _ _ _) Memory text refuses = inl tt
refused_as (failed.Differs _ _ _) Dirty text refuses = absurd refuses
refused_as (failed.Dirty lsn) Done text refuses = absurd refuses
refused_as (failed.Dirty lsn) Differs text refuses = absurd refuses
refused_as (failed.Dirty lsn) Words text refuses = absurd refuses
refused_as (failed.Dirty lsn) Line text refuses = absurd refuses
refused_as (failed.Dirty lsn) Source text refuses = absurd refuses
refused_as (failed.Dirty lsn) Sink text refuses = absurd refuses
refused_as (failed.Dirty lsn) Disk text refuses = absurd refuses
refused_as (failed.Dirty lsn) Foreign text refuses = absurd refuses
refused_as (failed.Dirty lsn) Memory text refuses = inl tt
refused_as (failed.Dirty lsn) Dirty text refuses = inr refl
refused_as (failed.Foreign block rule) Done text refuses = absurd refuses
refused_as (failed.Foreign block rule) Differs text refuses = absurd refuses
refused_as (failed.Foreign block rule) Words text refuses = absurd refuses
refused_as (failed.Foreign block rule) Line text refuses = absurd refuses
refused_as (failed.Foreign block rule) Source text refuses = absurd refuses
refused_as (failed.Foreign block rule) Sink text refuses = absurd refuses
refused_as (failed.Foreign block rule) Disk text refuses = absurd refuses
refused_as (failed.Foreign block rule) Foreign text refuses = inr refl
refused_as (failed.Foreign block rule) Memory text refuses = inl tt
refused_as (failed.Foreign block rule) Dirty text refuses = absurd refuses
refused_as failed.NoMemory Done text refuses = absurd refuses
refused_as failed.NoMemory Differs text refuses = absurd refuses
refused_as failed.NoMemory Words text refuses = absurd refuses
refused_as failed.NoMemory Line text refuses = absurd refuses
refused_as failed.NoMemory Source text refuses = absurd refuses
refused_as failed.NoMemory Sink text refuses = absurd refuses
refused_as failed.NoMemory Disk text refuses = absurd refuses
refused_as failed.NoMemory Foreign text refuses = absurd refuses
refused_as failed.NoMemory Memory text refuses = inr refl
refused_as failed.NoMemory Dirty text refuses = absurd refuses

-- what a failure says of the image
abbrev ImageHas : List ℕ → Failure → Type 0
ImageHas image (failed.BadLine number) = ⊥
ImageHas image failed.SourceFailed = ⊥
ImageHas image failed.DiskFailed = ⊤
ImageHas image (failed.Differs name group key) = IsReadable image × IsVerdictOn image (verdict.Differs name group key)
ImageHas image (failed.Dirty lsn) = IsReadable image × IsDirtyImage image lsn
ImageHas image (failed.Foreign block rule) = IsReadable image × ((layer : Layer) × BreaksFirst image layer block rule)
ImageHas image failed.NoMemory = ⊤

image_has : (left : Option (List ℕ)) (before after : ℕ) (old new : DiskView) (command : Command) (failure : Failure) (image : List ℕ) → ReadsTrees command
    → old.seen ≡ Some image → HasFailure left before after old new command failure → ImageHas image failure
image_has left before after old new Expect failure image reads was has = absurd reads
image_has left before after old new (Mkfs uuid) failure image reads was has = absurd reads
image_has left before after old new ShowLog failure image reads was has = absurd reads
image_has left before after old new Check (failed.BadLine number) image reads was has = has
image_has left before after old new Check failed.SourceFailed image reads was has = has
image_has left before after old new Check failed.DiskFailed image reads was has = tt
image_has left before after old new Check (failed.Differs _ _ _) image reads was has = (has.readable image was, has.refused image was)
image_has left before after old new Check (failed.Dirty lsn) image reads was has = (has.readable image was, has.refused image was)
image_has left before after old new Check (failed.Foreign block rule) image reads was has = (has.readable image was, has.refused image was)
image_has left before after old new Check failed.NoMemory image reads was has = tt
image_has left before after old new (Show p) (failed.BadLine number) image reads was has = has
image_has left before after old new (Show p) failed.SourceFailed image reads was has = has
image_has left before after old new (Show p) failed.DiskFailed image reads was has = tt
image_has left before after old new (Show p) (failed.Differs _ _ _) image reads was has = absurd has
image_has left before after old new (Show p) (failed.Dirty lsn) image reads was has = (has.readable image was, has.refused image was)
image_has left before after old new (Show p) (failed.Foreign block rule) image reads was has = (has.readable image was, has.refused image was)
image_has left before after old new (Show p) failed.NoMemory image reads was has = tt

-- where a command that reads trees ended well, the image is a clean one
clean_done : (left : Option (List ℕ)) (old new : DiskView) (command : Command) (text image : List ℕ) → ReadsTrees command → old.seen ≡ Some image
    → DoneWith left old new command text → IsReadable image × ((uuid : List ℕ) × IsCleanImage image uuid)
clean_done left old new Expect text image reads was done = absurd reads
clean_done left old new (Mkfs uuid) text image reads was done = absurd reads
clean_done left old new Check text image reads was done = let is = done.sound image was in (done.readable image was, (is.uuid, is.clean))
clean_done left old new (Show p) text image reads was done = let is = done.is_text image was in (done.readable image was, (is.uuid, is.clean))
clean_done left old new ShowLog text image reads was done = absurd reads

-- what was said is what a command did, or how it failed
abbrev HasAnswer : Option (List ℕ) → ℕ → ℕ → DiskView → DiskView → Status → List ℕ → Command → Type 0
HasAnswer left before after old new said text command =
    ((said ≡ Done) × DoneWith left old new command text)
    ⊎ ((failure : Failure) × HasFailure left before after old new command failure × Refuses failure said text)

says_of : (words : List (List ℕ)) (left : Option (List ℕ)) (before after : ℕ) (old new : DiskView) (said : Status) (text : List ℕ)
    → Says words left before after old new said text
    → IsNoCommand words ⊎ ((command : Command) × IsCommand words command × HasAnswer left before after old new said text command)
says_of words left before after old new Done text says = inr (says.0, says.1, inl (refl, says.2))
says_of words left before after old new Words text says = inl says.0
says_of words left before after old new Line text r = inr (r.command, r.asked, inr (r.failure, r.has, r.refuses))
says_of words left before after old new Source text r = inr (r.command, r.asked, inr (r.failure, r.has, r.refuses))
says_of words left before after old new Sink text r = inr (r.command, r.asked, inr (r.failure, r.has, r.refuses))
says_of words left before after old new Disk text r = inr (r.command, r.asked, inr (r.failure, r.has, r.refuses))
says_of words left before after old new Differs text r = inr (r.command, r.asked, inr (r.failure, r.has, r.refuses))
says_of words left before after old new Foreign text r = inr (r.command, r.asked, inr (r.failure, r.has, r.refuses))
says_of words left before after old new Memory text r = inr (r.command, r.asked, inr (r.failure, r.has, r.refuses))
says_of words left before after old new Dirty text r = inr (r.command, r.asked, inr (r.failure, r.has, r.refuses))

outside_is : (said own : Status) → IsOutside own → said ≡ own → IsOutside said
outside_is said own outside is = subst (λ (s : Status). IsOutside s) (sym is) outside

-- the status of what is said, or of a sink that failed
outside_status : (said wanted : Status) (status : ℕ) → IsOutside said → status ≡ code_of said → IsStatus wanted status
outside_status Disk wanted status outside is = inl (inr (inl is))
outside_status Memory wanted status outside is = inl (inr (inr is))
outside_status Done wanted status outside is = absurd outside
outside_status Differs wanted status outside is = absurd outside
outside_status Words wanted status outside is = absurd outside
outside_status Line wanted status outside is = absurd outside
outside_status Source wanted status outside is = absurd outside
outside_status Sink wanted status outside is = absurd outside
outside_status Foreign wanted status outside is = absurd outside
outside_status Dirty wanted status outside is = absurd outside

is_status : (held held' : Option (List ℕ)) (AtSink : Type 0) (said wanted : Status) (text : List ℕ) (status : ℕ) → Finishes held held' AtSink said text status
    → IsOutside said ⊎ (said ≡ wanted) → IsStatus wanted status
is_status held held' AtSink said wanted text status finishes tells = ⊎_elim
    (λ whole. ⊎_elim
    (λ outside. outside_status said wanted status outside whole.0)
    (λ own. inr (whole.0 ∙ ap code_of own))
    tells)
    (λ cut. inl (inl cut.0))
    finishes

-- the status for a verdict
abbrev status_for : Verdict → Status
status_for verdict.Sound = Done
status_for (verdict.Differs _ _ _) = Differs

module _ (taken : CleanIsTaken) (alone : DirtyIsAlone) (one : VerdictIsOne) (words : List (List ℕ)) (left : Option (List ℕ)) (before after : ℕ) (old new : DiskView)
    (said : Status) (text : List ℕ) (says : Says words left before after old new said text) (image : List ℕ) (was : old.seen ≡ Some image) where
  module _ (wanted : Status) (P : Command → Type 0) (reads : (command : Command) → P command → ReadsTrees command)
      (keeps : (command : Command) → IsCommand words command → P command) (command : Command) (asked : IsCommand words command)
      (when_done : (c : Command) → P c → DoneWith left old new c text → wanted ≡ Done)
      (when_failed : (failure : Failure) → ImageHas image failure → IsOutside (own_status failure) ⊎ (own_status failure ≡ wanted)) where
    all_said : IsOutside said ⊎ (said ≡ wanted)
    all_said = ⊎_elim
        (λ none. absurd (none command asked))
        (λ some. let also : P some.0 = keeps some.0 some.1 in ⊎_elim
        (λ done. inr (done.0 ∙ sym (when_done some.0 also done.1)))
        (λ refused. ⊎_elim
        (λ outside. inl outside)
        (λ own. ⊎_elim
        (λ outside. inl (outside_is said (own_status refused.0) outside own))
        (λ same. inr (own ∙ same))
        (when_failed refused.0 (image_has left before after old new some.0 refused.0 image (reads some.0 also) was refused.1)))
        (refused_as refused.0 said text refused.2))
        some.2)
        (says_of words left before after old new said text says)

  verdict_failed : (is : Verdict) → IsVerdictOn image is → (failure : Failure) → ImageHas image failure
      → IsOutside (own_status failure) ⊎ (own_status failure ≡ status_for is)
  verdict_failed is on (failed.BadLine number) has = absurd has
  verdict_failed is on failed.SourceFailed has = absurd has
  verdict_failed is on failed.DiskFailed has = inl tt
  verdict_failed is on (failed.Differs name group key) has = inr (ap status_for (one image (verdict.Differs name group key) is has.1 on))
  verdict_failed is on (failed.Dirty lsn) has = absurd (taken image on.uuid (check.Dirty lsn) has.0 on.clean has.1)
  verdict_failed is on (failed.Foreign block rule) has = absurd (taken image on.uuid (check.Foreign block rule) has.0 on.clean has.1)
  verdict_failed is on failed.NoMemory has = inl tt

  verdict_said : (is : Verdict) → IsVerdictOn image is → IsCommand words Check → IsOutside said ⊎ (said ≡ status_for is)
  verdict_said is on asked = all_said (status_for is) (λ c. c ≡ Check) (λ c check. subst (λ (d : Command). ReadsTrees d) (sym check) tt)
      (λ c also. only_check words c (two_words words asked) also) Check asked
      (λ c check done.
      let calls : DoneWith left old new Check text = subst (λ (d : Command). DoneWith left old new d text) check done in
      ap status_for (sym (one image verdict.Sound is (calls.sound image was) on)))
      (verdict_failed is on)

  dirty_failed : (lsn : Lsn) → IsDirtyImage image lsn → (failure : Failure) → ImageHas image failure → IsOutside (own_status failure) ⊎ (own_status failure ≡ Dirty)
  dirty_failed lsn dirty (failed.BadLine number) has = absurd has
  dirty_failed lsn dirty failed.SourceFailed has = absurd has
  dirty_failed lsn dirty failed.DiskFailed has = inl tt
  dirty_failed lsn dirty (failed.Differs _ _ _) has = absurd (let v = has.1 in taken image v.uuid (check.Dirty lsn) has.0 v.clean dirty)
  dirty_failed lsn dirty (failed.Dirty other) has = inr refl
  dirty_failed lsn dirty (failed.Foreign block rule) has = absurd (alone image lsn has.1.0 block rule dirty has.1.1)
  dirty_failed lsn dirty failed.NoMemory has = inl tt

  dirty_said : AsksForTrees words → (lsn : Lsn) → IsDirtyImage image lsn → IsOutside said ⊎ (said ≡ Dirty)
  dirty_said asks lsn dirty = all_said Dirty ReadsTrees (λ c reads. reads) (λ c also. read_trees words asks.0 c asks.2 asks.1 also) asks.0 asks.1
      (λ c reads done. let clean = clean_done left old new c text image reads was done in absurd (taken image clean.1.0 (check.Dirty lsn) clean.0 clean.1.1 dirty))
      (dirty_failed lsn dirty)

  break_failed : (layer : Layer) (block : ℕ) (rule : Broken) → BreaksFirst image layer block rule → (failure : Failure) → ImageHas image failure
      → IsOutside (own_status failure) ⊎ (own_status failure ≡ Foreign)
  break_failed layer block rule broken (failed.BadLine number) has = absurd has
  break_failed layer block rule broken failed.SourceFailed has = absurd has
  break_failed layer block rule broken failed.DiskFailed has = inl tt
  break_failed layer block rule broken (failed.Differs _ _ _) has =
      absurd (let v = has.1 in taken image v.uuid (check.Foreign block rule) has.0 v.clean (layer, broken))
  break_failed layer block rule broken (failed.Dirty lsn) has = absurd (alone image lsn layer block rule has.1 broken)
  break_failed layer block rule broken (failed.Foreign place other) has = inr refl
  break_failed layer block rule broken failed.NoMemory has = inl tt

  break_said : AsksForTrees words → (layer : Layer) (block : ℕ) (rule : Broken) → BreaksFirst image layer block rule → IsOutside said ⊎ (said ≡ Foreign)
  break_said asks layer block rule broken =
      all_said Foreign ReadsTrees (λ c reads. reads) (λ c also. read_trees words asks.0 c asks.2 asks.1 also) asks.0 asks.1
      (λ c reads done.
      let clean = clean_done left old new c text image reads was done in absurd (taken image clean.1.0 (check.Foreign block rule) clean.0 clean.1.1 (layer, broken)))
      (break_failed layer block rule broken)

-- so the status is the image's own, unless the sink failed
pub own_statuses : CleanIsTaken → DirtyIsAlone → VerdictIsOne → (words : List (List ℕ)) (left : Option (List ℕ)) (before after : ℕ) (old new : DiskView) (said : Status)
    (text : List ℕ) → Says words left before after old new said text → (held held' : Option (List ℕ)) (AtSink : Type 0) (status : ℕ)
    → Finishes held held' AtSink said text status → WasSeen old.seen (λ image. HasOwnStatus words image status)
own_statuses taken alone one words left before after old new said text says held held' AtSink status finishes = λ image was.
    let as_said : (wanted : Status) → IsOutside said ⊎ (said ≡ wanted) → IsStatus wanted status =
    λ wanted tells. is_status held held' AtSink said wanted text status finishes tells in
    record {
      sound = λ asked on. as_said Done (verdict_said taken alone one words left before after old new said text says image was verdict.Sound on asked);
      differs = λ asked name group key on. as_said Differs
          (verdict_said taken alone one words left before after old new said text says image was (verdict.Differs name group key) on asked);
      dirty = λ asks lsn dirty. as_said Dirty (dirty_said taken alone one words left before after old new said text says image was asks lsn dirty);
      broken = λ asks layer block rule broken. as_said Foreign
          (break_said taken alone one words left before after old new said text says image was asks layer block rule broken);
    }
