-- What the program answers: its status, with the text that goes with it.
use Rattle.std.specs.Prelude.{◌≡◌, ◌⊎◌, ℕ, List, Option}
use Rattle.xr_disk.specs.Disk.{DiskView, IsAtRest}
use Rattle.xr_headers.specs.FreshImage.{fresh_image}
use Rattle.xr_cmd.specs.declared.failure.Failure.{Failure}
use Rattle.xr_cmd.specs.declared.failure.Failure.TheVariants as failed
use Rattle.xr_cmd.specs.declared.program.Status.{Status}
use Rattle.xr_cmd.specs.declared.program.Status.TheVariants.{Differs, Dirty, Disk, Done, Foreign, Line, Memory, Sink, Source, Words}
use Rattle.xr_cmd.specs.declared.program.TheConstants.{FIRST_CYCLE}
use Rattle.xr_cmd.specs.declared.command_line.Command.{Command}
use Rattle.xr_cmd.specs.declared.command_line.Command.TheVariants.{Check, Expect, Mkfs, Show, ShowLog}
use Rattle.xr_cmd.specs.Expect.{Expects}
use Rattle.xr_cmd.specs.Failures.{HasFailure, WasLeft}
use Rattle.xr_cmd.specs.ImageText.{CallsSound, ShowsPart}
use Rattle.xr_cmd.specs.ShowLog.{ShowsLog}
use Rattle.xr_disk.specs.Seen.{WasSeen}
use Rattle.xr_cmd.specs.AnswerText.{bad_line_text, differs_text, dirty_text, disk_text, foreign_text, made_text, memory_text, number_of_rule, source_text, words_text}
use Rattle.xr_cmd.specs.Streams.{PutsAll, PutsSomeFront}
use Rattle.xr_cmd.specs.CommandLine.{IsCommand, IsNoCommand}

-- the number of each status
abbrev pub code_of : Status → ℕ
code_of Done = 0
code_of Differs = 1
code_of Words = 2
code_of Line = 3
code_of Source = 4
code_of Sink = 5
code_of Disk = 6
code_of Foreign = 7
code_of Memory = 8
code_of Dirty = 10

-- the script was left, and its records have this text
pub record ExpectsOf (left : Option (List ℕ)) (text : List ℕ) : Type 0 where
  pub script : List ℕ
  pub was_left : WasLeft left script
  pub expects : Expects script text

-- what a command that ended well did, and its text
abbrev pub DoneWith : Option (List ℕ) → DiskView → DiskView → Command → List ℕ → Type 0
DoneWith left old new Expect text = ExpectsOf left text
DoneWith left old new (Mkfs uuid) text = WasSeen old.seen (λ _. IsAtRest (fresh_image uuid FIRST_CYCLE) new) × (text ≡ made_text uuid)
DoneWith left old new Check text = CallsSound old.seen text
DoneWith left old new (Show part) text = ShowsPart old.seen part text
DoneWith left old new ShowLog text = ShowsLog old.seen text

-- the answer to a failure: its own line, or the one for want of memory, which a line with numbers may meet too
abbrev pub Refuses : Failure → Status → List ℕ → Type 0
Refuses (failed.BadLine number) Line text = text ≡ bad_line_text number
Refuses (failed.BadLine number) Memory text = text ≡ memory_text
Refuses failed.SourceFailed Source text = text ≡ source_text
Refuses failed.DiskFailed Disk text = text ≡ disk_text
Refuses (failed.Differs name group key) Differs text = text ≡ differs_text name group key
Refuses (failed.Differs _ _ _) Memory text = text ≡ memory_text
Refuses (failed.Dirty lsn) Dirty text = text ≡ dirty_text lsn
Refuses (failed.Dirty lsn) Memory text = text ≡ memory_text
Refuses (failed.Foreign block rule) Foreign text = text ≡ foreign_text block (number_of_rule rule)
Refuses (failed.Foreign block rule) Memory text = text ≡ memory_text
Refuses failed.NoMemory Memory text = text ≡ memory_text
Refuses _ _ text = ⊥

-- a command had a failure, which this answers
pub record IsRefused (words : List (List ℕ)) (left : Option (List ℕ)) (before after : ℕ) (old new : DiskView) (said : Status) (text : List ℕ) : Type 0 where
  pub command : Command
  pub failure : Failure
  pub asked : IsCommand words command
  pub has : HasFailure left before after old new command failure
  pub refuses : Refuses failure said text

-- The status and the text for these words, by what was left in the source, by the count of its faults before and after,
-- and by the disk before and after.
abbrev pub Says : List (List ℕ) → Option (List ℕ) → ℕ → ℕ → DiskView → DiskView → Status → List ℕ → Type 0
Says words left before after old new Done text = (command : Command) × IsCommand words command × DoneWith left old new command text
Says words left before after old new Words text = IsNoCommand words × (text ≡ words_text)
Says words left before after old new said text = IsRefused words left before after old new said text

-- the text was written whole and the status is its own, or the sink failed before its end
abbrev pub Finishes : Option (List ℕ) → Option (List ℕ) → Type 0 → Status → List ℕ → ℕ → Type 0
Finishes old new Failed said text status =
    ((status ≡ code_of said) × PutsAll old new text) ⊎ ((status ≡ code_of Sink) × Failed × PutsSomeFront old new text)

-- how the program ends: there is one thing to say, and it was written or the sink failed
pub record Ends (words : List (List ℕ)) (left : Option (List ℕ)) (before after : ℕ) (disk disk' : DiskView) (held held' : Option (List ℕ)) (AtSink : Type 0) (status : ℕ) : Type 0 where
  pub said : Status
  pub text : List ℕ
  pub says : Says words left before after disk disk' said text
  pub finishes : Finishes held held' AtSink said text status
