-- From what was read of a source to what the program answers.
use Rattle.std.proofs.Common.{◌≡◌, ℕ, ◌+◌, ◌<◌, ◌≤◌, Option, None, Some, List, [], length, take, sym, ap, subst, ◌∙◌, refl, arith, min, ⊎_elim}
use Rattle.std.specs.Prelude.{IfSome}
use Rattle.std.proofs.lemmas.List.{length-take, take_all, nil_from_length, length-append}
use Rattle.std.proofs.lemmas.Bool.{cases_lt}
use Rattle.xr_base.specs.Cause.{Rose}
use Rattle.xr_disk.specs.Stream.{Took}
use Rattle.xr_disk.specs.Disk.{DiskView}
use Rattle.xr_cmd.specs.declared.failure.Failure.{Failure}
use Rattle.xr_cmd.specs.declared.failure.Failure.TheVariants as failed
use Rattle.xr_cmd.specs.declared.program.Status.{Status}
use Rattle.xr_cmd.specs.declared.program.Status.TheVariants.{Differs, Dirty, Disk, Done, Foreign, Line, Memory, Sink, Source, Words}
use Rattle.xr_cmd.specs.declared.script.ScriptFault.{ScriptFault}
use Rattle.xr_cmd.specs.declared.script.ScriptFault.TheVariants as script
use Rattle.xr_cmd.specs.declared.streams.ReadFault.{ReadFault}
use Rattle.xr_cmd.specs.declared.streams.ReadFault.TheVariants as read
use Rattle.xr_cmd.specs.declared.script.TheConstants.{MAX_BYTES}
use Rattle.xr_cmd.specs.Answer.{ExpectsOf, IsRefused, Refuses, Says, code_of, Finishes}
use Rattle.xr_cmd.specs.declared.command_line.Command.{Command}
use Rattle.xr_cmd.specs.declared.command_line.Command.TheVariants.{Check, Expect, Mkfs, Show, ShowLog}
use Rattle.xr_cmd.specs.CommandLine.{FormatsDisk}
use Rattle.xr_cmd.specs.Failures.{WasLeft, HasBadLine, HasFailure, ExpectFails, failure_of_read, failure_of_script}
use Rattle.xr_cmd.specs.Expect.{Expects}
use Rattle.xr_cmd.specs.Script.{IsFirstBadLine, IsScriptFault}
use Rattle.xr_cmd.specs.ScriptLaws.{IsFirstBadLine-from_front, HasNoBadLine-size}
use Rattle.xr_cmd.specs.Streams.{IsTakenFront}

-- a front that is shorter than asked for is all
whole_front : (most : ℕ) (all bytes : List ℕ) → bytes ≡ take (most + 1) all → length bytes ≤ most → all ≡ bytes
whole_front most all bytes front short =
    let l : length bytes ≡ min (most + 1) (length all) = ap length front ∙ length-take (most + 1) all in
    sym (front ∙ take_all (most + 1) all (omega arith))

whole_left : (most : ℕ) (left : Option (List ℕ)) (bytes : List ℕ) → IsTakenFront left (most + 1) bytes → length bytes ≤ most → WasLeft left bytes
whole_left most None bytes front short = tt
whole_left most (Some all) bytes front short = whole_front most all bytes front short

rest_is_none : (most : ℕ) (left left' : Option (List ℕ)) (bytes : List ℕ) → IsTakenFront left (most + 1) bytes → Took left left' bytes → length bytes ≤ most
    → IfSome left (λ _. left' ≡ Some [])
rest_is_none most None left' bytes front took short = tt
rest_is_none most (Some all) left' bytes front took short =
    let same = whole_front most all bytes front short in
    let e : length all ≡ length bytes + length took.0 = ap length took.2 ∙ length-append bytes took.0 in
    let l : length all ≡ length bytes = ap length same in
    took.1 ∙ ap Some (nil_from_length took.0 (omega arith))

pub expects_of : (left : Option (List ℕ)) (bytes text : List ℕ) → IsTakenFront left (MAX_BYTES + 1) bytes → Expects bytes text → ExpectsOf left text
expects_of left bytes text front expects = record {
  script = bytes;
  was_left = whole_left MAX_BYTES left bytes front (HasNoBadLine-size bytes expects.sound);
  expects = expects;
}

pub read_to_end : (left left' : Option (List ℕ)) (bytes text : List ℕ) → IsTakenFront left (MAX_BYTES + 1) bytes → Took left left' bytes → Expects bytes text
    → IfSome left (λ _. left' ≡ Some [])
read_to_end left left' bytes text front took expects = rest_is_none MAX_BYTES left left' bytes front took (HasNoBadLine-size bytes expects.sound)

-- the first bad line of what was read is that of what was left
has_bad_line : (left : Option (List ℕ)) (bytes : List ℕ) (number : ℕ) → IsTakenFront left (MAX_BYTES + 1) bytes → IsFirstBadLine bytes number → HasBadLine left number
has_bad_line None bytes number front first = record { script = bytes; was_left = tt; first = first }
has_bad_line (Some all) bytes number front first = record {
  script = all;
  was_left = refl;
  first = ⊎_elim
      (λ (more : MAX_BYTES < length all). IsFirstBadLine-from_front all number more (subst (λ b. IsFirstBadLine b number) front first))
      (λ (few : length all ≤ MAX_BYTES). subst (λ b. IsFirstBadLine b number) (front ∙ take_all (MAX_BYTES + 1) all (omega arith)) first)
      (cases_lt MAX_BYTES (length all));
}

-- a fault of reading has its cause, and so has one of the script that was read
pub read_failure : (left : Option (List ℕ)) (before after : ℕ) (fault : ReadFault) → (fault ≡ read.Source → Rose before after)
    → ExpectFails left before after (failure_of_read fault)
read_failure left before after read.Source failed = failed refl
read_failure left before after read.NoMemory failed = tt

pub script_failure : (left : Option (List ℕ)) (before after : ℕ) (bytes : List ℕ) (fault : ScriptFault) → after ≡ before
    → IsTakenFront left (MAX_BYTES + 1) bytes → IsScriptFault bytes fault → ExpectFails left before after (failure_of_script fault)
script_failure left before after bytes (script.Line number) counted front first = (has_bad_line left bytes number front first, counted)
script_failure left before after bytes script.NoMemory counted front first = tt

-- a failure is answered neither as the end of a command nor as words that are none's
refuses_not_done : (failure : Failure) (text : List ℕ) → ¬ Refuses failure Done text
refuses_not_done (failed.BadLine number) text refuses = refuses
refuses_not_done failed.SourceFailed text refuses = refuses
refuses_not_done failed.DiskFailed text refuses = refuses
refuses_not_done (failed.Differs _ _ _) text refuses = refuses
refuses_not_done (failed.Dirty lsn) text refuses = refuses
refuses_not_done (failed.Foreign block rule) text refuses = refuses
refuses_not_done failed.NoMemory text refuses = refuses

refuses_not_words : (failure : Failure) (text : List ℕ) → ¬ Refuses failure Words text
refuses_not_words (failed.BadLine number) text refuses = refuses
refuses_not_words failed.SourceFailed text refuses = refuses
refuses_not_words failed.DiskFailed text refuses = refuses
refuses_not_words (failed.Differs _ _ _) text refuses = refuses
refuses_not_words (failed.Dirty lsn) text refuses = refuses
refuses_not_words (failed.Foreign block rule) text refuses = refuses
refuses_not_words failed.NoMemory text refuses = refuses

pub says_refused : (words : List (List ℕ)) (left : Option (List ℕ)) (before after : ℕ) (old new : DiskView) (said : Status) (text : List ℕ)
    → IsRefused words left before after old new said text → Says words left before after old new said text
says_refused words left before after old new Differs text refused = refused
says_refused words left before after old new Dirty text refused = refused
says_refused words left before after old new Done text refused = absurd (refuses_not_done refused.failure text refused.refuses)
says_refused words left before after old new Words text refused = absurd (refuses_not_words refused.failure text refused.refuses)
says_refused words left before after old new Line text refused = refused
says_refused words left before after old new Source text refused = refused
says_refused words left before after old new Sink text refused = refused
says_refused words left before after old new Disk text refused = refused
says_refused words left before after old new Foreign text refused = refused
says_refused words left before after old new Memory text refused = refused

done_is_zero : (said : Status) → code_of said ≡ 0 → said ≡ Done
done_is_zero Done e = refl
done_is_zero Differs e = absurd (omega arith)
done_is_zero Words e = absurd (omega arith)
done_is_zero Line e = absurd (omega arith)
done_is_zero Source e = absurd (omega arith)
done_is_zero Sink e = absurd (omega arith)
done_is_zero Disk e = absurd (omega arith)
done_is_zero Foreign e = absurd (omega arith)
done_is_zero Memory e = absurd (omega arith)
done_is_zero Dirty e = absurd (omega arith)

-- want of memory that formatting answers is its own
pub format_wants_memory : (left : Option (List ℕ)) (before after : ℕ) (old new : DiskView) (command : Command) (failure : Failure) (text : List ℕ)
    → FormatsDisk command → HasFailure left before after old new command failure → Refuses failure Memory text → failure ≡ failed.NoMemory
format_wants_memory left before after old new (Mkfs uuid) (failed.BadLine number) text formats has refuses = absurd has
format_wants_memory left before after old new (Mkfs uuid) failed.SourceFailed text formats has refuses = absurd has
format_wants_memory left before after old new (Mkfs uuid) failed.DiskFailed text formats has refuses = absurd refuses
format_wants_memory left before after old new (Mkfs uuid) (failed.Differs _ _ _) text formats has refuses = absurd has
format_wants_memory left before after old new (Mkfs uuid) (failed.Dirty lsn) text formats has refuses = absurd has
format_wants_memory left before after old new (Mkfs uuid) (failed.Foreign block rule) text formats has refuses = absurd has
format_wants_memory left before after old new (Mkfs uuid) failed.NoMemory text formats has refuses = refl
format_wants_memory left before after old new Expect failure text formats has refuses = absurd formats
format_wants_memory left before after old new Check failure text formats has refuses = absurd formats
format_wants_memory left before after old new (Show part) failure text formats has refuses = absurd formats
format_wants_memory left before after old new ShowLog failure text formats has refuses = absurd formats

memory_is_eight : (said : Status) → code_of said ≡ 8 → said ≡ Memory
memory_is_eight Done e = absurd (omega arith)
memory_is_eight Differs e = absurd (omega arith)
memory_is_eight Words e = absurd (omega arith)
memory_is_eight Line e = absurd (omega arith)
memory_is_eight Source e = absurd (omega arith)
memory_is_eight Sink e = absurd (omega arith)
memory_is_eight Disk e = absurd (omega arith)
memory_is_eight Foreign e = absurd (omega arith)
memory_is_eight Memory e = refl
memory_is_eight Dirty e = absurd (omega arith)

-- status 8 is that of want of memory alone
pub said_memory : (old new : Option (List ℕ)) (Failed : Type 0) (said : Status) (text : List ℕ) (status : ℕ) → Finishes old new Failed said text status → status ≡ 8 → said ≡ Memory
said_memory old new Failed said text status finishes eight = ⊎_elim
    (λ whole. memory_is_eight said (sym whole.0 ∙ eight))
    (λ cut. let five : status ≡ 5 = cut.0 in absurd (omega arith))
    finishes

-- status 0 is that of a text of records alone
pub said_done : (old new : Option (List ℕ)) (Failed : Type 0) (said : Status) (text : List ℕ) (status : ℕ) → Finishes old new Failed said text status → status ≡ 0 → said ≡ Done
said_done old new Failed said text status finishes zero = ⊎_elim
    (λ whole. done_is_zero said (sym whole.0 ∙ zero))
    (λ cut. let five : status ≡ 5 = cut.0 in absurd (omega arith))
    finishes
