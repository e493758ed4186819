use Rattle.std.proofs.Common.{◌≡◌, length, arith}
use Rattle.std.proofs.lemmas.List.{length-map}
use Rattle.std.proofs.lemmas.Bool.Decides.{nat_tests}
use Rattle.xr_cmd.specs.CommandLine.{texts_of}
use Rattle.xr_cmd.proofs.CommandLineLemmas.{no_command_of_length}
use Rattle.xr_cmd.proofs.command_line.command_of.Goals as goal
use Rattle.xr_cmd.proofs.command_line.command_of.Goals.{in_default-via-then-words-lt1, in_default-via-else-words-lt1+else-words-lt2+else-words-lt3+else-words-lt4}

pub returns-in_default : goal.returns-in_default
returns-in_default c =
    let long : length (texts_of c.args.words.now) ≡ length c.args.words.now = length-map c.args.words.now (λ word. word.now) in
    elim c.in_default.branch [
      | in_default-via-then-words-lt1 w ↦ no_command_of_length (texts_of c.args.words.now) (λ one. grind (arith, nat_tests)) (λ two. grind (arith, nat_tests)) (λ three. grind (arith, nat_tests))
      | in_default-via-else-words-lt1+else-words-lt2+else-words-lt3+else-words-lt4 w ↦ no_command_of_length (texts_of c.args.words.now) (λ one. grind (arith, nat_tests)) (λ two. grind (arith, nat_tests)) (λ three. grind (arith, nat_tests))
    ]
