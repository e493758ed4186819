use Rattle.std.proofs.Common.{◌≡◌, ◌++◌}
use Rattle.std.specs.String.{string_bytes}
use Rattle.xr_text.proofs.LogTextLemmas.{text_upto}
use Rattle.xr_text.proofs.log_text.push_entries.Given as goal

abbrev pub invariant-loop-i : goal.invariant-loop-i
invariant-loop-i l = string_bytes l.text ≡ string_bytes l.initial.text ++ text_upto l.i l.entries l.items
