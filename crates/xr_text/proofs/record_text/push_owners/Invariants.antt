use Rattle.std.proofs.Common.{◌≡◌, ◌++◌, take}
use Rattle.std.specs.String.{string_bytes}
use Rattle.xr_text.specs.RecordText.{owners_text}
use Rattle.xr_text.proofs.record_text.push_owners.Given as goal

abbrev pub invariant-loop-record : goal.invariant-loop-record
invariant-loop-record l = string_bytes l.text ≡ string_bytes l.initial.text ++ owners_text (take l.record-index l.records)
