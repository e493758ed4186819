use Rattle.std.proofs.Common.{◌≡◌, ◌++◌, take}
use Rattle.std.specs.String.{string_bytes}
use Rattle.xr_text.specs.RecordText.{extents_text}
use Rattle.xr_text.proofs.record_text.push_extents.Given as goal

abbrev pub invariant-loop-extent : goal.invariant-loop-extent
invariant-loop-extent l =
    string_bytes l.text ≡ string_bytes l.initial.text ++ extents_text l.file (take l.extent-index l.extents)
