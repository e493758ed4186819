use Rattle.std.proofs.Common.{◌≡◌, ◌++◌, take}
use Rattle.std.specs.String.{string_bytes}
use Rattle.xr_text.specs.LogText.{heads_text}
use Rattle.xr_text.proofs.log_text.push_heads.Given as goal

abbrev pub invariant-loop-head : goal.invariant-loop-head
invariant-loop-head l = string_bytes l.text ≡ string_bytes l.initial.text ++ heads_text (take l.head-index l.heads)
