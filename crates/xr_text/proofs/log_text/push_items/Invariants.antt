use Rattle.std.proofs.Common.{◌≡◌, ◌++◌, take}
use Rattle.std.specs.String.{string_bytes}
use Rattle.xr_text.specs.LogText.{items_text}
use Rattle.xr_text.proofs.log_text.push_items.Given as goal

abbrev pub invariant-loop-item : goal.invariant-loop-item
invariant-loop-item l = string_bytes l.text ≡ string_bytes l.initial.text ++ items_text (take l.item-index l.items)
