-- Of no public contract.
-- Which records of a tree a lookup wants, told by addresses.
use Rattle.std.specs.Prelude.{◌≡◌, ◌↔◌, Bool, true, Option}
use Rattle.xr_group.specs.Next.{ComesAfter}
use Rattle.xr_kinds.specs.Form.{Form}

-- wanted are the records of a tree that come after one that is given
abbrev pub WantsLater : {X Y : Type 0} → Form X → (X → Y) → (Y → Y → Type 0) → Option Y → (X → Bool) → Type 0
WantsLater {X} form at Before after wanted = (r : X) → form.is_valid r ≡ true → (wanted r ≡ true) ↔ ComesAfter Before after (at r)
