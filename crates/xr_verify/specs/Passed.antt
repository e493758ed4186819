-- Of no public contract.
-- What is kept of the records of a tree that were passed.
use Rattle.std.specs.Prelude.{◌≡◌, ◌+◌, None, List, length}
use Rattle.std.specs.List.{last_or}
use Rattle.xr_verify.specs.declared.passed.Passed.{Passed}
use Rattle.xr_kinds.specs.Form.{Form}
use Rattle.xr_verify.specs.Ledger.{ArePassed}

pub record AreNoted {X L : Type 0} (form : Form X) (Notes : L → List X → Type 0) (p : Passed X L) (noted : List X) : Type 0 where
  pub last_is : p.last ≡ last_or None noted
  pub notes : Notes p.ledger noted
  pub records : ArePassed form noted

-- and how many more there may be
pub record IsPast {X L : Type 0} (form : Form X) (Notes : L → List X → Type 0) (p : Passed X L) (noted : List X) : Type 0 where
  pub are_noted : AreNoted form Notes p noted
  pub room_is : p.room + length noted ≡ form.most
