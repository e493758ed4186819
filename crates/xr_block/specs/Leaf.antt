-- A leaf as a call sees it: it holds as many valid records as it says.
use Rattle.std.specs.Prelude.{◌≡◌, ℕ, ◌≤◌, List, length}
use Rattle.xr_kinds.specs.Form.{Form}
use Rattle.xr_block.specs.TreeBlock.{count_in, records_in}

pub record IsLeaf {X : Type 0} (form : Form X) (bytes : List ℕ) : Type 0 where
  pub counted : length (records_in form bytes) ≡ count_in bytes
  pub few : count_in bytes ≤ form.leaf_max
