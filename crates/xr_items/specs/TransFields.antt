-- What the fields of a transaction stand for; of no public contract.
use Rattle.std.specs.Prelude.{ℕ, ◌≤◌, vec_capacity}
use Rattle.std.specs.Global.{Vec}
use Rattle.xr_items.specs.declared.layout.TheConstants.{TRANS_BLOCKS, TRANS_WORKS, TRANS_SLOTS}
use Rattle.xr_items.specs.declared.trans.Logged.{Logged}
use Rattle.xr_items.specs.declared.work.Work.{Work}
use Rattle.xr_items.specs.Transactions.{TransView}

abbrev pub trans_of : Vec Logged → Vec Work → Vec ℕ → TransView
trans_of blocks works done = record { blocks = blocks.items; works = works.items; done = done.items }

-- the memory that was taken is for all that a transaction has room for
pub record HasCapacity (blocks : Vec Logged) (works : Vec Work) (done : Vec ℕ) : Type 0 where
  pub blocks_fit : TRANS_BLOCKS ≤ vec_capacity blocks
  pub works_fit : TRANS_WORKS ≤ vec_capacity works
  pub done_fit : TRANS_SLOTS ≤ vec_capacity done
