-- An image whose newest record is an unmount holds its own blocks, with nothing pending.
use Rattle.std.specs.Prelude.{◌≡◌, ℕ, List, []}
use Rattle.xr_base.specs.Image.{block_of}
use Rattle.xr_commit.specs.LogEnds.{IsCleanRecord}
use Rattle.xr_scan.specs.State.{HasBlock, Holds, State}

pub record HoldsItsBlocks (image : List ℕ) (state : State) (holds : Holds image state) : Type 0 where
  pub logged : holds.logged ≡ []
  pub works : state.works ≡ []
  pub blocks : (block : ℕ) → HasBlock state block → state.blocks block ≡ block_of image block

abbrev pub CleanHoldsItsBlocks : Type 0
CleanHoldsItsBlocks = (image : List ℕ) (state : State) (holds : Holds image state) → IsCleanRecord holds.live_in.head → HoldsItsBlocks image state holds
