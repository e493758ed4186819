-- That a chain has room for what its next roll leaves.
use Rattle.std.specs.Prelude.{List}
use Rattle.xr_balance.specs.Chains.{IsChain}
use Rattle.xr_chain.specs.ChainView.{HasRollRoom}
use Rattle.xr_items.specs.declared.work.Work.{Work}

abbrev pub ChainsHaveRoom : Type 0
ChainsHaveRoom = (works : List Work) → IsChain works → HasRollRoom works
