-- Of no public contract.
-- A chain as its arrays.
use Rattle.std.specs.Prelude.{◌≡◌, ℕ, ◌≤◌, List, length, take}
use Rattle.std.specs.List.{All}
use Rattle.xr_chain.specs.ChainView.{ChainView}
use Rattle.xr_chain.specs.declared.chain.TheConstants.{CHAIN_WORKS}
use Rattle.xr_items.specs.Valid.{IsWork}
use Rattle.xr_items.specs.declared.work.Work.{Work}

abbrev pub chain_of_parts : List Work → ℕ → List ℕ → ℕ → ChainView
chain_of_parts works len slots placed = record { works = take len works; slots = take placed slots }

pub record AreChainParts (works : List Work) (len : ℕ) (slots : List ℕ) (placed : ℕ) : Type 0 where
  pub fit : len ≤ CHAIN_WORKS
  pub placed_first : placed ≤ len
  pub all_works : length works ≡ CHAIN_WORKS
  pub all_slots : length slots ≡ CHAIN_WORKS
  pub valid : All IsWork (take len works)
