use Rattle.std.proofs.Common.{Option, refl, rules}
use Rattle.xr_maps.proofs.tables.empty_table.Goals as goal
use Rattle.std.proofs.lemmas.Result.{IfOk-weaker}
use Rattle.xr_maps.proofs.TableLemmas.{hole_in_none, is_table_of_none}
use Rattle.std.specs.Global.{Vec}
use Rattle.xr_base.specs.declared.address.Addr.{Addr}
use Rattle.xr_base.specs.declared.geometry.TheConstants.{OFFSETS}

pub returns-clause-table : goal.returns-clause-table
returns-clause-table c =
    IfOk-weaker _ _ _ (λ (v : Vec (Option Addr)) h. is_table_of_none OFFSETS v.items refl (h (λ y same. search rules))) c.vec.ensures.items_if_clones_equal

pub returns-clause-holes : goal.returns-clause-holes
returns-clause-holes c =
    IfOk-weaker _ _ _ (λ (v : Vec (Option Addr)) h. hole_in_none OFFSETS v.items (h (λ y same. search rules))) c.vec.ensures.items_if_clones_equal
