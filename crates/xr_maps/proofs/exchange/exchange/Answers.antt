use Rattle.std.proofs.Common.{◌≡◌, ℕ, arith, subst}
use Rattle.xr_maps.specs.FileMaps.{address_at}
use Rattle.xr_maps.specs.Steps.{exchanged_address}
use Rattle.xr_maps.specs.Tables.{maps_of_tables}
use Rattle.xr_maps.proofs.ExchangeLemmas.{exchanged_more, apart_at}
use Rattle.xr_maps.proofs.exchange.exchange.Goals as goal

pub loop-i-preserved : goal.loop-i-preserved
loop-i-preserved c = record {
  tables = c.swap_slots.ensures.tables;
  slots = exchanged_more _ _ _ _ _ _ _ c.loop-i.i (apart_at _ _ _ _ _ _ c.loop-i-test.true c.requires.apart) c.loop-i.invariant.slots c.swap_slots.ensures.slots;
}

pub returns-clause-slots : goal.returns-clause-slots
returns-clause-slots c =
    let done : c.loop-i.i ≡ c.args.len = omega arith in
    subst (λ (n : ℕ). (f o : ℕ) → address_at (maps_of_tables c.loop-i.tables) f o
    ≡ exchanged_address (maps_of_tables c.args.tables.now) c.args.file.0 c.args.off c.args.other.0 c.args.other_off n f o)
    done c.loop-i.invariant.slots
