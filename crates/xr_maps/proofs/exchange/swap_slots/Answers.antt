use Rattle.xr_maps.proofs.ExchangeLemmas.{slots_swapped}
use Rattle.xr_maps.proofs.exchange.swap_slots.Goals as goal

pub returns-clause-slots : goal.returns-clause-slots
returns-clause-slots c =
    slots_swapped _ _ _ _ _ _ _ _ _ c.slot_at-held.ensures.address c.slot_at.ensures.address c.put_slot.ensures.slots c.put_slot-2.ensures.slots
