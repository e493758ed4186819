use Rattle.std.proofs.Common.{arith}
use Rattle.xr_log.proofs.SlotLemmas.{slot_is_left}
use Rattle.xr_log.proofs.slots.free_slot.Goals as goal

pub unreachable-requires : goal.unreachable-requires
unreachable-requires c =
    let past = c.loop-slot-test.false in
    slot_is_left c.args.table.now c.requires (λ k below. c.loop-slot.invariant k (omega (arith, past, below)))
