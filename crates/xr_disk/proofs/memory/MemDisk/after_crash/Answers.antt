use Rattle.std.proofs.Common.{◌≡◌, ◌∙◌, arith}
use Rattle.xr_disk.proofs.PickLemmas.{all_fit, laid_is_picked, picked_stays}
use Rattle.xr_disk.specs.MemoryDisk.{events_in}
use Rattle.xr_disk.specs.Picks.{picked}
use Rattle.xr_disk.proofs.memory.MemDisk.after_crash.Goals as goal

-- src/picks.rt:45:9
pub lay_writes-requires-clause-fits : goal.lay_writes-requires-clause-fits
lay_writes-requires-clause-fits c = λ i call within.
    let self = c.args.self in
    let fits = all_fit self.bytes.items self.stop self.done.items self.within self.history.within i call
    (omega (arith, within, c.deref-2.ensures.len)) in
    rw (c.deref-2.ensures.value, c.deref-3.ensures.value, self.synced_long) fits

left_image : (c : goal.After-result-1) → c.copy_from_slice.new.self.items ≡ picked c.args.self.first.items (events_in c.args.self) c.args.picks.now
left_image c =
    let self = c.args.self in
    c.copy_from_slice.ensures.items ∙ c.deref-4.ensures.value ∙ c.lay_writes.ensures.laid
    ∙ laid_is_picked self.first.items self.bytes.items self.stop c.args.picks.now self.done.items c.deref.result.now c.deref-2.result.now c.deref-3.result.now
    self.synced.items c.calls_covered-covered.result c.deref.ensures.value c.calls_covered-covered.ensures c.deref-2.ensures.value c.deref-3.ensures.value
    self.history.covered

-- src/picks.rt:28:5
pub returns-clause-image : goal.returns-clause-image
returns-clause-image c = left_image c

-- src/picks.rt:28:5
pub returns-clause-left : goal.returns-clause-left
returns-clause-left c =
    let self = c.args.self in
    picked_stays self.first.items (events_in self) c.args.picks.now c.copy_from_slice.new.self.items self.history.size self.history.within (left_image c)
