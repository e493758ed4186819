use Rattle.std.proofs.Common.{arith, refl, true, false}
use Rattle.xr_disk.proofs.MemoryCallLemmas.{event_call, pushed_write, all_within, write_history, write_tears}
use Rattle.xr_disk.proofs.memory.MemDiskDisk.write.Goals as goal

pub invariant_of-self-clause-within : goal.invariant_of-self-clause-within
invariant_of-self-clause-within c =
    all_within c.args.self.now.done.items _ c.args.self.now.bytes.items _ c.args.bytes.now c.begin.new.calls c.args.at c.args.self.now.within
    c.keep_write.ensures.calls c.keep_write.ensures.bytes

pub invariant_of-self-in-Stops-clause-within : goal.invariant_of-self-in-Stops-clause-within
invariant_of-self-in-Stops-clause-within c =
    all_within c.args.self.now.done.items _ c.args.self.now.bytes.items _ c.args.bytes.now c.begin.new.calls c.args.at c.args.self.now.within
    c.keep_write-in-Stops.ensures.calls c.keep_write-in-Stops.ensures.bytes

pub invariant_of-self-clause-history : goal.invariant_of-self-clause-history
invariant_of-self-clause-history c =
    let fate = c.in-Succeeds.ensures.fate in
    write_history _ _ _ _ _ _ c.args.self.now.calls _ _ _ false c.args.self.now.history
    (pushed_write c.args.self.now.done.items _ c.args.self.now.bytes.items _ c.args.bytes.now c.args.self.now.stop c.args.self.now.calls c.begin.new.calls c.args.at false c.args.self.now.within
    c.keep_write.ensures.calls c.keep_write.ensures.bytes c.begin.ensures.clock fate.2 fate.3)
    c.requires.within c.overlay.ensures

pub returns-in-Succeeds-clause-torn : goal.returns-in-Succeeds-clause-torn
returns-in-Succeeds-clause-torn c =
    let fate = c.in-Succeeds.ensures.fate in
    write_tears _ _ _ _ _ _ _ _ _ _ _ _ false
    (pushed_write c.args.self.now.done.items _ c.args.self.now.bytes.items _ c.args.bytes.now c.args.self.now.stop c.args.self.now.calls c.begin.new.calls c.args.at false c.args.self.now.within
    c.keep_write.ensures.calls c.keep_write.ensures.bytes c.begin.ensures.clock fate.2 fate.3)
    (let long = c.args.self.now.long in let fits = c.requires.within in omega arith) c.overlay.ensures

pub returns-in-Succeeds-clause-call : goal.returns-in-Succeeds-clause-call
returns-in-Succeeds-clause-call c =
    let fate = c.in-Succeeds.ensures.fate in
    event_call _ _ _ _ _ _ _ _ _ _ _
    (pushed_write c.args.self.now.done.items _ c.args.self.now.bytes.items _ c.args.bytes.now c.args.self.now.stop c.args.self.now.calls c.begin.new.calls c.args.at false c.args.self.now.within
    c.keep_write.ensures.calls c.keep_write.ensures.bytes c.begin.ensures.clock fate.2 fate.3)
    refl c.begin.ensures.clock fate.2 (record { kept = omega arith; cause = tt; uncounted = refl })

pub invariant_of-self-in-Stops-clause-history : goal.invariant_of-self-in-Stops-clause-history
invariant_of-self-in-Stops-clause-history c =
    let fate = c.in-Stops.ensures.fate in
    write_history _ _ _ _ _ _ c.args.self.now.calls _ _ _ true c.args.self.now.history
    (pushed_write c.args.self.now.done.items _ c.args.self.now.bytes.items _ c.args.bytes.now c.args.self.now.stop c.args.self.now.calls c.begin.new.calls c.args.at true c.args.self.now.within
    c.keep_write-in-Stops.ensures.calls c.keep_write-in-Stops.ensures.bytes c.begin.ensures.clock fate.2 fate.3)
    c.requires.within refl

pub returns-in-Stops-clause-torn : goal.returns-in-Stops-clause-torn
returns-in-Stops-clause-torn c =
    let fate = c.in-Stops.ensures.fate in
    write_tears _ _ _ _ _ _ _ _ _ _ _ _ true
    (pushed_write c.args.self.now.done.items _ c.args.self.now.bytes.items _ c.args.bytes.now c.args.self.now.stop c.args.self.now.calls c.begin.new.calls c.args.at true c.args.self.now.within
    c.keep_write-in-Stops.ensures.calls c.keep_write-in-Stops.ensures.bytes c.begin.ensures.clock fate.2 fate.3)
    (let long = c.args.self.now.long in let fits = c.requires.within in omega arith) refl

pub returns-in-Stops-clause-call : goal.returns-in-Stops-clause-call
returns-in-Stops-clause-call c =
    let fate = c.in-Stops.ensures.fate in
    event_call _ _ _ _ _ _ _ _ _ _ _
    (pushed_write c.args.self.now.done.items _ c.args.self.now.bytes.items _ c.args.bytes.now c.args.self.now.stop c.args.self.now.calls c.begin.new.calls c.args.at true c.args.self.now.within
    c.keep_write-in-Stops.ensures.calls c.keep_write-in-Stops.ensures.bytes c.begin.ensures.clock fate.2 fate.3)
    refl c.begin.ensures.clock fate.2
    (record { kept = c.count.ensures.kept; cause = omega (arith, c.count.ensures.counted); uncounted = tt })

pub returns-in-Fails-clause-stopped : goal.returns-in-Fails-clause-stopped
returns-in-Fails-clause-stopped c = λ stops.
    absurd (c.in-Fails.ensures.fate.1 (record { early = stops.early; last = stops.last; fits = c.has_room-fits.ensures.1 (let room = stops.fits in (omega arith, omega arith)) }))
