use Rattle.std.proofs.Common.{sym, ◌∙◌}
use Rattle.xr_log.specs.Pushes.{opened}
use Rattle.xr_log.proofs.StepLemmas.{more_states, rests_over}
use Rattle.xr_log.proofs.packing.make_room.Goals as goal

pub returns-in_err-write_packed-clause-runs : goal.returns-in_err-write_packed-clause-runs
returns-in_err-write_packed-clause-runs g c = λ phase now said next states k.
    c.write_packed.ensures.runs now (opened said k.o) next states k.keeps k.own k.among

pub returns-in_ok-write_packed-clause-runs : goal.returns-in_ok-write_packed-clause-runs
returns-in_ok-write_packed-clause-runs g c = λ phase now said next states k.
    c.write_packed.ensures.runs now (opened said k.o) next states k.keeps k.own k.among

pub returns-in_ok-write_packed-clause-kept : goal.returns-in_ok-write_packed-clause-kept
returns-in_ok-write_packed-clause-kept g c = λ phase now said next states k. record {
  o = k.o;
  phase_is = k.phase_is;
  keeps = more_states (g.D.Disk.view c.write_packed.new.disk) c.write_packed.new.held.growing now (opened said k.o) next states
      (c.in_ok-write_packed.ensures.kept now (opened said k.o) next states k.keeps k.own) k.among;
  among = k.among;
  own = k.own ∙ sym c.write_packed.ensures.step.same.uuid;
}

pub returns-else-body-need-gt-MAX_BODY_BYTES-clause-runs : goal.returns-else-body-need-gt-MAX_BODY_BYTES-clause-runs
returns-else-body-need-gt-MAX_BODY_BYTES-clause-runs g c = λ phase now said next states k.
    rests_over (g.D.Disk.view c.args.disk.now) c.args.held.now now said next states phase k
