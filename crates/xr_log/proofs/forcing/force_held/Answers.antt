use Rattle.std.proofs.Common.{length, ap, sym, ◌∙◌}
use Rattle.std.proofs.lemmas.Bool.{eqb-true, false≢true}
use Rattle.xr_log.proofs.ForceLemmas.{forces_nothing, forces_worn, forces_written}
use Rattle.xr_log.proofs.forcing.force_held.Goals as goal

pub returns-then-is_empty-clause-forces : goal.returns-then-is_empty-clause-forces
returns-then-is_empty-clause-forces g c =
    forces_nothing (g.D.Disk.view c.args.disk.now) c.args.held.now c.in_default.is
    (ap length (sym c.body.ensures.body) ∙ eqb-true (length c.body.result.now) 0 (sym c.is_empty.ensures ∙ c.if-is_empty.true)) c.args.held.now.growing.placed.within

pub returns-then-wears_out-clause-forces : goal.returns-then-wears_out-clause-forces
returns-then-wears_out-clause-forces g c =
    forces_worn (g.D.Disk.view c.args.disk.now) c.args.held.now c.in_default.is
    (c.wears_out.ensures.0 c.if-wears_out.true)

pub returns-clause-forces : goal.returns-clause-forces
returns-clause-forces g c =
    forces_written (g.D.Disk.view c.args.disk.now) (g.D.Disk.view c.write_packed.new.disk) c.args.held.now c.write_packed.new.held c.write_packed.result record {
      up = c.in_default.is;
      fresh = λ needs. absurd (false≢true (sym c.if-wears_out.false ∙ c.wears_out.ensures.1 needs));
      runs = c.write_packed.ensures.runs;
      kept = c.write_packed.ensures.kept;
      place = c.write_packed.ensures.place;
      goes_on = c.write_packed.ensures.goes_on;
      step = c.write_packed.ensures.step;
    }
