use Rattle.std.proofs.Common.{◌≡◌, ℕ, subst, arith}
use Rattle.xr_base.specs.declared.geometry.TheConstants.{LOG_SECTORS}
use Rattle.xr_commit.proofs.HeadLemmas.{IsBest, best_begins, best_ends, best_on}
use Rattle.xr_commit.proofs.head.find_head.Goals as goal

pub loop-sector-init : goal.loop-sector-init
loop-sector-init c = best_begins _ _

pub loop-sector-preserved : goal.loop-sector-preserved
loop-sector-preserved c = best_on _ _ _ _ _ _ c.loop-sector.invariant c.own_at.ensures c.newer-best.ensures

pub returns : goal.returns
returns c =
    let «end» = c.loop-sector.auto.sector-end in
    let over = c.loop-sector-test.false in
    let e : c.loop-sector.sector ≡ LOG_SECTORS = omega arith in
    best_ends _ _ _ (subst (λ (n : ℕ). IsBest c.args.uuid.now c.args.log.now n c.loop-sector.best) e c.loop-sector.invariant)
