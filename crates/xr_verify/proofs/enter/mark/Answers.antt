use Rattle.std.proofs.Common.{◌≡◌, sym, subst, arith, false, ◌∙◌, [], ◌∷◌}
use Rattle.xr_pool.specs.Bits.{has_bit}
use Rattle.xr_verify.specs.Visits.{AreMarked}
use Rattle.xr_verify.proofs.EnterLemmas.{marks_one}
use Rattle.xr_verify.proofs.enter.mark.Goals as goal

pub returns-clause-marked : goal.returns-clause-marked
returns-clause-marked c = λ ok.
    let clear : has_bit c.args.seen.now c.args.n ≡ false = sym c.has_bit.ensures ∙ c.if-has_bit.false in
    subst (AreMarked c.args.seen.now (c.args.n ∷ [])) (sym c.set_bit.ensures)
    (marks_one c.args.seen.now c.args.n (omega (arith, c.requires.within, c.requires.room)) clear)
