-- What is so of the pair of each block is so of each pair of the run.
use Rattle.std.proofs.Common.{ℕ, ◌+◌, below_more, refl, arith}
use Rattle.xr_rmap.proofs.PairLemmas.{all_pairs, pair_at}
use Rattle.xr_rmap.specs.Pairs.{offset_at}
use Rattle.xr_rmap.specs.Rmap.{HasPair, owned_run}
use Rattle.xr_rmap.proofs.rmap.Rmap.has_all_of.Goals as goal

pub returns-then-not-has_at : goal.returns-then-not-has_at
returns-then-not-has_at c =
    let r = owned_run c.args.run c.args.owner c.args.off in (
      λ lie. absurd cc,
      λ all.
          let yes = c.has_at.ensures.1 (all r.owner (offset_at r c.loop-i.i) (r.start + c.loop-i.i) (pair_at r c.loop-i.i c.loop-i-test.true)) in
          let no = c.if-not-has_at.true in absurd cc,
    )

pub loop-i-preserved : goal.loop-i-preserved
loop-i-preserved c =
    let r = owned_run c.args.run c.args.owner c.args.off in
    below_more (λ (k : ℕ). HasPair c.args.over.now c.args.self.now r.owner (offset_at r k) (r.start + k)) _ c.loop-i.invariant
    (c.has_at.ensures.0 c.if-not-has_at.false)

pub returns : goal.returns
returns c = (
  λ yes. all_pairs (owned_run c.args.run c.args.owner c.args.off) (HasPair c.args.over.now c.args.self.now)
      (λ i within. c.loop-i.invariant i (omega arith)),
  λ all. refl,
)
