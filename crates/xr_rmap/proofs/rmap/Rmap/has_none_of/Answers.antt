-- What is so of the pair of each block is so of each pair of the run.
use Rattle.std.proofs.Common.{ℕ, ◌+◌, below_more, refl, arith}
use Rattle.xr_rmap.proofs.PairLemmas.{all_pairs, pair_at}
use Rattle.xr_rmap.specs.Pairs.{offset_at}
use Rattle.xr_rmap.specs.Rmap.{HasPair, owned_run}
use Rattle.xr_rmap.proofs.rmap.Rmap.has_none_of.Goals as goal

pub returns-then-has_at : goal.returns-then-has_at
returns-then-has_at c =
    let r = owned_run c.args.run c.args.owner c.args.off in (
      λ lie. absurd cc,
      λ none. absurd (none _ _ _ (pair_at r c.loop-i.i c.loop-i-test.true) (c.has_at.ensures.0 c.if-has_at.true)),
    )

pub loop-i-preserved : goal.loop-i-preserved
loop-i-preserved c =
    let r = owned_run c.args.run c.args.owner c.args.off in
    below_more (λ (k : ℕ). ¬ (HasPair c.args.over.now c.args.self.now r.owner (offset_at r k) (r.start + k))) _ c.loop-i.invariant
    (λ held. let yes = c.has_at.ensures.1 held in let no = c.if-has_at.false in absurd cc)

pub returns : goal.returns
returns c = (
  λ yes. all_pairs (owned_run c.args.run c.args.owner c.args.off) (λ w o n. ¬ (HasPair c.args.over.now c.args.self.now w o n))
      (λ i within. c.loop-i.invariant i (omega arith)),
  λ none. refl,
)
