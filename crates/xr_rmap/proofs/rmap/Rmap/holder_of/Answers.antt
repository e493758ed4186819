-- Each found record that doesn't say the pair is passed.
use Rattle.xr_rmap.proofs.SearchLemmas.{rank_falls, still_passed}
use Rattle.xr_rmap.proofs.rmap.Rmap.holder_of.Goals as goal

pub loop-found-smaller : goal.loop-found-smaller
loop-found-smaller c = rank_falls _ c.requires.tree.records _ _ _ _ c.loop-found.invariant c.in-Some.found c.in-Some.ensures

pub loop-found-preserved : goal.loop-found-preserved
loop-found-preserved c = still_passed _ c.requires.tree.records _ _ _ _ c.loop-found.invariant c.in-Some.found c.in-Some.ensures
    (λ says. let yes = c.is_pair.ensures.1 says in let no = c.if-is_pair.false in absurd cc)
