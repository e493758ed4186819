use Rattle.std.proofs.lemmas.Result.{err_from_is_err_and}
use Rattle.std.proofs.Common.{sym, subst}
use Rattle.xr_commit.proofs.ChainLemmas.{follow_breaks, follow_ends, follow_on, lsn_differs, lsn_same, or_no_memory}
use Rattle.xr_commit.specs.ChainHeaders.{HasChain, HasNoChain}
use Rattle.xr_commit.proofs.chain.follow.Goals as goal

pub returns-in_err-last-clause-broken : goal.returns-in_err-last-clause-broken
returns-in_err-last-clause-broken c =
    let p = err_from_is_err_and c.from_residual-in_err-last.result c.from_residual-in_err-last.ensures.1 in
    rw (p.1, p.2) (or_no_memory (HasNoChain c.args.uuid.now c.args.log.now c.args.head.now) _
    (follow_breaks _ _ _ _ _ _ c.loop-last.invariant (lsn_differs _ _ _ c.ne.ensures c.loop-last-test.true) c.in_err-last.ensures.nowhere))

pub loop-last-preserved : goal.loop-last-preserved
loop-last-preserved c = follow_on _ _ _ _ _ _ _ c.loop-last.invariant c.in_ok-last.ensures.before c.in_ok-push.ensures.items

pub returns-clause-chain : goal.returns-clause-chain
returns-clause-chain c =
    subst (HasChain c.args.uuid.now c.args.log.now c.args.head.now) (sym c.reverse.ensures.items)
    (follow_ends _ _ _ _ _ c.loop-last.invariant (lsn_same _ _ _ c.ne.ensures c.loop-last-test.false))
