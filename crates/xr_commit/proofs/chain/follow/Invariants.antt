use Rattle.xr_record.specs.Lsn.{lsn_number}
use Rattle.xr_commit.proofs.ChainLemmas.{IsFollowing}
use Rattle.xr_commit.proofs.chain.follow.Given as goal

abbrev pub invariant-loop-last : goal.invariant-loop-last
invariant-loop-last l = IsFollowing l.uuid l.log l.head l.last l.heads.items

abbrev pub decreases-loop-last : goal.decreases-loop-last
decreases-loop-last l = lsn_number l.last.lsn
