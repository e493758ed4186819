use Rattle.xr_commit.proofs.PendingWalkLemmas.{one_more, passed_over}
use Rattle.xr_commit.proofs.pending.walk_over.Goals as goal

pub returns-in_ok-push-in-Begin : goal.returns-in_ok-push-in-Begin
returns-in_ok-push-in-Begin c =
    λ later walked. rw (c.in-Begin.is, c.in_ok-push-in-Begin.ensures.items)
    (one_more c.in-Begin.id c.in-Begin.work later c.args.done.now c.args.works.now.items c.if-not-is_done.ensures walked)

pub returns-else-not-is_done : goal.returns-else-not-is_done
returns-else-not-is_done c =
    λ later walked. rw c.in-Begin.is (passed_over c.in-Begin.id c.in-Begin.work later c.args.done.now c.args.works.now.items c.if-not-is_done.ensures walked)
