use Rattle.std.proofs.Common.{ap, subst}
use Rattle.xr_commit.specs.declared.fault.ScanFault.TheVariants.{Operation}
use Rattle.xr_record.specs.Reading.{IsFaultOf}
use Rattle.xr_commit.proofs.FeedLemmas.{holds_operations, reads_on, wrong_here}
use Rattle.xr_commit.proofs.bodies.read_record.Goals as goal

pub returns-in_ok-append-in-Ok-clause-reads : goal.returns-in_ok-append-in-Ok-clause-reads
returns-in_ok-append-in-Ok-clause-reads c r head_is body_is before so_far =
    let sum = c.sum_up-summary.ensures in
    reads_on r _ before _ _ _ _ _ body_is
    (holds_operations r _ _ _ _ head_is body_is sum.operations sum.bytes c.if-summary-body.false c.if-summary-head.false)
    c.in_ok-append-in-Ok.ensures.items c.in-Ok.ensures.reads so_far

pub returns-in-Err-Op-clause-wrong : goal.returns-in-Err-Op-clause-wrong
returns-in-Err-Op-clause-wrong c = (
  ap Operation c.log_block_of-block.ensures,
  λ r head_is body_is before so_far. wrong_here r _ before _ _ c.in-Err-Op.field-0-0 c.in-Err-Op.field-0-1 body_is
      (λ bytes es reads. subst (IsFaultOf _) c.in-Err-Op.field-0-is (c.in-Err-Op.ensures.fault bytes es reads)) so_far,
)
