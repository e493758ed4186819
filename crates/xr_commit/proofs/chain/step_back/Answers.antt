use Rattle.std.proofs.Common.{inl, inr, ap, arith}
use Rattle.xr_commit.specs.declared.fault.ScanFault.TheVariants.{Place}
use Rattle.xr_commit.proofs.ChainLemmas.{told_not, told_not_apart}
use Rattle.xr_commit.proofs.chain.step_back.Goals as goal
use Rattle.xr_commit.proofs.chain.step_back.Goals.{then-ne-via-then-ne, then-ne-via-else-ne+then-lsn-number, then-ne-via-else-ne+else-lsn-number+then-lsn-number-2}

pub returns-then-ne-clause-nowhere : goal.returns-then-ne-clause-nowhere
returns-then-ne-clause-nowhere c =
    inr (inr (
      record {
        found = _;
        stands = c.in_ok-found.ensures.stands;
        astray = elim c.then-ne.branch [
          | then-ne-via-then-ne w ↦ inl (told_not _ _ _ c.ne.ensures w.if-ne.true)
          | then-ne-via-else-ne+then-lsn-number w ↦ inr (inl (let a = w.number.ensures in let b = c.number-lsn.ensures in let d = w.if-lsn-number.true in omega arith))
          | then-ne-via-else-ne+else-lsn-number+then-lsn-number-2 w ↦ inr (inr (let a = w.number-else-lsn-number.ensures in let b = c.number-lsn.ensures in let d = w.if-lsn-number-2.true in omega arith))
        ];
      },
      ap Place c.log_block_of-then-ne.ensures,
    ))

pub returns-clause-before : goal.returns-clause-before
returns-clause-before c = record {
  body = _;
  before = record {
    at = record { stands = c.in_ok-found.ensures.stands; own = told_not_apart _ _ _ c.ne.ensures c.if-ne.false };
    older = let a = c.number.ensures in let b = c.number-lsn.ensures in let d = c.if-lsn-number.false in omega arith;
    within = let a = c.number-else-lsn-number.ensures in let b = c.number-lsn.ensures in let d = c.if-lsn-number-2.false in omega arith;
  };
}
