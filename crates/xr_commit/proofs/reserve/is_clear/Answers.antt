use Rattle.std.proofs.Common.{arith}
use Rattle.std.proofs.lemmas.Bool.{leb-true}
use Rattle.xr_commit.specs.declared.layout.TheConstants.{RELOG_SECTORS}
use Rattle.xr_commit.proofs.ReserveLemmas.{begins_within}
use Rattle.xr_commit.proofs.reserve.is_clear.Goals as goal

pub returns-else-first-reserve-ge-RELOG_SECTORS : goal.returns-else-first-reserve-ge-RELOG_SECTORS
returns-else-first-reserve-ge-RELOG_SECTORS c = (
  (λ t i below covers. let h = leb-true RELOG_SECTORS _ t in let f = c.if-first-reserve-ge-RELOG_SECTORS.false in omega arith),
  λ clear. absurd (begins_within c.args.newest.now c.args.head.now c.record_end-reserve.result c.record_end-reserve.ensures c.requires.newest c.requires.head c.if-first-reserve-ge-RELOG_SECTORS.false clear),
)
