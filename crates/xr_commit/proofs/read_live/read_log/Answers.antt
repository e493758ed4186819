use Rattle.std.proofs.Common.{◌∙◌}
use Rattle.xr_commit.proofs.LogLemmas.{log_small, log_taken}
use Rattle.xr_commit.proofs.read_live.read_log.Goals as goal

pub returns-clause-log : goal.returns-clause-log
returns-clause-log g c image seen =
    let a = c.read_part.auto.out in
    let b = c.deref_mut.ensures.len in
    let d = c.in_ok-log.ensures.len in
    log_taken c.read_part.new.out c.in_ok-log.log.items image c.in_ok-log.log.len _ (b ∙ d) (a ∙ b) (c.in_ok-read_part.ensures.bytes image seen)

pub returns-clause-small : goal.returns-clause-small
returns-clause-small g c =
    log_small c.read_part.new.out c.in_ok-log.log.items c.in_ok-log.log.len (c.read_part.auto.out ∙ c.deref_mut.ensures.len) c.read_part.ensures.small
