use Rattle.std.proofs.Common.{refl, sym, ◌∙◌}
use Rattle.xr_commit.specs.LogEnds.{EndsInUse}
use Rattle.xr_commit.specs.LogRecords.{LogRecord}
use Rattle.xr_commit.proofs.log_ends.log_end.Goals as goal

pub returns-then-is_unmount : goal.returns-then-is_unmount
returns-then-is_unmount c =
    let newest = c.in-Some.ensures in
    let r : LogRecord = record { head = c.in-Some.head; body = newest.body } in
    let same = c.body_at.ensures r (record { stands = newest.newest.at.stands; head_is = refl }) in
    record { newest = r; head = newest.newest; clean = sym same ∙ c.is_unmount.ensures.0 c.if-is_unmount.true }

pub returns : goal.returns
returns c =
    let newest = c.in-Some.ensures in
    let r : LogRecord = record { head = c.in-Some.head; body = newest.body } in
    let same = c.body_at.ensures r (record { stands = newest.newest.at.stands; head_is = refl }) in
    let ends : EndsInUse c.args.uuid.now c.args.log.now = record {
      newest = r;
      head = newest.newest;
      other = λ clean. let yes = c.is_unmount.ensures.1 (same ∙ clean) in let no = c.if-is_unmount.false in cc;
    } in
    (ends, refl)
