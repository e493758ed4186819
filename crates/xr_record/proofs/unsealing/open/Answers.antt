use Rattle.std.proofs.Common.{◌≡◌, arith, refl}
use Rattle.xr_record.specs.Unsealing.{body_in}
use Rattle.xr_record.proofs.SectorLemmas.{body_put_back, restamped}
use Rattle.xr_record.proofs.unsealing.open.Goals as goal

pub returns-then-is_zero-clause-padded : goal.returns-then-is_zero-clause-padded
returns-then-is_zero-clause-padded c =
    let body : c.restore.new.body ≡ body_in c.args.len c.args.bytes.now =
    body_put_back _ c.args.bytes.now _ _ _ (omega arith) c.split_at_mut-header.ensures.front c.split_at_mut-header.ensures.back (rw c.sectors_of-sectors.ensures at c.restore.ensures) in
    let zero = rw (body, c.sectors_of-sectors.ensures) at c.is_zero.ensures in
    (λ _. zero.0 c.if-is_zero.true, λ _. refl)

pub returns-then-is_zero-clause-opened : goal.returns-then-is_zero-clause-opened
returns-then-is_zero-clause-opened c _ =
    let body : c.restore.new.body ≡ body_in c.args.len c.args.bytes.now =
    body_put_back _ c.args.bytes.now _ _ _ (omega arith) c.split_at_mut-header.ensures.front c.split_at_mut-header.ensures.back (rw c.sectors_of-sectors.ensures at c.restore.ensures) in
    rw (body, c.split_at_mut-header.ensures.front) refl

pub returns-clause-padded : goal.returns-clause-padded
returns-clause-padded c =
    let body : c.restore.new.body ≡ body_in c.args.len c.args.bytes.now =
    body_put_back _ c.args.bytes.now _ _ _ (omega arith) c.split_at_mut-header.ensures.front c.split_at_mut-header.ensures.back (rw c.sectors_of-sectors.ensures at c.restore.ensures) in
    let zero = rw (body, c.sectors_of-sectors.ensures, c.if-is_zero.false) at c.is_zero.ensures in
    zero

pub returns-clause-unchanged : goal.returns-clause-unchanged
returns-clause-unchanged c _ =
    let stamped = rw c.sectors_of-sectors.ensures at c.stamp.ensures.body in
    restamped _ c.args.cycle c.args.bytes.now _ _ _ _ c.requires.room (omega arith) c.split_at_mut-header.ensures.front c.split_at_mut-header.ensures.back
    c.requires.stamps (rw c.sectors_of-sectors.ensures at c.restore.ensures) stamped
