use Rattle.std.proofs.lemmas.Result.{err_from_is_err_and}
use Rattle.xr_commit.proofs.GoodItemLemmas.{live_items}
use Rattle.xr_commit.specs.Refusals.{HasNoSuper, IsReadable}
use Rattle.xr_base.specs.Fields.{AreBytes}
use Rattle.xr_disk.specs.Seen.{WasSeen}
use Rattle.std.proofs.Common.{inl, subst, sym}
use Rattle.xr_commit.proofs.ImageLemmas.{or_outside, readable_err, readable_ok, was_live, was_read, was_read_live, was_refused, was_uncounted}
use Rattle.xr_commit.proofs.read_live.live.Goals as goal

pub returns-in_err-uuid-clause-refused : goal.returns-in_err-uuid-clause-refused
returns-in_err-uuid-clause-refused g c =
    let p = err_from_is_err_and c.from_residual.result c.from_residual.ensures.1 in
    rw (p.1, p.2) c.in_err-uuid.ensures.refused

pub returns-clause-live : goal.returns-clause-live
returns-clause-live g c =
    let read = was_read _ _ _ _ _ c.read_uuid.ensures.reads.same.seen c.deref.ensures.value c.in_ok-uuid.ensures.superblock c.in_ok-log.ensures.log in
    was_live _ _ _ c.live_in.result read c.live_in.ensures.uuid c.live_in.ensures.live

pub returns-clause-refused : goal.returns-clause-refused
returns-clause-refused g c =
    let read = was_read _ _ _ _ _ c.read_uuid.ensures.reads.same.seen c.deref.ensures.value c.in_ok-uuid.ensures.superblock c.in_ok-log.ensures.log in
    was_refused _ _ _ c.live_in.result read c.live_in.ensures.refused

pub returns-clause-cause : goal.returns-clause-cause
returns-clause-cause g c = was_uncounted c.in_ok-uuid.uuid c.deref.result.now _ _ c.live_in.result c.live_in.ensures.refused

pub returns-clause-items : goal.returns-clause-items
returns-clause-items g c = live_items c.in_ok-uuid.uuid c.deref.result.now c.live_in.result c.live_in.ensures.live

pub returns-clause-read : goal.returns-clause-read
returns-clause-read g c =
    let read = was_read _ _ _ _ _ c.read_uuid.ensures.reads.same.seen c.deref.ensures.value c.in_ok-uuid.ensures.superblock c.in_ok-log.ensures.log in
    was_read_live _ _ _ _ c.live_in.result read c.deref.ensures.value c.in_ok-log.ensures.long c.live_in.ensures.uuid c.live_in.ensures.live
    c.live_in.ensures.ends

pub returns-in_err-uuid-clause-readable : goal.returns-in_err-uuid-clause-readable
returns-in_err-uuid-clause-readable g c =
    let p = err_from_is_err_and c.from_residual.result c.from_residual.ensures.1 in
    let seen = (g.D.Disk.view c.args.disk.now).seen in
    rw (p.1, p.2) (or_outside (λ f. WasSeen seen HasNoSuper) (λ f. WasSeen seen IsReadable) (λ f none image at. inl (none image at)) _ c.in_err-uuid.ensures.none)

pub returns-clause-bytes : goal.returns-clause-bytes
returns-clause-bytes g c =
    let read = was_read _ _ _ _ _ c.read_uuid.ensures.reads.same.seen c.deref.ensures.value c.in_ok-uuid.ensures.superblock c.in_ok-log.ensures.log in
    readable_ok _ _ _ c.live_in.result read (subst AreBytes (sym c.deref.ensures.value) c.in_ok-log.ensures.small)

pub returns-clause-readable : goal.returns-clause-readable
returns-clause-readable g c =
    let read = was_read _ _ _ _ _ c.read_uuid.ensures.reads.same.seen c.deref.ensures.value c.in_ok-uuid.ensures.superblock c.in_ok-log.ensures.log in
    readable_err _ _ _ c.live_in.result read (subst AreBytes (sym c.deref.ensures.value) c.in_ok-log.ensures.small)
