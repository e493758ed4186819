use Rattle.std.proofs.Common.{◌∙◌, arith}
use Rattle.std.proofs.lemmas.Result.{err_from_is_err_and}
use Rattle.xr_check.proofs.FaultLemmas.{names_refused, of_image, risen_before}
use Rattle.xr_check.specs.LoadRefusals.Layer.{OfFile, OfGroup}
use Rattle.xr_commit.specs.Refusals.{IsReadable}
use Rattle.xr_disk.specs.Runs.{read_on}
use Rattle.xr_disk.specs.Seen.{WasSeen}
use Rattle.xr_check.proofs.loading.load.Goals as goal

pub returns-in_err-maps-clause-refused : goal.returns-in_err-maps-clause-refused
returns-in_err-maps-clause-refused g c =
    let p = err_from_is_err_and c.from_residual-in_err-maps.result c.from_residual-in_err-maps.ensures.1 in
    rw (p.1, p.2) (λ image at. names_refused image _
    (λ block rule broken. (OfFile broken.0, (c.in_ok-uuid.uuid, c.in_ok-uuid.ensures.clean image at, broken.1)))
    c.in_err-maps.field-0.0 (c.in_err-maps.ensures.refused image (c.load_log.ensures.reads.reads.same.seen ∙ at)))

pub returns-in_err-maps-clause-refusable : goal.returns-in_err-maps-clause-refusable
returns-in_err-maps-clause-refusable g c =
    let p = err_from_is_err_and c.from_residual-in_err-maps.result c.from_residual-in_err-maps.ensures.1 in
    rw (p.1, p.2) (of_image (λ _. WasSeen (g.D.Disk.view c.args.disk.now).seen IsReadable) c.in_err-maps.field-0.0 c.in_ok-uuid.ensures.readable)

pub returns-in_err-maps-clause-reads : goal.returns-in_err-maps-clause-reads
returns-in_err-maps-clause-reads g c = read_on c.load_log.ensures.reads.reads c.load_maps.ensures.reads.reads

pub returns-in_err-maps-clause-cause : goal.returns-in_err-maps-clause-cause
returns-in_err-maps-clause-cause g c =
    let p = err_from_is_err_and c.from_residual-in_err-maps.result c.from_residual-in_err-maps.ensures.1 in
    rw (p.1, p.2) (risen_before _ _ _ c.in_err-maps.field-0.0 c.load_log.ensures.reads.kept c.in_err-maps.ensures.cause)

pub returns-in_err-groups-clause-refused : goal.returns-in_err-groups-clause-refused
returns-in_err-groups-clause-refused g c =
    let p = err_from_is_err_and c.from_residual-in_err-groups.result c.from_residual-in_err-groups.ensures.1 in
    let same = c.load_maps.ensures.reads.reads.same.seen ∙ c.load_log.ensures.reads.reads.same.seen in
    rw (p.1, p.2) (λ image at. names_refused image _
    (λ block rule broken. (
      OfGroup broken.0,
      (
        c.in_ok-uuid.uuid,
        c.in_ok-uuid.ensures.clean image at,
        c.in_ok-maps.ensures.right image (c.load_log.ensures.reads.reads.same.seen ∙ at),
        broken.1,
      ),
    ))
    c.in_err-groups.field-0.0 (c.in_err-groups.ensures.refused image (same ∙ at)))

pub returns-in_err-groups-clause-refusable : goal.returns-in_err-groups-clause-refusable
returns-in_err-groups-clause-refusable g c =
    let p = err_from_is_err_and c.from_residual-in_err-groups.result c.from_residual-in_err-groups.ensures.1 in
    rw (p.1, p.2) (of_image (λ _. WasSeen (g.D.Disk.view c.args.disk.now).seen IsReadable) c.in_err-groups.field-0.0 c.in_ok-uuid.ensures.readable)

pub returns-in_err-groups-clause-reads : goal.returns-in_err-groups-clause-reads
returns-in_err-groups-clause-reads g c = read_on (read_on c.load_log.ensures.reads.reads c.load_maps.ensures.reads.reads) c.load_groups.ensures.reads.reads

pub returns-in_err-groups-clause-cause : goal.returns-in_err-groups-clause-cause
returns-in_err-groups-clause-cause g c =
    let p = err_from_is_err_and c.from_residual-in_err-groups.result c.from_residual-in_err-groups.ensures.1 in
    let first = c.load_log.ensures.reads.kept in
    let second = c.load_maps.ensures.reads.kept in
    rw (p.1, p.2) (risen_before _ _ _ c.in_err-groups.field-0.0 (omega (arith, first, second)) c.in_err-groups.ensures.cause)

pub returns-clause-loaded : goal.returns-clause-loaded
returns-clause-loaded g c image at =
    let log = c.load_log.ensures.reads.reads.same.seen in
    let maps = c.load_maps.ensures.reads.reads.same.seen in
    record {
      uuid = c.in_ok-uuid.uuid;
      clean = record {
        log = c.in_ok-uuid.ensures.clean image at;
        files = c.in_ok-maps.ensures.right image (log ∙ at);
        groups = c.in_ok-groups.ensures.right image (maps ∙ log ∙ at);
      };
      maps = c.in_ok-maps.ensures.maps image (log ∙ at);
      groups = c.in_ok-groups.ensures.groups image (maps ∙ log ∙ at);
    }

pub returns-clause-reads : goal.returns-clause-reads
returns-clause-reads g c = read_on (read_on c.load_log.ensures.reads.reads c.load_maps.ensures.reads.reads) c.load_groups.ensures.reads.reads
