use Rattle.std.proofs.Common.{◌∙◌, ap, length, subst, sym}
use Rattle.xr_disk.specs.Runs.{read_on}
use Rattle.xr_commit.specs.LogRecords.{HasSuper}
use Rattle.xr_scan.proofs.ScanRefusalLemmas.{never_refused}
use Rattle.xr_scan.proofs.SomeImageLemmas.{some_image}
use Rattle.xr_scan.proofs.ScanningLemmas.{in_image}
use Rattle.xr_scan.proofs.scanning.scan.Goals as goal

pub returns-in_err-scan_over-clause-reads : goal.returns-in_err-scan_over-clause-reads
returns-in_err-scan_over-clause-reads g c = read_on c.read_live_items.ensures.reads c.read_homes.ensures.reads

pub returns-clause-scanned : goal.returns-clause-scanned
returns-clause-scanned g c image seen =
    let found = c.in_ok-found.ensures.found in
    let of_image = found.of_image image seen in
    let scanned = c.in_ok-scan_over.ensures in
    in_image image found.log c.in_ok-homes.homes.items c.in_ok-scan_over.field-0 (subst (HasSuper image) (sym scanned.uuid) of_image.0) of_image.1
    (c.in_ok-homes.ensures.homes image (c.read_live_items.ensures.reads.same.seen ∙ seen)) (scanned.scanned found.log found.found_in)

pub returns-clause-reads : goal.returns-clause-reads
returns-clause-reads g c = read_on c.read_live_items.ensures.reads c.read_homes.ensures.reads

pub returns-clause-taken : goal.returns-clause-taken
returns-clause-taken g c image seen = never_refused image c.in_ok-scan_over.field-0 (c.in_ok-found.ensures.bytes image seen) (returns-clause-scanned g c image seen)

pub returns-clause-some : goal.returns-clause-some
returns-clause-some g c =
    let found = c.in_ok-found.ensures.found in
    let scanned = c.in_ok-scan_over.ensures in
    let newest = found.found_in.live_in.newest in
    let some = some_image c.in_ok-found.found.live.uuid found.log c.in_ok-homes.homes.items (ap length (sym newest.at.own) ∙ newest.at.stands.sealed.stored.uuid) found.found_in.long
    (sym c.in_ok-homes.homes.ok.0 ∙ c.in_ok-homes.ensures.long) in (
      some.0,
      in_image some.0 found.log c.in_ok-homes.homes.items c.in_ok-scan_over.field-0 (subst (HasSuper some.0) (sym scanned.uuid) some.1.superblock) some.1.log_is some.1.at_home
          (scanned.scanned found.log found.found_in),
    )
