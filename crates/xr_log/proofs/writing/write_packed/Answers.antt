use Rattle.std.proofs.Common.{◌+◌, take, ap, refl}
use Rattle.xr_log.proofs.DueLemmas.{written_keeps, written_runs}
use Rattle.xr_log.proofs.LayingLemmas.{written_at}
use Rattle.xr_log.proofs.writing.write_packed.Goals as goal

pub returns-in-Ok-clause-runs : goal.returns-in-Ok-clause-runs
returns-in-Ok-clause-runs g c = λ now said next states k own among.
    let old = c.args.held.now.growing in
    let new = c.lay_packed-size.new.growing in
    written_runs (g.D.Disk.view c.args.disk.now) (g.D.Disk.view c.write_record.new.disk) old.last old.anew old.packer now said next states k c.args.held.now.uuid
    new.last own c.requires.some old.room among c.lay_packed-size.result (64 + new.last.lsn.sector) (take c.lay_packed-size.result c.deref.result.now) new.sectors.items
    c.lay_packed-size.ensures.laid c.lay_packed-size.ensures.size (ap (take c.lay_packed-size.result) c.deref.ensures.value) refl c.write_record.ensures.runs

pub returns-in-Err-clause-runs : goal.returns-in-Err-clause-runs
returns-in-Err-clause-runs g c = λ now said next states k own among.
    let old = c.args.held.now.growing in
    let new = c.lay_packed-size.new.growing in
    written_runs (g.D.Disk.view c.args.disk.now) (g.D.Disk.view c.write_record.new.disk) old.last old.anew old.packer now said next states k c.args.held.now.uuid
    new.last own c.requires.some old.room among c.lay_packed-size.result (64 + new.last.lsn.sector) (take c.lay_packed-size.result c.deref.result.now) new.sectors.items
    c.lay_packed-size.ensures.laid c.lay_packed-size.ensures.size (ap (take c.lay_packed-size.result) c.deref.ensures.value) refl c.write_record.ensures.runs

pub returns-in-Ok-clause-kept : goal.returns-in-Ok-clause-kept
returns-in-Ok-clause-kept g c = λ now said next states k own.
    let old = c.args.held.now.growing in
    let new = c.lay_packed-size.new.growing in
    let laid = c.lay_packed-size.ensures.laid in
    written_keeps (g.D.Disk.view c.args.disk.now) (g.D.Disk.view c.write_record.new.disk) old.last old.anew new.anew old.packer new.packer now said next states k
    c.args.held.now.uuid new.last own laid.comes c.requires.some laid.most laid.ops laid.cycle old.room c.lay_packed-size.ensures.goes_on c.lay_packed-size.ensures.empty
    (64 + new.last.lsn.sector) (take c.lay_packed-size.result c.deref.result.now) refl
    (written_at (64 + new.last.lsn.sector) c.lay_packed-size.result new.last old.packer.body (take c.lay_packed-size.result c.deref.result.now) new.sectors.items refl
    c.lay_packed-size.ensures.size (ap (take c.lay_packed-size.result) c.deref.ensures.value) laid.laid)
    c.in-Ok.ensures.rests
