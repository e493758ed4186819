use Rattle.xr_log.proofs.WritingLemmas.{rests_over, runs_over, sync_runs, sync_told, write_runs, write_told}
use Rattle.xr_log.proofs.writing.write_record.Goals as goal

pub returns-in_err-write-clause-runs : goal.returns-in_err-write-clause-runs
returns-in_err-write-clause-runs g c = λ r now said next states m w among.
    let old = g.D.Disk.view c.args.disk.now in
    let mid = g.D.Disk.view c.write.new.self in
    runs_over old mid r now said next states m among
    (write_runs old mid c.args.at c.args.bytes.now r now said next states c.write.result m w c.write.ensures.call c.write.ensures.torn)
    (write_told old mid c.args.at c.args.bytes.now m.image c.write.ensures.torn m.rest.seen)

pub returns-clause-runs : goal.returns-clause-runs
returns-clause-runs g c = λ r now said next states m w among.
    let old = g.D.Disk.view c.args.disk.now in
    let mid = g.D.Disk.view c.write.new.self in
    let new = g.D.Disk.view c.sync.new.self in
    let told = write_told old mid c.args.at c.args.bytes.now m.image c.write.ensures.torn m.rest.seen in
    runs_over old new r now said next states m among
    (sync_runs old mid new c.args.at c.args.bytes.now r now said next states c.sync.result m w
    (write_runs old mid c.args.at c.args.bytes.now r now said next states c.write.result m w c.write.ensures.call c.write.ensures.torn)
    c.sync.ensures.call c.sync.ensures.durable c.sync.ensures.failed c.in_ok-write.ensures.written)
    (sync_told mid new c.sync.result told.0 c.sync.ensures.durable c.sync.ensures.failed told.1)

pub returns-clause-rests : goal.returns-clause-rests
returns-clause-rests g c =
    rests_over (g.D.Disk.view c.args.disk.now) (g.D.Disk.view c.write.new.self) (g.D.Disk.view c.sync.new.self) c.args.at c.args.bytes.now c.sync.result
    c.sync.ensures.durable c.in_ok-write.ensures.written
