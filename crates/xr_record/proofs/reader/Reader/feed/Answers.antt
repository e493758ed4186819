use Rattle.std.proofs.Common.{ap, sym, subst}
use Rattle.xr_record.specs.Reading.{Reading}
use Rattle.xr_record.specs.Rules.{ReadsTo, ReaderState}
use Rattle.xr_record.proofs.reader.Reader.feed.Goals as goal

pub returns-in-Err-clause-fault : goal.returns-in-Err-clause-fault
returns-in-Err-clause-fault c before es r =
    c.in-Err.ensures.fault before es (subst (λ (h : ReaderState). ReadsTo before es h) (sym (ap (λ (v : Reading). v.held) c.self.view_is)) r.reads)
