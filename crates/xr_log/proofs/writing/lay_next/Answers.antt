use Rattle.std.proofs.Common.{length, ◌∙◌, arith}
use Rattle.std.proofs.lemmas.List.{length-take-le}
use Rattle.xr_log.proofs.LayingLemmas.{laid_next}
use Rattle.xr_log.proofs.writing.lay_next.Goals as goal

pub returns-clause-laid : goal.returns-clause-laid
returns-clause-laid c =
    laid_next c.args.last.now c.args.anew c.args.uuid.now c.args.packer.now c.next_head-head.result c.ops.result (length c.body-body.result.now) c.record_bytes-size.result
    c.body-body.result.now c.lay_record.new.out c.args.sectors.now c.requires.placed c.requires.some c.requires.fresh c.body-body.ensures.body c.body-body.ensures.most
    c.ops.ensures.ops c.ops.type_inv (omega arith) c.next_head-head.ensures c.record_bytes-size.ensures.bytes c.lay_record.ensures
    (c.lay_record.auto.out ∙ length-take-le c.record_bytes-size.result c.args.sectors.now (omega (arith, c.record_bytes-size.ensures.most, c.requires.room)))
