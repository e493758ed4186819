use Rattle.std.proofs.Common.{ℕ, List, ◌-◌, ◌++◌, length, ap, ◌∙◌, arith}
use Rattle.xr_record.specs.Record.{record_sectors, zeros}
use Rattle.xr_log.proofs.LayingLemmas.{laid_body, laid_padding}
use Rattle.xr_log.proofs.laying.lay_record.Goals as goal

pub seal-requires-clause-padding : goal.seal-requires-clause-padding
seal-requires-clause-padding c =
    let header : List ℕ = c.split_at_mut-header.result.0.now in
    let n : ℕ = length c.split_at_mut-header.result.1.now in
    laid_padding header c.args.body.now (header ++ c.lay_body.new.out) c.args.head.now.len n c.split_at_mut-header.ensures.front_len c.requires.len
    (omega (arith, c.requires.room, c.split_at_mut-header.ensures.back_len, c.split_at_mut-header.ensures.front_len))
    (ap (λ (xs : List ℕ). header ++ xs) c.lay_body.ensures)

pub returns : goal.returns
returns c =
    let header : List ℕ = c.split_at_mut-header.result.0.now in
    let n : ℕ = length c.split_at_mut-header.result.1.now in
    record {
      are = c.seal.ensures ∙ ap (record_sectors c.args.head.now)
          (laid_body header c.args.body.now (zeros (n - length c.args.body.now)) (header ++ c.lay_body.new.out) c.args.head.now.len
          c.split_at_mut-header.ensures.front_len c.requires.len (ap (λ (xs : List ℕ). header ++ xs) c.lay_body.ensures));
    }
