use Rattle.std.proofs.Common.{◌≡◌, ◌∙◌, ℕ, take, sym, ap, arith}
use Rattle.std.proofs.lemmas.List.{length-take-le}
use Rattle.xr_base.specs.declared.geometry.TheConstants.{BLOCK_BYTES}
use Rattle.xr_base.specs.declared.layout.TheConstants.{RECORD_CRC_PLACE}
use Rattle.xr_headers.specs.PaddedLaws.{length-with_crc_padded}
use Rattle.xr_headers.specs.FreshImage.{unmount_fields}
use Rattle.xr_headers.specs.Padded.{zero_padded}
use Rattle.xr_headers.specs.PaddingLaws.{zero_padded_over, take-zero_padded}
use Rattle.xr_headers.proofs.fresh_log.put_fresh_log.Goals as goal
use Rattle.xr_base.specs.Checksum.{with_crc}

pub slice_bounds-seal-end-2 : goal.slice_bounds-seal-end-2
slice_bounds-seal-end-2 c = sym (length-take-le 1024 c.lay_record.new.out (omega arith))

pub seal-requires : goal.seal-requires
seal-requires c = omega (arith, length-take-le 1024 c.lay_record.new.out (omega arith))

pub returns : goal.returns
returns c =
    let fields = unmount_fields c.args.uuid.now c.args.cycle in
    let laid : c.lay_record.new.out ≡ zero_padded BLOCK_BYTES fields = c.lay_record.ensures.is ∙ ap (λ (n : ℕ). zero_padded n fields) c.requires in
    let two : c.seal.new.out ≡ with_crc RECORD_CRC_PLACE (zero_padded 1024 fields) =
    c.seal.ensures ∙ ap (with_crc RECORD_CRC_PLACE) (ap (take 1024) laid ∙ take-zero_padded 1024 BLOCK_BYTES fields (omega arith)) in
    zero_padded_over BLOCK_BYTES 1024 fields (with_crc RECORD_CRC_PLACE (zero_padded 1024 fields)) c.seal.new.out c.lay_record.new.out two laid
    (length-with_crc_padded RECORD_CRC_PLACE 1024 fields (omega arith)) (omega (arith, c.lay_record.ensures.long)) (omega arith)
