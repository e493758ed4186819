use Rattle.std.proofs.Common.{ℕ, List, ◌++◌, length, ap, sym, ◌∙◌, arith}
use Rattle.xr_headers.specs.PaddedLaws.{zero_padded_is, zero_padded_none}
use Rattle.xr_scan.proofs.replay.lay_image.Goals as goal

pub returns : goal.returns
returns c =
    let image = c.args.image.now in
    let n : ℕ = length c.args.block.now in
    let m : ℕ = length c.split_at_mut-front.result.1.now in
    ap (λ (front : List ℕ). front ++ c.clear.new.out) c.copy_from_slice.ensures.after
    ∙ ap (λ (rest : List ℕ). image ++ rest) (c.clear.ensures ∙ zero_padded_none m)
    ∙ sym (zero_padded_is n m image (omega (arith, c.requires, c.split_at_mut-front.ensures.front_len, c.split_at_mut-front.ensures.back_len)))
