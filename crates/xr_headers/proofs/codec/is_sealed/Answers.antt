use Rattle.std.proofs.Common.{◌≡◌, ℕ, ◌+◌, ◌-◌, ◌∙◌, take, drop, ap, sym, arith}
use Rattle.std.proofs.lemmas.Bool.Decides.{Decides-eqb}
use Rattle.std.proofs.lemmas.Slice.Eq.{slice_eq-Decides}
use Rattle.xr_base.specs.Image.{part}
use Rattle.xr_base.specs.ChecksumLaws.{sum_from_with_crc, with_crc_from_sum}
use Rattle.xr_headers.proofs.codec.is_sealed.Goals as goal

pub returns : goal.returns
returns c =
    let four : c.args.at + 4 - c.args.at ≡ 4 = omega arith in
    let same = slice_eq-Decides Decides-eqb _ _ _ c.eq.ensures in
    let reads : take (c.args.at + 4 - c.args.at) (drop c.args.at c.args.bytes.now) ≡ part c.args.at 4 c.args.bytes.now =
    ap (λ (n : ℕ). take n (drop c.args.at c.args.bytes.now)) four in (
      λ yes. with_crc_from_sum c.args.at c.args.bytes.now c.requires (sym reads ∙ same.0 yes ∙ c.sum_bytes-sum.ensures),
      λ right. same.1 (reads ∙ sum_from_with_crc c.args.at c.args.bytes.now c.requires right ∙ sym c.sum_bytes-sum.ensures),
    )
