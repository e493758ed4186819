use Rattle.std.proofs.Common.{◌≡◌, ◌≤◌, ◌∙◌, ◌++◌, ◌+◌, ℕ, List, [], ◌∷◌, length, arith, take, drop, sym, ap, bit_xor}
use Rattle.std.proofs.lemmas.List.{take_all, length-drop}
use Rattle.xr_base.specs.Checksum.{after_bytes, all_ones, without_four}
use Rattle.xr_base.specs.ChecksumLaws.{after_bytes-append}
use Rattle.xr_base.proofs.checksum.crc32c_without.Goals as goal

-- The remainder over the parts is that over the whole.
over_parts :
    (bytes : List ℕ) (at n before within after : ℕ) → before ≡ after_bytes all_ones (take at bytes)
    → within ≡ after_bytes before (0 ∷ 0 ∷ 0 ∷ 0 ∷ []) → after ≡ after_bytes within (take n (drop (at + 4) bytes))
    → length (drop (at + 4) bytes) ≤ n → after ≡ after_bytes all_ones (without_four at bytes)
over_parts bytes at n before within after is_before is_within is_after all =
    let front : List ℕ = take at bytes in
    let zeros : List ℕ = 0 ∷ 0 ∷ 0 ∷ 0 ∷ [] in
    let rest : List ℕ = drop (at + 4) bytes in
    is_after ∙ ap (after_bytes within) (take_all n rest all)
    ∙ ap (λ (r : ℕ). after_bytes r rest) (is_within ∙ ap (λ (r : ℕ). after_bytes r zeros) is_before ∙ sym (after_bytes-append all_ones front zeros))
    ∙ sym (after_bytes-append all_ones (front ++ zeros) rest)

pub returns : goal.returns
returns c =
    ap (λ (r : ℕ). bit_xor r all_ones)
    (over_parts c.args.bytes.now c.args.at _ _ _ _ c.remainder_over-before.ensures c.remainder_over-within.ensures c.remainder_over.ensures
    (simp length-drop (omega arith)))
