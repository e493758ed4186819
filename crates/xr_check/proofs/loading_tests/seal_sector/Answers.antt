use Rattle.std.proofs.Common.{◌≡◌, ◌∙◌, ℕ, List, [], ◌++◌, length, take, drop, ap, sym, arith}
use Rattle.std.proofs.lemmas.List.{append-nil, length-drop, take_all}
use Rattle.xr_record.specs.Record.{padded_body, zeros}
use Rattle.xr_check.proofs.loading_tests.seal_sector.Goals as goal

-- nothing is behind a body that fills its sector
full : (xs : List ℕ) → length xs ≡ 512 → xs ≡ padded_body xs
unfolding zeros
full xs long = rw long (sym (append-nil xs))

pub seal-requires-clause-padding : goal.seal-requires-clause-padding
seal-requires-clause-padding c =
    let bytes = c.args.sectors.now in
    let rest : List ℕ = drop 512 bytes in
    let long : length rest ≡ 512 = length-drop 512 bytes ∙ omega (arith, c.requires.room) in
    full rest long
    ∙ ap padded_body (sym (take_all 512 rest (omega (arith, long))) ∙ ap (λ (n : ℕ). take n rest) (sym c.requires.len))
