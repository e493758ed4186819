use Rattle.std.proofs.Common.{◌≡◌, ℕ, ◌+◌, ◌-◌, ◌*◌, ◌<◌, ◌≤◌, ◌∙◌, List, ◌++◌, length, drop, replicate, refl, ap, arith}
use Rattle.std.proofs.lemmas.List.{drop-replicate}
use Rattle.xr_record.specs.Record.{sectors_of, zeros, padded_body}
use Rattle.xr_commit.proofs.tests.scratch_for.Goals as goal

-- zeros stand after a body that was copied over zeros
zeros_after : (body copied rest : List ℕ) → 0 < length body → length body ≤ 512 → copied ≡ body → rest ≡ drop (512 + length body - 512) (drop 512 (replicate 1024 0))
    → copied ++ rest ≡ padded_body body
unfolding zeros
zeros_after body copied rest some most same is =
    let left : 1024 - 512 - (512 + length body - 512) ≡ 512 * sectors_of (length body) - length body = omega arith in
    ap (λ (xs : List ℕ). xs ++ rest) same ∙ ap (λ (xs : List ℕ). body ++ xs) (is ∙ ap (drop (512 + length body - 512)) (drop-replicate {X = ℕ} 512 1024 0) ∙ drop-replicate {X = ℕ} (512 + length body - 512) (1024 - 512) 0 ∙ ap (λ (n : ℕ). let x : List ℕ = replicate n 0 in x) left)

pub returns-clause-padding : goal.returns-clause-padding
returns-clause-padding c = zeros_after c.args.body.now c.copy_from_slice.new.self _ c.requires.some c.requires.most c.copy_from_slice.ensures.after refl
