use Rattle.std.proofs.Common.{◌≡◌, ℕ, ◌+◌, ◌-◌, ◌*◌, ◌∙◌, List, ◌++◌, length, take, drop, replicate, refl, sym, ap, arith}
use Rattle.std.proofs.lemmas.List.{append_assoc, drop-replicate, drop_at, length-replicate, length-take-le, take_at}
use Rattle.xr_base.specs.Image.{overlaid, part}
use Rattle.xr_record.specs.Record.{sectors_of, zeros, padded_body}
use Rattle.xr_record.proofs.tests.unsealed.Goals as goal

-- a body in a room of zeros has its padding
room_padded : (l len : ℕ) (body p items w : List ℕ) → length body ≡ len → p ≡ overlaid 512 body (replicate (512 + 512 * sectors_of len) 0) → l ≡ length p
    → w ≡ take l (p ++ drop (length p) items) → drop 512 w ≡ padded_body (part 512 len w)
unfolding zeros
room_padded l len body p items w e is h k =
    let z : List ℕ = replicate (512 + 512 * sectors_of len) 0 in
    let same : w ≡ p = k ∙ take_at p (drop (length p) items) l (sym h) in
    let front : length (take 512 z) ≡ 512 = length-take-le 512 z (omega (arith, length-replicate {A = ℕ} (512 + 512 * sectors_of len) 0)) in
    let rest : drop (512 + length body) z ≡ replicate (512 * sectors_of len - len) 0 =
    let n : 512 + 512 * sectors_of len - (512 + length body) ≡ 512 * sectors_of len - len = omega arith in
    drop-replicate {X = ℕ} (512 + length body) (512 + 512 * sectors_of len) 0 ∙ ap (λ (n : ℕ). let x : List ℕ = replicate n 0 in x) n in
    let below : drop 512 w ≡ body ++ replicate (512 * sectors_of len - len) 0 =
    ap (drop 512) (same ∙ is ∙ append_assoc (take 512 z) body (drop (512 + length body) z)) ∙ drop_at (take 512 z) (body ++ drop (512 + length body) z) 512 front ∙ ap (λ (xs : List ℕ). body ++ xs) rest in
    rw (below, take_at body (replicate (512 * sectors_of len - len) 0) len e, e) refl

pub returns-clause-padding : goal.returns-clause-padding
returns-clause-padding c =
    let zero : c.in_ok-out.out.items ≡ replicate (512 + 512 * sectors_of c.args.len) 0 =
    rw (← c.sectors_of.ensures) (c.in_ok-out.ensures.items_if_clones_equal (λ y e. e)) in
    room_padded _ _ c.args.body.now c.put.new.out _ _ c.requires (c.put.ensures ∙ ap (overlaid 512 c.args.body.now) (c.deref_mut.ensures.value ∙ zero)) (omega arith) refl
