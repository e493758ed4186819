use Rattle.std.proofs.Common.{◌≡◌, ℕ, ◌-◌, ◌*◌, ◌∙◌, List, ◌++◌, length, drop, replicate, refl, ap, arith}
use Rattle.std.proofs.lemmas.List.{append_assoc, drop_at, length-replicate, take_at}
use Rattle.xr_base.specs.Image.{part}
use Rattle.xr_record.specs.Record.{sectors_of, zeros, padded_body}
use Rattle.xr_scan.proofs.tests.sealed.Goals as goal

-- zeros stand behind a body
padded_behind : (len : ℕ) (front body rest out : List ℕ) → length front ≡ 512 → length body ≡ len → rest ≡ replicate (512 * sectors_of len - len) 0
    → out ≡ (front ++ body) ++ rest → drop 512 out ≡ padded_body (part 512 len out)
unfolding zeros
padded_behind len front body rest out long e zero is =
    let below : drop 512 out ≡ body ++ rest = ap (drop 512) (is ∙ append_assoc front body rest) ∙ drop_at front (body ++ rest) 512 long in
    rw (below, take_at body rest len e, e, zero) refl

pub seal-requires-clause-padding : goal.seal-requires-clause-padding
seal-requires-clause-padding c =
    let len = c.args.head.now.len in
    let body = c.args.body.now in
    let front = c.in_ok-out.out.items in
    let sized : 512 * c.div_ceil.result - length body ≡ 512 * sectors_of len - len = omega (arith, c.div_ceil.ensures, c.requires.len) in
    padded_behind len front body c.in_ok-padding.padding.items c.deref_mut.result.now
    (ap length (c.in_ok-out.ensures.items_if_clones_equal (λ y e. e)) ∙ length-replicate {A = ℕ} 512 0) c.requires.len
    (c.in_ok-padding.ensures.items_if_clones_equal (λ y e. e) ∙ ap (λ (n : ℕ). let x : List ℕ = replicate n 0 in x) sized)
    (c.deref_mut.ensures.value ∙ c.in_ok-extend_from_slice-2.ensures.items ∙ ap (λ (xs : List ℕ). xs ++ c.deref.result.now) c.in_ok-extend_from_slice.ensures.items
    ∙ ap (λ (xs : List ℕ). (front ++ body) ++ xs) c.deref.ensures.value)
