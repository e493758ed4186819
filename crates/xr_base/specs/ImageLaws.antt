-- What of an image stays and changes where other bytes are laid over it, and an image by its blocks.
use Rattle.std.specs.Prelude.{◌≡◌, ◌≢◌, ℕ, zero, suc, ◌+◌, ◌*◌, ◌<◌, ◌≤◌, List, ◌++◌, length, take, drop}
use Rattle.std.proofs.Common.{◌∙◌, ◌-◌, ap, sym, arith, refl, ⊎_elim}
use Rattle.std.proofs.lemmas.Grind.{common_steps}
use Rattle.std.proofs.lemmas.Bool.{cases_lt}
use Rattle.std.proofs.lemmas.List.{take_all, take-append-le, drop-append-le, append_assoc, take-append-drop, length-append, length-drop, length-take-le, drop-drop}
use Rattle.std.proofs.Math.Seq.{take-add, drop-append-add}
use Rattle.xr_base.specs.declared.geometry.TheConstants.{BLOCK_BYTES}
use Rattle.xr_base.specs.Image.{part, overlaid, block_of, blocks_below}

pub length-overlaid : (at : ℕ) (bytes image : List ℕ) → at + length bytes ≤ length image → length (overlaid at bytes image) ≡ length image
length-overlaid at bytes image fits = grind (arith, common_steps)

-- what was laid there, and what stands before and after it
pub part-overlaid : (at n : ℕ) (bytes image : List ℕ) → length bytes ≡ n → at + n ≤ length image → part at n (overlaid at bytes image) ≡ bytes
part-overlaid at n bytes image long fits = grind (arith, common_steps)

pub part-front : (place n : ℕ) (front rest : List ℕ) → place + n ≤ length front → part place n (front ++ rest) ≡ part place n front
part-front place n front rest within =
    ap (take n) (drop-append-le place front rest (omega arith))
    ∙ take-append-le n (drop place front) rest (simp length-drop (omega arith))

pub part_below : (at n place : ℕ) (bytes image : List ℕ) → place + n ≤ at → at ≤ length image → part place n (overlaid at bytes image) ≡ part place n image
part_below at n place bytes image below fits =
    let front : length (take at image) ≡ at = length-take-le at image fits in
    part-front place n (take at image ++ bytes) (drop (at + length bytes) image) (simp length-append (omega arith))
    ∙ part-front place n (take at image) bytes (omega arith)
    ∙ sym (part-front place n (take at image) (drop at image) (omega arith))
    ∙ ap (part place n) (take-append-drop at image)

pub part_above : (at n place : ℕ) (bytes image : List ℕ) → at + length bytes ≤ place → at ≤ length image → part place n (overlaid at bytes image) ≡ part place n image
part_above at n place bytes image above fits =
    let front : length (take at image ++ bytes) ≡ at + length bytes = simp length-append (omega (arith, length-take-le at image fits)) in
    let k : ℕ = place - (at + length bytes) in
    ap (take n) (ap (λ (m : ℕ). drop m (overlaid at bytes image)) (let e : place ≡ length (take at image ++ bytes) + k = omega arith in e)
    ∙ drop-append-add (take at image ++ bytes) (drop (at + length bytes) image) k
    ∙ drop-drop k (at + length bytes) image
    ∙ ap (λ (m : ℕ). drop m image) (let e : at + length bytes + k ≡ place = omega arith in e))

-- blocks: the one that was written, and the others
pub block_of-overlaid : (k : ℕ) (bytes image : List ℕ) → length bytes ≡ BLOCK_BYTES → BLOCK_BYTES * (k + 1) ≤ length image
    → block_of (overlaid (BLOCK_BYTES * k) bytes image) k ≡ bytes
block_of-overlaid k bytes image long fits = part-overlaid (BLOCK_BYTES * k) BLOCK_BYTES bytes image long (omega arith)

pub block_of-overlaid_other : (j k : ℕ) (bytes image : List ℕ) → j ≢ k → length bytes ≡ BLOCK_BYTES → BLOCK_BYTES * (k + 1) ≤ length image
    → block_of (overlaid (BLOCK_BYTES * k) bytes image) j ≡ block_of image j
block_of-overlaid_other j k bytes image differ long fits = ⊎_elim
    (λ (below : j < k). part_below (BLOCK_BYTES * k) BLOCK_BYTES (BLOCK_BYTES * j) bytes image (omega arith) (omega arith))
    (λ (above : k ≤ j). part_above (BLOCK_BYTES * k) BLOCK_BYTES (BLOCK_BYTES * j) bytes image (omega arith) (omega arith))
    (cases_lt j k)

-- an image is the image of its blocks
front_of_blocks : (block : ℕ → List ℕ) (n : ℕ) (image : List ℕ) → BLOCK_BYTES * n ≤ length image → ((k : ℕ) → k < n → block_of image k ≡ block k)
    → take (BLOCK_BYTES * n) image ≡ blocks_below block n
unfolding blocks_below
front_of_blocks block zero image long each = refl
front_of_blocks block (suc n) image long each =
    ap (λ (m : ℕ). take m image) (let e : BLOCK_BYTES * suc n ≡ BLOCK_BYTES * n + BLOCK_BYTES = omega arith in e)
    ∙ take-add (BLOCK_BYTES * n) BLOCK_BYTES image
    ∙ ap (λ (xs : List ℕ). xs ++ block_of image n) (front_of_blocks block n image (omega arith) (λ k below. each k (omega arith)))
    ∙ ap (λ (xs : List ℕ). blocks_below block n ++ xs) (each n (omega arith))

pub image_of_blocks : (block : ℕ → List ℕ) (n : ℕ) (image : List ℕ) → length image ≡ BLOCK_BYTES * n → ((k : ℕ) → k < n → block_of image k ≡ block k)
    → image ≡ blocks_below block n
image_of_blocks block n image long each =
    sym (take_all (BLOCK_BYTES * n) image (omega arith)) ∙ front_of_blocks block n image (omega arith) each

-- what stands after bytes that were laid over
pub drop_overlaid : (at k : ℕ) (bytes image : List ℕ) → at + length bytes ≤ k → at + length bytes ≤ length image
    → drop k (overlaid at bytes image) ≡ drop k image
drop_overlaid at k bytes image after fits =
    let front : List ℕ = take at image ++ bytes in
    let long : length front ≡ at + length bytes = length-append (take at image) bytes ∙ omega (arith, length-take-le at image (omega arith)) in
    let j : ℕ = k - (at + length bytes) in
    let place : k ≡ length front + j = omega arith in
    ap (λ (m : ℕ). drop m (overlaid at bytes image)) place
    ∙ drop-append-add front (drop (at + length bytes) image) j
    ∙ drop-drop j (at + length bytes) image
    ∙ ap (λ (m : ℕ). drop m image) (let e : at + length bytes + j ≡ k = omega arith in e)

-- what stands at a place, laid over it again
pub laid_again : (at n : ℕ) (bytes : List ℕ) → at + n ≤ length bytes → overlaid at (part at n bytes) bytes ≡ bytes
laid_again at n bytes fits =
    let long : length (part at n bytes) ≡ n = length-take-le n (drop at bytes) (omega (arith, length-drop at bytes)) in
    append_assoc (take at bytes) (part at n bytes) (drop (at + length (part at n bytes)) bytes)
    ∙ ap (λ (k : ℕ). take at bytes ++ (part at n bytes ++ drop (at + k) bytes)) long
    ∙ ap (λ (xs : List ℕ). take at bytes ++ (part at n bytes ++ xs)) (sym (drop-drop n at bytes))
    ∙ ap (λ (xs : List ℕ). take at bytes ++ xs) (take-append-drop n (drop at bytes)) ∙ take-append-drop at bytes
