-- Parts of parts, and images that differ in a range alone.
use Rattle.std.proofs.Common.{◌≡◌, ℕ, ◌+◌, ◌-◌, ◌≤◌, List, ◌++◌, length, take, drop, sym, ap, subst, arith, ◌∙◌}
use Rattle.std.proofs.lemmas.Grind.{common_steps}
use Rattle.std.proofs.lemmas.List.{drop-take, drop-drop, length-take, length-drop}
use Rattle.xr_base.specs.Image.{overlaid, part}
use Rattle.xr_base.specs.ImageLaws.{laid_again}
use Rattle.xr_disk.specs.Crash.{SameOutside}

pub take_less : (n m : ℕ) (xs : List ℕ) → n ≤ m → take n (take m xs) ≡ take n xs
take_less n m xs less = grind (arith, common_steps)

pub part_in : (a k b m : ℕ) (image : List ℕ) → a + k ≤ m → part a k (part b m image) ≡ part (b + a) k image
part_in a k b m image fits =
    let e : m ≡ a + (m - a) = omega arith in
    ap (λ (n : ℕ). take k (drop a (take n (drop b image)))) e ∙ ap (take k) (drop-take a (m - a) (drop b image)) ∙ take_less k (m - a) (drop a (drop b image)) (omega arith)
    ∙ ap (take k) (drop-drop a b image)

-- a part that the range doesn't meet is the same
pub below_same : (at n place k : ℕ) (old new : List ℕ) → SameOutside at n old new → place + k ≤ at → part place k new ≡ part place k old
below_same at n place k old new same below =
    let front : (xs : List ℕ) → part place k xs ≡ part place k (take at xs) =
    λ xs. sym (ap (λ (n : ℕ). take k (drop place (take n xs))) (let e : at ≡ place + (at - place) = omega arith in e)
    ∙ ap (take k) (drop-take place (at - place) xs) ∙ take_less k (at - place) (drop place xs) (omega arith)) in
    front new ∙ ap (part place k) same.below ∙ sym (front old)

pub above_same : (at n place k : ℕ) (old new : List ℕ) → SameOutside at n old new → at + n ≤ place → part place k new ≡ part place k old
above_same at n place k old new same above =
    let back : (xs : List ℕ) → part place k xs ≡ part (place - (at + n)) k (drop (at + n) xs) =
    λ xs. ap (λ (m : ℕ). take k (drop m xs)) (let e : place ≡ at + n + (place - (at + n)) = omega arith in e) ∙ ap (take k) (sym (drop-drop (place - (at + n)) (at + n) xs)) in
    back new ∙ ap (part (place - (at + n)) k) same.above ∙ sym (back old)

-- what lies over the range wholly, or is put back there
pub over_same : (at : ℕ) (bytes old new : List ℕ) → SameOutside at (length bytes) old new → overlaid at bytes new ≡ overlaid at bytes old
over_same at bytes old new same = ap (λ (xs : List ℕ). xs ++ bytes ++ drop (at + length bytes) new) same.below ∙ ap (λ (xs : List ℕ). take at old ++ bytes ++ xs) same.above

pub undone_same : (at n : ℕ) (old new : List ℕ) → SameOutside at n old new → at + n ≤ length old → overlaid at (part at n old) new ≡ old
undone_same at n old new same fits =
    let long : length (part at n old) ≡ n = length-take n (drop at old) ∙ (let e = length-drop at old in omega (arith, e)) in
    over_same at (part at n old) old new (subst (λ (m : ℕ). SameOutside at m old new) (sym long) same) ∙ laid_again at n old fits

-- an image that holds the bytes in the range is the one with them laid over
pub wholly_done : (at : ℕ) (bytes old new : List ℕ) → SameOutside at (length bytes) old new → at + length bytes ≤ length old → part at (length bytes) new ≡ bytes
    → new ≡ overlaid at bytes old
wholly_done at bytes old new same fits there =
    sym (laid_again at (length bytes) new (let e = same.long in omega (arith, e))) ∙ ap (λ (xs : List ℕ). overlaid at xs new) there ∙ over_same at bytes old new same
