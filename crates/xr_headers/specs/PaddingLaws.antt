-- Zeros after bytes: their parts, and how fields that are written one after the other fill them.
use Rattle.std.proofs.Common.{◌≡◌, ℕ, zero, suc, ◌+◌, ◌-◌, ◌<◌, ◌≤◌, List, [], ◌∷◌, ◌++◌, length, take, drop, replicate, get_or, refl, sym, ap, ◌∙◌, arith}
use Rattle.std.proofs.lemmas.List.{append-nil, ext_get_or, get_or-drop, get_or_past, length-append, length-drop, length-replicate, take-append-drop}
use Rattle.xr_base.specs.Image.{overlaid}
use Rattle.xr_headers.specs.Padded.{zero_padded}
use Rattle.xr_headers.specs.PaddedLaws.{length-zero_padded, zero_padded_is, zero_padded_none}

pub get_or-zero_padded : (n : ℕ) (bytes : List ℕ) (k : ℕ) → k < n → get_or (zero_padded n bytes) k 0 ≡ get_or bytes k 0
unfolding zero_padded
get_or-zero_padded zero bytes k within = absurd (omega arith)
get_or-zero_padded (suc n) [] zero within = refl
get_or-zero_padded (suc n) [] (suc k) within = get_or-zero_padded n [] k (omega arith)
get_or-zero_padded (suc n) (byte ∷ bytes) zero within = refl
get_or-zero_padded (suc n) (byte ∷ bytes) (suc k) within = get_or-zero_padded n bytes k (omega arith)

pub take-zero_padded : (k n : ℕ) (bytes : List ℕ) → k ≤ n → take k (zero_padded n bytes) ≡ zero_padded k bytes
unfolding zero_padded
take-zero_padded zero n bytes fits = refl
take-zero_padded (suc k) zero bytes fits = absurd (omega arith)
take-zero_padded (suc k) (suc n) [] fits = ap (λ (rest : List ℕ). 0 ∷ rest) (take-zero_padded k n [] (omega arith))
take-zero_padded (suc k) (suc n) (byte ∷ bytes) fits = ap (λ (rest : List ℕ). byte ∷ rest) (take-zero_padded k n bytes (omega arith))

pub zero_padded-zero_padded : (k n : ℕ) (bytes : List ℕ) → length bytes ≤ k → k ≤ n → zero_padded n (zero_padded k bytes) ≡ zero_padded n bytes
unfolding zero_padded
zero_padded-zero_padded zero n [] short fits = refl
zero_padded-zero_padded zero n (byte ∷ bytes) short fits = absurd (omega arith)
zero_padded-zero_padded (suc k) zero bytes short fits = absurd (omega arith)
zero_padded-zero_padded (suc k) (suc n) [] short fits = ap (λ (rest : List ℕ). 0 ∷ rest) (zero_padded-zero_padded k n [] (omega arith) (omega arith))
zero_padded-zero_padded (suc k) (suc n) (byte ∷ bytes) short fits =
    ap (λ (rest : List ℕ). byte ∷ rest) (zero_padded-zero_padded k n bytes (omega arith) (omega arith))

-- longer bytes written over the front
pub append-drop-zero_padded : (n : ℕ) (bytes front : List ℕ) → length front ≤ length bytes → length bytes ≤ n
    → bytes ++ drop (length bytes) (zero_padded n front) ≡ zero_padded n bytes
unfolding zero_padded
append-drop-zero_padded n [] [] over fits = refl
append-drop-zero_padded n [] (first ∷ front) over fits = absurd (omega arith)
append-drop-zero_padded zero (byte ∷ bytes) front over fits = absurd (omega arith)
append-drop-zero_padded (suc n) (byte ∷ bytes) [] over fits =
    ap (λ (rest : List ℕ). byte ∷ rest) (append-drop-zero_padded n bytes [] (omega arith) (omega arith))
append-drop-zero_padded (suc n) (byte ∷ bytes) (first ∷ front) over fits =
    ap (λ (rest : List ℕ). byte ∷ rest) (append-drop-zero_padded n bytes front (omega arith) (omega arith))

-- a field written so many zeros after the front
pub written_after : (n k : ℕ) (front bytes : List ℕ) (at : ℕ) (old new : List ℕ) → old ≡ zero_padded n front → length front + k ≡ at
    → at + length bytes ≤ n → new ≡ overlaid at bytes old → new ≡ zero_padded n (front ++ replicate k 0 ++ bytes)
written_after n k front bytes at old new was place fits is =
    let before : List ℕ = front ++ replicate k 0 in
    let long : length (before ++ bytes) ≡ at + length bytes =
    length-append before bytes ∙ ap (λ (m : ℕ). m + length bytes) (length-append front (replicate k 0) ∙ omega (arith, length-replicate {A = ℕ} k 0)) in
    let taken : take at old ≡ before =
    ap (take at) was ∙ take-zero_padded at n front (omega arith) ∙ zero_padded_is at k front place in
    is ∙ rw (taken, was, ← long) (append-drop-zero_padded n (before ++ bytes) front (omega arith) (omega arith))

-- the next field
pub written_next : (n : ℕ) (front bytes : List ℕ) (at : ℕ) (old new : List ℕ) → old ≡ zero_padded n front → length front ≡ at
    → at + length bytes ≤ n → new ≡ overlaid at bytes old → new ≡ zero_padded n (front ++ bytes)
written_next n front bytes at old new was place fits is =
    written_after n 0 front bytes at old new was (omega arith) fits is ∙ ap (λ (before : List ℕ). zero_padded n (before ++ bytes)) (append-nil front)

-- bytes put over the whole front
pub zero_padded_over : (n k : ℕ) (front bytes put old : List ℕ) → put ≡ bytes → old ≡ zero_padded n front → length bytes ≡ k → length front ≤ k → k ≤ n
    → put ++ drop k old ≡ zero_padded n bytes
zero_padded_over n k front bytes put old is was long over fits =
    rw (is, was, ← long) (append-drop-zero_padded n bytes front (omega arith) (omega arith))

-- bytes that are all zero
pub zeros_are : (n : ℕ) (bytes : List ℕ) → length bytes ≡ n → ((k : ℕ) → k < n → get_or bytes k 0 ≡ 0) → bytes ≡ zero_padded n []
zeros_are n bytes long zeros =
    ext_get_or 0 bytes (zero_padded n []) (long ∙ sym (length-zero_padded n []))
    (λ (k : ℕ) (below : k < length bytes). let within : k < n = omega arith in zeros k within ∙ sym (get_or-zero_padded n [] k within))

-- bytes are some front with zeros after it exactly where both parts are
pub padded_from_parts : (n k : ℕ) (bytes front rest : List ℕ) → rest ≡ drop k bytes → length bytes ≡ n → length front ≡ k → k ≤ n → take k bytes ≡ front
    → ((j : ℕ) → j < length rest → get_or rest j 0 ≡ 0) → bytes ≡ zero_padded n front
padded_from_parts n k bytes front rest is long_bytes long fits begins zeros =
    let long_rest : length rest ≡ n - k = ap length is ∙ length-drop k bytes ∙ ap (λ (m : ℕ). m - k) long_bytes in
    sym (take-append-drop k bytes)
    ∙ rw (← is, begins, zeros_are (n - k) rest long_rest (λ (j : ℕ) (below : j < n - k). zeros j (omega arith)), zero_padded_none (n - k))
    (sym (zero_padded_is n (n - k) front (omega arith)))

pub front_from_padded : (n k : ℕ) (bytes front : List ℕ) → length front ≡ k → k ≤ n → bytes ≡ zero_padded n front → take k bytes ≡ front
front_from_padded n k bytes front long fits is =
    ap (take k) is ∙ take-zero_padded k n front fits ∙ zero_padded_is k 0 front (omega arith) ∙ append-nil front

pub zeros_from_padded : (n k : ℕ) (bytes front rest : List ℕ) → rest ≡ drop k bytes → length front ≡ k → bytes ≡ zero_padded n front
    → (j : ℕ) → j < length rest → get_or rest j 0 ≡ 0
zeros_from_padded n k bytes front rest parts long is j below =
    let long_bytes : length bytes ≡ n = ap length is ∙ length-zero_padded n front in
    let long_rest : length rest ≡ n - k = ap length parts ∙ length-drop k bytes ∙ ap (λ (m : ℕ). m - k) long_bytes in
    let within : k + j < n = omega arith in
    ap (λ (xs : List ℕ). get_or xs j 0) parts ∙ get_or-drop k bytes j 0 ∙ ap (λ (xs : List ℕ). get_or xs (k + j) 0) is ∙ get_or-zero_padded n front (k + j) within
    ∙ get_or_past front (k + j) 0 (omega arith)
