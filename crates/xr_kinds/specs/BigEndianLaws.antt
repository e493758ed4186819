-- Numbers as big-endian bytes: the bytes of a number that was read are the bytes that it was read from.
use Rattle.std.proofs.Common.{◌≡◌, ℕ, zero, suc, ◌+◌, ◌*◌, ◌^◌, ◌/◌, ◌<◌, ◌≤◌, List, [], ◌∷◌, ◌++◌, length, take, drop, slice_index, refl, sym, ap, ◌∙◌, arith, ⊎_elim}
use Rattle.std.proofs.Math.Nat.{mod-lt, mul-le-mul_right}
use Rattle.std.proofs.lemmas.Bool.{cases_lt}
use Rattle.std.proofs.lemmas.List.{append-nil, drop_at, get_or-drop, get_or-take, get_or_past, length-take, length-take-le, take-append-drop}
use Rattle.std.specs.Int.{byte_at}
use Rattle.byteorder.specs.Endian.{big_bytes, big_from, big_number}
use Rattle.byteorder.specs.Numbers.{big_from-cons, big_from-lt, big_from-take, big_number-reads_back, length-bytes_high_first}
use Rattle.xr_base.specs.Fields.{AreBytes}

byte_small : (n x : ℕ) → byte_at n x < 256
byte_small zero x = omega arith
byte_small (suc n) x = mod-lt (x / 256 ^ suc n) (omega arith)

bytes_are : (n x : ℕ) → AreBytes (big_bytes n x)
bytes_are zero x i = omega arith
bytes_are (suc n) x zero = byte_small n x
bytes_are (suc n) x (suc i) = bytes_are n x i

bytes_after : (byte : ℕ) (bytes : List ℕ) → AreBytes (byte ∷ bytes) → AreBytes bytes
bytes_after byte bytes all i = all (suc i)

pub dropped_bytes : (n : ℕ) (bytes : List ℕ) → AreBytes bytes → AreBytes (drop n bytes)
dropped_bytes n bytes all i = rw (get_or-drop n bytes i 0) (all (n + i))

-- the digit before m can't be smaller where the sums are equal
not_below : (m a b r s : ℕ) → a * m + r ≡ b * m + s → r < m → a < b → a ≡ b
not_below m a b r s same small below =
    let top : (a + 1) * m ≤ b * m = mul-le-mul_right m (omega arith) in absurd (omega arith)

digits_same : (m a b r s : ℕ) → a * m + r ≡ b * m + s → r < m → s < m → a ≡ b
digits_same m a b r s same small_r small_s = ⊎_elim
    (λ (below : a < b). not_below m a b r s same small_r below)
    (λ (above : b ≤ a). ⊎_elim (λ (below : b < a). sym (not_below m b a s r (sym same) small_s below)) (λ (up : a ≤ b). omega arith) (cases_lt b a))
    (cases_lt a b)

-- bytes are determined by their number
determined : (n : ℕ) (xs ys : List ℕ) → length xs ≡ n → length ys ≡ n → AreBytes xs → AreBytes ys → big_from 0 n xs ≡ big_from 0 n ys → xs ≡ ys
determined zero [] [] long_x long_y all_x all_y same = refl
determined zero [] (y ∷ ys) long_x long_y all_x all_y same = absurd (omega arith)
determined zero (x ∷ xs) ys long_x long_y all_x all_y same = absurd (omega arith)
determined (suc n) [] ys long_x long_y all_x all_y same = absurd (omega arith)
determined (suc n) (x ∷ xs) [] long_x long_y all_x all_y same = absurd (omega arith)
determined (suc n) (x ∷ xs) (y ∷ ys) long_x long_y all_x all_y same =
    let rest_x = bytes_after x xs all_x in
    let rest_y = bytes_after y ys all_y in
    let both : x * 256 ^ n + big_from 0 n xs ≡ y * 256 ^ n + big_from 0 n ys = rw (← big_from-cons 0 n x xs, ← big_from-cons 0 n y ys) same in
    let first : x ≡ y =
    digits_same (256 ^ n) x y (big_from 0 n xs) (big_from 0 n ys) both (big_from-lt 0 n xs rest_x) (big_from-lt 0 n ys rest_y) in
    let equal : x * 256 ^ n ≡ y * 256 ^ n = ap (λ (digit : ℕ). digit * 256 ^ n) first in
    let rest : xs ≡ ys = determined n xs ys (omega arith) (omega arith) rest_x rest_y (omega arith) in
    cc

-- so the bytes of the number in some bytes are these
pub bytes_again : (n : ℕ) (bytes : List ℕ) → length bytes ≡ n → AreBytes bytes → big_bytes n (big_number n bytes) ≡ bytes
bytes_again n bytes long all =
    let number : ℕ = big_number n bytes in
    let read : big_number n (big_bytes n number) ≡ number =
    ap (big_number n) (sym (append-nil (big_bytes n number))) ∙ big_number-reads_back n number [] (big_from-lt 0 n bytes all) in
    determined n (big_bytes n number) bytes (length-bytes_high_first n number) long (bytes_are n number) all read

pub taken_bytes : (n : ℕ) (bytes : List ℕ) → AreBytes bytes → AreBytes (take n bytes)
taken_bytes n bytes all i = ⊎_elim
    (λ (within : i < n). rw (get_or-take n bytes i 0 within) (all i))
    (λ (past : n ≤ i).
    let none : slice_index (take n bytes) i ≡ 0 = get_or_past (take n bytes) i 0 (omega (arith, length-take n bytes)) in
    omega arith)
    (cases_lt i n)

-- a field in front, and the fields after it
pub field_again : (n : ℕ) (bytes rest : List ℕ) → n ≤ length bytes → AreBytes bytes → rest ≡ drop n bytes → big_bytes n (big_number n bytes) ++ rest ≡ bytes
field_again n bytes rest room all is =
    let front : big_number n bytes ≡ big_number n (take n bytes) = sym (big_from-take 0 n n bytes (omega arith)) in
    rw (front, bytes_again n (take n bytes) (length-take-le n bytes room) (taken_bytes n bytes all), is) (take-append-drop n bytes)

-- what stands after a field
pub drop-bytes : (n x : ℕ) (rest : List ℕ) → drop n (big_bytes n x ++ rest) ≡ rest
drop-bytes n x rest = drop_at (big_bytes n x) rest n (length-bytes_high_first n x)

-- a field alone
pub reads_alone : (n x : ℕ) → x < 256 ^ n → big_number n (big_bytes n x) ≡ x
reads_alone n x small = ap (big_number n) (sym (append-nil (big_bytes n x))) ∙ big_number-reads_back n x [] small
