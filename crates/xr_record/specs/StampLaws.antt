-- Words that are moved into the header and put back.
use Rattle.std.proofs.Common.{◌/◌, ◌%◌, ◌≡◌, ℕ, zero, suc, ◌+◌, ◌*◌, ◌<◌, ◌≤◌, ◌^◌, List, [], ◌∷◌, ◌++◌, length, get_or, take, drop, refl, sym, ap, ◌∙◌, arith}
use Rattle.std.proofs.lemmas.List.{append_assoc, drop-drop, drop_at, take_at, take-append-le, take-append-drop, drop-append-le, length-append, length-take-le, length-drop}
use Rattle.byteorder.specs.Endian.{big_bytes, big_number}
use Rattle.byteorder.specs.Numbers.{big_number-reads_back}
use Rattle.xr_record.specs.Record.{moved, stamped, restored}
use Rattle.xr_record.specs.OverlayLaws.{take-add}

-- the parts of a sector and what follows it
take_word : (w t r : List ℕ) → length w ≡ 4 → take 4 ((w ++ t) ++ r) ≡ w
take_word w t r e = rw (append_assoc w t r) (take_at w (t ++ r) 4 e)

take_tail : (w t r : List ℕ) → length w ≡ 4 → length t ≡ 508 → take 508 (drop 4 ((w ++ t) ++ r)) ≡ t
take_tail w t r e f = rw (append_assoc w t r, drop_at w (t ++ r) 4 e) (take_at t r 508 f)

drop_sector : (w t r : List ℕ) → length w ≡ 4 → length t ≡ 508 → drop 512 ((w ++ t) ++ r) ≡ r
drop_sector w t r e f = drop_at (w ++ t) r 512 (omega (arith, length-append w t))

tail_length : (n : ℕ) (bytes : List ℕ) → 512 * suc n ≤ length bytes → length (take 508 (drop 4 bytes)) ≡ 508
tail_length n bytes h = length-take-le 508 (drop 4 bytes) (omega (arith, length-drop 4 bytes))

rest_length : (n : ℕ) (bytes : List ℕ) → 512 * suc n ≤ length bytes → 512 * n ≤ length (drop 512 bytes)
rest_length n bytes h = omega (arith, length-drop 512 bytes)

-- what is moved from sectors whose words were put back are those words
pub moved-restored : (n : ℕ) (words bytes : List ℕ) → 4 * n ≤ length words → 512 * n ≤ length bytes
    → moved n (restored n words bytes) ≡ take (4 * n) words
moved-restored zero words bytes h k = refl
moved-restored (suc n) words bytes h k =
    let w : length (take 4 words) ≡ 4 = length-take-le 4 words (omega arith) in
    let t = tail_length n bytes k in
    let r = restored n (drop 4 words) (drop 512 bytes) in
    let next : 4 * suc n ≡ 4 + 4 * n = omega arith in
    rw (
      take_word (take 4 words) (take 508 (drop 4 bytes)) r w,
      drop_sector (take 4 words) (take 508 (drop 4 bytes)) r w t,
      moved-restored n (drop 4 words) (drop 512 bytes) (omega (arith, length-drop 4 words)) (rest_length n bytes k),
      next,
      take-add 4 (4 * n) words,
    ) refl

-- stamping again what was put back, where each sector began with the stamp
pub stamped-restored : (n : ℕ) (stamp words bytes : List ℕ) → 4 * n ≤ length words → 512 * n ≤ length bytes
    → ((i : ℕ) → i < n → take 4 (drop (512 * i) bytes) ≡ stamp) → stamped stamp n (restored n words bytes) ≡ bytes
stamped-restored zero stamp words bytes h k each = refl
stamped-restored (suc n) stamp words bytes h k each =
    let w : length (take 4 words) ≡ 4 = length-take-le 4 words (omega arith) in
    let t = tail_length n bytes k in
    let r = restored n (drop 4 words) (drop 512 bytes) in
    let first : take 4 bytes ≡ stamp = each 0 (omega arith) in
    let rest : stamped stamp n r ≡ drop 512 bytes =
    stamped-restored n stamp (drop 4 words) (drop 512 bytes) (omega (arith, length-drop 4 words)) (rest_length n bytes k)
    (λ i lt. let e : 512 * suc i ≡ 512 + 512 * i = omega arith in rw (drop-drop (512 * i) 512 bytes, ← e) (each (suc i) (omega arith))) in
    rw (take_tail (take 4 words) (take 508 (drop 4 bytes)) r w t, drop_sector (take 4 words) (take 508 (drop 4 bytes)) r w t, rest, ← first, ← take-add 4 508 bytes, take-append-drop 512 bytes) refl

-- putting back what was moved
pub restored-stamped : (n : ℕ) (stamp bytes more : List ℕ) → length stamp ≡ 4 → 512 * n ≤ length bytes
    → restored n (moved n bytes ++ more) (stamped stamp n bytes) ≡ bytes
restored-stamped zero stamp bytes more s k = refl
restored-stamped (suc n) stamp bytes more s k =
    let w : length (take 4 bytes) ≡ 4 = length-take-le 4 bytes (omega arith) in
    let t = tail_length n bytes k in
    let r = stamped stamp n (drop 512 bytes) in
    let back = append_assoc (take 4 bytes) (moved n (drop 512 bytes)) more in
    let front : take 4 (take 4 bytes ++ moved n (drop 512 bytes) ++ more) ≡ take 4 bytes = take_word (take 4 bytes) (moved n (drop 512 bytes)) more w in
    let after : drop 4 (take 4 bytes ++ moved n (drop 512 bytes) ++ more) ≡ moved n (drop 512 bytes) ++ more = rw back (drop_at (take 4 bytes) (moved n (drop 512 bytes) ++ more) 4 w) in
    rw (
      front,
      after,
      take_tail stamp (take 508 (drop 4 bytes)) r s t,
      drop_sector stamp (take 508 (drop 4 bytes)) r s t,
      restored-stamped n stamp (drop 512 bytes) more s (rest_length n bytes k),
      ← take-add 4 508 bytes,
      take-append-drop 512 bytes,
    ) refl

-- sectors that were stamped begin with the stamp
pub stamps-stamped : (n : ℕ) (stamp bytes : List ℕ) → length stamp ≡ 4 → 512 * n ≤ length bytes
    → (i : ℕ) → i < n → take 4 (drop (512 * i) (stamped stamp n bytes)) ≡ stamp
stamps-stamped zero stamp bytes s k i lt = absurd (omega arith)
stamps-stamped (suc n) stamp bytes s k zero lt = take_word stamp (take 508 (drop 4 bytes)) (stamped stamp n (drop 512 bytes)) s
stamps-stamped (suc n) stamp bytes s k (suc i) lt =
    let r = stamped stamp n (drop 512 bytes) in
    let t = tail_length n bytes k in
    let e : 512 * suc i ≡ 512 + 512 * i = omega arith in
    rw (e, ← drop-drop (512 * i) 512 ((stamp ++ take 508 (drop 4 bytes)) ++ r), drop_sector stamp (take 508 (drop 4 bytes)) r s t)
    (stamps-stamped n stamp (drop 512 bytes) s (rest_length n bytes k) i (omega arith))

-- lengths
pub length-moved : (n : ℕ) (bytes : List ℕ) → 512 * n ≤ length bytes → length (moved n bytes) ≡ 4 * n
length-moved zero bytes k = refl
length-moved (suc n) bytes k =
    omega (arith, length-append (take 4 bytes) (moved n (drop 512 bytes)), length-take-le 4 bytes (omega arith), length-moved n (drop 512 bytes) (rest_length n bytes k))

pub length-restored : (n : ℕ) (words bytes : List ℕ) → 4 * n ≤ length words → 512 * n ≤ length bytes
    → length (restored n words bytes) ≡ length bytes
length-restored zero words bytes h k = refl
length-restored (suc n) words bytes h k =
    omega (
      arith,
      length-append (take 4 words ++ take 508 (drop 4 bytes)) (restored n (drop 4 words) (drop 512 bytes)),
      length-append (take 4 words) (take 508 (drop 4 bytes)),
      length-take-le 4 words (omega arith),
      tail_length n bytes k,
      length-restored n (drop 4 words) (drop 512 bytes) (omega (arith, length-drop 4 words)) (rest_length n bytes k),
      length-drop 512 bytes,
    )

-- what follows the sectors stays
pub stamped-append : (n : ℕ) (stamp bytes rest : List ℕ) → 512 * n ≤ length bytes → stamped stamp n (bytes ++ rest) ≡ stamped stamp n bytes ++ rest
stamped-append zero stamp bytes rest k = refl
stamped-append (suc n) stamp bytes rest k =
    rw (
      drop-append-le 4 bytes rest (omega arith),
      take-append-le 508 (drop 4 bytes) rest (omega (arith, length-drop 4 bytes)),
      drop-append-le 512 bytes rest (omega arith),
      stamped-append n stamp (drop 512 bytes) rest (rest_length n bytes k),
    )
    (sym (append_assoc (stamp ++ take 508 (drop 4 bytes)) (stamped stamp n (drop 512 bytes)) rest))

-- the four bytes of the number in four bytes
pub big_bytes-number : (bytes : List ℕ) → 4 ≤ length bytes → ((k : ℕ) → get_or bytes k 0 < 256) → big_bytes 4 (big_number 4 bytes) ≡ take 4 bytes
big_bytes-number [] h f = absurd (omega arith)
big_bytes-number (a ∷ []) h f = absurd (omega arith)
big_bytes-number (a ∷ b ∷ []) h f = absurd (omega arith)
big_bytes-number (a ∷ b ∷ c ∷ []) h f = absurd (omega arith)
big_bytes-number (a ∷ b ∷ c ∷ d ∷ rest) h f =
    let n = a * 16777216 + (b * 65536 + (c * 256 + (d * 1 + 0))) in
    let p = f 0 in
    let q = f 1 in
    let r = f 2 in
    let s = f 3 in
    let e0 : n / 16777216 % 256 ≡ a = omega arith in
    let e1 : n / 65536 % 256 ≡ b = omega arith in
    let e2 : n / 256 % 256 ≡ c = omega arith in
    let e3 : n % 256 ≡ d = omega arith in
    rw (e0, e1, e2, e3) refl

-- and the number of bytes that begin with a number's
pub number_of_bytes : (bytes : List ℕ) (n : ℕ) → n < 2 ^ 32 → take 4 bytes ≡ big_bytes 4 n → big_number 4 bytes ≡ n
number_of_bytes bytes n h e =
    let whole : bytes ≡ big_bytes 4 n ++ drop 4 bytes = sym (take-append-drop 4 bytes) ∙ ap (λ (front : List ℕ). front ++ drop 4 bytes) e in
    ap (big_number 4) whole ∙ big_number-reads_back 4 n (drop 4 bytes) h

pub restored-append : (n : ℕ) (words bytes rest : List ℕ) → 512 * n ≤ length bytes → restored n words (bytes ++ rest) ≡ restored n words bytes ++ rest
restored-append zero words bytes rest k = refl
restored-append (suc n) words bytes rest k =
    rw (
      drop-append-le 4 bytes rest (omega arith),
      take-append-le 508 (drop 4 bytes) rest (omega (arith, length-drop 4 bytes)),
      drop-append-le 512 bytes rest (omega arith),
      restored-append n (drop 4 words) (drop 512 bytes) rest (rest_length n bytes k),
    )
    (sym (append_assoc (take 4 words ++ take 508 (drop 4 bytes)) (restored n (drop 4 words) (drop 512 bytes)) rest))

pub length-stamped : (n : ℕ) (stamp bytes : List ℕ) → length stamp ≡ 4 → 512 * n ≤ length bytes → length (stamped stamp n bytes) ≡ length bytes
length-stamped zero stamp bytes s k = refl
length-stamped (suc n) stamp bytes s k =
    omega (
      arith,
      length-append (stamp ++ take 508 (drop 4 bytes)) (stamped stamp n (drop 512 bytes)),
      length-append stamp (take 508 (drop 4 bytes)),
      tail_length n bytes k,
      length-stamped n stamp (drop 512 bytes) s (rest_length n bytes k),
      length-drop 512 bytes,
    )
