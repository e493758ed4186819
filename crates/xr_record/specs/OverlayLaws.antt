-- What stands before and after bytes that were written over others.
use Rattle.std.proofs.Common.{◌≡◌, ℕ, suc, ◌+◌, ◌-◌, ◌*◌, ◌<◌, ◌≤◌, List, [], ◌++◌, length, take, drop, refl, sym, ap, ◌∙◌, arith}
use Rattle.std.proofs.lemmas.List.{append_assoc, append-nil, drop-drop, drop_all, drop_at, take_at, take-append-drop, length-append, length-take-le, length-drop, take-take, drop-take}
use borrow.Rule.Slice.PartMut.{put_mid}
use Rattle.xr_base.specs.Image.{overlaid}
use Rattle.xr_record.specs.Record.{moved, stamped, restored}

pub put_mid-overlaid : (at k : ℕ) (xs ys : List ℕ) → length ys ≡ k → put_mid at k xs ys ≡ overlaid at ys xs
put_mid-overlaid at k xs ys e =
    rw (e, drop-drop k at xs, append_assoc (take at xs) ys (drop (at + k) xs)) refl

pub take-overlaid : (at n : ℕ) (xs ys : List ℕ) → at ≤ length xs → n ≡ at + length ys → take n (overlaid at ys xs) ≡ take at xs ++ ys
take-overlaid at n xs ys h e =
    take_at (take at xs ++ ys) (drop (at + length ys) xs) n (omega (arith, length-append (take at xs) ys, length-take-le at xs h))

pub drop-overlaid : (at n : ℕ) (xs ys : List ℕ) → at ≤ length xs → n ≡ at + length ys → drop n (overlaid at ys xs) ≡ drop n xs
drop-overlaid at n xs ys h e =
    drop_at (take at xs ++ ys) (drop (at + length ys) xs) n (omega (arith, length-append (take at xs) ys, length-take-le at xs h))
    ∙ ap (λ (m : ℕ). drop m xs) (sym e)

-- a list, cut at two places
pub take-add : (a b : ℕ) (xs : List ℕ) → take (a + b) xs ≡ take a xs ++ take b (drop a xs)
take-add a b xs =
    sym (take-append-drop a (take (a + b) xs))
    ∙ rw (take-take a (a + b) xs (omega arith), drop-take a b xs) refl

-- a sector whose first word was written over, and what follows it
pub take-overlaid_word : (at n : ℕ) (xs w : List ℕ) → length w ≡ 4 → at + 512 ≤ length xs → n ≡ at + 512
    → take n (overlaid at w xs) ≡ take at xs ++ (w ++ take 508 (drop 4 (drop at xs)))
take-overlaid_word at n xs w lw h e =
    let split : n ≡ (at + 4) + 508 = omega arith in
    let front : take (at + 4) (overlaid at w xs) ≡ take at xs ++ w = take-overlaid at (at + 4) xs w (omega arith) (omega arith) in
    let back : drop (at + 4) (overlaid at w xs) ≡ drop (at + 4) xs = drop-overlaid at (at + 4) xs w (omega arith) (omega arith) in
    rw (split, take-add (at + 4) 508 (overlaid at w xs), front, back, append_assoc (take at xs) w (take 508 (drop (at + 4) xs)), drop-drop 4 at xs) refl

pub drop-overlaid_word : (at n : ℕ) (xs w : List ℕ) → length w ≡ 4 → at + 512 ≤ length xs → n ≡ at + 512
    → drop n (overlaid at w xs) ≡ drop 512 (drop at xs)
drop-overlaid_word at n xs w lw h e =
    let split : n ≡ (at + 4) + 508 = omega arith in
    let back : drop (at + 4) (overlaid at w xs) ≡ drop (at + 4) xs = drop-overlaid at (at + 4) xs w (omega arith) (omega arith) in
    let whole : (at + 4) + 508 ≡ at + 512 = omega arith in
    rw (split, ← drop-drop 508 (at + 4) (overlaid at w xs), back, drop-drop 508 (at + 4) xs, drop-drop 512 at xs, whole) refl

-- one word more is put back
pub restored_more : (n i k : ℕ) (words body next all : List ℕ) → i < n → 4 * n ≤ length words → 512 * n ≤ length body
    → k ≡ 4 → next ≡ overlaid (512 * i) (take k (drop (4 * i) words)) body
    → take (512 * i) body ++ restored (n - i) (drop (4 * i) words) (drop (512 * i) body) ≡ all
    → take (512 * (i + 1)) next ++ restored (n - (i + 1)) (drop (4 * (i + 1)) words) (drop (512 * (i + 1)) next) ≡ all
restored_more n i k words body next all lt lw lb four is before =
    let word : length (take k (drop (4 * i) words)) ≡ 4 = length-take-le k (drop (4 * i) words) (omega (arith, length-drop (4 * i) words)) ∙ four in
    let left : n - i ≡ suc (n - (i + 1)) = omega arith in
    let after : 4 * (i + 1) ≡ 4 * i + 4 = omega arith in
    let front = take-overlaid_word (512 * i) (512 * (i + 1)) body (take k (drop (4 * i) words)) word (omega arith) (omega arith) in
    let back = drop-overlaid_word (512 * i) (512 * (i + 1)) body (take k (drop (4 * i) words)) word (omega arith) (omega arith) in
    rw (is, front, back, four, after, ← drop-drop 4 (4 * i) words, append_assoc) (rw left at before)

-- and the words before the first sector are none
pub restored_none : (n : ℕ) (words body : List ℕ) → restored (n - 0) (drop (4 * 0) words) (drop (512 * 0) body) ≡ restored n words body
restored_none n words body = let same : n - 0 ≡ n = omega arith in rw same refl

-- one sector more is stamped
pub stamped_more : (n i : ℕ) (stamp body next all : List ℕ) → i < n → length stamp ≡ 4 → 512 * n ≤ length body
    → next ≡ overlaid (512 * i) stamp body
    → take (512 * i) body ++ stamped stamp (n - i) (drop (512 * i) body) ≡ all
    → take (512 * (i + 1)) next ++ stamped stamp (n - (i + 1)) (drop (512 * (i + 1)) next) ≡ all
stamped_more n i stamp body next all lt ls lb is before =
    let left : n - i ≡ suc (n - (i + 1)) = omega arith in
    let front = take-overlaid_word (512 * i) (512 * (i + 1)) body stamp ls (omega arith) (omega arith) in
    let back = drop-overlaid_word (512 * i) (512 * (i + 1)) body stamp ls (omega arith) (omega arith) in
    rw (is, front, back, append_assoc) (rw left at before)

-- one word more is moved
pub moved_more : (n i k : ℕ) (stamp words body next_words next_body all : List ℕ) → i < n → length stamp ≡ 4
    → 4 * n ≤ length words → 512 * n ≤ length body
    → k ≡ 4 → next_words ≡ overlaid (4 * i) (take k (drop (512 * i) body)) words → next_body ≡ overlaid (512 * i) stamp body
    → take (4 * i) words ++ moved (n - i) (drop (512 * i) body) ≡ all
    → take (4 * (i + 1)) next_words ++ moved (n - (i + 1)) (drop (512 * (i + 1)) next_body) ≡ all
moved_more n i k stamp words body next_words next_body all lt ls lw lb four is body_is before =
    let word : length (take k (drop (512 * i) body)) ≡ 4 = length-take-le k (drop (512 * i) body) (omega (arith, length-drop (512 * i) body)) ∙ four in
    let left : n - i ≡ suc (n - (i + 1)) = omega arith in
    let front = take-overlaid (4 * i) (4 * (i + 1)) words (take k (drop (512 * i) body)) (omega arith) (omega arith) in
    let back = drop-overlaid_word (512 * i) (512 * (i + 1)) body stamp ls (omega arith) (omega arith) in
    rw (is, body_is, front, back, four, append_assoc) (rw left at before)

-- the words that aren't reached stay
pub drop_words : (n i k : ℕ) (word words next : List ℕ) → i < n → length word ≡ 4 → 4 * n ≤ length words
    → next ≡ overlaid (4 * i) word words → drop (4 * n) next ≡ drop (4 * n) words
drop_words n i k word words next lt lw room is =
    let split : 4 * n ≡ (4 * i + 4) + (4 * n - (4 * i + 4)) = omega arith in
    rw (is, split, ← drop-drop (4 * n - (4 * i + 4)) (4 * i + 4) (overlaid (4 * i) word words), ← drop-drop (4 * n - (4 * i + 4)) (4 * i + 4) words, drop-overlaid (4 * i) (4 * i + 4) words word (omega arith) (omega arith)) refl

-- what follows a word that was written over, from any place on
pub drop-overlaid_after : (at n : ℕ) (xs w next : List ℕ) → length w ≡ 4 → at + 4 ≤ length xs → at + 4 ≤ n → next ≡ overlaid at w xs
    → drop n next ≡ drop n xs
drop-overlaid_after at n xs w next lw room le is =
    let split : n ≡ (at + 4) + (n - (at + 4)) = omega arith in
    rw (is, split, ← drop-drop (n - (at + 4)) (at + 4) (overlaid at w xs), ← drop-drop (n - (at + 4)) (at + 4) xs, drop-overlaid at (at + 4) xs w (omega arith) (omega arith)) refl

-- a sector of four fields that were written one after another past its first 300 bytes
pub fields_written : (h0 h1 h2 h3 h4 f u s z : List ℕ) → take 304 h1 ≡ take 300 h0 ++ f → h2 ≡ overlaid 304 u h1
    → take 324 h3 ≡ take 320 h2 ++ s → h4 ≡ overlaid 324 z h3
    → length h1 ≡ 512 → length h3 ≡ 512 → length u ≡ 16 → length z ≡ 188 → h4 ≡ take 300 h0 ++ (((f ++ u) ++ s) ++ z)
fields_written h0 h1 h2 h3 h4 f u s z e1 e2 e3 e4 l1 l3 lu lz =
    let two : take 320 h2 ≡ take 304 h1 ++ u = rw e2 (take-overlaid 304 320 h1 u (omega arith) (omega arith)) in
    let none : drop (324 + length z) h3 ≡ [] = drop_all (324 + length z) h3 (omega arith) in
    let four : h4 ≡ take 324 h3 ++ z = e4 ∙ rw (none, append-nil) refl in
    four ∙ rw (e3, two, e1, append_assoc (take 300 h0 ++ f) u s, append_assoc (take 300 h0) f (u ++ s), append_assoc (take 300 h0) (f ++ (u ++ s)) z, append_assoc f u s) refl
