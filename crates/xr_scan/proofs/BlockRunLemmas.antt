-- Blocks that lie together in an image have their copies together.
use Rattle.std.proofs.Common.{◌≡◌, ℕ, zero, suc, ◌+◌, ◌-◌, ◌*◌, ◌/◌, ◌%◌, ◌<◌, ◌≤◌, ◌∙◌, List, ◌++◌, length, take, drop, refl, sym, ap, arith}
use Rattle.std.proofs.Math.Seq.{take-add}
use Rattle.std.proofs.lemmas.Bool.{cond-false, cond-true, le-ltb, lt-ltb}
use Rattle.std.proofs.lemmas.List.{drop-drop, length-drop, length-take-le, take-append-drop}
use Rattle.xr_base.specs.Image.{block_of, part}
use Rattle.xr_base.specs.ImageLaws.{part-front}
use Rattle.xr_scan.specs.Scanned.{blocks_from, bytes_from, copy_number, scanned_state}
use Rattle.xr_scan.specs.declared.scanned.Scanned.{Scanned}

join : (place n : ℕ) (xs : List ℕ) → part (4096 * place) 4096 xs ++ part (4096 * (place + 1)) (4096 * n) xs ≡ part (4096 * place) (4096 * suc n) xs
join place n xs =
    let e : 4096 * (place + 1) ≡ 4096 * place + 4096 = omega arith in
    let f : 4096 * suc n ≡ 4096 + 4096 * n = omega arith in
    ap (λ (rest : List ℕ). part (4096 * place) 4096 xs ++ take (4096 * n) rest) (ap (λ (k : ℕ). drop k xs) e ∙ sym (drop-drop 4096 (4096 * place) xs))
    ∙ sym (take-add 4096 (4096 * n) (drop (4096 * place) xs)) ∙ ap (λ (k : ℕ). take k (drop (4096 * place) xs)) (sym f)

run_bytes : (scanned : Scanned) (first place n : ℕ) → ((k : ℕ) → k < n → copy_number (first + k) ≡ place + k)
    → bytes_from (scanned_state scanned) first n ≡ part (4096 * place) (4096 * n) scanned.blocks.items
unfolding blocks_from
run_bytes scanned first place zero each = refl
run_bytes scanned first place (suc n) each =
    let xs : List ℕ = scanned.blocks.items in
    let here : copy_number first ≡ place = ap copy_number (omega arith) ∙ each 0 (omega arith) ∙ omega arith in
    let rest = run_bytes scanned (suc first) (place + 1) n (λ k below. ap copy_number (omega arith) ∙ each (k + 1) (omega (arith, below)) ∙ omega arith) in
    ap (λ (p : ℕ). part (4096 * p) 4096 xs ++ bytes_from (scanned_state scanned) (suc first) n) here ∙ ap (λ (ys : List ℕ). part (4096 * place) 4096 xs ++ ys) rest
    ∙ join place n xs

file_copy : (file k : ℕ) → file < 32 → k < 8 → copy_number (520 + 8 * file + k) ≡ 8 * file + k
file_copy file k small below = cond-true _ _ _ (lt-ltb (520 + 8 * file + k) 776 (omega (arith, small, below))) ∙ omega arith

group_copy : (group k : ℕ) → k < 512 → copy_number (776 + 2048 * group + k) ≡ 256 + 512 * group + k
group_copy group k below =
    cond-false _ _ _ (le-ltb (776 + 2048 * group + k) 776 (omega arith))
    ∙ (let q : (776 + 2048 * group + k - 776) / 2048 ≡ group = omega (arith, below) in let r : (776 + 2048 * group + k - 776) % 2048 ≡ k = omega (arith, below) in rw (q, r) (omega arith))

-- bytes from a place on, as they are taken
taken : (at n place : ℕ) (found xs : List ℕ) → found ≡ xs → at ≡ 4096 * place → take (at + n - at) (drop at found) ≡ part (4096 * place) n xs
taken at n place found xs same is =
    let e : at + n - at ≡ n = omega arith in
    ap (λ (k : ℕ). take k (drop at found)) e ∙ ap (λ (ys : List ℕ). take n (drop at ys)) same ∙ ap (λ (k : ℕ). take n (drop k xs)) is

pub file_bytes : (scanned : Scanned) (file : ℕ) (found : List ℕ) → file < 32 → found ≡ scanned.blocks.items
    → take (32768 * file + 32768 - 32768 * file) (drop (32768 * file) found) ≡ bytes_from (scanned_state scanned) (520 + 8 * file) 8
file_bytes scanned file found small same =
    taken (32768 * file) 32768 (8 * file) found scanned.blocks.items same (omega arith)
    ∙ sym (run_bytes scanned (520 + 8 * file) (8 * file) 8 (λ k below. file_copy file k small below))

pub group_bytes : (scanned : Scanned) (group : ℕ) (found : List ℕ) → found ≡ scanned.blocks.items
    → take (1048576 + 2097152 * group + 2097152 - (1048576 + 2097152 * group)) (drop (1048576 + 2097152 * group) found)
    ≡ bytes_from (scanned_state scanned) (776 + 2048 * group) 512
group_bytes scanned group found same =
    taken (1048576 + 2097152 * group) 2097152 (256 + 512 * group) found scanned.blocks.items same (omega arith)
    ∙ sym (run_bytes scanned (776 + 2048 * group) (256 + 512 * group) 512 (λ k below. group_copy group k below))

pub length-part : (at n : ℕ) (xs : List ℕ) → at + n ≤ length xs → length (part at n xs) ≡ n
length-part at n xs fits = length-take-le n (drop at xs) (omega (arith, fits, length-drop at xs))

part_of_part : (at n place m : ℕ) (xs : List ℕ) → place + m ≤ n → at + n ≤ length xs → part place m (part at n xs) ≡ part (at + place) m xs
part_of_part at n place m xs within fits =
    sym (part-front place m (part at n xs) (drop n (drop at xs)) (omega (arith, within, length-part at n xs fits)))
    ∙ ap (part place m) (take-append-drop n (drop at xs)) ∙ ap (take m) (drop-drop place at xs)

-- the bytes of a run of blocks are as long as these, and each of these stands at its place
pub record AreRun (scanned : Scanned) (first n : ℕ) (bytes : List ℕ) : Type 0 where
  pub long : length bytes ≡ 4096 * n
  pub each : (k : ℕ) → k < n → block_of bytes k ≡ (scanned_state scanned).blocks (first + k)

run_of : (scanned : Scanned) (first place n : ℕ) (bytes : List ℕ) → bytes ≡ bytes_from (scanned_state scanned) first n
    → ((k : ℕ) → k < n → copy_number (first + k) ≡ place + k) → length scanned.blocks.items ≡ 9437184 → place + n ≤ 2304 → AreRun scanned first n bytes
run_of scanned first place n bytes are copies whole within =
    let xs : List ℕ = scanned.blocks.items in
    let same : bytes ≡ part (4096 * place) (4096 * n) xs = are ∙ run_bytes scanned first place n copies in
    record {
      long = ap length same ∙ length-part (4096 * place) (4096 * n) xs (omega (arith, whole, within));
      each = λ k below.
          let e : 4096 * place + 4096 * k ≡ 4096 * (place + k) = omega arith in
          ap (λ (b : List ℕ). block_of b k) same ∙ part_of_part (4096 * place) (4096 * n) (4096 * k) 4096 xs (omega (arith, below)) (omega (arith, whole, within))
          ∙ ap (λ (m : ℕ). part m 4096 xs) e ∙ ap (λ (c : ℕ). part (4096 * c) 4096 xs) (sym (copies k below));
    }

pub file_run : (scanned : Scanned) (file : ℕ) (bytes : List ℕ) → file < 32 → bytes ≡ bytes_from (scanned_state scanned) (520 + 8 * file) 8
    → AreRun scanned (520 + 8 * file) 8 bytes
file_run scanned file bytes small are =
    run_of scanned (520 + 8 * file) (8 * file) 8 bytes are (λ k below. file_copy file k small below) (sym scanned.blocks.ok.0 ∙ scanned.whole) (omega (arith, small))

pub group_run : (scanned : Scanned) (group : ℕ) (bytes : List ℕ) → group < 4 → bytes ≡ bytes_from (scanned_state scanned) (776 + 2048 * group) 512
    → AreRun scanned (776 + 2048 * group) 512 bytes
group_run scanned group bytes small are =
    run_of scanned (776 + 2048 * group) (256 + 512 * group) 512 bytes are (λ k below. group_copy group k below) (sym scanned.blocks.ok.0 ∙ scanned.whole) (omega (arith, small))
