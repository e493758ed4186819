-- The sectors that are written, and those with the checksum in its place.
use Rattle.std.proofs.Common.{◌≡◌, ℕ, ◌+◌, ◌*◌, ◌≤◌, List, ◌++◌, length, take, drop, replicate, refl, ◌∙◌, arith}
use Rattle.std.proofs.lemmas.List.{drop-replicate, drop-take, length-drop, length-take-le, take-append-drop, take-take}
use Rattle.byteorder.specs.Endian.{big_bytes, little_bytes}
use Rattle.xr_base.specs.Checksum.{checksum_of}
use Rattle.xr_base.specs.Image.{overlaid, part}
use Rattle.xr_record.specs.declared.head.Head.{Head}
use Rattle.xr_record.specs.Unsealing.{HasStamps}
use Rattle.xr_record.specs.StampLaws.{stamped-restored}
use Rattle.xr_record.specs.Record.{fields_after, fields_before, moved, sectors_of, restored, sectors_with, stamped, zeros, record_sectors, padded_body}

pub sectors_written : (head : Head) (n : ℕ) (p below words header body : List ℕ) → below ≡ padded_body p → n ≡ sectors_of head.len
    → header ≡ fields_before head 0 ++ words ++ fields_after head → words ≡ moved n below ++ drop (4 * n) (replicate 256 0)
    → body ≡ stamped (big_bytes 4 head.lsn.cycle) n below → header ++ body ≡ sectors_with 0 head p
unfolding zeros
sectors_written head n p below words header body b s h w d = rw (h, w, d, b, s, drop-replicate {X = ℕ} (4 * sectors_of head.len) 256 0) refl

pub sectors_sealed : (head : Head) (p out next bytes : List ℕ) (checksum : ℕ) → out ≡ sectors_with 0 head p → checksum ≡ checksum_of out
    → bytes ≡ little_bytes 4 checksum → next ≡ overlaid 32 bytes out → next ≡ record_sectors head p
sectors_sealed head p out next bytes checksum o k b n = n ∙ rw (b, k, o) refl

-- the body that was put back
pub body_put_back : (n : ℕ) (bytes header below next : List ℕ) → 512 ≤ length bytes → header ≡ take 512 bytes → below ≡ drop 512 bytes
    → next ≡ restored n (take 256 (drop 44 header)) below → next ≡ restored n (part 44 256 bytes) (drop 512 bytes)
body_put_back n bytes header below next h e f g =
    let words : take 256 (drop 44 (take 512 bytes)) ≡ part 44 256 bytes =
    rw (drop-take 44 468 bytes, take-take 256 468 (drop 44 bytes) (omega arith)) refl in
    g ∙ rw (e, f, words) refl

-- stamping a body again that was put back
pub restamped : (n cycle : ℕ) (bytes header below opened next : List ℕ) → 512 + 512 * n ≤ length bytes → 4 * n ≤ 256
    → header ≡ take 512 bytes → below ≡ drop 512 bytes → HasStamps cycle n (drop 512 bytes)
    → opened ≡ restored n (take 256 (drop 44 header)) below → next ≡ stamped (big_bytes 4 cycle) n opened → header ++ next ≡ bytes
restamped n cycle bytes header below opened next room words e f stamps o g =
    let below_room : 512 * n ≤ length (drop 512 bytes) = omega (arith, length-drop 512 bytes) in
    let words_len : length (take 256 (drop 44 (take 512 bytes))) ≡ 256 = length-take-le 256 (drop 44 (take 512 bytes)) (omega (arith, length-drop 44 (take 512 bytes), length-take-le 512 bytes (omega arith))) in
    let back : next ≡ drop 512 bytes =
    g ∙ rw (o, e, f) (stamped-restored n (big_bytes 4 cycle) (take 256 (drop 44 (take 512 bytes))) (drop 512 bytes) (omega arith) below_room stamps) in
    rw (e, back) (take-append-drop 512 bytes)
