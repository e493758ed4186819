-- That bytes that keep the rules are those of a sealed record.
use Rattle.std.proofs.Common.{◌≡◌, ℕ, ◌+◌, ◌-◌, ◌*◌, ◌/◌, ◌%◌, ◌<◌, ◌≤◌, ◌^◌, List, [], ◌∷◌, ◌++◌, length, get_or, slice_range, take, drop, replicate, refl, sym, ap, ◌∙◌, arith}
use Rattle.std.proofs.lemmas.List.{append_assoc, append_cancel_right, drop-drop, drop-append-le, drop-take, get_or-drop, length-append, length-drop, length-take-le, length-replicate, same_lists, take-append-drop, take-append-le, take-take, take_at, get_or-replicate}
use Rattle.byteorder.specs.Endian.{big_bytes, little_bytes, little_number}
use Rattle.byteorder.specs.Numbers.{big_from-lt}
use Rattle.xr_base.specs.Checksum.{checksum_of, without_four}
use Rattle.xr_base.specs.Image.{part}
use Rattle.xr_record.specs.declared.head.Head.{Head}
use Rattle.xr_base.specs.declared.layout.TheConstants.{MAX_BODY_BYTES, RECORD_FORMAT, RECORD_VERSION, RECORD_MAGIC}
use Rattle.xr_base.specs.Fields.{AreBytes, be32_at}
use Rattle.xr_record.specs.Record.{IsSealed, fields_after, fields_before, moved, restored, sectors_of, sectors_with, stamped, zeros, record_sectors, padded_body}
use Rattle.xr_record.specs.Unsealing.{AreZero, HasChecksum, HasLength, HasMagic, HasStamps, HasVersion, IsInPlace, IsPadded, Opens, body_in, head_in, opened_record}
use Rattle.xr_record.specs.OverlayLaws.{take-add}
use Rattle.xr_record.specs.StampLaws.{big_bytes-number, length-restored, moved-restored, restored-append, stamped-append, stamped-restored}

-- two parts side by side
part_join : (at m n k l : ℕ) (xs : List ℕ) → k ≡ at + m → l ≡ m + n → part at m xs ++ part k n xs ≡ part at l xs
part_join at m n k l xs e f = rw (e, f, ← drop-drop m at xs, take-add m n (drop at xs)) refl

-- zeros
pub zeros_are : (n : ℕ) (xs : List ℕ) → length xs ≡ n → AreZero xs → xs ≡ zeros n
unfolding zeros
zeros_are n xs e z =
    same_lists xs (replicate n 0) (e ∙ sym (length-replicate n 0)) (λ k d lt. z k d lt ∙ sym (get_or-replicate n k 0 d (omega arith)))

-- a number's bytes at a place
bytes_at : (at n : ℕ) (bytes : List ℕ) → AreBytes bytes → at + 4 ≤ length bytes → be32_at bytes at ≡ n → big_bytes 4 n ≡ part at 4 bytes
bytes_at at n bytes small room e =
    ap (big_bytes 4) (sym e) ∙ big_bytes-number (drop at bytes) (omega (arith, length-drop at bytes)) (λ k. rw (get_or-drop at bytes k 0) (small (at + k)))

pub little_bytes-number : (bytes : List ℕ) → 4 ≤ length bytes → ((k : ℕ) → get_or bytes k 0 < 256) → little_bytes 4 (little_number 4 bytes) ≡ take 4 bytes
little_bytes-number [] h f = absurd (omega arith)
little_bytes-number (a ∷ []) h f = absurd (omega arith)
little_bytes-number (a ∷ b ∷ []) h f = absurd (omega arith)
little_bytes-number (a ∷ b ∷ c ∷ []) h f = absurd (omega arith)
little_bytes-number (a ∷ b ∷ c ∷ d ∷ rest) h f =
    let n = a + 256 * (b + 256 * (c + 256 * (d + 0))) in
    let p = f 0 in
    let q = f 1 in
    let r = f 2 in
    let s = f 3 in
    let e0 : n % 256 ≡ a = omega arith in
    let e1 : n / 256 % 256 ≡ b = omega arith in
    let e2 : n / 65536 % 256 ≡ c = omega arith in
    let e3 : n / 16777216 % 256 ≡ d = omega arith in
    rw (e0, e1, e2, e3) refl

-- the bytes of a header's values stand at their places
record HasFields (head : Head) (bytes : List ℕ) : Type 0 where
  magic : big_bytes 4 RECORD_MAGIC ≡ part 0 4 bytes
  cycle : big_bytes 4 head.lsn.cycle ≡ part 4 4 bytes
  version : big_bytes 4 RECORD_VERSION ≡ part 8 4 bytes
  len : big_bytes 4 head.len ≡ part 12 4 bytes
  round : big_bytes 4 head.lsn.cycle ≡ part 16 4 bytes
  sector : big_bytes 4 head.lsn.sector ≡ part 20 4 bytes
  tail_round : big_bytes 4 head.tail.cycle ≡ part 24 4 bytes
  tail_sector : big_bytes 4 head.tail.sector ≡ part 28 4 bytes
  prev : big_bytes 4 head.prev ≡ part 36 4 bytes
  ops : big_bytes 4 head.ops ≡ part 40 4 bytes
  format : big_bytes 4 RECORD_FORMAT ≡ part 300 4 bytes
  uuid : head.uuid ≡ part 304 16 bytes
  size : big_bytes 4 MAX_BODY_BYTES ≡ part 320 4 bytes
  rest : zeros 188 ≡ part 324 188 bytes

front_is : (bytes a b c d e f g h : List ℕ) → a ≡ part 0 4 bytes → b ≡ part 4 4 bytes → c ≡ part 8 4 bytes → d ≡ part 12 4 bytes
    → e ≡ part 16 4 bytes → f ≡ part 20 4 bytes → g ≡ part 24 4 bytes → h ≡ part 28 4 bytes
    → a ++ b ++ c ++ d ++ (e ++ f) ++ (g ++ h) ≡ take 32 bytes
front_is bytes a b c d e f g h pa pb pc pd pe pf pg ph =
    rw (
      pa,
      pb,
      pc,
      pd,
      pe,
      pf,
      pg,
      ph,
      part_join 16 4 4 20 8 bytes (omega arith) (omega arith),
      part_join 24 4 4 28 8 bytes (omega arith) (omega arith),
      part_join 0 4 4 4 8 bytes (omega arith) (omega arith),
      part_join 0 8 4 8 12 bytes (omega arith) (omega arith),
      part_join 0 12 4 12 16 bytes (omega arith) (omega arith),
      part_join 0 16 8 16 24 bytes (omega arith) (omega arith),
      part_join 0 24 8 24 32 bytes (omega arith) (omega arith),
    ) refl

pair_is : (bytes a b : List ℕ) → a ≡ part 36 4 bytes → b ≡ part 40 4 bytes → a ++ b ≡ part 36 8 bytes
pair_is bytes a b p q = rw (p, q) (part_join 36 4 4 40 8 bytes (omega arith) (omega arith))

before_is : (head : Head) (bytes : List ℕ) (checksum : ℕ) → HasFields head bytes
    → fields_before head checksum ≡ take 32 bytes ++ little_bytes 4 checksum ++ part 36 8 bytes
before_is head bytes checksum f =
    let front = front_is bytes _ _ _ _ _ _ _ _ f.magic f.cycle f.version f.len f.round f.sector f.tail_round f.tail_sector in
    let back = pair_is bytes _ _ f.prev f.ops in
    ap (λ (xs : List ℕ). xs ++ little_bytes 4 checksum ++ big_bytes 4 head.prev ++ big_bytes 4 head.ops) front
    ∙ append_assoc (take 32 bytes ++ little_bytes 4 checksum) (big_bytes 4 head.prev) (big_bytes 4 head.ops)
    ∙ ap (λ (xs : List ℕ). take 32 bytes ++ little_bytes 4 checksum ++ xs) back

four_are : (bytes a b c d : List ℕ) → a ≡ part 300 4 bytes → b ≡ part 304 16 bytes → c ≡ part 320 4 bytes → d ≡ part 324 188 bytes
    → a ++ b ++ c ++ d ≡ part 300 212 bytes
four_are bytes a b c d p q r s =
    rw (p, q, r, s, part_join 300 4 16 304 20 bytes (omega arith) (omega arith), part_join 300 20 4 320 24 bytes (omega arith) (omega arith))
    (part_join 300 24 188 324 212 bytes (omega arith) (omega arith))

after_is : (head : Head) (bytes : List ℕ) → HasFields head bytes → fields_after head ≡ part 300 212 bytes
after_is head bytes f = four_are bytes _ _ _ _ f.format f.uuid f.size f.rest

-- a body and the zeros that follow it
pub padded_is : (len n : ℕ) (x r : List ℕ) → n ≡ sectors_of len → length x ≡ 512 * n → AreZero (slice_range (x ++ r) len (512 * n))
    → padded_body (take len (x ++ r)) ≡ x
padded_is len n x r e l z =
    let fits : len ≤ 512 * n = omega arith in
    let front : take len (x ++ r) ≡ take len x = take-append-le len x r (omega arith) in
    let count : length (take len x) ≡ len = length-take-le len x (omega arith) in
    let left : length (drop len x) ≡ 512 * n - len = omega (arith, length-drop len x) in
    let back : slice_range (x ++ r) len (512 * n) ≡ drop len x = rw (drop-append-le len x r (omega arith)) (take_at (drop len x) r (512 * n - len) left) in
    let none : zeros (512 * n - len) ≡ drop len x = sym (zeros_are (512 * n - len) (drop len x) left (rw back at z)) in
    rw (front, count, ← e, none) (take-append-drop len x)

parts_join : (bytes f w a b c t : List ℕ) (n : ℕ) → f ≡ take 32 bytes ++ c ++ part 36 8 bytes → w ≡ part 44 256 bytes → a ≡ part 300 212 bytes
    → b ≡ take (512 * n) (drop 512 bytes) → t ≡ part 36 (476 + 512 * n) bytes → f ++ w ++ a ++ b ≡ take 32 bytes ++ c ++ t
parts_join bytes f w a b c t n ef ew ea eb et =
    let front = take 32 bytes ++ c in
    rw (
      ef,
      ew,
      ea,
      eb,
      et,
      append_assoc front (part 36 8 bytes) (part 44 256 bytes),
      part_join 36 8 256 44 264 bytes (omega arith) (omega arith),
      append_assoc front (part 36 264 bytes) (part 300 212 bytes),
      part_join 36 264 212 300 476 bytes (omega arith) (omega arith),
      append_assoc front (part 36 476 bytes) (part 512 (512 * n) bytes),
      part_join 36 476 (512 * n) 512 (476 + 512 * n) bytes (omega arith) (omega arith),
    ) refl

-- the sectors of a record, from the bytes at their places
sectors_are : (head : Head) (bytes p x : List ℕ) (checksum n : ℕ) → HasFields head bytes → n ≡ sectors_of head.len → 4 * n ≤ 256
    → 512 + 512 * n ≤ length bytes → AreZero (slice_range bytes (44 + 4 * n) 300) → HasStamps head.lsn.cycle n (drop 512 bytes)
    → x ≡ restored n (part 44 256 bytes) (take (512 * n) (drop 512 bytes)) → padded_body p ≡ x
    → sectors_with checksum head p ≡ take 32 bytes ++ little_bytes 4 checksum ++ drop 36 (take (512 + 512 * n) bytes)
sectors_are head bytes p x checksum n f e most room z stamps is pad =
    let w = part 44 256 bytes in
    let y = drop 512 bytes in
    let ly : 512 * n ≤ length y = omega (arith, length-drop 512 bytes) in
    let lb : length (take (512 * n) y) ≡ 512 * n = length-take-le (512 * n) y ly in
    let lw : length w ≡ 256 = length-take-le 256 (drop 44 bytes) (omega (arith, length-drop 44 bytes)) in
    let words : moved n x ≡ take (4 * n) w = rw is (moved-restored n w (take (512 * n) y) (omega arith) (omega arith)) in
    let past : slice_range bytes (44 + 4 * n) 300 ≡ drop (4 * n) w =
    let k : 300 - (44 + 4 * n) ≡ 256 - 4 * n = omega arith in
    let m : 256 ≡ 4 * n + (256 - 4 * n) = omega arith in
    rw (k, ← drop-drop (4 * n) 44 bytes) (sym (ap (λ (i : ℕ). drop (4 * n) (take i (drop 44 bytes))) m ∙ drop-take (4 * n) (256 - 4 * n) (drop 44 bytes))) in
    let none : zeros (256 - 4 * n) ≡ drop (4 * n) w = sym (zeros_are (256 - 4 * n) (drop (4 * n) w) (omega (arith, length-drop (4 * n) w)) (rw past at z)) in
    let all_words : moved n x ++ zeros (256 - 4 * n) ≡ w = rw (words, none) (take-append-drop (4 * n) w) in
    let whole : restored n w y ≡ x ++ drop (512 * n) y =
    ap (restored n w) (sym (take-append-drop (512 * n) y)) ∙ restored-append n w (take (512 * n) y) (drop (512 * n) y) (omega arith) ∙ ap (λ (xs : List ℕ). xs ++ drop (512 * n) y) (sym is) in
    let lx : length x ≡ 512 * n = rw is (length-restored n w (take (512 * n) y) (omega arith) (omega arith) ∙ lb) in
    let stamp = big_bytes 4 head.lsn.cycle in
    let again : stamped stamp n x ++ drop (512 * n) y ≡ take (512 * n) y ++ drop (512 * n) y =
    sym (stamped-append n stamp x (drop (512 * n) y) (omega arith)) ∙ ap (stamped stamp n) (sym whole)
    ∙ stamped-restored n stamp w y (omega arith) ly stamps ∙ sym (take-append-drop (512 * n) y) in
    let body : stamped stamp n x ≡ take (512 * n) y = append_cancel_right _ _ (drop (512 * n) y) again in
    let tail : drop 36 (take (512 + 512 * n) bytes) ≡ part 36 (476 + 512 * n) bytes =
    let k : 512 + 512 * n ≡ 36 + (476 + 512 * n) = omega arith in
    rw k (drop-take 36 (476 + 512 * n) bytes) in
    rw (← e, pad) (parts_join bytes _ _ _ _ _ _ n (before_is head bytes checksum f) all_words (after_is head bytes f) body tail)

joined_again : (bytes all c : List ℕ) → c ≡ take 4 (drop 32 bytes) → take 32 bytes ++ take 4 (drop 32 bytes) ≡ take 36 bytes → take 36 bytes ≡ take 36 all
    → take 32 bytes ++ c ++ drop 36 all ≡ all
joined_again bytes all c e j a = rw (e, j, a) (take-append-drop 36 all)

-- without a checksum, and with the one that the field holds
sealed_is : (head : Head) (bytes p x : List ℕ) (n : ℕ) → AreBytes bytes → HasFields head bytes → n ≡ sectors_of head.len → 4 * n ≤ 256
    → 512 + 512 * n ≤ length bytes → AreZero (slice_range bytes (44 + 4 * n) 300) → HasStamps head.lsn.cycle n (drop 512 bytes)
    → x ≡ restored n (part 44 256 bytes) (take (512 * n) (drop 512 bytes)) → padded_body p ≡ x
    → little_number 4 (drop 32 bytes) ≡ checksum_of (without_four 32 (take (512 + 512 * n) bytes))
    → record_sectors head p ≡ take (512 + 512 * n) bytes
sealed_is head bytes p x n small f e most room z stamps is pad sum =
    let all = take (512 + 512 * n) bytes in
    let front : take 32 all ≡ take 32 bytes = take-take 32 (512 + 512 * n) bytes (omega arith) in
    let bare : sectors_with 0 head p ≡ without_four 32 all = sectors_are head bytes p x 0 n f e most room z stamps is pad ∙ rw front refl in
    let number : checksum_of (sectors_with 0 head p) ≡ little_number 4 (drop 32 bytes) = ap checksum_of bare ∙ sym sum in
    let field : little_bytes 4 (little_number 4 (drop 32 bytes)) ≡ take 4 (drop 32 bytes) =
    little_bytes-number (drop 32 bytes) (omega (arith, length-drop 32 bytes)) (λ k. rw (get_or-drop 32 bytes k 0) (small (32 + k))) in
    let joined : take 32 bytes ++ take 4 (drop 32 bytes) ≡ take 36 bytes = sym (take-add 32 4 bytes) in
    let again : take 36 bytes ≡ take 36 all = sym (take-take 36 (512 + 512 * n) bytes (omega arith)) in
    ap (λ (k : ℕ). sectors_with k head p) number ∙ sectors_are head bytes p x (little_number 4 (drop 32 bytes)) n f e most room z stamps is pad
    ∙ joined_again bytes all _ field joined again

-- the body's sectors are those that the record has, and what follows them
put_back : (n : ℕ) (bytes : List ℕ) → 512 + 512 * n ≤ length bytes
    → restored n (part 44 256 bytes) (drop 512 bytes) ≡ restored n (part 44 256 bytes) (take (512 * n) (drop 512 bytes)) ++ drop (512 * n) (drop 512 bytes)
put_back n bytes room =
    let y = drop 512 bytes in
    ap (restored n (part 44 256 bytes)) (sym (take-append-drop (512 * n) y))
    ∙ restored-append n (part 44 256 bytes) (take (512 * n) y) (drop (512 * n) y) (omega (arith, length-take-le (512 * n) y (omega (arith, length-drop 512 bytes))))

length-put_back : (n : ℕ) (bytes : List ℕ) → 4 * n ≤ 256 → 512 + 512 * n ≤ length bytes
    → length (restored n (part 44 256 bytes) (take (512 * n) (drop 512 bytes))) ≡ 512 * n
length-put_back n bytes most room =
    let l : length (take (512 * n) (drop 512 bytes)) ≡ 512 * n = length-take-le (512 * n) (drop 512 bytes) (omega (arith, length-drop 512 bytes)) in
    length-restored n (part 44 256 bytes) (take (512 * n) (drop 512 bytes)) (omega (arith, length-take-le 256 (drop 44 bytes) (omega (arith, length-drop 44 bytes)))) (omega arith) ∙ l

body_padded : (len n : ℕ) (bytes : List ℕ) → n ≡ sectors_of len → 4 * n ≤ 256 → 512 + 512 * n ≤ length bytes → IsPadded len bytes
    → padded_body (take len (body_in len bytes)) ≡ restored n (part 44 256 bytes) (take (512 * n) (drop 512 bytes))
body_padded len n bytes e most room z =
    let whole : body_in len bytes ≡ restored n (part 44 256 bytes) (take (512 * n) (drop 512 bytes)) ++ drop (512 * n) (drop 512 bytes) = rw (← e) (put_back n bytes room) in
    let zero = rw (whole, ← e) at z in
    rw whole (padded_is len n _ (drop (512 * n) (drop 512 bytes)) e (length-put_back n bytes most room) zero)

pub word_fits : (at : ℕ) (bytes : List ℕ) → AreBytes bytes → be32_at bytes at < 2 ^ 32
word_fits at bytes small = big_from-lt 0 4 (drop at bytes) (λ k. rw (get_or-drop at bytes k 0) (small (at + k)))

-- bytes that keep all rules are those of a sealed record
pub sealed_by_rules : (sector : ℕ) (bytes : List ℕ) → AreBytes bytes → HasMagic bytes → HasVersion bytes → HasLength bytes → HasChecksum bytes
    → IsInPlace sector bytes → IsSealed bytes (head_in bytes) (take (be32_at bytes 12) (body_in (be32_at bytes 12) bytes))
sealed_by_rules sector bytes small m v l c p =
    let len = be32_at bytes 12 in
    let n = sectors_of len in
    let room = l.room in
    let most : 4 * n ≤ 256 = omega (arith, l.most) in
    let r : 300 + 212 ≤ length bytes = omega (arith, l.room) in
    let fields : HasFields (head_in bytes) bytes = record {
      magic = bytes_at 0 _ bytes small (omega arith) m;
      cycle = bytes_at 4 _ bytes small (omega arith) p.placed.here.cycle;
      version = bytes_at 8 _ bytes small (omega arith) v.version;
      len = bytes_at 12 _ bytes small (omega arith) refl;
      round = bytes_at 16 _ bytes small (omega arith) refl;
      sector = bytes_at 20 _ bytes small (omega arith) refl;
      tail_round = bytes_at 24 _ bytes small (omega arith) refl;
      tail_sector = bytes_at 28 _ bytes small (omega arith) refl;
      prev = bytes_at 36 _ bytes small (omega arith) refl;
      ops = bytes_at 40 _ bytes small (omega arith) refl;
      format = bytes_at 300 _ bytes small (omega arith) v.format;
      uuid = refl;
      size = bytes_at 320 _ bytes small (omega arith) v.size;
      rest = sym (zeros_are 188 (part 324 188 bytes) (length-take-le 188 (drop 324 bytes) (omega (arith, length-drop 324 bytes))) p.placed.zeros.1);
    } in
    let pad = body_padded len n bytes refl most room p.padding in
    let whole = sealed_is (head_in bytes) bytes (take len (body_in len bytes)) _ n small fields refl most room p.placed.zeros.0 p.placed.stamps refl pad c in
    let body_len : len ≤ length (body_in len bytes) =
    rw (put_back n bytes room) (omega (arith, length-append (restored n (part 44 256 bytes) (take (512 * n) (drop 512 bytes))) (drop (512 * n) (drop 512 bytes)), length-put_back n bytes most room)) in
    record {
      good = record {
        some = l.some;
        fits = l.most;
        sector = rw p.placed.here.here p.placed.here.log;
        round = p.placed.here.round;
        cycle = p.placed.here.cycles;
        tail = p.placed.here.tail;
      };
      stored = record {
        prev = word_fits 36 bytes small;
        ops = word_fits 40 bytes small;
        round = word_fits 24 bytes small;
        sector = word_fits 28 bytes small;
        uuid = length-take-le 16 (drop 304 bytes) (omega (arith, length-drop 304 bytes));
      };
      length_is = length-take-le len (body_in len bytes) body_len;
      rest = drop (512 + 512 * n) bytes;
      bytes_are = sym (take-append-drop (512 + 512 * n) bytes) ∙ ap (λ (xs : List ℕ). xs ++ drop (512 + 512 * n) bytes) (sym whole);
    }

-- and putting its body back gives the body
pub opens_by_rules : (sector : ℕ) (bytes new : List ℕ) → AreBytes bytes → HasMagic bytes → HasVersion bytes → HasLength bytes → HasChecksum bytes
    → IsInPlace sector bytes → new ≡ opened_record (be32_at bytes 12) bytes → Opens sector bytes new (head_in bytes)
opens_by_rules sector bytes new small m v l c p e =
    let len = be32_at bytes 12 in
    let n = sectors_of len in
    let most : 4 * n ≤ 256 = omega (arith, l.most) in
    let pad = body_padded len n bytes refl most l.room p.padding in
    record {
      body = take len (body_in len bytes);
      record_is = sealed_by_rules sector bytes small m v l c p;
      here = p.placed.here.here;
      new_is = e ∙ rw (pad, put_back n bytes l.room, drop-drop (512 * n) 512 bytes)
          (sym (append_assoc (take 512 bytes) (restored n (part 44 256 bytes) (take (512 * n) (drop 512 bytes))) (drop (512 + 512 * n) bytes)));
    }
