-- That a sealed record keeps each rule, and holds its header's values.
use Rattle.std.proofs.Common.{◌≡◌, ℕ, ◌+◌, ◌-◌, ◌*◌, ◌<◌, ◌≤◌, ◌^◌, List, [], ◌++◌, length, slice_range, take, drop, refl, sym, ap, subst, ◌∙◌, arith}
use Rattle.std.proofs.lemmas.List.{append_assoc, drop-drop, drop_at, length-append, length-replicate, take_at}
use Rattle.std.proofs.lemmas.List.Elements.{All-replicate}
use Rattle.byteorder.specs.Endian.{big_bytes, big_number, little_number}
use Rattle.byteorder.specs.Numbers.{big_number-reads_back, little_number-reads_back}
use Rattle.xr_base.specs.Checksum.{checksum_of, without_four}
use Rattle.xr_base.specs.Image.{part}
use Rattle.xr_record.specs.declared.head.Head.{Head}
use Rattle.xr_base.specs.declared.layout.TheConstants.{MAX_BODY_BYTES, RECORD_FORMAT}
use Rattle.xr_base.specs.declared.geometry.TheConstants.{CYCLES}
use Rattle.xr_record.specs.Record.{IsSealed, fields_after, fields_before, moved, sectors_of, sectors_with, stamped, zeros, record_sectors, padded_body}
use Rattle.xr_record.specs.Lsn.{lsn_number}
use Rattle.xr_record.specs.Unsealing.{AreZero, HasChecksum, HasLength, HasMagic, HasStamps, HasVersion, HasZeros, IsInPlace, IsPadded, body_in, checksum_in, head_in}
use Rattle.xr_base.specs.Fields.{be32_at}
use Rattle.xr_record.specs.StampLaws.{length-moved, length-stamped, restored-append, restored-stamped, stamped-append, stamps-stamped}

five : (f w a s r : List ℕ) → f ++ w ++ a ++ s ++ r ≡ f ++ (w ++ (a ++ (s ++ r)))
five f w a s r = simp append_assoc

abbrev count : Head → ℕ
count head = sectors_of head.len

abbrev words : Head → List ℕ → List ℕ
words head body = moved (count head) (padded_body body) ++ zeros (256 - 4 * count head)

abbrev stamp : Head → List ℕ
stamp head = big_bytes 4 head.lsn.cycle

abbrev sum : Head → List ℕ → ℕ
sum head body = checksum_of (sectors_with 0 head body)

length-zeros : (n : ℕ) → length (zeros n) ≡ n
unfolding zeros
length-zeros n = length-replicate n 0

zeros_zero : (n : ℕ) → AreZero (zeros n)
unfolding zeros
zeros_zero n = All-replicate (λ (byte : ℕ). byte ≡ 0) n 0 refl

length-padded_body : (head : Head) (body : List ℕ) → length body ≡ head.len → length (padded_body body) ≡ 512 * count head
length-padded_body head body e =
    rw e (omega (arith, length-append body (zeros (512 * count head - head.len)), length-zeros (512 * count head - head.len)))

length-words : (head : Head) (body : List ℕ) → length body ≡ head.len → head.len ≤ 32768 → length (words head body) ≡ 256
length-words head body e most =
    let p = length-padded_body head body e in
    omega (arith, length-append (moved (count head) (padded_body body)) (zeros (256 - 4 * count head)), length-zeros (256 - 4 * count head), length-moved (count head) (padded_body body) (omega arith))

-- the parts of a record
front : (bytes : List ℕ) (head : Head) (body : List ℕ) → (s : IsSealed bytes head body)
    → bytes ≡ fields_before head (sum head body) ++ (words head body ++ (fields_after head ++ (stamped (stamp head) (count head) (padded_body body) ++ s.rest)))
front bytes head body s = s.bytes_are ∙ five (fields_before head (sum head body)) (words head body) (fields_after head) (stamped (stamp head) (count head) (padded_body body)) s.rest

past_words : (bytes : List ℕ) (head : Head) (body : List ℕ) → (s : IsSealed bytes head body)
    → drop 300 bytes ≡ fields_after head ++ (stamped (stamp head) (count head) (padded_body body) ++ s.rest)
past_words bytes head body s =
    let lw = length-words head body s.length_is s.good.fits in
    let e : 300 ≡ 44 + 256 = omega arith in
    sym (drop-drop 256 44 bytes) ∙ ap (λ (xs : List ℕ). drop 256 (drop 44 xs)) (front bytes head body s)
    ∙ drop_at (words head body) (fields_after head ++ (stamped (stamp head) (count head) (padded_body body) ++ s.rest)) 256 lw

length-after : (head : Head) → length head.uuid ≡ 16 → length (fields_after head) ≡ 212
length-after head e =
    omega (arith, length-append (big_bytes 4 RECORD_FORMAT ++ head.uuid ++ big_bytes 4 MAX_BODY_BYTES) (zeros 188), length-append (big_bytes 4 RECORD_FORMAT ++ head.uuid) (big_bytes 4 MAX_BODY_BYTES), length-zeros 188)

past_header : (bytes : List ℕ) (head : Head) (body : List ℕ) → (s : IsSealed bytes head body)
    → drop 512 bytes ≡ stamped (stamp head) (count head) (padded_body body) ++ s.rest
past_header bytes head body s =
    sym (drop-drop 212 300 bytes) ∙ ap (drop 212) (past_words bytes head body s)
    ∙ drop_at (fields_after head) (stamped (stamp head) (count head) (padded_body body) ++ s.rest) 212 (length-after head s.stored.uuid)

pub sealed_len : (bytes : List ℕ) (head : Head) (body : List ℕ) → IsSealed bytes head body → be32_at bytes 12 ≡ head.len
sealed_len bytes head body s = ap (λ (xs : List ℕ). be32_at xs 12) (front bytes head body s) ∙ big_number-reads_back 4 head.len [] (omega (arith, s.good.fits))

pub sealed_magic : (bytes : List ℕ) (head : Head) (body : List ℕ) → IsSealed bytes head body → HasMagic bytes
sealed_magic bytes head body s = ap (λ (xs : List ℕ). be32_at xs 0) (front bytes head body s)

pub sealed_version : (bytes : List ℕ) (head : Head) (body : List ℕ) → IsSealed bytes head body → HasVersion bytes
sealed_version bytes head body s =
    let rest = stamped (stamp head) (count head) (padded_body body) ++ s.rest in
    let past = past_words bytes head body s in
    let size : drop 320 bytes ≡ big_bytes 4 MAX_BODY_BYTES ++ (zeros 188 ++ rest) =
    sym (drop-drop 20 300 bytes) ∙ ap (drop 20) past
    ∙ ap (drop 16) (append_assoc (head.uuid ++ big_bytes 4 MAX_BODY_BYTES) (zeros 188) rest ∙ append_assoc head.uuid (big_bytes 4 MAX_BODY_BYTES) (zeros 188 ++ rest))
    ∙ drop_at head.uuid (big_bytes 4 MAX_BODY_BYTES ++ (zeros 188 ++ rest)) 16 s.stored.uuid in
    record {
      version = ap (λ (xs : List ℕ). be32_at xs 8) (front bytes head body s);
      format = ap (big_number 4) past;
      size = ap (big_number 4) size;
    }

pub length-sectors_with : (head : Head) (body : List ℕ) (sum : ℕ) → length body ≡ head.len → head.len ≤ 32768 → length head.uuid ≡ 16
    → length (sectors_with sum head body) ≡ 512 + 512 * count head
length-sectors_with head body sum e most uuid =
    let f = fields_before head sum in
    let w = words head body in
    let a = fields_after head in
    let s = stamped (stamp head) (count head) (padded_body body) in
    let ls : length s ≡ 512 * count head = length-stamped (count head) (stamp head) (padded_body body) refl (omega (arith, length-padded_body head body e)) ∙ length-padded_body head body e in
    omega (arith, length-append (f ++ w ++ a) s, length-append (f ++ w) a, length-append f w, length-words head body e most, length-after head uuid, ls)

pub sealed_length : (bytes : List ℕ) (head : Head) (body : List ℕ) → IsSealed bytes head body → HasLength bytes
sealed_length bytes head body s =
    let len = sealed_len bytes head body s in
    let all = length-sectors_with head body (sum head body) s.length_is s.good.fits s.stored.uuid in
    let whole : length bytes ≡ 512 + 512 * count head + length s.rest = ap length s.bytes_are ∙ length-append (record_sectors head body) s.rest ∙ ap (λ (n : ℕ). n + length s.rest) all in
    let room : 512 + 512 * count head ≤ length bytes = omega arith in
    record {
      some = subst (λ (n : ℕ). 0 < n) (sym len) s.good.some;
      most = subst (λ (n : ℕ). n ≤ MAX_BODY_BYTES) (sym len) s.good.fits;
      room = subst (λ (n : ℕ). 512 + 512 * sectors_of n ≤ length bytes) (sym len) room;
    }

-- a record without its checksum is the record with zeros there
bare : (head : Head) (body : List ℕ) (sum : ℕ) → without_four 32 (sectors_with sum head body) ≡ sectors_with 0 head body
bare head body sum = refl

pub sealed_sum : (bytes : List ℕ) (head : Head) (body : List ℕ) → IsSealed bytes head body → checksum_in bytes ≡ sum head body
sealed_sum bytes head body s =
    let all = length-sectors_with head body (sum head body) s.length_is s.good.fits s.stored.uuid in
    let whole : take (512 + 512 * count head) bytes ≡ record_sectors head body = ap (take (512 + 512 * count head)) s.bytes_are ∙ take_at (record_sectors head body) s.rest (512 + 512 * count head) all in
    subst (λ (n : ℕ). checksum_of (without_four 32 (take (512 + 512 * sectors_of n) bytes)) ≡ sum head body) (sym (sealed_len bytes head body s))
    (ap (λ (xs : List ℕ). checksum_of (without_four 32 xs)) whole ∙ ap checksum_of (bare head body (sum head body)))

pub sealed_checksum : (bytes : List ℕ) (head : Head) (body : List ℕ) → IsSealed bytes head body → checksum_in bytes < 2 ^ 32 → HasChecksum bytes
sealed_checksum bytes head body s fits =
    let same = sealed_sum bytes head body s in
    let room : sum head body < 2 ^ 32 = subst (λ (n : ℕ). n < 2 ^ 32) same fits in
    ap (λ (xs : List ℕ). little_number 4 (drop 32 xs)) (front bytes head body s) ∙ little_number-reads_back 4 (sum head body) [] room ∙ sym same

same_head : (head : Head) (c s tc ts p o l : ℕ) (u : List ℕ) → c ≡ head.lsn.cycle → s ≡ head.lsn.sector → tc ≡ head.tail.cycle → ts ≡ head.tail.sector
    → p ≡ head.prev → o ≡ head.ops → l ≡ head.len → u ≡ head.uuid
    → (let found : Head = record { lsn = record { cycle = c; sector = s }; tail = record { cycle = tc; sector = ts }; prev = p; ops = o; len = l; uuid = u } in found ≡ head)
same_head head c s tc ts p o l u a b d e f g h i = rw (a, b, d, e, f, g, h, i) refl

pub sealed_head : (bytes : List ℕ) (head : Head) (body : List ℕ) → IsSealed bytes head body → head_in bytes ≡ head
sealed_head bytes head body s =
    let e = front bytes head body s in
    let rest = stamped (stamp head) (count head) (padded_body body) ++ s.rest in
    let g = s.good in
    let uuid : part 304 16 bytes ≡ head.uuid =
    ap (take 16) (sym (drop-drop 4 300 bytes) ∙ ap (drop 4) (past_words bytes head body s)
    ∙ append_assoc (head.uuid ++ big_bytes 4 MAX_BODY_BYTES) (zeros 188) rest ∙ append_assoc head.uuid (big_bytes 4 MAX_BODY_BYTES) (zeros 188 ++ rest))
    ∙ take_at head.uuid (big_bytes 4 MAX_BODY_BYTES ++ (zeros 188 ++ rest)) 16 s.stored.uuid in
    same_head head _ _ _ _ _ _ _ _
    (ap (λ (xs : List ℕ). be32_at xs 16) e ∙ big_number-reads_back 4 head.lsn.cycle [] (omega (arith, g.cycle)))
    (ap (λ (xs : List ℕ). be32_at xs 20) e ∙ big_number-reads_back 4 head.lsn.sector [] (omega (arith, g.sector)))
    (ap (λ (xs : List ℕ). be32_at xs 24) e ∙ big_number-reads_back 4 head.tail.cycle [] s.stored.round)
    (ap (λ (xs : List ℕ). be32_at xs 28) e ∙ big_number-reads_back 4 head.tail.sector [] s.stored.sector)
    (ap (λ (xs : List ℕ). be32_at xs 36) e ∙ big_number-reads_back 4 head.prev [] s.stored.prev)
    (ap (λ (xs : List ℕ). be32_at xs 40) e ∙ big_number-reads_back 4 head.ops [] s.stored.ops)
    (sealed_len bytes head body s) uuid

-- with its words put back the record holds its body
pub sealed_body : (bytes : List ℕ) (head : Head) (body : List ℕ) → (s : IsSealed bytes head body) → body_in head.len bytes ≡ padded_body body ++ s.rest
sealed_body bytes head body s =
    let n = count head in
    let q = padded_body body in
    let lq = length-padded_body head body s.length_is in
    let rest = stamped (stamp head) n q ++ s.rest in
    let at_words : part 44 256 bytes ≡ words head body =
    ap (λ (xs : List ℕ). take 256 (drop 44 xs)) (front bytes head body s) ∙ take_at (words head body) (fields_after head ++ rest) 256 (length-words head body s.length_is s.good.fits) in
    rw (at_words, past_header bytes head body s)
    (restored-append n (words head body) (stamped (stamp head) n q) s.rest (omega (arith, length-stamped n (stamp head) q refl (omega arith)))
    ∙ ap (λ (xs : List ℕ). xs ++ s.rest) (restored-stamped n (stamp head) q (zeros (256 - 4 * n)) refl (omega arith)))

pub sealed_place : (sector : ℕ) (bytes : List ℕ) (head : Head) (body : List ℕ) → IsSealed bytes head body → head.lsn.sector ≡ sector → IsInPlace sector bytes
sealed_place sector bytes head body s here =
    let e = front bytes head body s in
    let same = sealed_head bytes head body s in
    let n = count head in
    let q = padded_body body in
    let lq = length-padded_body head body s.length_is in
    let rest = stamped (stamp head) n q ++ s.rest in
    let cycle : be32_at bytes 16 ≡ head.lsn.cycle = ap (λ (h : Head). h.lsn.cycle) same in
    let len : be32_at bytes 12 ≡ head.len = sealed_len bytes head body s in
    let below : drop 512 bytes ≡ stamped (stamp head) n (q ++ s.rest) =
    past_header bytes head body s ∙ sym (stamped-append n (stamp head) q s.rest (omega arith)) in
    let stamps : HasStamps head.lsn.cycle n (drop 512 bytes) =
    rw below (stamps-stamped n (stamp head) (q ++ s.rest) refl (omega (arith, length-append q s.rest))) in
    let lm : length (moved n q) ≡ 4 * n = length-moved n q (omega arith) in
    let most : 4 * n ≤ 256 = omega (arith, s.good.fits) in
    let left : 300 - (44 + 4 * n) ≡ 256 - 4 * n = omega arith in
    let after : drop (44 + 4 * n) bytes ≡ zeros (256 - 4 * n) ++ (fields_after head ++ rest) =
    sym (drop-drop (4 * n) 44 bytes) ∙ ap (λ (xs : List ℕ). drop (4 * n) (drop 44 xs)) e
    ∙ ap (drop (4 * n)) (append_assoc (moved n q) (zeros (256 - 4 * n)) (fields_after head ++ rest))
    ∙ drop_at (moved n q) (zeros (256 - 4 * n) ++ (fields_after head ++ rest)) (4 * n) lm in
    let word_zeros : slice_range bytes (44 + 4 * n) 300 ≡ zeros (256 - 4 * n) =
    rw (left, after) (take_at (zeros (256 - 4 * n)) (fields_after head ++ rest) (256 - 4 * n) (length-zeros (256 - 4 * n))) in
    let u = head.uuid ++ big_bytes 4 MAX_BODY_BYTES in
    let end_zeros : slice_range bytes 324 512 ≡ zeros 188 =
    ap (take 188) (sym (drop-drop 24 300 bytes) ∙ ap (drop 24) (past_words bytes head body s) ∙ ap (drop 20) (append_assoc u (zeros 188) rest)
    ∙ drop_at u (zeros 188 ++ rest) 20 (omega (arith, length-append head.uuid (big_bytes 4 MAX_BODY_BYTES), s.stored.uuid)))
    ∙ take_at (zeros 188) rest 188 (length-zeros 188) in
    let back = sealed_body bytes head body s in
    let tail = zeros (512 * n - head.len) in
    let pad : slice_range (body_in head.len bytes) head.len (512 * n) ≡ tail =
    let q_is : q ≡ body ++ tail = ap (λ (l : ℕ). body ++ zeros (512 * sectors_of l - l)) s.length_is in
    rw (back, q_is, append_assoc body tail s.rest, drop_at body (tail ++ s.rest) head.len s.length_is)
    (take_at tail s.rest (512 * n - head.len) (length-zeros (512 * n - head.len))) in
    record {
      placed = record {
        here = record {
          here = ap (λ (h : Head). h.lsn.sector) same ∙ here;
          log = rw (← here) s.good.sector;
          cycle = ap (λ (xs : List ℕ). be32_at xs 4) e ∙ big_number-reads_back 4 head.lsn.cycle [] (omega (arith, s.good.cycle)) ∙ sym cycle;
          round = subst (λ (c : ℕ). 0 < c) (sym cycle) s.good.round;
          cycles = subst (λ (c : ℕ). c < CYCLES) (sym cycle) s.good.cycle;
          tail = subst (λ (h : Head). lsn_number h.tail ≤ lsn_number h.lsn) (sym same) s.good.tail;
        };
        stamps = subst (λ (h : Head). HasStamps h.lsn.cycle (sectors_of h.len) (drop 512 bytes)) (sym same) stamps;
        zeros = subst (λ (h : Head). HasZeros (sectors_of h.len) bytes) (sym same) (rw word_zeros (zeros_zero (256 - 4 * n)), rw end_zeros (zeros_zero 188));
      };
      padding = subst (λ (l : ℕ). IsPadded l bytes) (sym len) (rw pad (zeros_zero (512 * n - head.len)));
    }
