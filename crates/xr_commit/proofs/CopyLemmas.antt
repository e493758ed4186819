-- That what is opened in a copy of the log's bytes stands in the log.
use Rattle.std.proofs.Common.{◌≡◌, ℕ, ◌+◌, ◌-◌, ◌*◌, ◌<◌, ◌≤◌, ◌∙◌, min, lit<, List, ◌++◌, length, take, drop, Result, Ok, Err, sym, ap, subst, arith}
use Rattle.std.specs.Prelude.{IfOk, IfErr, slice_index}
use Rattle.std.proofs.lemmas.List.{length-drop, length-take, length-take-le, take-append-le, append_assoc, take_all, take_min, get_or-take}
use Rattle.std.proofs.Math.Seq.{drop-append_seam}
use Rattle.xr_base.specs.Image.{part}
use Rattle.xr_base.specs.declared.geometry.TheConstants.{LOG_SECTORS, SECTOR_BYTES}
use Rattle.xr_record.specs.declared.head.Head.{Head}
use Rattle.xr_record.specs.declared.unsealing.SealFault.{SealFault}
use Rattle.xr_record.specs.Record.{IsSealed}
use Rattle.xr_base.specs.declared.layout.TheConstants.{RECORD_MAGIC}
use Rattle.xr_record.specs.Unsealing.{IsRefusal, Opens}
use Rattle.xr_base.specs.Fields.{be32_at}
use Rattle.xr_commit.specs.declared.layout.TheConstants.{LOG_BYTES, MOST_RECORD_BYTES}
use Rattle.xr_commit.specs.LogRecords.{StandsAt, bytes_at}

-- the copy holds the bytes in which a record of the sector lies
pub copy_is : (log : List ℕ) (sector n : ℕ) → length log ≡ LOG_BYTES → sector < LOG_SECTORS → n ≡ min MOST_RECORD_BYTES (LOG_BYTES - SECTOR_BYTES * sector)
    → part (SECTOR_BYTES * sector) n log ≡ bytes_at log sector
copy_is log sector n long within is =
    let left : length (drop (SECTOR_BYTES * sector) log) ≡ LOG_BYTES - SECTOR_BYTES * sector = length-drop (SECTOR_BYTES * sector) log ∙ ap (λ (l : ℕ). l - SECTOR_BYTES * sector) long in
    ap (λ (m : ℕ). take m (drop (SECTOR_BYTES * sector) log)) (is ∙ ap (min MOST_RECORD_BYTES) (sym left))
    ∙ take_min MOST_RECORD_BYTES (drop (SECTOR_BYTES * sector) log)

-- as the code copies them
pub copied_is : (log copy : List ℕ) (sector n : ℕ) → length log ≡ LOG_BYTES → sector < LOG_SECTORS → n ≡ min MOST_RECORD_BYTES (LOG_BYTES - SECTOR_BYTES * sector)
    → copy ≡ take (SECTOR_BYTES * sector + n - SECTOR_BYTES * sector) (drop (SECTOR_BYTES * sector) log) → copy ≡ bytes_at log sector
copied_is log copy sector n long within is copied =
    copied ∙ ap (λ (m : ℕ). take m (drop (SECTOR_BYTES * sector) log)) (let e : SECTOR_BYTES * sector + n - SECTOR_BYTES * sector ≡ n = omega arith in e)
    ∙ copy_is log sector n long within is

-- and these are a sector at least
pub sector_copied : (log copy : List ℕ) (sector : ℕ) → length log ≡ LOG_BYTES → sector < LOG_SECTORS → copy ≡ bytes_at log sector → SECTOR_BYTES ≤ length copy
sector_copied log copy sector long within is =
    let e : length copy ≡ min MOST_RECORD_BYTES (length (drop (SECTOR_BYTES * sector) log)) = ap length is ∙ length-take MOST_RECORD_BYTES (drop (SECTOR_BYTES * sector) log) in
    let f : length (drop (SECTOR_BYTES * sector) log) ≡ length log - SECTOR_BYTES * sector = length-drop (SECTOR_BYTES * sector) log in
    omega arith

-- after the first sector stands the body
body_after : (first body padding rest after : List ℕ) (len : ℕ) → length first ≡ SECTOR_BYTES → length body ≡ len
    → part SECTOR_BYTES len ((first ++ (body ++ padding) ++ rest) ++ after) ≡ body
body_after first body padding rest after len sector whole =
    let tail : List ℕ = padding ++ (rest ++ after) in
    let joined : (first ++ (body ++ padding) ++ rest) ++ after ≡ first ++ (body ++ tail) = simp append_assoc in
    let past : drop SECTOR_BYTES (first ++ (body ++ tail)) ≡ body ++ tail =
    ap (λ (n : ℕ). drop n (first ++ (body ++ tail))) (sym sector) ∙ drop-append_seam first (body ++ tail) in
    ap (part SECTOR_BYTES len) joined ∙ ap (take len) past ∙ take-append-le len body tail (omega arith) ∙ take_all len body (omega arith)

pub opened_stands : (log copy new after : List ℕ) (sector : ℕ) (result : Result Head SealFault) → copy ≡ bytes_at log sector → SECTOR_BYTES ≤ length copy
    → IfOk result (Opens sector copy new)
    → IfOk result (λ head. StandsAt log sector (record { head = head; body = part SECTOR_BYTES head.len (new ++ after) }))
opened_stands log copy new after sector (Err e) is room opened = tt
opened_stands log copy new after sector (Ok head) is room opened =
    let first : length (take SECTOR_BYTES copy) ≡ SECTOR_BYTES = length-take-le SECTOR_BYTES copy room in
    let body_is : part SECTOR_BYTES head.len (new ++ after) ≡ opened.body =
    ap (λ (xs : List ℕ). part SECTOR_BYTES head.len (xs ++ after)) opened.new_is
    ∙ body_after (take SECTOR_BYTES copy) opened.body _ _ after head.len first opened.record_is.length_is in
    record {
      sealed = subst (λ (b : List ℕ). IsSealed (bytes_at log sector) head b) (sym body_is)
          (subst (λ (xs : List ℕ). IsSealed xs head opened.body) is opened.record_is);
      here = opened.here;
    }

first_bytes : (xs : List ℕ) (k : ℕ) → k < 4 → slice_index xs k ≡ slice_index (take MOST_RECORD_BYTES xs) k
first_bytes xs k few = sym (get_or-take MOST_RECORD_BYTES xs k 0 (omega arith))

-- the magic is the same in the log and in the bytes of the record
pub magic_at : (log : List ℕ) (sector : ℕ) → be32_at (bytes_at log sector) 0 ≡ RECORD_MAGIC → be32_at log (SECTOR_BYTES * sector) ≡ RECORD_MAGIC
magic_at log sector magic =
    let xs : List ℕ = drop (SECTOR_BYTES * sector) log in
    let a : slice_index xs 0 ≡ slice_index (take MOST_RECORD_BYTES xs) 0 = first_bytes xs 0 (lit< tt) in
    let b : slice_index xs 1 ≡ slice_index (take MOST_RECORD_BYTES xs) 1 = first_bytes xs 1 (lit< tt) in
    let d : slice_index xs 2 ≡ slice_index (take MOST_RECORD_BYTES xs) 2 = first_bytes xs 2 (lit< tt) in
    let e : slice_index xs 3 ≡ slice_index (take MOST_RECORD_BYTES xs) 3 = first_bytes xs 3 (lit< tt) in
    rw (a, b, d, e) magic

-- a refusal is one of the log's bytes
pub refused_there : {T : Type 0} (log copy : List ℕ) (sector : ℕ) (result : Result T SealFault) → copy ≡ bytes_at log sector → IfErr result (IsRefusal sector copy)
    → IfErr result (IsRefusal sector (bytes_at log sector))
refused_there log copy sector result is refused = subst (λ (xs : List ℕ). IfErr result (IsRefusal sector xs)) is refused
