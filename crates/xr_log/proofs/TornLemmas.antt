-- What the write of one more record leaves.
use Rattle.std.proofs.Common.{◌≡◌, ◌⊎◌, ℕ, ◌+◌, ◌*◌, ◌<◌, ◌≤◌, Bool, true, false, List, length, refl, sym, ap, subst, arith, ◌∙◌, inl, inr}
use Rattle.std.specs.Prelude.{Contains}
use Rattle.std.specs.Str.{bytes_eq}
use Rattle.std.proofs.lemmas.Bool.{cases_lt}
use Rattle.std.proofs.lemmas.Slice.Eq.{bytes_eq-Decides}
use Rattle.xr_base.specs.Image.{overlaid, part}
use Rattle.xr_base.specs.ImageLaws.{length-overlaid, part-overlaid}
use Rattle.xr_base.specs.declared.geometry.TheConstants.{SECTOR_BYTES, SECTORS}
use Rattle.xr_disk.specs.Crash.{Crash, SameOutside, Write}
use Rattle.xr_disk.specs.CrashLaws.{overlaid_outside}
use Rattle.xr_record.specs.declared.head.Head.{Head}
use Rattle.xr_record.specs.Lsn.{lsn_number}
use Rattle.xr_commit.specs.LogRecords.{IsHead, IsRecordAt, LogRecord, StandsAt, log_of, record_end}
use Rattle.xr_commit.specs.OneRecordLaws.{one_record}
use Rattle.xr_commit.specs.WholeRecordLaws.{StandsIn, ends_within}
use Rattle.xr_scan.specs.FalseRecords.{log_place, own_sectors, record_len}
use Rattle.xr_log.specs.TornWrites.{IsNextRecord, IsTornWrite, IsWholeWrite, LieApart, bytes_of}
use Rattle.xr_log.proofs.OutsideLemmas.{above_same, below_same, over_same, undone_same, wholly_done}
use Rattle.xr_log.proofs.StandingLemmas.{length-bytes_of, length-log, none_within, sectors_stand, stands_by_sectors}

long : {uuid : List ℕ} {head : LogRecord} (next : LogRecord) → IsNextRecord uuid head next → length (bytes_of next) ≡ record_len next.head
long next n = length-bytes_of next n.long n.good n.stored

-- a record where an image's sectors are the same is a record of the other
same_sectors : (image other : List ℕ) (r : LogRecord) → length image ≡ SECTOR_BYTES * SECTORS → own_sectors other r.head ≡ own_sectors image r.head
    → StandsIn (log_of image) r → StandsIn (log_of other) r
same_sectors image other r size same stands =
    let within = ends_within (log_of image) r (length-log image size) stands in
    stands_by_sectors other r stands.sealed.good stands.sealed.stored stands.sealed.length_is within (same ∙ sectors_stand image r.head.lsn.sector r stands within)

-- records that lie apart aren't met
own_apart : (old new : List ℕ) (next r : LogRecord) → length (bytes_of next) ≡ record_len next.head
    → SameOutside (log_place next.head.lsn.sector) (length (bytes_of next)) old new → LieApart r.head next.head → own_sectors new r.head ≡ own_sectors old r.head
own_apart old new next r size same (inl before) =
    below_same (log_place next.head.lsn.sector) (length (bytes_of next)) (log_place r.head.lsn.sector) (record_len r.head) old new same (omega (arith, before))
own_apart old new next r size same (inr behind) =
    above_same (log_place next.head.lsn.sector) (length (bytes_of next)) (log_place r.head.lsn.sector) (record_len r.head) old new same (omega (arith, behind, size))

apart_or_meet : (one two : Head) → LieApart one two ⊎ ((one.lsn.sector < record_end two) × (two.lsn.sector < record_end one))
apart_or_meet one two = elim (cases_lt two.lsn.sector (record_end one)) [
  | inr before ↦ inl (inl before)
  | inl a ↦ elim (cases_lt one.lsn.sector (record_end two)) [ inr behind ↦ inl (inr behind) | inl b ↦ inr (b, a) ]
]

-- a record that lies apart from the write stands as before
pub leaves_others : (uuid image : List ℕ) (head next r : LogRecord) (c : Crash) → IsTornWrite uuid image head next c → LieApart r.head next.head
    → StandsIn (log_of image) r → StandsIn (log_of c.image) r
leaves_others uuid image head next r c w apart stands =
    same_sectors image c.image r w.long (own_apart image c.image next r (long next w.next_is) w.torn.outside apart) stands

-- the image with the write wholly done
done_image : List ℕ → LogRecord → List ℕ
done_image image next = overlaid (log_place next.head.lsn.sector) (bytes_of next) image

done_stands : (uuid image : List ℕ) (head next : LogRecord) → length image ≡ SECTOR_BYTES * SECTORS → IsNextRecord uuid head next
    → StandsIn (log_of (done_image image next)) next
unfolding done_image
done_stands uuid image head next size n =
    let l = long next n in
    let within = n.within in
    stands_by_sectors (done_image image next) next n.good n.stored n.long n.within
    (part-overlaid (log_place next.head.lsn.sector) (record_len next.head) (bytes_of next) image l (omega (arith, size, within)))

meets_is : (log : List ℕ) (next r : LogRecord) → StandsIn log next → StandsIn log r → r.head.lsn.sector < record_end next.head → next.head.lsn.sector < record_end r.head
    → r ≡ next
meets_is log next r one two a b = elim (cases_lt r.head.lsn.sector next.head.lsn.sector) [
  | inl below ↦ (let e = none_within log r.head.lsn.sector next.head.lsn.sector r next two one below in absurd (omega (arith, e, b)))
  | inr above ↦ elim (cases_lt next.head.lsn.sector r.head.lsn.sector) [
    | inl over ↦ (let e = none_within log next.head.lsn.sector r.head.lsn.sector next r one two over in absurd (omega (arith, e, a)))
    | inr level ↦ (let same : next.head.lsn.sector ≡ r.head.lsn.sector = omega (arith, above, level) in
        one_record log r.head.lsn.sector r next two (subst (λ (s : ℕ). StandsAt log s next) same one))
  ]
]

at_own : {uuid log : List ℕ} {sector : ℕ} {r : LogRecord} → IsRecordAt uuid log sector r → StandsIn log r
at_own {log = log} {r = r} at = subst (λ (s : ℕ). StandsAt log s r) (sym at.stands.here) at.stands

record_of : {uuid log : List ℕ} {r : LogRecord} → StandsIn log r → r.head.uuid ≡ uuid → IsRecordAt uuid log r.head.lsn.sector r
record_of stands own = record { stands = stands; own = own }

-- an old record's LSN is at most the head's
old_below : (uuid image : List ℕ) (head r : LogRecord) → IsHead uuid (log_of image) head → StandsIn (log_of image) r → r.head.uuid ≡ uuid
    → lsn_number r.head.lsn ≤ lsn_number head.head.lsn
old_below uuid image head r newest stands own = newest.newest r.head.lsn.sector r (record_of stands own)

-- a record of the image with the write done is the new one, or one of the old image
done_or_old : (uuid image : List ℕ) (head next r : LogRecord) → length image ≡ SECTOR_BYTES * SECTORS → IsNextRecord uuid head next
    → StandsIn (log_of (done_image image next)) r → (r ≡ next) ⊎ StandsIn (log_of image) r
unfolding done_image
done_or_old uuid image head next r size n stands =
    let l = long next n in
    let within = n.within in
    let done = done_image image next in
    let fits : log_place next.head.lsn.sector + length (bytes_of next) ≤ length image = omega (arith, size, within, l) in
    let size_done : length done ≡ SECTOR_BYTES * SECTORS = length-overlaid (log_place next.head.lsn.sector) (bytes_of next) image fits ∙ size in
    elim (apart_or_meet r.head next.head) [
      | inl apart ↦ inr (same_sectors done image r size_done
          (sym (own_apart image done next r l (overlaid_outside (log_place next.head.lsn.sector) (bytes_of next) image fits) apart)) stands)
      | inr (a, b) ↦ inl (meets_is (log_of done) next r (done_stands uuid image head next size n) stands a b)
    ]

-- whole: the new record is the head
pub done_head : (uuid image : List ℕ) (head next : LogRecord) → length image ≡ SECTOR_BYTES * SECTORS → IsHead uuid (log_of image) head → IsNextRecord uuid head next
    → IsHead uuid (log_of (overlaid (log_place next.head.lsn.sector) (bytes_of next) image)) next
unfolding done_image
done_head uuid image head next size newest n =
    record {
      at = record_of (done_stands uuid image head next size n) n.own;
      newest = λ sector other at. elim (done_or_old uuid image head next other size n (at_own at)) [
        | inl is ↦ subst (λ (r : LogRecord). lsn_number r.head.lsn ≤ lsn_number next.head.lsn) (sym is) (omega arith)
        | inr old ↦ (let a = old_below uuid image head other newest old at.own in let b = n.newer in omega (arith, a, b))
      ];
    }

-- one that the write meets, and that is the same with the write wholly done, is the new one
met_whole : (uuid image : List ℕ) (head next r : LogRecord) (c : Crash) → IsTornWrite uuid image head next c → StandsIn (log_of c.image) r
    → r.head.lsn.sector < record_end next.head → next.head.lsn.sector < record_end r.head
    → own_sectors c.image r.head ≡ own_sectors (done_image c.image next) r.head → (r ≡ next) × (own_sectors c.image next.head ≡ bytes_of next)
unfolding done_image
met_whole uuid image head next r c w stands a b whole =
    let at : ℕ = log_place next.head.lsn.sector in
    let bytes : List ℕ = bytes_of next in
    let l = long next w.next_is in
    let within = w.next_is.within in
    let size = w.long in
    let done : List ℕ = done_image image next in
    let same : own_sectors c.image r.head ≡ own_sectors done r.head = whole ∙ ap (λ (xs : List ℕ). own_sectors xs r.head) (over_same at bytes image c.image w.torn.outside) in
    let there : StandsIn (log_of done) r = same_sectors c.image done r (w.torn.outside.long ∙ size) (sym same) stands in
    let is : r ≡ next = meets_is (log_of done) next r (done_stands uuid image head next size w.next_is) there a b in (
      is,
      subst (λ (q : LogRecord). own_sectors c.image q.head ≡ own_sectors done q.head) is same
          ∙ part-overlaid at (record_len next.head) bytes image l (omega (arith, size, within)),
    )

-- torn: the record that stands somewhere in the crash's image stood in the old one, or it is the new one and stands whole
torn_or_old : (uuid image : List ℕ) (head next r : LogRecord) (c : Crash) → IsTornWrite uuid image head next c → StandsIn (log_of c.image) r
    → ((r ≡ next) × (own_sectors c.image next.head ≡ bytes_of next)) ⊎ StandsIn (log_of image) r
unfolding done_image
torn_or_old uuid image head next r c w stands =
    let at : ℕ = log_place next.head.lsn.sector in
    let bytes : List ℕ = bytes_of next in
    let l = long next w.next_is in
    let within = w.next_is.within in
    let size = w.long in
    let size_c : length c.image ≡ SECTOR_BYTES * SECTORS = w.torn.outside.long ∙ size in
    let fits : at + length bytes ≤ length image = omega (arith, size, within, l) in
    let write : Write = record { at = at; bytes = bytes; before = part at (length bytes) image } in
    elim (apart_or_meet r.head next.head) [
      | inl apart ↦ inr (same_sectors c.image image r size_c (sym (own_apart image c.image next r l w.torn.outside apart)) stands)
      | inr (a, b) ↦ elim (w.sound write r (subst (λ (ws : List Write). Contains ws write) (sym w.torn.in_flight) (0, omega arith, refl)) stands
          record { begins = omega (arith, a, b); ends = omega (arith, a, b, l) }) [
            | inl whole ↦ inl (met_whole uuid image head next r c w stands a b whole)
            | inr none ↦ inr (same_sectors c.image image r size_c
                (sym (none ∙ ap (λ (xs : List ℕ). own_sectors xs r.head) (undone_same at (length bytes) image c.image w.torn.outside fits))) stands)
          ]
    ]

-- a crash holds the new record's bytes
whole_or_not : (uuid image : List ℕ) (head next : LogRecord) (c : Crash) → IsTornWrite uuid image head next c → (b : Bool)
    → bytes_eq (own_sectors c.image next.head) (bytes_of next) ≡ b → IsWholeWrite uuid image next c ⊎ IsHead uuid (log_of c.image) head
whole_or_not uuid image head next c w true e =
    let at : ℕ = log_place next.head.lsn.sector in
    let l = long next w.next_is in
    let size = w.long in
    let within = w.next_is.within in
    let there : own_sectors c.image next.head ≡ bytes_of next = (bytes_eq-Decides (own_sectors c.image next.head) (bytes_of next)).0 e in
    let is : c.image ≡ overlaid at (bytes_of next) image =
    wholly_done at (bytes_of next) image c.image w.torn.outside (omega (arith, size, within, l)) (subst (λ (n : ℕ). part at n c.image ≡ bytes_of next) (sym l) there) in
    inl record { image_is = is; newest = subst (λ (xs : List ℕ). IsHead uuid (log_of xs) next) (sym is) (done_head uuid image head next w.long w.newest w.next_is) }
whole_or_not uuid image head next c w false e = inr record {
  at = record_of (leaves_others uuid image head next head c w w.apart (at_own w.newest.at)) w.newest.at.own;
  newest = λ sector other at. elim (torn_or_old uuid image head next other c w (at_own at)) [
    | inl (is, there) ↦ absurd (let h = (bytes_eq-Decides (own_sectors c.image next.head) (bytes_of next)).1 there in cc)
    | inr old ↦ old_below uuid image head other w.newest old at.own
  ];
}

-- whole the new record is the head, else the old one stays
pub leaves_a_head : (uuid image : List ℕ) (head next : LogRecord) (c : Crash) → IsTornWrite uuid image head next c
    → IsWholeWrite uuid image next c ⊎ IsHead uuid (log_of c.image) head
leaves_a_head uuid image head next c w = whole_or_not uuid image head next c w (bytes_eq (own_sectors c.image next.head) (bytes_of next)) refl
