-- That live records lie between the tail and the newest record's end, and where the next one meets none of them.
use Rattle.std.proofs.Common.{◌≡◌, ◌⊎◌, ℕ, ◌+◌, ◌-◌, ◌%◌, ◌<◌, ◌≤◌, List, [], ◌∷◌, All, length, sym, subst, arith, inl, inr}
use Rattle.std.specs.List.{AllByRecursion}
use Rattle.std.proofs.lemmas.Bool.{cases_lt}
use Rattle.std.proofs.lemmas.List.Elements.{All-from_recursion, recursion_from_All}
use Rattle.xr_base.specs.declared.geometry.TheConstants.{LOG_SECTORS}
use Rattle.xr_record.specs.declared.head.Head.{Head}
use Rattle.xr_record.specs.declared.head.Lsn.{Lsn}
use Rattle.xr_record.specs.Lsn.{lsn_number}
use Rattle.xr_commit.specs.declared.layout.TheConstants.{LOG_BYTES, RELOG_SECTORS}
use Rattle.xr_commit.specs.Chain.{HasReserve, IsClear, IsLiveTrail, IsPreviousRecord, IsTrail}
use Rattle.xr_commit.specs.LogRecords.{IsHead, LogRecord, StandsAt, heads_of, record_end}
use Rattle.xr_commit.specs.WholeRecordLaws.{StandsIn, chain_stands, ends_within}
use Rattle.xr_log.specs.Positions.{LeavesReserve, end_position, log_position}
use Rattle.xr_log.specs.TornWrites.{LieApart}
use Rattle.xr_log.proofs.StandingLemmas.{none_within}

-- a record lies between the tail and an end
pub record LiesBetween (tail : Lsn) (last : ℕ) (head : Head) : Type 0 where
  pub sector : head.lsn.sector < LOG_SECTORS
  pub within : record_end head ≤ LOG_SECTORS
  pub behind : log_position tail ≤ log_position head.lsn
  pub before : end_position head ≤ last

-- the sectors after the newest record are clear of it
clear_of : (newest head : Head) → record_end newest ≤ LOG_SECTORS → LiesBetween newest.tail (end_position newest) head → LeavesReserve newest → IsClear newest head
clear_of newest head whole lies room = λ i less within.
    let s = lies.sector in let w = lies.within in let a = lies.behind in let b = lies.before in
    let f = within.first in let l = within.last in
    omega (arith, whole, s, w, a, b, room, less, f, l)

-- and a record that begins at the end or after it, and ends less than a round after the tail, lies apart from it
apart_round : (tail : Lsn) (last : ℕ) (head next : Head) → LiesBetween tail last head → last ≤ log_position next.lsn → end_position next ≤ log_position tail + LOG_SECTORS
    → LieApart head next
apart_round tail last head next lies after room = elim (cases_lt next.lsn.sector (record_end head)) [
  | inr before ↦ inl before
  | inl meets ↦ (let s = lies.sector in let w = lies.within in let a = lies.behind in let b = lies.before in
      inr (omega (arith, meets, s, w, a, b, after, room)))
]

-- so does one within the reserve, which is clear of it
apart_reserve : (newest head next : Head) → record_end newest ≤ LOG_SECTORS → record_end next ≤ LOG_SECTORS → next.lsn.sector < LOG_SECTORS → head.lsn.sector < LOG_SECTORS
    → IsClear newest head → end_position newest ≤ log_position next.lsn → end_position next ≤ end_position newest + RELOG_SECTORS → LieApart head next
apart_reserve newest head next whole within sector own clear after fits = elim (cases_lt next.lsn.sector (record_end head)) [
  | inr before ↦ inl before
  | inl meets ↦ elim (cases_lt head.lsn.sector (record_end next)) [
    | inr behind ↦ inr behind
    | inl begins ↦ absurd (elim (cases_lt next.lsn.sector head.lsn.sector) [
      | inl below ↦ (let i : ℕ = (log_position next.lsn + (head.lsn.sector - next.lsn.sector)) - end_position newest in
          clear i (omega (arith, below, begins, fits, after))
          (let at : (record_end newest + i) % LOG_SECTORS ≡ head.lsn.sector = omega (arith, whole, sector, own, below, begins, after, fits) in
          record { first = omega (arith, at); last = omega (arith, at) }))
      | inr above ↦ (let i : ℕ = log_position next.lsn - end_position newest in
          clear i (omega (arith, fits, after))
          (let at : (record_end newest + i) % LOG_SECTORS ≡ next.lsn.sector = omega (arith, whole, sector, after, fits) in
          record { first = omega (arith, at, above); last = omega (arith, at, meets) }))
    ])
  ]
]

-- the older of two records ends before the other begins
ends_before : (log : List ℕ) (r next : LogRecord) → length log ≡ LOG_BYTES → StandsIn log r → StandsIn log next
    → lsn_number r.head.lsn < lsn_number next.head.lsn → end_position r.head ≤ log_position next.head.lsn
ends_before log r next long one two older =
    let a = one.sealed.good.sector in
    let b = two.sealed.good.sector in
    let within = ends_within log r long one in
    elim (cases_lt r.head.lsn.cycle next.head.lsn.cycle) [
      | inl earlier ↦ omega (arith, within, earlier)
      | inr later ↦ (let less : r.head.lsn.sector < next.head.lsn.sector = omega (arith, a, b, older, later) in
          let e = none_within log r.head.lsn.sector next.head.lsn.sector r next one two less in
          omega (arith, e, older, later, a, b))
    ]

at_own : {uuid log : List ℕ} {tail : Lsn} {named_by : Head} (r : LogRecord) → IsPreviousRecord uuid log tail named_by r → StandsIn log r
at_own {log = log} r before = subst (λ (s : ℕ). StandsAt log s r) (sym before.at.stands.here) before.at.stands

trail_lies : (uuid log : List ℕ) (tail : Lsn) (newest oldest : LogRecord) (later : List LogRecord) → length log ≡ LOG_BYTES → tail.sector < LOG_SECTORS
    → StandsIn log newest → lsn_number tail ≤ lsn_number newest.head.lsn → IsTrail uuid log tail newest oldest later
    → StandsIn log oldest × AllByRecursion (λ (r : LogRecord). LiesBetween tail (end_position newest.head) r.head) (oldest ∷ later)
trail_lies uuid log tail newest oldest [] long sector stands behind trail =
    let within = ends_within log newest long stands in
    let own = stands.sealed.good.sector in
    subst (λ (r : LogRecord). StandsIn log r × AllByRecursion (λ (q : LogRecord). LiesBetween tail (end_position newest.head) q.head) (r ∷ [])) (sym trail)
    (stands, (record { sector = own; within = within; behind = omega (arith, behind, sector, own); before = omega arith }, tt))
trail_lies uuid log tail newest oldest (next ∷ later) long sector stands behind trail =
    let rest = trail_lies uuid log tail newest next later long sector stands behind trail.1 in
    let here = at_own oldest trail.0 in
    let within = ends_within log oldest long here in
    let own = here.sealed.good.sector in
    let inside = trail.0.within in
    let before = ends_before log oldest next long here rest.0 trail.0.older in
    let last = rest.1.0.before in
    (here, (record { sector = own; within = within; behind = omega (arith, inside, sector, own); before = omega (arith, before, last) }, rest.1))

-- the tail is a place in the log
pub tail_within : (uuid log : List ℕ) (head : LogRecord) (records : List LogRecord) → IsHead uuid log head → IsLiveTrail uuid log head records → head.head.tail.sector < LOG_SECTORS
tail_within uuid log head records newest chain =
    let stand = recursion_from_All (StandsIn log) (chain.oldest ∷ chain.later) (subst (All (StandsIn log)) chain.records_are (chain_stands uuid log head records newest chain)) in
    subst (λ (l : Lsn). l.sector < LOG_SECTORS) chain.ends stand.0.sealed.good.sector

-- of a chain, and of its head
chain_lies : (uuid log : List ℕ) (head : LogRecord) (records : List LogRecord) → length log ≡ LOG_BYTES → IsHead uuid log head → IsLiveTrail uuid log head records
    → AllByRecursion (λ (r : LogRecord). LiesBetween head.head.tail (end_position head.head) r.head) records
chain_lies uuid log head records long newest chain =
    subst (AllByRecursion (λ (r : LogRecord). LiesBetween head.head.tail (end_position head.head) r.head)) (sym chain.records_are)
    (trail_lies uuid log head.head.tail head chain.oldest chain.later long (tail_within uuid log head records newest chain) newest.at.stands
    newest.at.stands.sealed.good.tail chain.trail).1

all_clear : (newest : Head) (records : List LogRecord) → record_end newest ≤ LOG_SECTORS → LeavesReserve newest
    → AllByRecursion (λ (r : LogRecord). LiesBetween newest.tail (end_position newest) r.head) records → AllByRecursion (IsClear newest) (heads_of records)
all_clear newest [] whole room lie = tt
all_clear newest (r ∷ records) whole room lie = (clear_of newest r.head whole lie.0 room, all_clear newest records whole room lie.1)

-- where the newest record leaves the reserve by positions, none of its sectors lies in a live record
pub reserve_left : (uuid log : List ℕ) (head : LogRecord) (records : List LogRecord) → length log ≡ LOG_BYTES → IsHead uuid log head → IsLiveTrail uuid log head records
    → LeavesReserve head.head → HasReserve head.head (heads_of records)
reserve_left uuid log head records long newest chain room =
    All-from_recursion (IsClear head.head) (heads_of records)
    (all_clear head.head records (ends_within log head long newest.at.stands) room (chain_lies uuid log head records long newest chain))

-- where the next record is placed so that it meets no live one
pub record IsPlacedApart (newest next : Head) : Type 0 where
  pub whole : record_end newest ≤ LOG_SECTORS
  pub within : record_end next ≤ LOG_SECTORS
  pub sector : next.lsn.sector < LOG_SECTORS
  pub after : end_position newest ≤ log_position next.lsn
  pub fits : (end_position next ≤ log_position newest.tail + LOG_SECTORS) ⊎ (end_position next ≤ end_position newest + RELOG_SECTORS)

lies_apart : (newest head next : Head) → IsPlacedApart newest next → LiesBetween newest.tail (end_position newest) head → IsClear newest head → LieApart head next
lies_apart newest head next p lies clear = elim p.fits [
  | inl round ↦ apart_round newest.tail (end_position newest) head next lies p.after round
  | inr reserve ↦ apart_reserve newest head next p.whole p.within p.sector lies.sector clear p.after reserve
]

all_apart : (newest next : Head) (records : List LogRecord) → IsPlacedApart newest next
    → AllByRecursion (λ (r : LogRecord). LiesBetween newest.tail (end_position newest) r.head) records → AllByRecursion (IsClear newest) (heads_of records)
    → AllByRecursion (λ (r : LogRecord). LieApart r.head next) records
all_apart newest next [] p lie clear = tt
all_apart newest next (r ∷ records) p lie clear = (lies_apart newest r.head next p lie.0 clear.0, all_apart newest next records p lie.1 clear.1)

pub chain_apart : (uuid log : List ℕ) (head : LogRecord) (records : List LogRecord) (next : Head) → length log ≡ LOG_BYTES → IsHead uuid log head
    → IsLiveTrail uuid log head records → HasReserve head.head (heads_of records) → IsPlacedApart head.head next
    → AllByRecursion (λ (r : LogRecord). LieApart r.head next) records
chain_apart uuid log head records next long newest chain reserve p =
    all_apart head.head next records p (chain_lies uuid log head records long newest chain) (recursion_from_All (IsClear head.head) (heads_of records) reserve)

pub head_apart : (uuid log : List ℕ) (head : LogRecord) (records : List LogRecord) (next : Head) → IsHead uuid log head → IsLiveTrail uuid log head records
    → IsPlacedApart head.head next → LieApart head.head next
head_apart uuid log head records next newest chain p =
    let good = newest.at.stands.sealed.good in
    let own = good.sector in
    let most = good.fits in
    let tail = good.tail in
    let sector = tail_within uuid log head records newest chain in
    let round : end_position next ≤ log_position head.head.lsn + LOG_SECTORS = elim p.fits [
      | inl less ↦ omega (arith, less, tail, sector, own)
      | inr less ↦ omega (arith, less, most)
    ] in
    apart_round head.head.lsn (end_position head.head) head.head next
    record { sector = own; within = p.whole; behind = omega arith; before = omega arith } p.after round
