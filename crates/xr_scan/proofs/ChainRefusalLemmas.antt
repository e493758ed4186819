-- Where following the log back ends, and that it ends in one way.
use Rattle.std.proofs.Common.{◌≡◌, ◌≢◌, ℕ, ◌*◌, ◌<◌, ◌≤◌, ◌∙◌, ◌⊎◌, List, [], ◌∷◌, length, drop, sym, ap, subst, inl, inr, arith}
use Rattle.std.proofs.lemmas.Bool.{cases_lt}
use Rattle.xr_base.specs.Fields.{AreBytes}
use Rattle.xr_base.specs.declared.geometry.TheConstants.{LOG_SECTORS, SECTOR_BYTES}
use Rattle.xr_record.specs.declared.head.Head.{Head}
use Rattle.xr_record.specs.declared.head.Lsn.{Lsn}
use Rattle.xr_record.specs.Lsn.{lsn_number}
use Rattle.xr_record.specs.declared.unsealing.SealFault.{SealFault}
use Rattle.xr_commit.specs.declared.fault.ScanFault.{ScanFault}
use Rattle.xr_commit.specs.declared.layout.TheConstants.{MOST_RECORD_BYTES}
use Rattle.xr_commit.specs.Chain.{IsLiveTrail, IsLost, IsPreviousRecord, IsTrail, NamesNoRecord}
use Rattle.xr_commit.specs.LogRecords.{LogRecord, StandsAt, bytes_at}
use Rattle.xr_commit.specs.Refusals.{BreaksChain, LeadsNowhere, fault_of}
use Rattle.xr_commit.specs.OneRecordLaws.{chain_or_lost, one_record}
use Rattle.xr_scan.proofs.SealedRefusalLemmas.{drop_small, refused_one_way, sealed_taken, take_small}

bytes_small : (log : List ℕ) (sector : ℕ) → AreBytes log → AreBytes (bytes_at log sector)
bytes_small log sector all = take_small MOST_RECORD_BYTES (drop (SECTOR_BYTES * sector) log) (drop_small (SECTOR_BYTES * sector) log all)

stands_in_log : (log : List ℕ) (sector : ℕ) (r : LogRecord) → StandsAt log sector r → sector < LOG_SECTORS
stands_in_log log sector r stands = let e = stands.here in let h = stands.sealed.good.sector in omega (arith, e, h)

record_or_none : (log : List ℕ) (last : Head) (r : LogRecord) (fault : SealFault) → AreBytes log → StandsAt log last.prev r → NamesNoRecord log last fault → ⊥
record_or_none log last r fault all stands none =
    sealed_taken last.prev (bytes_at log last.prev) r.head r.body fault (bytes_small log last.prev all) stands.sealed stands.here none.refused

-- where the log is lost no record goes on
pub nowhere_on : (uuid log : List ℕ) (head last : Head) (fault : ScanFault) → AreBytes log → LeadsNowhere uuid log head last fault
    → (x : LogRecord) → IsPreviousRecord uuid log head.tail last x → ⊥
nowhere_on uuid log head last fault all (inl (past, named)) x before =
    let h = stands_in_log log last.prev x before.at.stands in absurd (omega (arith, h, past))
nowhere_on uuid log head last fault all (inr (inl (broken, none, named))) x before = record_or_none log last x broken all before.at.stands none
nowhere_on uuid log head last fault all (inr (inr (astray, named))) x before =
    let same = one_record log last.prev x astray.found before.at.stands astray.stands in
    let older = before.older in
    let within = before.within in
    let found = subst (λ (r : LogRecord). (r.head.uuid ≢ uuid) ⊎ (lsn_number last.lsn ≤ lsn_number r.head.lsn) ⊎ (lsn_number r.head.lsn < lsn_number head.tail)) (sym same) astray.astray in
    elim found [
      | inl foreign ↦ foreign before.at.own
      | inr (inl newer) ↦ absurd (omega (arith, older, newer))
      | inr (inr past) ↦ absurd (omega (arith, within, past))
    ]

-- the last record of the trail leads nowhere for one cause
nowhere_once : (uuid log : List ℕ) (head last : Head) (one two : ScanFault) → AreBytes log → LeadsNowhere uuid log head last one → LeadsNowhere uuid log head last two → one ≡ two
nowhere_once uuid log head last one two all (inl (past, named)) (inl (past', named')) = named ∙ sym named'
nowhere_once uuid log head last one two all (inl (past, named)) (inr (inl (broken, none, named'))) = let h = none.sector in absurd (omega (arith, h, past))
nowhere_once uuid log head last one two all (inl (past, named)) (inr (inr (astray, named'))) =
    let h = stands_in_log log last.prev astray.found astray.stands in absurd (omega (arith, h, past))
nowhere_once uuid log head last one two all (inr (inl (broken, none, named))) (inl (past', named')) = let h = none.sector in absurd (omega (arith, h, past'))
nowhere_once uuid log head last one two all (inr (inl (broken, none, named))) (inr (inl (broken', none', named'))) =
    named ∙ ap fault_of (refused_one_way last.prev (bytes_at log last.prev) broken broken' none.refused none'.refused) ∙ sym named'
nowhere_once uuid log head last one two all (inr (inl (broken, none, named))) (inr (inr (astray, named'))) =
    absurd (record_or_none log last astray.found broken all astray.stands none)
nowhere_once uuid log head last one two all (inr (inr (astray, named))) (inl (past', named')) =
    let h = stands_in_log log last.prev astray.found astray.stands in absurd (omega (arith, h, past'))
nowhere_once uuid log head last one two all (inr (inr (astray, named))) (inr (inl (broken', none', named'))) =
    absurd (record_or_none log last astray.found broken' all astray.stands none')
nowhere_once uuid log head last one two all (inr (inr (astray, named))) (inr (inr (astray', named'))) = named ∙ sym named'

-- trails of one length begin with one record
same_end : (uuid log : List ℕ) (tail : Lsn) (newest r s : LogRecord) (xs ys : List LogRecord) → length xs ≡ length ys → IsTrail uuid log tail newest r xs
    → IsTrail uuid log tail newest s ys → r ≡ s
same_end uuid log tail newest r s [] [] long a b = a ∙ sym b
same_end uuid log tail newest r s [] (y ∷ ys) long a b = absurd (omega (arith, long))
same_end uuid log tail newest r s (x ∷ xs) [] long a b = absurd (omega (arith, long))
same_end uuid log tail newest r s (x ∷ xs) (y ∷ ys) long a b =
    let same = same_end uuid log tail newest x y xs ys (omega (arith, long)) a.1 b.1 in
    one_record log y.head.prev r s (subst (λ (z : LogRecord). StandsAt log z.head.prev r) same a.0.at.stands) b.0.at.stands

abbrev HasBefore : List ℕ → List ℕ → Lsn → LogRecord → Type 0
HasBefore uuid log tail r = (x : LogRecord) × IsPreviousRecord uuid log tail r.head x

-- a longer trail goes on from where a shorter one begins
on_trail : (uuid log : List ℕ) (tail : Lsn) (newest r s : LogRecord) (xs ys : List LogRecord) → length xs ≤ length ys → IsTrail uuid log tail newest r xs
    → IsTrail uuid log tail newest s ys → (r ≡ s) ⊎ HasBefore uuid log tail r
on_trail uuid log tail newest r s xs [] fits a b = inl (same_end uuid log tail newest r s xs [] (omega (arith, fits)) a b)
on_trail uuid log tail newest r s xs (y ∷ ys) fits a b = elim (cases_lt (length xs) (length (y ∷ ys))) [
  | inl less ↦ elim (on_trail uuid log tail newest r y xs ys (omega (arith, less)) a b.1) [
    | inl same ↦ inr (s, subst (λ (z : LogRecord). IsPreviousRecord uuid log tail z.head s) (sym same) b.0)
    | inr more ↦ inr more
  ]
  | inr long ↦ inl (same_end uuid log tail newest r s xs (y ∷ ys) (omega (arith, fits, long)) a b)
]

lost_once : (uuid log : List ℕ) (head r s : LogRecord) → IsLost uuid log head r → IsLost uuid log head s → (HasBefore uuid log head.head.tail r → ⊥)
    → (HasBefore uuid log head.head.tail s → ⊥) → r ≡ s
lost_once uuid log head r s a b stops ends = elim (cases_lt (length b.later) (length a.later)) [
  | inl less ↦ elim (on_trail uuid log head.head.tail head s r b.later a.later (omega (arith, less)) b.trail a.trail) [
    | inl same ↦ sym same
    | inr more ↦ absurd (ends more)
  ]
  | inr fits ↦ elim (on_trail uuid log head.head.tail head r s a.later b.later fits a.trail b.trail) [
    | inl same ↦ same
    | inr more ↦ absurd (stops more)
  ]
]

pub chain_refused_once : (uuid log : List ℕ) (head : LogRecord) (one two : ScanFault) → AreBytes log → BreaksChain uuid log head one → BreaksChain uuid log head two → one ≡ two
chain_refused_once uuid log head one two all a b =
    let same = lost_once uuid log head a.last b.last a.lost b.lost (λ more. nowhere_on uuid log head.head a.last.head one all a.nowhere more.0 more.1)
    (λ more. nowhere_on uuid log head.head b.last.head two all b.nowhere more.0 more.1) in
    nowhere_once uuid log head.head b.last.head one two all (subst (λ (r : LogRecord). LeadsNowhere uuid log head.head r.head one) same a.nowhere) b.nowhere

pub chain_or_refused : (uuid log : List ℕ) (head : LogRecord) (records : List LogRecord) (fault : ScanFault) → AreBytes log → IsLiveTrail uuid log head records
    → BreaksChain uuid log head fault → ⊥
chain_or_refused uuid log head records fault all chain broken =
    chain_or_lost uuid log head broken.last records chain broken.lost (nowhere_on uuid log head.head broken.last.head fault all broken.nowhere)
