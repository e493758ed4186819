-- The search for the newest record, sector by sector.
use Rattle.std.proofs.Common.{◌≡◌, ◌⊎◌, ℕ, ◌+◌, ◌<◌, ◌≤◌, Option, Some, None, List, MatchOption, refl, sym, subst, inl, inr, arith, ⊎_elim}
use Rattle.std.specs.Prelude.{◌↔◌}
use Rattle.std.proofs.lemmas.Bool.{cases_lt}
use Rattle.xr_base.specs.declared.geometry.TheConstants.{LOG_SECTORS}
use Rattle.xr_record.specs.declared.head.Head.{Head}
use Rattle.xr_record.specs.Lsn.{lsn_number}
use Rattle.xr_commit.specs.LogRecords.{HasNoRecord, IsHeaderAt, IsNewer, IsNewest, IsRecordAt, LogRecord}

pub record IsNewestUpTo (uuid log : List ℕ) (n : ℕ) (head : Head) : Type 0 where
  pub body : List ℕ
  pub at : IsRecordAt uuid log head.lsn.sector (record { head = head; body = body })
  pub newest : (sector : ℕ) (r : LogRecord) → sector < n → IsRecordAt uuid log sector r → lsn_number r.head.lsn ≤ lsn_number head.lsn

abbrev pub HasNone : List ℕ → List ℕ → ℕ → Type 0
HasNone uuid log n = (sector : ℕ) (r : LogRecord) → sector < n → IsRecordAt uuid log sector r → ⊥

-- the newest record that begins below a sector, if any does
abbrev pub IsBest : List ℕ → List ℕ → ℕ → Option Head → Type 0
IsBest uuid log n best = MatchOption best (HasNone uuid log n) (IsNewestUpTo uuid log n)

pub best_begins : (uuid log : List ℕ) → IsBest uuid log 0 None
best_begins uuid log = λ sector r below at. absurd (omega arith)

-- a record below the next sector begins below this one, or is the one that was found here
before_or_here : (uuid log : List ℕ) (n : ℕ) (found : Option Head) → ((head : Head) → (found ≡ Some head) ↔ IsHeaderAt uuid log n head)
    → (sector : ℕ) (r : LogRecord) → sector < n + 1 → IsRecordAt uuid log sector r → (sector < n) ⊎ (found ≡ Some r.head)
before_or_here uuid log n found here sector r below at = ⊎_elim
    (λ (before : sector < n). inl before)
    (λ (above : n ≤ sector). let e : sector ≡ n = omega arith in
    inr ((here r.head).1 record { body = r.body; at = subst (λ (s : ℕ). IsRecordAt uuid log s r) e at }))
    (cases_lt sector n)

-- the record that was found here, at its own sector
own : (uuid log : List ℕ) (n : ℕ) (head : Head) → (h : IsHeaderAt uuid log n head) → IsRecordAt uuid log head.lsn.sector (record { head = head; body = h.body })
own uuid log n head h = subst (λ (s : ℕ). IsRecordAt uuid log s (record { head = head; body = h.body })) (sym h.at.stands.here) h.at

newest_on : (uuid log : List ℕ) (n : ℕ) (found : Option Head) (head : Head) (body : List ℕ) → ((other : Head) → (found ≡ Some other) ↔ IsHeaderAt uuid log n other)
    → IsRecordAt uuid log head.lsn.sector (record { head = head; body = body })
    → ((sector : ℕ) (r : LogRecord) → sector < n → IsRecordAt uuid log sector r → lsn_number r.head.lsn ≤ lsn_number head.lsn)
    → ((other : Head) → found ≡ Some other → lsn_number other.lsn ≤ lsn_number head.lsn) → IsNewestUpTo uuid log (n + 1) head
newest_on uuid log n found head body here at before this = record {
  body = body;
  at = at;
  newest = λ sector r below stands. ⊎_elim (λ (h : sector < n). before sector r h stands) (λ (e : found ≡ Some r.head). this r.head e)
      (before_or_here uuid log n found here sector r below stands);
}

same_le : (f other : Head) → Some f ≡ Some other → lsn_number other.lsn ≤ lsn_number f.lsn
same_le f other e = let same : f ≡ other = cc in subst (λ (h : Head). lsn_number h.lsn ≤ lsn_number f.lsn) same (omega arith)

pub best_on : (uuid log : List ℕ) (n : ℕ) (best found result : Option Head) → IsBest uuid log n best
    → ((head : Head) → (found ≡ Some head) ↔ IsHeaderAt uuid log n head) → IsNewer best found result → IsBest uuid log (n + 1) result
best_on uuid log n None None result so_far here newer = subst (IsBest uuid log (n + 1)) (sym newer)
    (λ sector r below at. ⊎_elim (λ (h : sector < n). so_far sector r h at) (λ (e : None ≡ Some r.head). absurd (cc))
    (before_or_here uuid log n None here sector r below at))
best_on uuid log n None (Some f) result so_far here newer = subst (IsBest uuid log (n + 1)) (sym newer)
    (newest_on uuid log n (Some f) f ((here f).0 refl).body here (own uuid log n f ((here f).0 refl)) (λ sector r below at. absurd (so_far sector r below at))
    (λ other e. same_le f other e))
best_on uuid log n (Some b) None result so_far here newer = subst (IsBest uuid log (n + 1)) (sym newer)
    (newest_on uuid log n None b so_far.body here so_far.at so_far.newest (λ other e. absurd (cc)))
best_on uuid log n (Some b) (Some f) result so_far here (inl (more, is)) = subst (IsBest uuid log (n + 1)) (sym is)
    (newest_on uuid log n (Some f) f ((here f).0 refl).body here (own uuid log n f ((here f).0 refl))
    (λ sector r below at. let h = so_far.newest sector r below at in omega arith) (λ other e. same_le f other e))
best_on uuid log n (Some b) (Some f) result so_far here (inr (less, is)) = subst (IsBest uuid log (n + 1)) (sym is)
    (newest_on uuid log n (Some f) b so_far.body here so_far.at so_far.newest (λ other e. let h = same_le f other e in omega arith))

-- a record begins in the log
in_log : (uuid log : List ℕ) (sector : ℕ) (r : LogRecord) → IsRecordAt uuid log sector r → sector < LOG_SECTORS
in_log uuid log sector r at = let e = at.stands.here in let h = at.stands.sealed.good.sector in omega arith

pub best_ends : (uuid log : List ℕ) (best : Option Head) → IsBest uuid log LOG_SECTORS best → MatchOption best (HasNoRecord uuid log) (IsNewest uuid log)
best_ends uuid log None best = λ sector r at. best sector r (in_log uuid log sector r at) at
best_ends uuid log (Some head) best = record {
  body = best.body;
  newest = record { at = best.at; newest = λ sector r at. best.newest sector r (in_log uuid log sector r at) at };
}
