-- A sector of the log has one record, and the log one head and one chain.
use Rattle.std.proofs.Common.{◌≡◌, ℕ, zero, suc, ◌-◌, ◌*◌, ◌<◌, ◌≤◌, ◌^◌, ◌∙◌, List, [], ◌∷◌, ◌++◌, length, get_or, take, sym, ap, subst, inl, inr, arith}
use Rattle.std.proofs.lemmas.Bool.{cases_lt}
use Rattle.std.proofs.lemmas.List.{append_assoc, take_at}
use Rattle.xr_record.specs.declared.head.Head.{Head}
use Rattle.xr_record.specs.declared.head.Lsn.{Lsn}
use Rattle.xr_record.specs.Lsn.{lsn_number}
use Rattle.xr_record.specs.Record.{IsSealed, sectors_of, zeros}
use Rattle.xr_record.specs.Unsealing.{body_in}
use Rattle.xr_record.specs.SealedRecordLaws.{sealed_body, sealed_head}
use Rattle.xr_commit.specs.Chain.{IsLiveTrail, IsLost, IsTrail, IsPreviousRecord}
use Rattle.xr_commit.specs.LogRecords.{IsHead, LogRecord, StandsAt, bytes_at}

body_first : (bytes : List ℕ) (head : Head) (body : List ℕ) → IsSealed bytes head body → take head.len (body_in head.len bytes) ≡ body
body_first bytes head body s =
    let tail = zeros (512 * sectors_of (length body) - length body) in
    ap (take head.len) (sealed_body bytes head body s ∙ append_assoc body tail s.rest) ∙ take_at body (tail ++ s.rest) head.len s.length_is

-- the body of a sealed record is told by its bytes
pub one_body : (bytes : List ℕ) (head : Head) (body other : List ℕ) → IsSealed bytes head body → IsSealed bytes head other → body ≡ other
one_body bytes head body other s t = sym (body_first bytes head body s) ∙ body_first bytes head other t

record_is : (r s : LogRecord) → r.head ≡ s.head → r.body ≡ s.body → r ≡ s
record_is r s p q = λ i. record { head = p i; body = q i }

pub one_record : (log : List ℕ) (sector : ℕ) (r s : LogRecord) → StandsAt log sector r → StandsAt log sector s → r ≡ s
one_record log sector r s one two =
    let bytes = bytes_at log sector in
    let head : r.head ≡ s.head = sym (sealed_head bytes r.head r.body one.sealed) ∙ sealed_head bytes s.head s.body two.sealed in
    record_is r s head (one_body bytes s.head r.body s.body (subst (λ (h : Head). IsSealed bytes h r.body) head one.sealed) two.sealed)

-- a place in the log is told by its parts
pub lsn_is : (a b c d : ℕ) → a ≡ b → c ≡ d → ◌≡◌ {A = Lsn} (record { cycle = a; sector = c }) (record { cycle = b; sector = d })
lsn_is a b c d e f = cc

-- places with the same number are one
pub same_lsn : (a b : Lsn) → a.sector < 2 ^ 32 → b.sector < 2 ^ 32 → lsn_number a ≡ lsn_number b → a ≡ b
same_lsn a b s t e = lsn_is a.cycle b.cycle a.sector b.sector (omega (arith, s, t, e)) (omega (arith, s, t, e))

pub one_head : (uuid log : List ℕ) (r s : LogRecord) → IsHead uuid log r → IsHead uuid log s → r ≡ s
one_head uuid log r s one two =
    let up = one.newest s.head.lsn.sector s two.at in
    let down = two.newest r.head.lsn.sector r one.at in
    let a = one.at.stands.sealed.good.sector in
    let b = two.at.stands.sealed.good.sector in
    let same : r.head.lsn ≡ s.head.lsn = same_lsn r.head.lsn s.head.lsn (omega (arith, a)) (omega (arith, b)) (omega (arith, up, down)) in
    one_record log s.head.lsn.sector r s (subst (λ (l : Lsn). StandsAt log l.sector r) same one.at.stands) two.at.stands

-- a record that so many steps back from the newest one come to
Reached : List ℕ → List ℕ → Lsn → LogRecord → ℕ → LogRecord → Type 0
Reached uuid log tail newest zero r = r ≡ newest
Reached uuid log tail newest (suc n) r = (next : LogRecord) × Reached uuid log tail newest n next × IsPreviousRecord uuid log tail next.head r

one_before : (uuid log : List ℕ) (tail : Lsn) (x y r s : LogRecord) → x ≡ y → IsPreviousRecord uuid log tail x.head r → IsPreviousRecord uuid log tail y.head s → r ≡ s
one_before uuid log tail x y r s same b d =
    one_record log y.head.prev r s (subst (λ (z : LogRecord). StandsAt log z.head.prev r) same b.at.stands) d.at.stands

one_reached : (uuid log : List ℕ) (tail : Lsn) (newest : LogRecord) (n : ℕ) (r s : LogRecord) → Reached uuid log tail newest n r → Reached uuid log tail newest n s → r ≡ s
unfolding Reached
one_reached uuid log tail newest zero r s a b = a ∙ sym b
one_reached uuid log tail newest (suc n) r s (x, a, before) (y, b, also) = one_before uuid log tail x y r s (one_reached uuid log tail newest n x y a b) before also

-- on the way to it each earlier step goes on
goes_on : (uuid log : List ℕ) (tail : Lsn) (newest : LogRecord) (n m : ℕ) (r : LogRecord) → Reached uuid log tail newest m r → n < m
    → (y : LogRecord) × Reached uuid log tail newest n y × ((x : LogRecord) × IsPreviousRecord uuid log tail y.head x)
unfolding Reached
goes_on uuid log tail newest n zero r a less = absurd (omega (arith, less))
goes_on uuid log tail newest n (suc m) r (next, a, before) less = elim (cases_lt n m) [
  | inl earlier ↦ goes_on uuid log tail newest n m next a earlier
  | inr here ↦ (next, subst (λ (k : ℕ). Reached uuid log tail newest k next) (omega (arith, less, here)) a, (r, before))
]

trail_reached : (uuid log : List ℕ) (tail : Lsn) (newest oldest : LogRecord) (later : List LogRecord) → IsTrail uuid log tail newest oldest later
    → Reached uuid log tail newest (length later) oldest
unfolding Reached
trail_reached uuid log tail newest oldest [] trail = trail
trail_reached uuid log tail newest oldest (next ∷ later) trail = (next, trail_reached uuid log tail newest next later trail.1, trail.0)

heads_differ : (x : LogRecord) (xs : List LogRecord) (y : LogRecord) (ys : List LogRecord) → x ∷ xs ≡ y ∷ ys → x ≡ y
heads_differ x xs y ys e = ap (λ (rs : List LogRecord). get_or rs 0 x) e

trails_same : (uuid log : List ℕ) (tail : Lsn) (newest r s : LogRecord) (xs ys : List LogRecord) → length xs ≡ length ys → IsTrail uuid log tail newest r xs
    → IsTrail uuid log tail newest s ys → r ∷ xs ≡ s ∷ ys
trails_same uuid log tail newest r s [] [] long a b = ap (λ (x : LogRecord). x ∷ []) (a ∙ sym b)
trails_same uuid log tail newest r s [] (y ∷ ys) long a b = absurd (omega (arith, long))
trails_same uuid log tail newest r s (x ∷ xs) [] long a b = absurd (omega (arith, long))
trails_same uuid log tail newest r s (x ∷ xs) (y ∷ ys) long a b =
    let rest = trails_same uuid log tail newest x y xs ys (omega (arith, long)) a.1 b.1 in
    ap (λ (z : LogRecord). z ∷ x ∷ xs) (one_before uuid log tail x y r s (heads_differ x xs y ys rest) a.0 b.0) ∙ ap (λ (rs : List LogRecord). s ∷ rs) rest

-- nothing stands before the tail
none_before_tail : (uuid log : List ℕ) (tail : Lsn) (y x : LogRecord) → y.head.lsn ≡ tail → IsPreviousRecord uuid log tail y.head x → ⊥
none_before_tail uuid log tail y x ends before = let e = ap lsn_number ends in omega (arith, e, before.older, before.within)

-- a chain is no longer than any other trail that stops where no step goes on
no_longer : (uuid log : List ℕ) (tail : Lsn) (newest r s : LogRecord) (n m : ℕ) → Reached uuid log tail newest n r → Reached uuid log tail newest m s
    → ((x : LogRecord) → IsPreviousRecord uuid log tail r.head x → ⊥) → m ≤ n
no_longer uuid log tail newest r s n m a b stops = elim (cases_lt n m) [
  | inl less ↦ (let on = goes_on uuid log tail newest n m s b less in
      let same = one_reached uuid log tail newest n on.0 r on.1 a in
      absurd (stops on.2.0 (subst (λ (z : LogRecord). IsPreviousRecord uuid log tail z.head on.2.0) same on.2.1)))
  | inr done ↦ done
]

chain_stops : (uuid log : List ℕ) (head : LogRecord) (records : List LogRecord) → (c : IsLiveTrail uuid log head records) → (x : LogRecord) → IsPreviousRecord uuid log head.head.tail c.oldest.head x → ⊥
chain_stops uuid log head records c x before = none_before_tail uuid log head.head.tail c.oldest x c.ends before

pub one_chain : (uuid log : List ℕ) (head : LogRecord) (records others : List LogRecord) → IsLiveTrail uuid log head records → IsLiveTrail uuid log head others → records ≡ others
one_chain uuid log head records others c d =
    let a = trail_reached uuid log head.head.tail head c.oldest c.later c.trail in
    let b = trail_reached uuid log head.head.tail head d.oldest d.later d.trail in
    let up = no_longer uuid log head.head.tail head c.oldest d.oldest (length c.later) (length d.later) a b (chain_stops uuid log head records c) in
    let down = no_longer uuid log head.head.tail head d.oldest c.oldest (length d.later) (length c.later) b a (chain_stops uuid log head others d) in
    c.records_are ∙ trails_same uuid log head.head.tail head c.oldest d.oldest c.later d.later (omega (arith, up, down)) c.trail d.trail ∙ sym d.records_are

-- where the log is lost, no chain goes on
pub chain_or_lost : (uuid log : List ℕ) (head last : LogRecord) (records : List LogRecord) → IsLiveTrail uuid log head records → IsLost uuid log head last
    → ((x : LogRecord) → IsPreviousRecord uuid log head.head.tail last.head x → ⊥) → ⊥
chain_or_lost uuid log head last records c lost stops =
    let tail = head.head.tail in
    let a = trail_reached uuid log tail head c.oldest c.later c.trail in
    let b = trail_reached uuid log tail head last lost.later lost.trail in
    let up = no_longer uuid log tail head c.oldest last (length c.later) (length lost.later) a b (chain_stops uuid log head records c) in
    let down = no_longer uuid log tail head last c.oldest (length lost.later) (length c.later) b a stops in
    let same : c.oldest ≡ last = one_reached uuid log tail head (length c.later) c.oldest last a (subst (λ (n : ℕ). Reached uuid log tail head n last) (omega (arith, up, down)) b) in
    lost.goes_on (ap (λ (r : LogRecord). r.head.lsn) (sym same) ∙ c.ends)
