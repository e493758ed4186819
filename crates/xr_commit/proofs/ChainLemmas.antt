-- Following the log back, record by record.
use Rattle.std.proofs.Common.{◌≡◌, ◌≢◌, ℕ, ◌∙◌, Bool, true, false, not, eqb, ◌&&◌, List, [], ◌∷◌, ◌++◌, reverse, refl, sym, ap, subst}
use Rattle.std.specs.Str.{bytes_eq}
use Rattle.std.proofs.lemmas.Bool.{and_parts, eq-eqb, eqb-true, false≢true}
use Rattle.std.proofs.lemmas.List.{reverse-append}
use Rattle.std.proofs.lemmas.Slice.Eq.{bytes_eq-Decides}
use Rattle.xr_record.specs.declared.head.Head.{Head}
use Rattle.xr_record.specs.declared.head.Lsn.{Lsn}
use Rattle.xr_commit.specs.declared.fault.ScanFault.{ScanFault}
use Rattle.xr_commit.specs.declared.fault.ScanFault.TheVariants.{Magic, Version, Length, Checksum, Place, Operation, ItemType, Size, Field, Debt, Header, DiskFault, NoMemory}
use Rattle.xr_commit.specs.Chain.{IsTrail, IsPreviousRecord}
use Rattle.xr_commit.specs.ChainHeaders.{HasChain, HasNoChain, IsHeaderBefore}
use Rattle.xr_commit.specs.LogRecords.{LogRecord, heads_of}
use Rattle.xr_commit.specs.Refusals.{LeadsNowhere, OrNoMemory}
use Rattle.xr_commit.specs.OneRecordLaws.{lsn_is}

-- identifiers that are told apart differ, and those that aren't are one
pub told_apart : (xs ys : List ℕ) (r : Bool) → r ≡ bytes_eq xs ys → r ≡ false → xs ≢ ys
told_apart xs ys r is differ same = false≢true (sym differ ∙ is ∙ (bytes_eq-Decides xs ys).1 same)

pub not_false : (b : Bool) → not b ≡ false → b ≡ true
not_false true e = refl
not_false false e = absurd (cc)

pub told_same : (xs ys : List ℕ) (r : Bool) → r ≡ bytes_eq xs ys → r ≡ true → xs ≡ ys
told_same xs ys r is equal = (bytes_eq-Decides xs ys).0 (sym is ∙ equal)

pub told_not : (xs ys : List ℕ) (r : Bool) → r ≡ not (bytes_eq xs ys) → r ≡ true → xs ≢ ys
told_not xs ys r is differ same = false≢true (sym (ap not ((bytes_eq-Decides xs ys).1 same)) ∙ sym is ∙ differ)

pub told_not_apart : (xs ys : List ℕ) (r : Bool) → r ≡ not (bytes_eq xs ys) → r ≡ false → xs ≡ ys
told_not_apart xs ys r is equal = (bytes_eq-Decides xs ys).0 (not_false (bytes_eq xs ys) (sym is ∙ equal))

-- two places in the log that are told apart, or not
pub lsn_same : (a b : Lsn) (r : Bool) → r ≡ not (eqb a.cycle b.cycle && eqb a.sector b.sector) → r ≡ false → a ≡ b
lsn_same a b r is equal =
    let both = and_parts (eqb a.cycle b.cycle) (eqb a.sector b.sector) (not_false _ (sym is ∙ equal)) in
    lsn_is a.cycle b.cycle a.sector b.sector (eqb-true _ _ both.0) (eqb-true _ _ both.1)

pub lsn_differs : (a b : Lsn) (r : Bool) → r ≡ not (eqb a.cycle b.cycle && eqb a.sector b.sector) → r ≡ true → a ≢ b
lsn_differs a b r is differ same =
    let x : eqb a.cycle b.cycle ≡ true = eq-eqb _ _ (ap (λ (l : Lsn). l.cycle) same) in
    let y : eqb a.sector b.sector ≡ true = eq-eqb _ _ (ap (λ (l : Lsn). l.sector) same) in
    false≢true (sym (ap not (ap (λ (v : Bool). v && eqb a.sector b.sector) x ∙ y)) ∙ sym is ∙ differ)

pub or_no_memory : (P : ScanFault → Type 0) (fault : ScanFault) → P fault → OrNoMemory P fault
or_no_memory P (Magic b) p = p
or_no_memory P (Version b) p = p
or_no_memory P (Length b) p = p
or_no_memory P (Checksum b) p = p
or_no_memory P (Place b) p = p
or_no_memory P (Operation b) p = p
or_no_memory P (ItemType b) p = p
or_no_memory P (Size b) p = p
or_no_memory P (Field b) p = p
or_no_memory P (Debt b) p = p
or_no_memory P (Header b) p = p
or_no_memory P (DiskFault n) p = p
or_no_memory P NoMemory p = tt

pub no_memory_too : (P Q : ScanFault → Type 0) → ((fault : ScanFault) → P fault → Q fault) → (fault : ScanFault) → OrNoMemory P fault → OrNoMemory Q fault
no_memory_too P Q f (Magic b) p = f (Magic b) p
no_memory_too P Q f (Version b) p = f (Version b) p
no_memory_too P Q f (Length b) p = f (Length b) p
no_memory_too P Q f (Checksum b) p = f (Checksum b) p
no_memory_too P Q f (Place b) p = f (Place b) p
no_memory_too P Q f (Operation b) p = f (Operation b) p
no_memory_too P Q f (ItemType b) p = f (ItemType b) p
no_memory_too P Q f (Size b) p = f (Size b) p
no_memory_too P Q f (Field b) p = f (Field b) p
no_memory_too P Q f (Debt b) p = f (Debt b) p
no_memory_too P Q f (Header b) p = f (Header b) p
no_memory_too P Q f (DiskFault n) p = f (DiskFault n) p
no_memory_too P Q f NoMemory p = tt

-- the trail so far, and the headers in the order in which they were met
pub record IsTrailTo (uuid log : List ℕ) (newest : LogRecord) (last : Head) (heads : List Head) : Type 0 where
  pub oldest : LogRecord
  pub later : List LogRecord
  pub trail : IsTrail uuid log newest.head.tail newest oldest later
  pub last_is : oldest.head ≡ last
  pub heads_are : reverse heads ≡ heads_of (oldest ∷ later)

abbrev pub IsFollowing : List ℕ → List ℕ → Head → Head → List Head → Type 0
IsFollowing uuid log head last heads = (newest : LogRecord) → newest.head ≡ head → IsTrailTo uuid log newest last heads

pub follow_begins : (uuid log : List ℕ) (head : Head) → IsFollowing uuid log head head (head ∷ [])
follow_begins uuid log head newest is = record {
  oldest = newest;
  later = [];
  trail = refl;
  last_is = is;
  heads_are = ap (λ (h : Head). h ∷ []) (sym is);
}

pub follow_on : (uuid log : List ℕ) (head last next : Head) (heads heads' : List Head) → IsFollowing uuid log head last heads
    → IsHeaderBefore uuid log head.tail last next → heads' ≡ heads ++ next ∷ [] → IsFollowing uuid log head next heads'
follow_on uuid log head last next heads heads' so_far before pushed newest is =
    let t : IsTrailTo uuid log newest last heads = so_far newest is in
    let found : LogRecord = record { head = next; body = before.body } in
    record {
      oldest = found;
      later = t.oldest ∷ t.later;
      trail = (
        subst (λ (h : Head). IsPreviousRecord uuid log newest.head.tail h found) (sym t.last_is) (subst (λ (h : Head). IsPreviousRecord uuid log h.tail last found) (sym is) before.before),
        t.trail,
      );
      last_is = refl;
      heads_are = ap reverse pushed ∙ reverse-append heads (next ∷ []) ∙ ap (λ (hs : List Head). next ∷ hs) t.heads_are;
    }

pub follow_ends : (uuid log : List ℕ) (head last : Head) (heads : List Head) → IsFollowing uuid log head last heads → last.lsn ≡ head.tail
    → HasChain uuid log head (reverse heads)
follow_ends uuid log head last heads so_far at_tail newest is =
    let t : IsTrailTo uuid log newest last heads = so_far newest is in
    record {
      records = t.oldest ∷ t.later;
      chain = record {
        oldest = t.oldest;
        later = t.later;
        records_are = refl;
        trail = t.trail;
        ends = ap (λ (h : Head). h.lsn) t.last_is ∙ at_tail ∙ ap (λ (h : Head). h.tail) (sym is);
      };
      heads_are = t.heads_are;
    }

pub follow_breaks : (uuid log : List ℕ) (head last : Head) (heads : List Head) (fault : ScanFault) → IsFollowing uuid log head last heads → last.lsn ≢ head.tail
    → LeadsNowhere uuid log head last fault → HasNoChain uuid log head fault
follow_breaks uuid log head last heads fault so_far goes nowhere newest is =
    let t : IsTrailTo uuid log newest last heads = so_far newest is in
    record {
      last = t.oldest;
      lost = record {
        later = t.later;
        trail = t.trail;
        goes_on = λ e. goes (ap (λ (h : Head). h.lsn) (sym t.last_is) ∙ e ∙ ap (λ (h : Head). h.tail) is);
      };
      nowhere = subst (λ (h : Head). LeadsNowhere uuid log h t.oldest.head fault) (sym is)
          (subst (λ (h : Head). LeadsNowhere uuid log head h fault) (sym t.last_is) nowhere);
    }
