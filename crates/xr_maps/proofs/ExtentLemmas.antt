-- The search for extents: what it has found before an offset, and how it goes on.
use Rattle.std.proofs.Common.{◌≡◌, ℕ, ◌+◌, ◌<◌, ◌≤◌, List, [], ◌∷◌, ◌++◌, length, map, Option, None, Some, sym, ap, ◌∙◌, arith, rules, ◌-◌, false, ⊎_elim, is_some, subst}
use Rattle.std.specs.Prelude.{All, IsSome}
use Rattle.std.proofs.lemmas.List.{map_push, get_or_past}
use Rattle.std.proofs.lemmas.List.Elements.{All-push}
use Rattle.std.proofs.lemmas.Bool.{cases_lt}
use Rattle.xr_base.specs.declared.address.Addr.{Addr}
use Rattle.xr_base.specs.Address.{address_of, address_after}
use Rattle.xr_maps.specs.declared.records.Extent.{Extent}
use Rattle.xr_maps.specs.Records.{RunsOn, AreExtentsOf, span_of_extent}
use Rattle.xr_maps.specs.Tables.{slot_of}
use Rattle.xr_maps.specs.Extents.{IsExtentLen, AreHoles, IsNextExtent}
use Rattle.xr_maps.proofs.RunLemmas.{AreRunsBelow, BeginsRun, none_below, runs_push, runs_skip, runs_all}

pub record AreExtentsBelow (slots : ℕ → Option Addr) (n : ℕ) (extents : List Extent) : Type 0 where
  pub runs : AreRunsBelow (λ off. IsSome (slots off)) (RunsOn slots) n (map span_of_extent extents)
  pub starts : All (λ e. slots e.off ≡ Some e.at) extents

-- a position of an extent is mapped as far on as it lies after the extent's start
pub slot_in_extent : (table : List (Option Addr)) (off : ℕ) (at : Addr) (len : ℕ) → IsExtentLen table off at len → (k : ℕ) → off ≤ k → k < off + len
    → slot_of table k ≡ Some (address_after at (k - off))
slot_in_extent table off at len h k above below =
    let same : off + (k - off) ≡ k = omega arith in
    let found = h.together (k - off) (omega arith) in
    ap (slot_of table) (sym same) ∙ found

pub same_address : (at : Addr) (i j : ℕ) → i ≡ j → Some (address_after at i) ≡ Some (address_after at j)
same_address at i j e = ap (λ n. Some (address_after at n)) e

pub first_address : (at : Addr) (i : ℕ) → i ≡ 0 → Some (address_after at i) ≡ Some at
first_address at i e = let same : at.0 + i ≡ at.0 = omega arith in ap (λ n. Some (address_of n)) same

pub next_address : (at : Addr) (i : ℕ) → address_after (address_after at i) 1 ≡ address_after at (i + 1)
next_address at i = let e : (at.0 + i) + 1 ≡ at.0 + (i + 1) = omega arith in ap address_of e

runs_on : (table : List (Option Addr)) (off : ℕ) (at : Addr) (len : ℕ) → IsExtentLen table off at len → (k : ℕ) → off ≤ k → k + 1 < off + len
    → RunsOn (slot_of table) k
runs_on table off at len h k above below = record {
  here = address_after at (k - off);
  is_here = slot_in_extent table off at len h k above (omega arith);
  is_next = slot_in_extent table off at len h (k + 1) (omega arith) below
      ∙ same_address at (k + 1 - off) (k - off + 1) (omega arith)
      ∙ ap Some (sym (next_address at (k - off)));
}

pub stops : (table : List (Option Addr)) (off : ℕ) (at : Addr) (len : ℕ) → IsExtentLen table off at len → (k : ℕ) → k + 1 ≡ off + len
    → ¬ RunsOn (slot_of table) k
stops table off at len h k last on =
    let here : slot_of table k ≡ Some (address_after at (k - off)) = slot_in_extent table off at len h k (let p = h.some in omega arith) (omega arith) in
    let same : on.here ≡ address_after at (k - off) = let a = on.is_here in cc in
    let next : slot_of table (off + len) ≡ Some (address_after at len) =
    ap (slot_of table) (sym last) ∙ on.is_next ∙ ap (λ a. Some (address_after a 1)) same
    ∙ ap Some (next_address at (k - off)) ∙ same_address at (k - off + 1) len (let p = h.some in omega arith) in
    ⊎_elim
    (λ (inside : off + len < length table). h.ended inside next)
    (λ (past : length table ≤ off + len). let none : slot_of table (off + len) ≡ None = get_or_past table (off + len) None past in cc)
    (cases_lt (off + len) (length table))

pub extent_begins : (table : List (Option Addr)) (off : ℕ) (at : Addr) (len : ℕ) → IsExtentLen table off at len
    → BeginsRun (λ o. IsSome (slot_of table o)) (RunsOn (slot_of table)) off len
extent_begins table off at len h = record {
  some = h.some;
  there = λ k above below. ap is_some (slot_in_extent table off at len h k above below);
  joined = runs_on table off at len h;
  ended = stops table off at len h;
}

pub is_mapped : (slots : ℕ → Option Addr) (off : ℕ) → RunsOn slots off → IsSome (slots off)
is_mapped slots off on = ap is_some on.is_here

pub not_mapped : (slots : ℕ → Option Addr) (off : ℕ) → slots off ≡ None → ¬ IsSome (slots off)
not_mapped slots off hole there = let s : is_some (slots off) ≡ false = ap is_some hole in cc

-- holes are passed over
extents_skip : (table : List (Option Addr)) (from to : ℕ) (extents : List Extent) → from ≤ to
    → AreExtentsBelow (slot_of table) from extents → AreHoles table from to → AreExtentsBelow (slot_of table) to extents
extents_skip table from to extents le so_far holes =
    let e : from + (to - from) ≡ to = omega arith in
    subst (λ n. AreExtentsBelow (slot_of table) n extents) e (record {
      runs = runs_skip from (to - from) (map span_of_extent extents) so_far.runs (is_mapped (slot_of table))
          (λ k above below. not_mapped (slot_of table) k (holes k above (omega arith)));
      starts = so_far.starts;
    })

extents_push : (table : List (Option Addr)) (off : ℕ) (at : Addr) (len : ℕ) (extents : List Extent)
    → AreExtentsBelow (slot_of table) off extents → IsExtentLen table off at len
    → AreExtentsBelow (slot_of table) (off + len) (extents ++ record { off = off; len = len; at = at } ∷ [])
extents_push table off at len extents so_far found = record {
  runs = rw map_push (runs_push off len (map span_of_extent extents) so_far.runs (extent_begins table off at len found));
  starts = All-push (λ e. slot_of table e.off ≡ Some e.at) extents _ so_far.starts
      (slot_in_extent table off at len found off (omega arith) (let p = found.some in omega arith) ∙ first_address at (off - off) (omega arith));
}

-- the next extent is found
pub extents_more : (table : List (Option Addr)) (from : ℕ) (e : Extent) (extents : List Extent)
    → AreExtentsBelow (slot_of table) from extents → IsNextExtent table from e
    → AreExtentsBelow (slot_of table) (e.off + e.len) (extents ++ e ∷ [])
extents_more table from e extents so_far next =
    extents_push table e.off e.at e.len extents (extents_skip table from e.off extents next.after so_far next.holes) next.extent

pub no_extents : (slots : ℕ → Option Addr) → AreExtentsBelow slots 0 []
no_extents slots = record {
  runs = none_below 0 (λ k h. absurd (omega arith)) (λ k h. absurd (omega arith));
  starts = search rules;
}

-- at the end holes alone are left
pub all_extents : (table : List (Option Addr)) (from : ℕ) (extents : List Extent) → AreExtentsBelow (slot_of table) from extents
    → AreHoles table from (length table) → AreExtentsOf (slot_of table) extents
all_extents table from extents so_far holes = record {
  runs = runs_all from (map span_of_extent extents) so_far.runs (λ k there. ⊎_elim
      (λ (below : k < from). below)
      (λ (above : from ≤ k). absurd (⊎_elim
      (λ (inside : k < length table). not_mapped (slot_of table) k (holes k above inside) there)
      (λ (past : length table ≤ k). not_mapped (slot_of table) k (get_or_past table k None past) there)
      (cases_lt k (length table))))
      (cases_lt k from));
  starts = so_far.starts;
}
