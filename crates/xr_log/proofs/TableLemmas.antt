-- The table of pending works after a transaction: how long it is, and how its works are numbered.
use Rattle.std.proofs.Common.{◌≡◌, ◌≢◌, ℕ, zero, suc, ◌+◌, ◌<◌, ◌≤◌, ◌∙◌, Bool, true, false, cond, ◌||◌, ◌==◌, List, [], ◌∷◌, ◌++◌, length, map, take, refl, sym, ap, subst, arith, eq-eqb}
use Rattle.std.specs.Prelude.{Contains, not}
use Rattle.std.specs.List.{All, AllByRecursion, AllPairs, filter, list_any}
use Rattle.std.proofs.lemmas.Bool.{eqb-true, false≢true}
use Rattle.std.proofs.lemmas.List.{append-nil, length-map, map-append}
use Rattle.std.proofs.lemmas.List.Elements.{All-cons, All-head, All-nil, All-tail, All-weaker}
use Rattle.std.proofs.lemmas.List.Filters.{length-filter_both}
use Rattle.std.proofs.lemmas.List.Kept.{AllPairs-cons}
use Rattle.xr_items.specs.declared.layout.TheConstants.{IDS}
use Rattle.xr_items.specs.declared.trans.Placed.{Placed}
use Rattle.xr_items.specs.declared.work.Work.{Work}
use Rattle.xr_items.specs.Transactions.{IsTrans, TransView}
use Rattle.xr_items.specs.Valid.{IsWork}
use Rattle.xr_commit.specs.declared.pending.Pending.{Pending}
use Rattle.xr_scan.specs.declared.layout.TheConstants.{MOST_PENDING}
use Rattle.xr_scan.specs.Numbered.{AreNumbered, IsLoggable}
use Rattle.xr_log.specs.declared.held.Slotted.{Slotted}
use Rattle.xr_log.specs.EndedWorks.{kept_entries}
use Rattle.xr_log.specs.Entering.{HasSlots, table_after}
use Rattle.xr_log.specs.PlacedWorks.{entries_of}
use Rattle.xr_log.specs.Slots.{AreApartSlots, pending_in, slots_in}
use Rattle.xr_log.proofs.GoodPlanLemmas.{IsEntry}
use Rattle.xr_log.proofs.PlanPendingLemmas.{AreAllApart, AreApart, begun_works, placed_pending}
use Rattle.xr_log.proofs.SlotLemmas.{has_no_fewer, is_in}

-- How many are left

pub is_among : (xs : List ℕ) (x : ℕ) → Contains xs x → is_in x xs ≡ true
is_among [] x has = absurd (let below = has.1 in omega (arith, below))
is_among (y ∷ ys) x (zero, below, is) = ap (λ (b : Bool). b || is_in x ys) (eq-eqb y x is)
is_among (y ∷ ys) x (suc k, below, is) = ap (λ (b : Bool). (y == x) || b) (is_among ys x (k, omega (arith, below), is)) ∙ or_true (y == x) where
  or_true : (b : Bool) → (b || true) ≡ true
  or_true true = refl
  or_true false = refl

abbrev is_gone : List ℕ → Slotted → Bool
is_gone done s = list_any (λ (slot : ℕ). slot == s.slot) done

gone_has : (done : List ℕ) (table : List Slotted) (slot : ℕ) → is_in slot done ≡ true → is_in slot (slots_in table) ≡ true → is_in slot (slots_in (filter (is_gone done) table)) ≡ true
gone_has done [] slot ends there = there
gone_has done (s ∷ table) slot ends there = by_test (s.slot == slot) (is_gone done s) refl refl there (gone_has done table slot ends) where
  by_test : (b c : Bool) → (s.slot == slot) ≡ b → is_gone done s ≡ c → (b || is_in slot (slots_in table)) ≡ true
      → (is_in slot (slots_in table) ≡ true → is_in slot (slots_in (filter (is_gone done) table)) ≡ true)
      → is_in slot (slots_in (cond c (s ∷ filter (is_gone done) table) (filter (is_gone done) table))) ≡ true
  by_test true true same gone held rest = ap (λ (b : Bool). b || is_in slot (slots_in (filter (is_gone done) table))) same
  by_test true false same gone held rest =
      absurd (false≢true (sym gone ∙ ap (λ (n : ℕ). is_in n done) (eqb-true s.slot slot same) ∙ ends))
  by_test false true other gone held rest = ap (λ (b : Bool). b || is_in slot (slots_in (filter (is_gone done) table))) other ∙ rest held
  by_test false false other gone held rest = rest held

all_among : (xs ys : List ℕ) → All (λ (x : ℕ). Contains xs x) ys → (x : ℕ) → is_in x ys ≡ true → is_in x xs ≡ true
all_among xs [] all x there = absurd (false≢true there)
all_among xs (y ∷ ys) all x there = by_test (y == x) refl there (all_among xs ys (All-tail (λ (z : ℕ). Contains xs z) y ys all) x) where
  by_test : (b : Bool) → (y == x) ≡ b → (b || is_in x ys) ≡ true → (is_in x ys ≡ true → is_in x xs ≡ true) → is_in x xs ≡ true
  by_test true e held rest =
      subst (λ (n : ℕ). is_in n xs ≡ true) (eqb-true y x e) (is_among xs y (All-head (λ (z : ℕ). Contains xs z) y ys all))
  by_test false e held rest = rest held

-- each done slot takes an entry out
pub kept_fewer : (table : List Slotted) (trans : TransView) → HasSlots table trans → length (kept_entries trans.done table) + length trans.works ≤ MOST_PENDING
kept_fewer table trans has =
    let gone : List Slotted = filter (is_gone trans.done) table in
    let both : length gone + length (kept_entries trans.done table) ≡ length table =
    length-filter_both (is_gone trans.done) (λ (s : Slotted). not (is_gone trans.done s)) (λ s. refl) table in
    let least : length trans.done ≤ length (slots_in gone) =
    has_no_fewer trans.done (slots_in gone) has.differ
    (λ k there. gone_has trans.done table k there (all_among (slots_in table) trans.done has.pending k there)) in
    let most = has.most in
    let long = length-map gone (λ (s : Slotted). s.slot) in
    omega (arith, both, least, most, long)

pub kept_fits : (table new : List Slotted) (done : List ℕ) (works : List Work) (trans : TransView) → HasSlots table trans → new ≡ kept_entries done table → done ≡ trans.done
    → works ≡ trans.works → length new + length works ≤ MOST_PENDING
kept_fits table new done works trans has are ends begins =
    let fewer = kept_fewer table trans has in
    let same : length new ≡ length (kept_entries trans.done table) = ap length (are ∙ ap (λ (slots : List ℕ). kept_entries slots table) ends) in
    let also : length works ≡ length trans.works = ap length begins in
    omega (arith, fewer, same, also)

-- Ids

abbrev pending_of : Slotted → Pending
pending_of s = record { id = s.id; work = s.work }

pub table_all : (P : Pending → Type 0) (table : List Slotted) → All P (pending_in table) → AllByRecursion (λ (s : Slotted). P (pending_of s)) table
table_all P [] all = tt
table_all P (s ∷ table) all = (All-head P (pending_of s) (pending_in table) all, table_all P table (All-tail P (pending_of s) (pending_in table) all))

abbrev Rises : Pending → Pending → Type 0
Rises one two = one.id < two.id

pairs_head : {X : Type 0} (R : X → X → Type 0) (x : X) (xs : List X) → AllPairs R (x ∷ xs) → All (R x) xs
pairs_head R x xs all k d within = all 0 (suc k) d (omega arith) (omega (arith, within))

pairs_tail : {X : Type 0} (R : X → X → Type 0) (x : X) (xs : List X) → AllPairs R (x ∷ xs) → AllPairs R xs
pairs_tail R x xs all i j d before within = all (suc i) (suc j) d (omega (arith, before)) (omega (arith, within))

first_apart : (s : Slotted) (table : List Slotted) → All (Rises (pending_of s)) (pending_in table) → All (λ (slot : ℕ). s.slot ≢ slot) (slots_in table) → AllByRecursion (AreApart s) table
first_apart s [] rises differ = tt
first_apart s (e ∷ table) rises differ =
    let later = All-head (Rises (pending_of s)) (pending_of e) (pending_in table) rises in (
      ((λ same. omega (arith, same, later)), All-head (λ (slot : ℕ). s.slot ≢ slot) e.slot (slots_in table) differ),
      first_apart s table (All-tail (Rises (pending_of s)) (pending_of e) (pending_in table) rises) (All-tail (λ (slot : ℕ). s.slot ≢ slot) e.slot (slots_in table) differ),
    )

-- ids rise and slots differ, so entries are apart
pub all_apart : (table : List Slotted) → AllPairs (λ (one two : Pending). one.id < two.id) (pending_in table) → AreApartSlots (slots_in table) → AreAllApart table
all_apart [] rises differ = tt
all_apart (s ∷ table) rises differ = (
  first_apart s table (pairs_head Rises (pending_of s) (pending_in table) rises) (pairs_head (λ (one two : ℕ). one ≢ two) s.slot (slots_in table) differ),
  all_apart table (pairs_tail Rises (pending_of s) (pending_in table) rises) (pairs_tail (λ (one two : ℕ). one ≢ two) s.slot (slots_in table) differ),
)

module _ {X : Type 0} (of : Slotted → X) (stays : Slotted → Bool) where
  kept_all : (P : X → Type 0) (table : List Slotted) (later : List X) → All P (map of table) → All P later → All P (map of (filter stays table) ++ later)
  kept_all P [] later all after = after
  kept_all P (s ∷ table) later all after = by_test (stays s) (kept_all P table later (All-tail P (of s) (map of table) all) after) where
    by_test : (b : Bool) → All P (map of (filter stays table) ++ later) → All P (map of (cond b (s ∷ filter stays table) (filter stays table)) ++ later)
    by_test true rest = All-cons P (of s) (map of (filter stays table) ++ later) (All-head P (of s) (map of table) all) rest
    by_test false rest = rest

  kept_pairs : (R : X → X → Type 0) (table : List Slotted) (later : List X) → AllPairs R (map of table) → All (λ (x : X). All (R x) later) (map of table) → AllPairs R later
      → AllPairs R (map of (filter stays table) ++ later)
  kept_pairs R [] later pairs before after = after
  kept_pairs R (s ∷ table) later pairs before after =
      by_test (stays s) (kept_pairs R table later (pairs_tail R (of s) (map of table) pairs) (All-tail (λ (x : X). All (R x) later) (of s) (map of table) before) after) where
        by_test : (b : Bool) → AllPairs R (map of (filter stays table) ++ later) → AllPairs R (map of (cond b (s ∷ filter stays table) (filter stays table)) ++ later)
        by_test true rest =
            AllPairs-cons R (of s) (map of (filter stays table) ++ later)
            (kept_all (R (of s)) table later (pairs_head R (of s) (map of table) pairs) (All-head (λ (x : X). All (R x) later) (of s) (map of table) before)) rest
        by_test false rest = rest

begun_all : (P : Pending → Type 0) (from next limit : ℕ) (works : List Work) → ((id : ℕ) (work : Work) → from ≤ id → id < limit → IsWork work → P (record { id = id; work = work }))
    → All IsWork works → from ≤ next → next + length works ≤ limit → All P (begun_works next works)
begun_all P from next limit [] has valid low most = All-nil P
begun_all P from next limit (work ∷ works) has valid low most =
    All-cons P (record { id = next; work = work }) (begun_works (suc next) works) (has next work low (omega (arith, most)) (All-head IsWork work works valid))
    (begun_all P from (suc next) limit works has (All-tail IsWork work works valid) (omega (arith, low)) (omega (arith, most)))

begun_rise : (next : ℕ) (works : List Work) → All IsWork works → AllPairs Rises (begun_works next works)
begun_rise next [] valid = λ i j d before within. absurd (omega (arith, within))
begun_rise next (work ∷ works) valid =
    AllPairs-cons Rises (record { id = next; work = work }) (begun_works (suc next) works)
    (begun_all (Rises (record { id = next; work = work })) (suc next) (suc next) (suc next + length works) works (λ id w from below valid. omega (arith, from)) (All-tail IsWork work works valid) (omega arith) (omega arith))
    (begun_rise (suc next) works (All-tail IsWork work works valid))

-- the works of the table are numbered
pub numbered_after : (next : ℕ) (done slots : List ℕ) (table : List Slotted) (works : List Work) → AreNumbered next (pending_in table) → All IsWork works
    → next + length works ≤ IDS → length slots ≡ length works → AreNumbered (next + length works) (pending_in (kept_entries done table ++ entries_of next slots works))
numbered_after next done slots table works numbered valid most long =
    let limit : ℕ = next + length works in
    let from = numbered.from in
    let stays : Slotted → Bool = λ (s : Slotted). not (list_any (λ (slot : ℕ). slot == s.slot) done) in
    let are : pending_in (kept_entries done table ++ entries_of next slots works) ≡ pending_in (kept_entries done table) ++ begun_works next works =
    map-append pending_of (kept_entries done table) (entries_of next slots works)
    ∙ ap (λ (ps : List Pending). pending_in (kept_entries done table) ++ ps) (placed_pending next slots works long) in
    subst (AreNumbered limit) (sym are) record {
      from = omega (arith, from);
      to = most;
      loggable = kept_all pending_of stays IsLoggable table (begun_works next works) numbered.loggable
          (begun_all IsLoggable next next limit works (λ id work low below valid. ((omega (arith, low, from), omega (arith, below, most)), valid)) valid (omega arith) (omega arith));
      rise = kept_pairs pending_of stays Rises table (begun_works next works) numbered.rise
          (All-weaker (λ (p : Pending). p.id < next) (λ (p : Pending). All (Rises p) (begun_works next works))
          (λ p less. begun_all (Rises p) next next limit works (λ id work low below valid. omega (arith, less, low)) valid (omega arith) (omega arith)) (pending_in table) numbered.below)
          (begun_rise next works valid);
      below = kept_all pending_of stays (λ (p : Pending). p.id < limit) table (begun_works next works)
          (All-weaker (λ (p : Pending). p.id < next) (λ (p : Pending). p.id < limit) (λ p less. omega (arith, less)) (pending_in table) numbered.below)
          (begun_all (λ (p : Pending). p.id < limit) next next limit works (λ id work low below valid. below) valid (omega arith) (omega arith));
    }

pub numbered_entered : (trans : TransView) (table new : List Slotted) (next : ℕ) (slots : Placed) (works : List Work) → AreNumbered next (pending_in table) → IsTrans trans
    → next + length trans.works ≤ IDS → length (take slots.count slots.slots) ≡ length trans.works → new ≡ table_after trans table next slots → works ≡ trans.works
    → AreNumbered (next + length works) (pending_in new)
numbered_entered trans table new next slots works numbered valid most long are same =
    subst (λ (ws : List Work). AreNumbered (next + length ws) (pending_in new)) (sym same)
    (subst (λ (entries : List Slotted). AreNumbered (next + length trans.works) (pending_in entries)) (sym are)
    (numbered_after next trans.done (take slots.count slots.slots) table trans.works numbered valid.valid_works most long))

-- and slots still differ
pub kept_apart : (done : List ℕ) (table new : List Slotted) → new ≡ kept_entries done table → AreApartSlots (slots_in table) → AreApartSlots (slots_in new)
kept_apart done table new are apart =
    subst (λ (entries : List Slotted). AreApartSlots (slots_in entries)) (sym are)
    (subst AreApartSlots (append-nil (slots_in (kept_entries done table)))
    (kept_pairs (λ (s : Slotted). s.slot) (λ (s : Slotted). not (list_any (λ (slot : ℕ). slot == s.slot) done)) (λ (one two : ℕ). one ≢ two) table [] apart
    (λ k d within i e inside. absurd (omega (arith, inside))) (λ i j d before within. absurd (omega (arith, within)))))

-- each entry may be logged, with an id below the next one
pub entries_valid : (next : ℕ) (table : List Slotted) → AreNumbered next (pending_in table) → AllByRecursion IsEntry table
entries_valid next table numbered = table_all IsLoggable table numbered.loggable

pub entries_below : (next : ℕ) (table : List Slotted) → AreNumbered next (pending_in table) → AllByRecursion (λ (s : Slotted). s.id < next) table
entries_below next table numbered = table_all (λ (p : Pending). p.id < next) table numbered.below
