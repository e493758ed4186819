-- In which record a region begins.
use Rattle.std.proofs.Common.{◌≡◌, ℕ, ◌+◌, ◌-◌, ◌<◌, ◌≤◌, ◌^◌, ◌∙◌, Bool, true, false, ltb, Some, None, List, [], ◌∷◌, ◌++◌, length, get_or, drop, refl, sym, ap, subst, arith}
use Rattle.std.specs.Prelude.{if◌then◌else◌}
use Rattle.std.proofs.lemmas.Bool.{cond-true, cond-false, lt-ltb, le-ltb}
use Rattle.std.proofs.lemmas.List.{drop_all, drop_more, length_push}
use Rattle.xr_record.specs.declared.head.Head.{Head}
use Rattle.xr_record.specs.declared.operation.Fields.{Fields}
use Rattle.xr_record.specs.declared.layout.TheConstants.{OPERATION_BYTES}
use Rattle.xr_base.specs.declared.layout.TheConstants.{MAX_BODY_BYTES}
use Rattle.xr_record.specs.Operations.{fields}
use Rattle.xr_commit.specs.RegionHomes.{begins_region, home_of_region, is_start, regions_begun, started_after}
use Rattle.xr_commit.specs.LogRecords.{AreIn, LogRecord, home_of}
use Rattle.xr_commit.specs.Operations.{headers_of, operation_len}
use Rattle.xr_commit.specs.ReadBodies.{IsInLog}
use Rattle.xr_commit.proofs.HeaderWalkLemmas.{IsWalk, walk_begins, walk_ends, walk_on}
use Rattle.xr_commit.proofs.RecordLemmas.{one_of}
use Rattle.xr_commit.specs.HeadLaws.{length-heads, nth}

-- the regions that are counted begin in the operations that were passed
pub record IsCounting (body : List ℕ) (first : Bool) (at regions : ℕ) (started : Bool) : Type 0 where
  pub passed : List Fields
  pub walk : IsWalk body at passed
  pub number : regions ≡ regions_begun first passed
  pub few : regions ≤ length passed
  pub last : started ≡ started_after first passed

pub counting_begins : (body : List ℕ) (first : Bool) → IsCounting body first 0 0 first
counting_begins body first = record { passed = []; walk = walk_begins body; number = refl; few = omega arith; last = refl }

pub begun_more : (first : Bool) (xs ys : List Fields) → regions_begun first (xs ++ ys) ≡ regions_begun first xs + regions_begun (started_after first xs) ys
begun_more first [] ys = omega arith
begun_more first (x ∷ xs) ys = let e = begun_more (is_start x) xs ys in omega (arith, e)

pub started_more : (first : Bool) (xs ys : List Fields) → started_after first (xs ++ ys) ≡ started_after (started_after first xs) ys
started_more first [] ys = refl
started_more first (x ∷ xs) ys = started_more (is_start x) xs ys

some_or_none : (b : Bool) → (if b then 1 else 0) ≤ 1
some_or_none true = omega arith
some_or_none false = omega arith

pub counting_on : (body header : List ℕ) (first : Bool) (at regions len regions' : ℕ) (started' started : Bool) → header ≡ drop at body
    → IsCounting body first at regions started → at + OPERATION_BYTES ≤ length body → length body ≤ MAX_BODY_BYTES
    → len ≡ operation_len (fields header) → len < 2 ^ 33 → regions' ≡ regions + (if begins_region started (fields header) then 1 else 0) → started' ≡ is_start (fields header)
    → IsCounting body first (at + len) regions' started'
counting_on body header first at regions len regions' started' started is s whole short len_is fits more next =
    let f : Fields = fields header in
    let one : ℕ = if begins_region started f then 1 else 0 in
    record {
      passed = s.passed ++ f ∷ [];
      walk = walk_on body header at len s.passed is s.walk whole short len_is fits;
      number = more ∙ ap (λ (n : ℕ). n + one) s.number ∙ ap (λ (b : Bool). regions_begun first s.passed + (if begins_region b f then 1 else 0)) s.last
          ∙ ap (λ (n : ℕ). regions_begun first s.passed + n) (omega arith) ∙ sym (begun_more first s.passed (f ∷ []));
      few = omega (arith, more, s.few, some_or_none (begins_region started f), length_push s.passed f);
      last = next ∙ sym (started_more first s.passed (f ∷ []));
    }

pub counting_ends : (body : List ℕ) (first : Bool) (at regions : ℕ) (started : Bool) → IsCounting body first at regions started → length body < at + OPERATION_BYTES
    → (regions ≡ regions_begun first (headers_of body)) × (started ≡ started_after first (headers_of body))
counting_ends body first at regions started s over =
    let all = sym (walk_ends body at s.passed s.walk over) in
    (s.number ∙ ap (λ (hs : List Fields). regions_begun first hs) all, s.last ∙ ap (λ (hs : List Fields). started_after first hs) all)

-- the record looked for is among those from a place on, where so many regions are left of those before it
abbrev pub IsSeeking : List ℕ → List Head → ℕ → ℕ → ℕ → Bool → Type 0
IsSeeking log heads region i left started = (records : List LogRecord) → AreIn log heads records → home_of_region started (drop i records) left ≡ home_of_region false records region

here : (records : List LogRecord) (i : ℕ) (h : Head) → i < length records → drop i records ≡ nth records i h ∷ drop (i + 1) records
here records i h within = drop_more records i (record { head = h; body = [] }) within

pub seek_found : (log : List ℕ) (heads : List Head) (region i left begun : ℕ) (started : Bool) (h : Head) (body : List ℕ) → IsSeeking log heads region i left started
    → i < length heads → h ≡ get_or heads i h → ((r : LogRecord) → IsInLog log h r → body ≡ r.body) → begun ≡ regions_begun started (headers_of body) → left < begun
    → (records : List LogRecord) → AreIn log heads records → home_of_region false records region ≡ Some (home_of h)
seek_found log heads region i left begun started h body seeks within is body_is count few records are =
    let r = nth records i h in
    let it = one_of log heads records i h are within is in
    let total : ℕ = regions_begun started (headers_of r.body) in
    let small : left < total = subst (λ (n : ℕ). left < n) (count ∙ ap (λ (b : List ℕ). regions_begun started (headers_of b)) (body_is r it)) few in
    sym (seeks records are) ∙ ap (λ (rs : List LogRecord). home_of_region started rs left) (here records i h (subst (λ (n : ℕ). i < n) (length-heads log heads records are) within))
    ∙ cond-true (ltb left total) (Some (home_of r.head)) (home_of_region (started_after started (headers_of r.body)) (drop (i + 1) records) (left - total)) (lt-ltb left total small)
    ∙ ap (λ (x : Head). Some (home_of x)) it.head_is

pub seek_on : (log : List ℕ) (heads : List Head) (region i left begun : ℕ) (started started' : Bool) (h : Head) (body : List ℕ) → IsSeeking log heads region i left started
    → i < length heads → h ≡ get_or heads i h → ((r : LogRecord) → IsInLog log h r → body ≡ r.body) → begun ≡ regions_begun started (headers_of body)
    → started' ≡ started_after started (headers_of body) → begun ≤ left → IsSeeking log heads region (i + 1) (left - begun) started'
seek_on log heads region i left begun started started' h body seeks within is body_is count last many records are =
    let r = nth records i h in
    let it = one_of log heads records i h are within is in
    let total : ℕ = regions_begun started (headers_of r.body) in
    let same : begun ≡ total = count ∙ ap (λ (b : List ℕ). regions_begun started (headers_of b)) (body_is r it) in
    let after : started' ≡ started_after started (headers_of r.body) = last ∙ ap (λ (b : List ℕ). started_after started (headers_of b)) (body_is r it) in
    rw (same, after) (sym (cond-false (ltb left total) (Some (home_of r.head)) (home_of_region (started_after started (headers_of r.body)) (drop (i + 1) records) (left - total))
    (le-ltb left total (subst (λ (n : ℕ). n ≤ left) same many)))
    ∙ ap (λ (rs : List LogRecord). home_of_region started rs left) (sym (here records i h (subst (λ (n : ℕ). i < n) (length-heads log heads records are) within))) ∙ seeks records are)

pub seek_ends : (log : List ℕ) (heads : List Head) (region i left block : ℕ) (started : Bool) (records : List LogRecord) → IsSeeking log heads region i left started
    → length heads ≤ i → AreIn log heads records → home_of_region false records region ≡ Some block → ⊥
seek_ends log heads region i left block started records seeks over are begins =
    let none : drop i records ≡ [] = drop_all i records (omega (arith, over, length-heads log heads records are)) in
    let e : None ≡ Some block = ap (λ (rs : List LogRecord). home_of_region started rs left) (sym none) ∙ seeks records are ∙ begins in
    absurd (cc)
