-- The works that the roll of an exchange leaves: what they do together, that they are valid, and that they are a chain.
use Rattle.std.proofs.Common.{◌≡◌, ℕ, ◌+◌, ◌-◌, ◌<◌, ◌≤◌, List, [], ◌∷◌, ◌++◌, cond, eqb, arith, refl, ap, sym, ◌∙◌, true, false, Bool, ⊎_elim, ◌⊎◌, inl, inr, Option, Some, None, subst}
use Rattle.std.specs.Prelude.{sum_by, ◌≢◌, ◌||◌}
use Rattle.std.proofs.lemmas.Bool.{cases_eq, eq-eqb, ne_eqb}
use Rattle.std.proofs.lemmas.List.Sums.{sum_by-cons, sum_by-append}
use Rattle.xr_base.specs.declared.address.FileNo.{FileNo}
use Rattle.xr_base.specs.declared.address.Run.{Run}
use Rattle.xr_maps.specs.FileMaps.{FileMaps}
use Rattle.xr_maps.specs.Holdings.{one_if}
use Rattle.xr_items.specs.declared.work.Work.{Work}
use Rattle.xr_items.specs.declared.work.Work.TheVariants.{Own, Map, Swap}
use Rattle.xr_items.specs.declared.work.MapKind.TheVariants as Mapping
use Rattle.xr_items.specs.declared.work.OwnKind.TheVariants as Owning
use Rattle.xr_balance.specs.Chains.{AreInOrder, IsChain, exchanging, giving, lowering, other_than_giving, raising, recounting}
use Rattle.xr_balance.specs.Pieces.{GivesPiece, TakesPiece}
use Rattle.xr_balance.specs.Rows.{works_of_exchange_rest, works_of_piece}
use Rattle.xr_balance.specs.Works.{freed, lowered, naming_file, raised, staging, staging_pair, staging_unpair, unmapping_at, unstaging}
use Rattle.xr_balance.proofs.OrderLemmas.{order-append, order-cons, order-none}
use Rattle.xr_balance.proofs.PieceLemmas.{Each}
use Rattle.xr_balance.proofs.RowLemmas.{map_head, pair_head, swap_head, unmap_head, unpair_head}

-- a number of a run; a hole's is 0
abbrev pub of_run : (Run → ℕ) → Option Run → ℕ
of_run h None = 0
of_run h (Some run) = h run

pub of_none : (old : Option Run) → of_run (λ _. 0) old ≡ 0
of_none None = refl
of_none (Some run) = refl

of_one : (old : Option Run) → of_run (λ _. 1) old ≤ 1
of_one None = omega arith
of_one (Some run) = omega arith

-- what the works of a piece do together
pub piece_sum : (g : Work → ℕ) (file : FileNo) (off : ℕ) (one : Option Run) (other : FileNo) (other_off : ℕ) (two : Option Run)
    → sum_by g (works_of_piece file off one other other_off two)
    ≡ of_run (λ r. g (Map Mapping.Unmap file off r)) one + of_run (λ r. g (Map Mapping.Unmap other other_off r)) two
    + of_run (λ r. g (Map Mapping.Map file off r)) two + of_run (λ r. g (Map Mapping.Map other other_off r)) one
    + of_run (λ r. g (Own Owning.UnmapShared (128 + file.0) off r)) one + of_run (λ r. g (Own Owning.UnmapShared (128 + other.0) other_off r)) two
    + of_run (λ r. g (Own Owning.MapShared (128 + file.0) off r)) two + of_run (λ r. g (Own Owning.MapShared (128 + other.0) other_off r)) one
piece_sum g file off None other other_off None = refl
piece_sum g file off (Some r) other other_off None = omega arith
piece_sum g file off None other other_off (Some s) = omega arith
piece_sum g file off (Some r) other other_off (Some s) = omega arith

pub rest_sum : (g : Work → ℕ) (file : FileNo) (off : ℕ) (other : FileNo) (other_off len n : ℕ)
    → sum_by g (works_of_exchange_rest file off other other_off len n) ≡ cond (eqb n len) 0 (g (Swap file (off + n) other (other_off + n) (len - n)))
rest_sum g file off other other_off len n = ⊎_elim
    (λ e. rw (eq-eqb n len e) refl)
    (λ ne. rw (ne_eqb n len ne) (sum_by-cons g (Swap file (off + n) other (other_off + n) (len - n)) [] ∙ omega arith))
    (cases_eq n len)

pub new_sum : (g : Work → ℕ) {maps : FileMaps} {file : FileNo} {off : ℕ} {other : FileNo} {other_off len : ℕ} {new : List Work} (it : TakesPiece maps file off other other_off len new)
    → sum_by g new ≡ sum_by g (works_of_piece file off it.one other other_off it.two) + sum_by g (works_of_exchange_rest file off other other_off len it.size)
new_sum g {maps} {file} {off} {other} {other_off} {len} it =
    ap (sum_by g) it.new_is ∙ sum_by-append g (works_of_piece file off it.one other other_off it.two) (works_of_exchange_rest file off other other_off len it.size)

-- facts of each of them
abbrev pub OfFirst : (Work → Type 0) → FileNo → ℕ → FileNo → ℕ → Run → Type 0
OfFirst T file off other other_off r =
    T (Map Mapping.Unmap file off r) × T (Map Mapping.Map other other_off r) × T (Own Owning.UnmapShared (128 + file.0) off r) × T (Own Owning.MapShared (128 + other.0) other_off r)

each_piece : (T : Work → Type 0) (file : FileNo) (off : ℕ) (one : Option Run) (other : FileNo) (other_off : ℕ) (two : Option Run)
    → ((r : Run) → one ≡ Some r → OfFirst T file off other other_off r) → ((s : Run) → two ≡ Some s → OfFirst T other other_off file off s)
    → Each T (works_of_piece file off one other other_off two)
each_piece T file off None other other_off None first second = tt
each_piece T file off (Some r) other other_off None first second = let a = first r refl in (a.0, (a.1, (a.2, (a.3, tt))))
each_piece T file off None other other_off (Some s) first second = let b = second s refl in (b.0, (b.1, (b.2, (b.3, tt))))
each_piece T file off (Some r) other other_off (Some s) first second =
    let a = first r refl in let b = second s refl in (a.0, (b.0, (b.1, (a.1, (a.2, (b.2, (b.3, (a.3, tt))))))))

each_append : (T : Work → Type 0) (xs ys : List Work) → Each T xs → Each T ys → Each T (xs ++ ys)
each_append T [] ys one two = two
each_append T (x ∷ xs) ys one two = (one.0, each_append T xs ys one.1 two)

pub each_new : (T : Work → Type 0) {maps : FileMaps} {file : FileNo} {off : ℕ} {other : FileNo} {other_off len : ℕ} {new : List Work} (it : TakesPiece maps file off other other_off len new)
    → ((r : Run) → it.one ≡ Some r → OfFirst T file off other other_off r) → ((s : Run) → it.two ≡ Some s → OfFirst T other other_off file off s)
    → (it.size ≢ len → T (Swap file (off + it.size) other (other_off + it.size) (len - it.size))) → Each T new
each_new T {maps} {file} {off} {other} {other_off} {len} it first second rest =
    subst (Each T) (sym it.new_is) (each_append T (works_of_piece file off it.one other other_off it.two) (works_of_exchange_rest file off other other_off len it.size)
    (each_piece T file off it.one other other_off it.two first second)
    (⊎_elim
    (λ e. subst (Each T) (sym (ap (λ t. cond t [] (Swap file (off + it.size) other (other_off + it.size) (len - it.size) ∷ [])) (eq-eqb it.size len e))) tt)
    (λ ne. subst (Each T) (sym (ap (λ t. cond t [] (Swap file (off + it.size) other (other_off + it.size) (len - it.size) ∷ [])) (ne_eqb it.size len ne))) (rest ne, tt))
    (cases_eq it.size len)))

sum_none : (g : Work → ℕ) (works : List Work) → Each (λ w. g w ≡ 0) works → sum_by g works ≡ 0
sum_none g [] none = refl
sum_none g (w ∷ works) none = omega (arith, sum_by-cons g w works, none.0, sum_none g works none.1)

-- what none of them does
none_new : (g : Work → ℕ) {maps : FileMaps} {file : FileNo} {off : ℕ} {other : FileNo} {other_off len : ℕ} {new : List Work}
    → ((a : FileNo) (o : ℕ) (c : FileNo) (p : ℕ) (r : Run) → OfFirst (λ w. g w ≡ 0) a o c p r) → ((a : FileNo) (o : ℕ) (c : FileNo) (p n : ℕ) → g (Swap a o c p n) ≡ 0)
    → TakesPiece maps file off other other_off len new → sum_by g new ≡ 0
none_new g {maps} {file} {off} {other} {other_off} {len} {new} runs swaps it = sum_none g new (each_new (λ w. g w ≡ 0) it
    (λ r _. runs file off other other_off r)
    (λ s _. runs other other_off file off s)
    (λ _. swaps file (off + it.size) other (other_off + it.size) (len - it.size)))

-- no file but the two is named
pub files_new : {maps : FileMaps} {file : FileNo} {off : ℕ} {other : FileNo} {other_off len : ℕ} {new : List Work} (f : ℕ) → TakesPiece maps file off other other_off len new
    → 0 < sum_by (naming_file f) new → (f ≡ file.0) ⊎ (f ≡ other.0)
files_new {maps} {file} {off} {other} {other_off} {len} {new} f it some = ⊎_elim
    (λ e. inl e)
    (λ not_one. ⊎_elim
    (λ e. inr e)
    (λ not_two. let a = names_not file.0 not_one in let b = names_not other.0 not_two in
    absurd (omega (
      arith,
      some,
      sum_none (naming_file f) new (each_new (λ w. naming_file f w ≡ 0) it
          (λ r _. (ap one_if a.0, ap one_if b.0, ap one_if a.1, ap one_if b.1))
          (λ s _. (ap one_if b.0, ap one_if a.0, ap one_if b.1, ap one_if a.1))
          (λ _. both (eqb file.0 f) (eqb other.0 f) a.0 b.0)),
    )))
    (cases_eq f other.0))
    (cases_eq f file.0)
  where
    names_not : (a : ℕ) → f ≢ a → (eqb a f ≡ false) × (eqb (128 + a) (128 + f) ≡ false)
    names_not a ne = (ne_eqb a f (λ h. ne (sym h)), ne_eqb (128 + a) (128 + f) (λ h. ne (omega (arith, h))))

    both : (s t : Bool) → s ≡ false → t ≡ false → one_if (s || t) ≡ 0
    both s t x y = rw (x, y) refl

four : (file : FileNo) (off : ℕ) (other : FileNo) (other_off : ℕ) (r : Run) → AreInOrder (works_of_piece file off (Some r) other other_off None)
four file off other other_off r =
    order-cons _ _ (unmap_head file off r _ (λ b it. omega (arith, it))) (order-cons _ _ (map_head other other_off r _ (λ f o. refl))
    (order-cons _ _ (unpair_head _ off r _ (λ b it. omega (arith, it))) (order-cons _ _ (pair_head _ other_off r _) order-none)))

piece_order : (file : FileNo) (off : ℕ) (one : Option Run) (other : FileNo) (other_off : ℕ) (two : Option Run) → AreInOrder (works_of_piece file off one other other_off two)
piece_order file off None other other_off None = order-none
piece_order file off (Some r) other other_off None = four file off other other_off r
piece_order file off None other other_off (Some s) = four other other_off file off s
piece_order file off (Some r) other other_off (Some s) =
    order-cons _ _ (unmap_head file off r _ (λ b it. omega (arith, it))) (order-cons _ _ (unmap_head other other_off s _ (λ b it. omega (arith, it)))
    (order-cons _ _ (map_head file off s _ (λ f o. refl)) (order-cons _ _ (map_head other other_off r _ (λ f o. refl))
    (order-cons _ _ (unpair_head _ off r _ (λ b it. omega (arith, it))) (order-cons _ _ (unpair_head _ other_off s _ (λ b it. omega (arith, it)))
    (order-cons _ _ (pair_head _ off s _) (order-cons _ _ (pair_head _ other_off r _) order-none)))))))

rest_order : (file : FileNo) (off : ℕ) (other : FileNo) (other_off len n : ℕ) → AreInOrder (works_of_exchange_rest file off other other_off len n)
rest_order file off other other_off len n =
    let last : Work = Swap file (off + n) other (other_off + n) (len - n) in ⊎_elim
    (λ e. subst AreInOrder (sym (ap (λ t. cond t [] (last ∷ [])) (eq-eqb n len e))) order-none)
    (λ ne. subst AreInOrder (sym (ap (λ t. cond t [] (last ∷ [])) (ne_eqb n len ne))) (order-cons last [] (swap_head file (off + n) other (other_off + n) (len - n)) order-none))
    (cases_eq n len)

pub cond_most : (t : Bool) (n : ℕ) → cond t 0 n ≤ n
cond_most t n = elim t as (λ t. cond t 0 n ≤ n) [ true ↦ omega arith | false ↦ omega arith ]

-- at most eight works, and one for the rest
pub few_new : (g : Work → ℕ) {maps : FileMaps} {file : FileNo} {off : ℕ} {other : FileNo} {other_off len : ℕ} {new : List Work} (it : TakesPiece maps file off other other_off len new)
    → ((r : Run) → OfFirst (λ w. g w ≡ 1) file off other other_off r) → ((s : Run) → OfFirst (λ w. g w ≡ 1) other other_off file off s)
    → sum_by g new ≤ 8 + g (Swap file (off + it.size) other (other_off + it.size) (len - it.size))
few_new g {maps} {file} {off} {other} {other_off} {len} it first second =
    omega (arith, new_sum g it, rest_sum g file off other other_off len it.size, cond_most (eqb it.size len) (g (Swap file (off + it.size) other (other_off + it.size) (len - it.size))), eight it.one it.two)
  where
    eight : (one two : Option Run) → sum_by g (works_of_piece file off one other other_off two) ≤ 8
    eight None None = omega arith
    eight (Some r) None = let a = first r in omega (arith, a.0, a.1, a.2, a.3)
    eight None (Some s) = let b = second s in omega (arith, b.0, b.1, b.2, b.3)
    eight (Some r) (Some s) = let a = first r in let b = second s in omega (arith, a.0, a.1, a.2, a.3, b.0, b.1, b.2, b.3)

-- the works of a piece and of the rest are a chain
pub chain_new : {maps : FileMaps} {file : FileNo} {off : ℕ} {other : FileNo} {other_off len : ℕ} {new : List Work} → TakesPiece maps file off other other_off len new → IsChain new
chain_new {maps} {file} {off} {other} {other_off} {len} {new} it =
    let piece : List Work = works_of_piece file off it.one other other_off it.two in
    let rest : List Work = works_of_exchange_rest file off other other_off len it.size in
    let in_piece : (g : Work → ℕ) → ((r : Run) → it.one ≡ Some r → OfFirst (λ w. g w ≡ 0) file off other other_off r) → ((s : Run) → it.two ≡ Some s → OfFirst (λ w. g w ≡ 0) other other_off file off s)
    → sum_by g piece ≡ 0 = λ g a b. sum_none g piece (each_piece (λ w. g w ≡ 0) file off it.one other other_off it.two a b) in
    let in_rest : (g : Work → ℕ) → g (Swap file (off + it.size) other (other_off + it.size) (len - it.size)) ≡ 0 → sum_by g rest ≡ 0 = λ g none.
    omega (arith, rest_sum g file off other other_off len it.size, cond_most (eqb it.size len) (g (Swap file (off + it.size) other (other_off + it.size) (len - it.size))), none) in
    record {
      order = subst AreInOrder (sym it.new_is) (order-append piece rest (piece_order file off it.one other other_off it.two) (rest_order file off other other_off len it.size) (record {
        unmapped = λ f o some. in_rest (unmapping_at f o) refl;
        lowered_last = λ some. omega (arith, in_rest giving refl, in_rest lowering refl);
        exchanged_last = λ some. absurd (omega (arith, some, in_piece exchanging (λ r _. (refl, refl, refl, refl)) (λ s _. (refl, refl, refl, refl))));
      }));
      short = omega (arith, few_new other_than_giving it (λ r. (refl, refl, refl, refl)) (λ s. (refl, refl, refl, refl)));
      given_once = omega (arith, none_new giving (λ f o g p r. (refl, refl, refl, refl)) (λ f o g p n. refl) it);
      raised_once = omega (arith, none_new raising (λ f o g p r. (refl, refl, refl, refl)) (λ f o g p n. refl) it);
      apart = λ some. none_new recounting (λ f o g p r. (refl, refl, refl, refl)) (λ f o g p n. refl) it;
      one = file.0;
      two = other.0;
      files = λ f some. files_new f it some;
    }

pub flat_sum : (g : Work → ℕ) {maps : FileMaps} {file : FileNo} {off : ℕ} {other : FileNo} {other_off len : ℕ} {new : List Work} (it : TakesPiece maps file off other other_off len new)
    → g (Swap file (off + it.size) other (other_off + it.size) (len - it.size)) ≡ 0
    → sum_by g new
    ≡ of_run (λ r. g (Map Mapping.Unmap file off r)) it.one + of_run (λ r. g (Map Mapping.Unmap other other_off r)) it.two
    + of_run (λ r. g (Map Mapping.Map file off r)) it.two + of_run (λ r. g (Map Mapping.Map other other_off r)) it.one
    + of_run (λ r. g (Own Owning.UnmapShared (128 + file.0) off r)) it.one + of_run (λ r. g (Own Owning.UnmapShared (128 + other.0) other_off r)) it.two
    + of_run (λ r. g (Own Owning.MapShared (128 + file.0) off r)) it.two + of_run (λ r. g (Own Owning.MapShared (128 + other.0) other_off r)) it.one
flat_sum g {maps} {file} {off} {other} {other_off} {len} it none = omega (
  arith,
  new_sum g it,
  piece_sum g file off it.one other other_off it.two,
  rest_sum g file off other other_off len it.size,
  cond_most (eqb it.size len) (g (Swap file (off + it.size) other (other_off + it.size) (len - it.size))),
  none,
)

-- what exchanges alone do, the rest does
pub swap_sum : (g : Work → ℕ) {maps : FileMaps} {file : FileNo} {off : ℕ} {other : FileNo} {other_off len : ℕ} {new : List Work} (it : TakesPiece maps file off other other_off len new)
    → ((r : Run) → OfFirst (λ w. g w ≡ 0) file off other other_off r) → ((s : Run) → OfFirst (λ w. g w ≡ 0) other other_off file off s)
    → (len - it.size ≡ 0 → g (Swap file (off + it.size) other (other_off + it.size) (len - it.size)) ≡ 0)
    → sum_by g new ≡ g (Swap file (off + it.size) other (other_off + it.size) (len - it.size))
swap_sum g {maps} {file} {off} {other} {other_off} {len} it first second empty =
    let rest : ℕ = g (Swap file (off + it.size) other (other_off + it.size) (len - it.size)) in
    let piece : sum_by g (works_of_piece file off it.one other other_off it.two) ≡ 0 =
    sum_none g (works_of_piece file off it.one other other_off it.two) (each_piece (λ w. g w ≡ 0) file off it.one other other_off it.two (λ r _. first r) (λ s _. second s)) in
    omega (
      arith,
      new_sum g it,
      piece,
      rest_sum g file off other other_off len it.size,
      ⊎_elim
          (λ e. ap (λ t. cond t 0 rest) (eq-eqb it.size len e) ∙ sym (empty (omega (arith, e))))
          (λ ne. ap (λ t. cond t 0 rest) (ne_eqb it.size len ne))
          (cases_eq it.size len),
    )

-- nor does any of them raise, lower, give or stage a block
pub record IsUncounted (new : List Work) : Type 0 where
  pub gives : (b : ℕ) → sum_by (freed b) new ≡ 0
  pub raises : (b : ℕ) → sum_by (raised b) new ≡ 0
  pub lowers : (b : ℕ) → sum_by (lowered b) new ≡ 0
  pub stages : (b : ℕ) → sum_by (staging b) new ≡ 0
  pub unstages : (b : ℕ) → sum_by (unstaging b) new ≡ 0
  pub stage_pairs : (b : ℕ) → sum_by (staging_pair b) new ≡ 0
  pub unstage_pairs : (b : ℕ) → sum_by (staging_unpair b) new ≡ 0

pub uncounted_new : {maps : FileMaps} {file : FileNo} {off : ℕ} {other : FileNo} {other_off len : ℕ} {new : List Work} → TakesPiece maps file off other other_off len new → IsUncounted new
uncounted_new it = record {
  gives = λ b. none_new (freed b) (λ f o g p r. (refl, refl, refl, refl)) (λ f o g p n. refl) it;
  raises = λ b. none_new (raised b) (λ f o g p r. (refl, refl, refl, refl)) (λ f o g p n. refl) it;
  lowers = λ b. none_new (lowered b) (λ f o g p r. (refl, refl, refl, refl)) (λ f o g p n. refl) it;
  stages = λ b. none_new (staging b) (λ f o g p r. (refl, refl, refl, refl)) (λ f o g p n. refl) it;
  unstages = λ b. none_new (unstaging b) (λ f o g p r. (refl, refl, refl, refl)) (λ f o g p n. refl) it;
  stage_pairs = λ b. none_new (staging_pair b) (λ f o g p r. (refl, refl, refl, refl)) (λ f o g p n. refl) it;
  unstage_pairs = λ b. none_new (staging_unpair b) (λ f o g p r. (refl, refl, refl, refl)) (λ f o g p n. refl) it;
}

pub uncounted : {maps : FileMaps} {file : FileNo} {off : ℕ} {other : FileNo} {other_off len : ℕ} {new : List Work} → GivesPiece maps file off other other_off len new → IsUncounted new
uncounted {new = new} it = ⊎_elim
    (λ none. let zero_of : (g : Work → ℕ) → sum_by g new ≡ 0 = λ g. ap (sum_by g) none.1 in
    record { gives = λ b. zero_of (freed b); raises = λ b. zero_of (raised b); lowers = λ b. zero_of (lowered b); stages = λ b. zero_of (staging b); unstages = λ b. zero_of (unstaging b); stage_pairs = λ b. zero_of (staging_pair b); unstage_pairs = λ b. zero_of (staging_unpair b) })
    uncounted_new
    it.gives

pub either : (s t : Bool) → (s ≡ true) ⊎ (t ≡ true) → one_if (s || t) ≡ 1
either true t is = refl
either false true is = refl
either false false is = ⊎_elim (λ e. absurd (omega (arith, ap one_if e))) (λ e. absurd (omega (arith, ap one_if e))) is

pub given_files : {maps : FileMaps} {file : FileNo} {off : ℕ} {other : FileNo} {other_off len : ℕ} {new : List Work} (f : ℕ) → GivesPiece maps file off other other_off len new
    → 0 < sum_by (naming_file f) new → 0 < naming_file f (Swap file off other other_off len)
given_files {maps} {file} {off} {other} {other_off} {len} f it some = ⊎_elim
    (λ none. absurd (omega (arith, some, ap (sum_by (naming_file f)) none.1)))
    (λ takes. ⊎_elim
    (λ e. omega (arith, either (eqb file.0 f) (eqb other.0 f) (inl (eq-eqb file.0 f (sym e)))))
    (λ e. omega (arith, either (eqb file.0 f) (eqb other.0 f) (inr (eq-eqb other.0 f (sym e)))))
    (files_new f takes some))
    it.gives
