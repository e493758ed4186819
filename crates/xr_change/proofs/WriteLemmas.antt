-- Blocks that are written one after the other, how many are free then, and lists after edits.
use Rattle.std.proofs.Common.{◌≡◌, ℕ, zero, suc, ◌+◌, ◌<◌, ◌≤◌, List, [], ◌∷◌, ◌++◌, length, take, drop, get_or, set, refl, sym, ap, ◌∙◌, subst, arith, ⊎_elim, ◌*◌, ◌&&◌, Bool, true, false, if◌then◌else◌, ◌⊎◌, Option, Some, None}
use Rattle.std.proofs.Math.ListN.{get_or-eq_default}
use Rattle.std.proofs.Math.Seq.{drop-cons, split_at}
use Rattle.std.proofs.lemmas.Bool.Decides.{nat_tests}
use Rattle.std.proofs.lemmas.Bool.{and_parts, ltb-true}
use Rattle.std.proofs.lemmas.List.{get_or-set_other, get_or-set_same, length-set}
use Rattle.std.specs.Option.{option_to_list}
use Rattle.std.specs.Prelude.{nat_lt}
use Rattle.xr_block.specs.TimesLaws.{times_other, times_same, times-append}
use Rattle.xr_pool.specs.BitLaws.{bit_cleared, bit_cleared_other}
use Rattle.xr_pool.specs.Bits.{has_bit}
use Rattle.xr_pool.specs.Marks.{marked}
use Rattle.xr_pool.specs.Overlay.{AreBlocks, Blocks, block_at, free_below, free_count, is_changed, is_free, pool_size, with_taken, with_block}
use Rattle.xr_pool.specs.OverlayLaws.{block_beside}
use Rattle.xr_block.specs.Times.{times}
use Rattle.xr_change.proofs.RowBlockLemmas.{not_alone, pool_then, same_or_other, untouched_then}
use Rattle.xr_change.specs.Writes.{Writes, WritesOnly, unchanged, unmarked}

pub set_around : {X : Type 0} (xs : List X) (k : ℕ) (x : X) → k < length xs → set xs k x ≡ take k xs ++ x ∷ drop (suc k) xs
set_around [] k x within = absurd (omega (arith, within))
set_around (y ∷ ys) zero x within = refl
set_around (y ∷ ys) (suc k) x within = ap (λ (rest : List _). y ∷ rest) (set_around ys k x (omega (arith, within)))

-- an edit of what stands after an item that is set
pub set_then : {X : Type 0} (at : List X → ℕ → List X) → ((z : X) (zs : List X) (i : ℕ) → at (z ∷ zs) (suc i) ≡ z ∷ at zs i)
    → (xs : List X) (k : ℕ) (x : X) → k < length xs → at (set xs k x) (suc k) ≡ take k xs ++ x ∷ at (drop (suc k) xs) 0
set_then at step [] k x within = absurd (omega (arith, within))
set_then at step (y ∷ ys) zero x within = step x ys 0
set_then at step (y ∷ ys) (suc k) x within = step y (set ys k x) (suc k) ∙ ap (λ (rest : List _). y ∷ rest) (set_then at step ys k x (omega (arith, within)))

-- blocks among one, and among two
pub times_is : (b c : ℕ) (xs : List ℕ) → c ≡ b → times b (c ∷ xs) ≡ 1 + times b xs
times_is b c xs same = rw same (times_same b xs)

pub for_one : (P : ℕ → Type 0) (c : ℕ) → P c → (b : ℕ) → 1 ≤ times b (c ∷ []) → P b
for_one P c here b some = let same : c ≡ b = grind (arith, nat_tests, some) in subst P same here

pub for_two : (P : ℕ → Type 0) (c d : ℕ) → P c → P d → (b : ℕ) → 1 ≤ times b (c ∷ d ∷ []) → P b
for_two P c d here next b some = same_or_other c b
    (λ same. subst P same here)
    (λ other. for_one P d next b (omega (arith, some, times_other b c (d ∷ []) other)))

pub two_once : (c d : ℕ) → (c ≡ d → ⊥) → (b : ℕ) → times b (c ∷ d ∷ []) ≤ 1
two_once c d apart b = grind (arith, nat_tests)

-- the k-th of some, and the next two
pub one_around : (cs : List ℕ) (k c : ℕ) → k < length cs → get_or cs k 0 ≡ c → cs ≡ take k cs ++ ((c ∷ []) ++ drop (suc k) cs)
one_around cs k c within is = split_at cs k 0 within ∙ ap (λ (m : ℕ). take k cs ++ m ∷ drop (suc k) cs) is

pub two_around : (cs : List ℕ) (k c d : ℕ) → k + 1 < length cs → get_or cs k 0 ≡ c → get_or cs (k + 1) 0 ≡ d
    → cs ≡ take k cs ++ ((c ∷ d ∷ []) ++ drop (k + 2) cs)
two_around cs k c d within is next =
    let place : k + 2 ≡ suc (k + 1) = omega arith in
    let first : suc k ≡ k + 1 = omega arith in
    one_around cs k c (omega (arith, within)) is
    ∙ rw (first, place) (ap (λ (rest : List ℕ). take k cs ++ c ∷ rest) (drop-cons cs (k + 1) 0 within ∙ ap (λ (m : ℕ). m ∷ drop (suc (k + 1)) cs) next))

chosen : (test : Bool) (rest : ℕ) → 1 ≤ (if test then 1 else 0) + rest → (test ≡ true) ⊎ (1 ≤ rest)
chosen test rest some = grind (arith, some)

pub some_free : (b : Blocks) (n : ℕ) → 1 ≤ free_below b n → (k : ℕ) × (1 ≤ k) × (k < n) × (is_free b k ≡ true)
unfolding free_below
some_free b zero some = absurd (omega (arith, some))
some_free b (suc n) some = ⊎_elim
    (λ (here : (nat_lt 0 n && is_free b n) ≡ true).
    let parts = and_parts (nat_lt 0 n) (is_free b n) here in (n, omega (arith, ltb-true 0 n parts.0), omega arith, parts.1))
    (λ (rest : 1 ≤ free_below b n).
    let found = some_free b n rest in (found.0, found.1, omega (arith, found.2), found.3))
    (chosen (nat_lt 0 n && is_free b n) (free_below b n) some)

-- where all that was free is free still, as many blocks are free at least
freed_more : (first before after : Bool) → (before ≡ true → after ≡ true) → (if first && before then 1 else 0) ≤ (if first && after then 1 else 0)
freed_more first before after stays = grind (arith, stays)

pub more_free : (a b : Blocks) (n : ℕ) → ((m : ℕ) → is_free a m ≡ true → is_free b m ≡ true) → free_below a n ≤ free_below b n
unfolding free_below
more_free a b zero stays = omega arith
more_free a b (suc n) stays = omega (arith, more_free a b n stays, freed_more (nat_lt 0 n) (is_free a n) (is_free b n) (stays n))

pub same_count : (a b : Blocks) → b.free ≡ a.free → pool_size b ≡ pool_size a → free_count b ≡ free_count a
same_count a b free pool =
    let same = λ (k : ℕ). ap (λ (bits : List ℕ). has_bit bits k) free in
    ap (free_below b) pool ∙ omega (arith, more_free a b (pool_size a) (λ m is. same m ∙ is), more_free b a (pool_size a) (λ m is. sym (same m) ∙ is))

-- one block fewer is free
less_below : (a b : Blocks) (m n : ℕ) → 1 ≤ m → is_free a m ≡ true → is_free b m ≡ false → ((k : ℕ) → (k ≡ m → ⊥) → is_free b k ≡ is_free a k)
    → free_below a n ≡ free_below b n + (if nat_lt m n then 1 else 0)
unfolding free_below
less_below a b m zero from was now same = grind (arith, nat_tests)
less_below a b m (suc n) from was now same = grind (arith, nat_tests, less_below a b m n from was now same, from, was, now, same n)

pub taken_count : (a z : Blocks) (m : ℕ) → AreBlocks a → 1 ≤ m → m < pool_size a → is_free a m ≡ true → pool_size z ≡ pool_size a
    → z.free ≡ (with_taken a m).free → free_count a ≡ free_count z + 1
taken_count a z m all from below was pool free =
    let room : m < 8 * length a.free = omega (arith, below, all.map_room) in
    let now = λ (k : ℕ). ap (λ (bits : _). has_bit bits k) free in
    let less = less_below a z m (pool_size a) from was (now m ∙ bit_cleared a.free m room) (λ k other. now k ∙ bit_cleared_other a.free m k room other) in
    grind (arith, nat_tests, less, below, ap (free_below z) pool)

-- one mark more
marked_by : (k n : ℕ) (marks : List Bool)
    → length (marked k (set marks n true)) ≤ length (marked k marks) + (if get_or marks n false then 0 else 1)
unfolding marked
marked_by k n [] = omega arith
marked_by k zero (true ∷ marks) = omega arith
marked_by k zero (false ∷ marks) = omega arith
marked_by k (suc n) (true ∷ marks) = let rest = marked_by (suc k) n marks in omega arith
marked_by k (suc n) (false ∷ marks) = marked_by (suc k) n marks

pub marks_stay : (marks : List Bool) (n m : ℕ) → get_or marks m false ≡ true → get_or (set marks n true) m false ≡ true
marks_stay marks n m is =
    let past : length marks ≤ m → get_or marks m false ≡ false = get_or-eq_default marks false in
    grind (arith, is, past, get_or-set_other marks n m true false, get_or-set_same marks n true false)

pub block_writes : (a : Blocks) (n : ℕ) (bytes : List ℕ) → AreBlocks a → n < pool_size a → Writes a (with_block a n bytes) (n ∷ [])
block_writes a n bytes all within = record {
  same = record { site = refl; pool = length-set a.current n bytes; kept = refl; kept_free = refl };
  others = λ m none.
      let other = not_alone m n none in
      record { bytes = block_beside a n m bytes other; mark = get_or-set_other a.changed n m true false other };
  free = refl;
  changed = for_one (λ (i : ℕ). get_or (set a.changed n true) i false ≡ true) n (get_or-set_same a.changed n true false (omega (arith, within, all.marks)));
  marks = record { stay = λ m is. marks_stay a.changed n m is; few = omega (arith, marked_by 0 n a.changed) };
}

-- a block is written where there is one
pub writes_if : (a b : Blocks) (next : Option ℕ) (n : ℕ) → next ≡ Some n → Writes a b (n ∷ []) → Writes a b (option_to_list next)
writes_if a b next n is writes = subst (λ (o : Option ℕ). Writes a b (option_to_list o)) (sym is) writes

-- how many aren't marked
pub unchanged_less : (x y : Bool) → (x ≡ true → y ≡ true) → (if y then 0 else 1) ≤ (if x then 0 else 1)
unchanged_less x y stay = grind (arith, stay)

unmarked_less : (a b : Blocks) → ((m : ℕ) → is_changed a m ≡ true → is_changed b m ≡ true) → (ns : List ℕ) → unmarked b ns ≤ unmarked a ns
unmarked_less a b stay [] = omega arith
unmarked_less a b stay (n ∷ ns) = omega (arith, unchanged_less (is_changed a n) (is_changed b n) (stay n), unmarked_less a b stay ns)

unmarked_append : (a : Blocks) (ms ns : List ℕ) → unmarked a (ms ++ ns) ≡ unmarked a ms + unmarked a ns
unmarked_append a [] ns = omega arith
unmarked_append a (m ∷ ms) ns = omega (arith, unmarked_append a ms ns)

pub unmarked_few : (a : Blocks) (ns : List ℕ) → unmarked a ns ≤ length ns
unmarked_few a [] = omega arith
unmarked_few a (n ∷ ns) = omega (arith, unchanged_less false (is_changed a n) (λ lie. absurd cc), unmarked_few a ns)

module _ (a b c : Blocks) (ms : List ℕ) (one : Writes a b ms) where
  pub writes_then : (ns : List ℕ) → Writes b c ns → Writes a c (ms ++ ns)
  writes_then ns two = record {
    same = pool_then a b c one.same two.same;
    others = λ m none.
        untouched_then a b c m (one.others m (omega (arith, none, times-append m ms ns))) (two.others m (omega (arith, none, times-append m ms ns)));
    free = two.free ∙ one.free;
    changed = λ m some. grind (arith, some, times-append m ms ns, two.changed m, one.changed m, two.marks.stay m);
    marks = record {
      stay = λ m is. two.marks.stay m (one.marks.stay m is);
      few = omega (arith, one.marks.few, two.marks.few, unmarked_less a b one.marks.stay ns, unmarked_append a ms ns);
    };
  }

  -- one of them is written again
  pub writes_again : (n : ℕ) → Writes b c (n ∷ []) → 1 ≤ times n ms → Writes a c ms
  writes_again n two some =
      let known : unchanged b n ≡ 0 = ap (λ (test : Bool). if test then 0 else 1) (one.changed n some) in
      record {
        same = pool_then a b c one.same two.same;
        others = λ m none. untouched_then a b c m (one.others m none) (two.others m (grind (arith, nat_tests, none, some)));
        free = two.free ∙ one.free;
        changed = λ m here. two.marks.stay m (one.changed m here);
        marks = record { stay = λ m is. two.marks.stay m (one.marks.stay m is); few = omega (arith, one.marks.few, two.marks.few, known) };
      }

pub next_few : (next : Option ℕ) → length (option_to_list next) ≤ 1
next_few None = omega arith
next_few (Some q) = omega arith

-- one block alone
pub one_beside : (a b : Blocks) (n : ℕ) → Writes a b (n ∷ []) → (m : ℕ) → (m ≡ n → ⊥) → block_at b m ≡ block_at a m
one_beside a b n writes m other = (writes.others m (times_other m n [] (λ same. other (sym same)))).bytes

pub written_only : (a b : Blocks) (n : ℕ) → Writes a b (n ∷ []) → WritesOnly a b n
written_only a b n writes = record {
  same = writes.same;
  others = λ m other. writes.others m (times_other m n [] (λ same. other (sym same)));
  free = λ m. ap (λ (bits : List ℕ). has_bit bits m) writes.free;
}
