-- A draft's blocks with their checksums, as single blocks are edited and sealed.
use Rattle.std.proofs.Common.{◌≡◌, ℕ, zero, suc, ◌+◌, ◌<◌, ◌≤◌, Bool, true, false, if◌then◌else◌, List, [], ◌∷◌, ◌++◌, length, get_or, set, nat_eq, refl, sym, ap, subst, ◌∙◌, arith}
use Rattle.std.proofs.Math.ListN.{get_or-eq_default}
use Rattle.std.proofs.lemmas.Bool.{cond_both}
use Rattle.std.proofs.lemmas.Bool.Decides.{nat_tests}
use Rattle.std.proofs.lemmas.List.{get_or_default, get_or-set_other, get_or-set_same, length-set, same_lists, set-get_or, take_at}
use Rattle.std.proofs.lemmas.List.Elements.{All-take}
use Rattle.std.proofs.lemmas.List.Folds.{list_any-append}
use Rattle.std.specs.List.{All}
use Rattle.xr_base.specs.declared.geometry.TheConstants.{BLOCK_BYTES}
use Rattle.xr_kinds.specs.Form.{Form}
use Rattle.xr_pool.specs.Overlay.{AreKnown, Blocks, IsBlock, block_at, is_changed, pool_size, with_block}
use Rattle.xr_change.proofs.ReadLemmas.{reads_same, reads_sealed}
use Rattle.xr_change.proofs.RowBlockLemmas.{same_or_other}
use Rattle.xr_change.proofs.WriteLemmas.{marks_stay}
use Rattle.xr_change.specs.Draft.{AreEdited, ReadsAs, all_sealed, is_edited, sealed_from}
use Rattle.xr_block.specs.Edits.{sealed}
use Rattle.xr_block.specs.SealLaws.{length-sealed, sealed_again, sealed_bytes}

abbrev pub seal_if : {X : Type 0} → Form X → Bool → List ℕ → List ℕ
seal_if form test bytes = if test then sealed form bytes else bytes

module _ {X : Type 0} (form : Form X) where
  length_from : (test : ℕ → Bool) (i : ℕ) (xs : List (List ℕ)) → length (sealed_from form test i xs) ≡ length xs
  unfolding sealed_from
  length_from test i [] = refl
  length_from test i (x ∷ xs) = ap suc (length_from test (suc i) xs)

  sealed_there : (test : ℕ → Bool) (i : ℕ) (xs : List (List ℕ)) (k : ℕ) (d : List ℕ) → k < length xs
      → get_or (sealed_from form test i xs) k d ≡ seal_if form (test (i + k)) (get_or xs k d)
  unfolding sealed_from
  sealed_there test i [] k d within = absurd (omega (arith, within))
  sealed_there test i (x ∷ xs) zero d within = ap (λ (n : ℕ). seal_if form (test n) x) (let e : i ≡ i + 0 = omega arith in e)
  sealed_there test i (x ∷ xs) (suc k) d within =
      sealed_there test (suc i) xs k d (omega (arith, within))
      ∙ ap (λ (n : ℕ). seal_if form (test n) (get_or xs k d)) (let e : suc i + k ≡ i + suc k = omega arith in e)

  -- the blocks, one by one
  pub sealed_at : (test : ℕ → Bool) (xs : List (List ℕ)) (k : ℕ) (d : List ℕ) → k < length xs
      → get_or (sealed_from form test 0 xs) k d ≡ seal_if form (test k) (get_or xs k d)
  sealed_at test xs k d within = sealed_there test 0 xs k d within ∙ ap (λ (n : ℕ). seal_if form (test n) (get_or xs k d)) (let e : 0 + k ≡ k = omega arith in e)

  module _ (test : ℕ → Bool) (xs ys : List (List ℕ)) (same : length ys ≡ length xs)
      (each : (k : ℕ) (d : List ℕ) → k < length xs → seal_if form (test k) (get_or xs k d) ≡ get_or ys k d) where
    pub sealed_is : sealed_from form test 0 xs ≡ ys
    sealed_is = same_lists _ ys (length_from test 0 xs ∙ sym same) (λ k d within.
        let inside : k < length xs = omega (arith, within, length_from test 0 xs) in
        sealed_at test xs k d inside ∙ each k d inside)

  sealed_stays : (test : Bool) (w : List ℕ) → sealed form w ≡ w → seal_if form test w ≡ w
  sealed_stays test w again = grind (arith, again)

  -- a draft of which nothing was edited
  pub none_edited : (b : Blocks) → all_sealed form [] b ≡ b
  none_edited b = ap (λ (blocks : List (List ℕ)). record b { current = blocks }) (sealed_is (is_edited []) b.current b.current refl (λ k d within. refl))

  module _ (test next : ℕ → Bool) (n : ℕ) (w : List ℕ) (xs : List (List ℕ)) (within : n < length xs) (others : (m : ℕ) → (m ≡ n → ⊥) → next m ≡ test m) where
    -- a block is written
    sealed_with : sealed_from form next 0 (set xs n w) ≡ set (sealed_from form test 0 xs) n (seal_if form (next n) w)
    sealed_with =
        let ys : List (List ℕ) = sealed_from form test 0 xs in
        let v : List ℕ = seal_if form (next n) w in
        let long : length ys ≡ length xs = length_from test 0 xs in
        let size = length-set xs n w in
        sealed_is next (set xs n w) (set ys n v) (length-set ys n v ∙ long ∙ sym size) (λ k d inside.
        grind (arith, others k, sealed_at test xs k, get_or-set_same xs n w d, get_or-set_other xs n k w d, get_or-set_same ys n v d, get_or-set_other ys n k v d))

    -- it is edited
    pub sealed_set : next n ≡ true → sealed_from form next 0 (set xs n w) ≡ set (sealed_from form test 0 xs) n (sealed form w)
    sealed_set here = sealed_with ∙ ap (λ (b : Bool). set (sealed_from form test 0 xs) n (seal_if form b w)) here

    -- or it was edited, and is sealed
    pub sealed_once : (d : List ℕ) → length (get_or xs n d) ≡ BLOCK_BYTES → w ≡ sealed form (get_or xs n d) → test n ≡ true
        → sealed_from form next 0 (set xs n w) ≡ sealed_from form test 0 xs
    sealed_once d long is here =
        let again : sealed form w ≡ w = ap (sealed form) is ∙ sealed_again form (get_or xs n d) long ∙ sym is in
        let had : seal_if form (next n) w ≡ get_or (sealed_from form test 0 xs) n d =
        sealed_stays (next n) w again ∙ is ∙ sym (sealed_at test xs n d within ∙ ap (λ (b : Bool). seal_if form b (get_or xs n d)) here) in
        sealed_with ∙ ap (set (sealed_from form test 0 xs) n) had ∙ set-get_or (sealed_from form test 0 xs) n d

-- which are edited
pub edited_more : (es : List ℕ) (n : ℕ) → is_edited (es ++ n ∷ []) n ≡ true
edited_more es n = list_any-append (λ (m : ℕ). nat_eq m n) es (n ∷ []) ∙ grind (arith, nat_tests)

pub edited_others : (es : List ℕ) (n m : ℕ) → (m ≡ n → ⊥) → is_edited (es ++ n ∷ []) m ≡ is_edited es m
edited_others es n m apart = list_any-append (λ (k : ℕ). nat_eq k m) es (n ∷ []) ∙ grind (arith, nat_tests, apart)

-- what holds of each that was edited
pub edited_has : (P : ℕ → Type 0) (es : List ℕ) → All P es → (n : ℕ) → is_edited es n ≡ true → P n
edited_has P [] all n is = absurd cc
edited_has P (e ∷ es) all n is = same_or_other e n
    (λ same. subst P same (all 0 e (omega arith)))
    (λ apart. edited_has P es (λ k d within. all (suc k) d (omega (arith, within))) n (let rest : is_edited es n ≡ true = grind (arith, nat_tests, is, apart) in rest))

module _ {X : Type 0} (form : Form X) (b : Blocks) (es : List ℕ) where
  pub sealed_size : pool_size (all_sealed form es b) ≡ pool_size b
  sealed_size = length_from form (is_edited es) 0 b.current

  pub within_draft : (view : Blocks) (n : ℕ) → all_sealed form es b ≡ view → n < pool_size view → n < pool_size b
  within_draft view n is within = let size = ap pool_size is in omega (arith, sealed_size, size, within)

  -- a block as it stands, and with its checksum
  block_sealed : (n : ℕ) → n < pool_size b → block_at (all_sealed form es b) n ≡ seal_if form (is_edited es n) (block_at b n)
  block_sealed n within = sealed_at form (is_edited es) b.current n [] within

  pub block_reads : (n : ℕ) → n < pool_size b → length (block_at b n) ≡ BLOCK_BYTES → ReadsAs form (block_at b n) (block_at (all_sealed form es b) n)
  block_reads n within long =
      subst (ReadsAs form (block_at b n)) (sym (block_sealed n within))
      (cond_both (is_edited es n) (sealed form (block_at b n)) (block_at b n) (ReadsAs form (block_at b n)) (λ is. reads_sealed form (block_at b n) long)
      (λ is. reads_same form (block_at b n)))

  module _ (known : AreKnown b) (edited : AreEdited b es) where
    -- what is known of any overlay
    block_there : (n : ℕ) → n < pool_size (all_sealed form es b) → IsBlock (block_at (all_sealed form es b) n)
    block_there n within =
        let inside : n < pool_size b = omega (arith, within, sealed_size) in
        let is = known.whole n inside in
        subst IsBlock (sym (block_sealed n inside)) (cond_both (is_edited es n) (sealed form (block_at b n)) (block_at b n) IsBlock
        (λ was. record { long = length-sealed form (block_at b n) is.long; are_bytes = sealed_bytes form (block_at b n) is.long is.are_bytes }) (λ not. is))

    unmarked_same : (n : ℕ) → get_or b.changed n true ≡ false → get_or b.kept n [] ≡ get_or (sealed_from form (is_edited es) 0 b.current) n []
    unmarked_same n unmarked =
        let past : length b.changed ≤ n → get_or b.changed n true ≡ true = get_or-eq_default b.changed true in
        let was = edited_has (λ (m : ℕ). is_changed b m ≡ true) es edited.changed n in
        grind (arith, past, was, known.all.marks, known.all.others n unmarked, block_sealed n, get_or_default b.changed n true false)

    pub known_sealed : AreKnown (all_sealed form es b)
    known_sealed = record {
      all = record {
        same_blocks = known.all.same_blocks ∙ sym sealed_size;
        marks = known.all.marks ∙ sym sealed_size;
        same_maps = known.all.same_maps;
        map_room = omega (arith, sealed_size, known.all.map_room);
        within_image = omega (arith, sealed_size, known.all.within_image);
        others = unmarked_same;
      };
      whole = block_there;
      identified = known.identified;
      small = omega (arith, sealed_size, known.small);
    }

all_in_front : (P : ℕ → Type 0) (es : List ℕ) (n : ℕ) → All P (es ++ n ∷ []) → All P es
all_in_front P es n all = subst (All P) (take_at es (n ∷ []) (length es) refl) (All-take P (length es) (es ++ n ∷ []) all)

module _ {X : Type 0} (form : Form X) (b : Blocks) (es : List ℕ) (n : ℕ) (w : List ℕ) (within : n < pool_size b) where
  -- a block is edited, which is among those that are edited then
  pub lent : (fs : List ℕ) → ((m : ℕ) → (m ≡ n → ⊥) → is_edited fs m ≡ is_edited es m) → is_edited fs n ≡ true
      → all_sealed form fs (with_block b n w) ≡ with_block (all_sealed form es b) n (sealed form w)
  lent fs others here = ap (λ (blocks : List (List ℕ)). record b { current = blocks; changed = set b.changed n true })
      (sealed_set form (is_edited es) (is_edited fs) n w b.current within others here)

  -- one that was edited is sealed
  pub one_less : AreEdited b (es ++ n ∷ []) → AreEdited (with_block b n w) es
  one_less edited = record {
    within = λ k d inside.
        let below = all_in_front (λ (m : ℕ). m < pool_size b) es n edited.within k d inside in omega (arith, below, length-set b.current n w);
    changed = λ k d inside. marks_stay b.changed n _ (all_in_front (λ (m : ℕ). is_changed b m ≡ true) es n edited.changed k d inside);
  }

  pub sealed_less : AreEdited b (es ++ n ∷ []) → length (block_at b n) ≡ BLOCK_BYTES → w ≡ sealed form (block_at b n)
      → all_sealed form es (with_block b n w) ≡ all_sealed form (es ++ n ∷ []) b
  sealed_less edited long is =
      let marked : is_changed b n ≡ true = edited_has (λ (m : ℕ). is_changed b m ≡ true) (es ++ n ∷ []) edited.changed n (edited_more es n) in
      let same : set b.changed n true ≡ b.changed = ap (set b.changed n) (sym marked) ∙ set-get_or b.changed n false in
      ap (λ (blocks : List (List ℕ)). record b { current = blocks; changed = set b.changed n true })
      (sealed_once form (is_edited (es ++ n ∷ [])) (is_edited es) n w b.current within (λ m apart. sym (edited_others es n m apart)) [] long is (edited_more es n))
      ∙ ap (λ (marks : List Bool). record b { current = sealed_from form (is_edited (es ++ n ∷ [])) 0 b.current; changed = marks }) same
