-- What stays of an overlay's blocks where some change.
use Rattle.std.proofs.Common.{◌≡◌, ◌≢◌, ℕ, zero, suc, ◌*◌, ◌/◌, ◌≤◌, Bool, true, false, List, [], ◌∷◌, length, get_or, set, refl, sym, ap, subst, ◌∙◌, arith, ⊎_elim, ◌+◌, ◌<◌, replicate}
use Rattle.std.proofs.lemmas.Bool.{cases_eq}
use Rattle.std.proofs.lemmas.List.Elements.{Contains-append_right}
use Rattle.std.proofs.lemmas.List.{get_or-set_other, get_or-set_same, get_or_past, length-append, length-replicate, length-set}
use Rattle.std.specs.List.{All, AllPairs, Contains}
use Rattle.xr_base.specs.Image.{part}
use Rattle.xr_base.specs.declared.geometry.TheConstants.{BLOCK_BYTES}
use Rattle.xr_pool.specs.Marks.{marked}
use Rattle.xr_pool.specs.Overlay.{AreBlocks, AreKnown, AreWhole, Blocks, ChangedAreMarked, IsFilePool, IsGroupPool, IsPool, block_at, blocks_in, changed_blocks, no_marks, opened, owner_of, pool_size, with_block}

pub length-blocks_in : (n : ℕ) (bytes : List ℕ) → length (blocks_in n bytes) ≡ n
unfolding blocks_in
length-blocks_in zero bytes = refl
length-blocks_in (suc n) bytes = simp length-append (omega (arith, length-blocks_in n bytes))

-- a place is marked, or there is none
mark_set : (marks : List Bool) (n : ℕ) → get_or (set marks n true) n true ≡ true
mark_set [] n = get_or_past [] n true (omega arith)
mark_set (mark ∷ marks) zero = refl
mark_set (mark ∷ marks) (suc n) = mark_set marks n

-- any bytes may be written to a block
pub blocks_lent : (b : Blocks) (n : ℕ) (bytes : List ℕ) → AreBlocks b → AreBlocks (with_block b n bytes)
blocks_lent b n bytes all = record {
  same_blocks = all.same_blocks ∙ sym (length-set b.current n bytes);
  marks = length-set b.changed n true ∙ all.marks ∙ sym (length-set b.current n bytes);
  same_maps = all.same_maps;
  map_room = omega (arith, all.map_room, length-set b.current n bytes);
  within_image = omega (arith, all.within_image, length-set b.current n bytes);
  others = λ k unmarked. ⊎_elim
      (λ (at : k ≡ n).
      let marked : get_or (set b.changed n true) k true ≡ true = ap (λ (i : ℕ). get_or (set b.changed n true) i true) at ∙ mark_set b.changed n in
      cc)
      (λ (other : k ≢ n).
      all.others k (sym (get_or-set_other b.changed n k true true other) ∙ unmarked) ∙ sym (get_or-set_other b.current n k bytes [] other))
      (cases_eq k n);
}

-- the blocks of a new overlay
pub blocks_opened : (first : ℕ) (bytes free : List ℕ) → IsPool first (length bytes) → length bytes ≤ BLOCK_BYTES * 8 * length free
    → AreBlocks (opened first bytes free)
blocks_opened first bytes free place room =
    let n : ℕ = length bytes / BLOCK_BYTES in
    let long : length (blocks_in n bytes) ≡ n = length-blocks_in n bytes in
    record {
      same_blocks = refl;
      marks = length-replicate (length (blocks_in n bytes)) false;
      same_maps = refl;
      map_room = omega arith;
      within_image = ⊎_elim (λ (file : IsFilePool first (length bytes)). omega arith) (λ (group : IsGroupPool first (length bytes)). omega arith) place;
      others = λ k unmarked. refl;
    }

-- what a new overlay is made of
pub opened_is : (first : ℕ) (bytes free : List ℕ) (kept current : List (List ℕ)) (changed : List Bool) (kept_free now_free : List ℕ) (owner : ℕ) (uuid : List ℕ)
    → kept ≡ blocks_in (length bytes / BLOCK_BYTES) bytes → current ≡ kept → changed ≡ no_marks kept → kept_free ≡ free → now_free ≡ free
    → owner ≡ owner_of first → uuid ≡ part 16 16 bytes
    → (let made : Blocks = record {
      kept = kept;
      current = current;
      changed = changed;
      kept_free = kept_free;
      free = now_free;
      first = first;
      owner = owner;
      uuid = uuid;
    } in made) ≡ opened first bytes free
opened_is first bytes free kept current changed kept_free now_free owner uuid kept_is current_is changed_is kept_free_is free_is owner_is uuid_is =
    rw (current_is, changed_is, kept_is, kept_free_is, free_is, owner_is, uuid_is) refl

-- the block that was written, and the others
pub block_written : (b : Blocks) (n : ℕ) (bytes : List ℕ) → n < pool_size b → block_at (with_block b n bytes) n ≡ bytes
block_written b n bytes within = get_or-set_same b.current n bytes [] within

pub block_beside : (b : Blocks) (n k : ℕ) (bytes : List ℕ) → k ≢ n → block_at (with_block b n bytes) k ≡ block_at b k
block_beside b n k bytes other = get_or-set_other b.current n k bytes [] other

-- a write changes at most one block more
marked_more : (k n : ℕ) (marks : List Bool) → length (marked k (set marks n true)) ≤ length (marked k marks) + 1
unfolding marked
marked_more k n [] = omega arith
marked_more k zero (true ∷ marks) = omega arith
marked_more k zero (false ∷ marks) = omega arith
marked_more k (suc n) (true ∷ marks) = let rest = marked_more (suc k) n marks in omega arith
marked_more k (suc n) (false ∷ marks) = marked_more (suc k) n marks

pub changed_more : (b : Blocks) (n : ℕ) (bytes : List ℕ) → length (changed_blocks (with_block b n bytes)) ≤ length (changed_blocks b) + 1
changed_more b n bytes = marked_more 0 n b.changed

-- none is changed where all is kept, and where all is dropped
none_marked : (k n : ℕ) → marked k (replicate n false) ≡ []
unfolding marked
none_marked k zero = refl
none_marked k (suc n) = none_marked (suc k) n

pub none_changed : (blocks : List (List ℕ)) → marked 0 (no_marks blocks) ≡ []
none_changed blocks = none_marked 0 (length blocks)

pub overlay_known : (b : Blocks) → AreBlocks b → AreWhole b.current → length b.uuid ≡ 16 → AreKnown b
overlay_known b all whole identified = record { all = all; whole = whole; identified = identified; small = omega (arith, all.within_image) }

-- the changed blocks are told in rising order, so each once
marked_above : (n : ℕ) (marks : List Bool) → All (λ (m : ℕ). n ≤ m) (marked n marks)
unfolding marked
marked_above n [] k d within = absurd (omega (arith, within))
marked_above n (true ∷ marks) zero d within = omega arith
marked_above n (true ∷ marks) (suc k) d within = omega (arith, marked_above (suc n) marks k d (omega (arith, within)))
marked_above n (false ∷ marks) k d within = omega (arith, marked_above (suc n) marks k d within)

marked_rise : (n : ℕ) (marks : List Bool) → AllPairs (λ (i j : ℕ). i < j) (marked n marks)
unfolding marked
marked_rise n [] i j d before within = absurd (omega (arith, within))
marked_rise n (true ∷ marks) zero zero d before within = absurd (omega arith)
marked_rise n (true ∷ marks) zero (suc j) d before within = omega (arith, marked_above (suc n) marks j d (omega (arith, within)))
marked_rise n (true ∷ marks) (suc i) zero d before within = absurd (omega arith)
marked_rise n (true ∷ marks) (suc i) (suc j) d before within = marked_rise (suc n) marks i j d (omega arith) (omega (arith, within))
marked_rise n (false ∷ marks) i j d before within = marked_rise (suc n) marks i j d before within

pub changed_rise : (b : Blocks) → AllPairs (λ (i j : ℕ). i < j) (changed_blocks b)
changed_rise b = marked_rise 0 b.changed

-- a block is one of the changed ones exactly where it is marked
marked_has : (n i : ℕ) (marks : List Bool) → get_or marks i false ≡ true → Contains (marked n marks) (n + i)
unfolding marked
marked_has n i [] is = absurd (let past = get_or_past [] i false (omega arith) in cc)
marked_has n zero (true ∷ marks) is = (0, omega arith, omega arith)
marked_has n zero (false ∷ marks) is = absurd cc
marked_has n (suc i) (true ∷ marks) is =
    let place : suc n + i ≡ n + suc i = omega arith in
    Contains-append_right (n ∷ []) (marked (suc n) marks) (n + suc i) (subst (Contains (marked (suc n) marks)) place (marked_has (suc n) i marks is))
marked_has n (suc i) (false ∷ marks) is =
    let place : suc n + i ≡ n + suc i = omega arith in subst (Contains (marked (suc n) marks)) place (marked_has (suc n) i marks is)

marked_only : (n m : ℕ) (marks : List Bool) → Contains (marked n marks) m → (i : ℕ) × (m ≡ n + i) × (get_or marks i false ≡ true)
unfolding marked
marked_only n m [] found = absurd (omega (arith, found.1))
marked_only n m (true ∷ marks) (zero, within, is) = (0, omega (arith, is), refl)
marked_only n m (true ∷ marks) (suc j, within, is) =
    let rest = marked_only (suc n) m marks (j, omega (arith, within), is) in (suc rest.0, omega (arith, rest.1), rest.2)
marked_only n m (false ∷ marks) found = let rest = marked_only (suc n) m marks found in (suc rest.0, omega (arith, rest.1), rest.2)

pub changed_are_marked : ChangedAreMarked
changed_are_marked b n = (
  λ found.
      let at = marked_only 0 n b.changed found in
      let place : at.0 ≡ n = omega (arith, at.1) in subst (λ (i : ℕ). get_or b.changed i false ≡ true) place at.2,
  λ is. let place : 0 + n ≡ n = omega arith in subst (Contains (changed_blocks b)) place (marked_has 0 n b.changed is),
)
