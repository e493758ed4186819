-- What a pool's marks tell of its blocks, what the first block is, and that a root is used.
use Rattle.std.proofs.Common.{◌≡◌, ℕ, zero, suc, ◌+◌, ◌%◌, ◌<◌, ◌≤◌, true, false, List, [], ◌∷◌, length, take, drop, get_or, refl, sym, ap, ◌∙◌, ⊎_elim, arith}
use Rattle.std.proofs.lemmas.Bool.{cases_Bool, cases_lt}
use Rattle.std.proofs.lemmas.Bool.Decides.{nat_tests}
use Rattle.std.proofs.lemmas.List.{drop-take, get_or_append_left, get_or_default, get_or_past, take-take}
use Rattle.std.specs.Prelude.{slice_index}
use Rattle.xr_base.specs.Image.{block_of}
use Rattle.xr_block.specs.Rows.{rows_from}
use Rattle.xr_block.specs.Tree.{IsTreeIn, IsUsed}
use Rattle.xr_kinds.specs.Form.{Form}
use Rattle.xr_open.specs.PoolState.{EvenMapsKeepBlockZero, FirstBlockIsFront, MarkedAreBelow, PartsOfFrontStay, RootsAreUsed, UnmarkedAreKept, pool_with}
use Rattle.xr_pool.specs.Bits.{has_bit}
use Rattle.xr_pool.specs.Overlay.{Blocks, blocks_in, is_free, pool_size}
use Rattle.xr_pool.specs.OverlayLaws.{changed_are_marked, length-blocks_in}

pub pool_same : (blocks blocks' : List (List ℕ)) (free free' : List ℕ) (first first' owner owner' : ℕ) (uuid uuid' : List ℕ)
    → blocks ≡ blocks' → free ≡ free' → first ≡ first' → owner ≡ owner' → uuid ≡ uuid'
    → pool_with blocks free first owner uuid ≡ pool_with blocks' free' first' owner' uuid'
pool_same blocks blocks' free free' first first' owner owner' uuid uuid' a b c d e = rw (a, b, c, d, e) refl

pub unmarked_are_kept : UnmarkedAreKept
unmarked_are_kept b all n out = ⊎_elim
    (λ (within : n < length b.changed). ⊎_elim
    (λ (marked : get_or b.changed n false ≡ true). absurd (out ((changed_are_marked b n).1 marked)))
    (λ (clear : get_or b.changed n false ≡ false). all.others n (get_or_default b.changed n true false within ∙ clear))
    (cases_Bool (get_or b.changed n false)))
    (λ (past : length b.changed ≤ n).
    get_or_past b.kept n [] (omega (arith, past, all.marks, all.same_blocks)) ∙ sym (get_or_past b.current n [] (omega (arith, past, all.marks))))
    (cases_lt n (length b.changed))

pub marked_are_below : MarkedAreBelow
marked_are_below b all n found = ⊎_elim
    (λ (within : n < length b.changed). omega (arith, within, all.marks))
    (λ (past : length b.changed ≤ n).
    let marked = (changed_are_marked b n).0 found in let none = get_or_past b.changed n false past in absurd cc)
    (cases_lt n (length b.changed))

pub first_block_is_front : FirstBlockIsFront
unfolding blocks_in
first_block_is_front zero bytes = refl
first_block_is_front (suc n) bytes =
    get_or_append_left (blocks_in (suc n) bytes) (block_of bytes (suc n) ∷ []) [] 0 (omega (arith, length-blocks_in (suc n) bytes))
    ∙ first_block_is_front n bytes

pub parts_of_front_stay : PartsOfFrontStay
parts_of_front_stay k at n bytes fits =
    sym (drop-take at n (take k bytes)) ∙ ap (drop at) (take-take (at + n) k bytes fits) ∙ drop-take at n bytes

own_clear : (free : List ℕ) → has_bit free 0 ≡ false → slice_index free 0 % 2 ≡ 0
own_clear free clear = grind (arith, nat_tests)

clear_own : (free : List ℕ) → slice_index free 0 % 2 ≡ 0 → has_bit free 0 ≡ false
clear_own free even = grind (arith, nat_tests)

pub even_maps_keep_block_zero : EvenMapsKeepBlockZero
even_maps_keep_block_zero free = (own_clear free, clear_own free)

root_used : {X : Type 0} (form : Form X) (b : Blocks) (root level : ℕ) → IsTreeIn form b root level → IsUsed (is_free b) (pool_size b) root
unfolding rows_from
root_used form b root zero tree = tree.owned 0 root (omega arith)
root_used form b root (suc level) tree = tree.owned 0 root (omega arith)

pub roots_are_used : {X : Type 0} (form : Form X) → RootsAreUsed form
roots_are_used form b t tree = root_used form b t.block t.level tree
