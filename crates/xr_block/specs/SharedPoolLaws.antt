-- Why a change of one of several trees in a pool leaves the others, and why writing block 0 leaves them all.
use Rattle.std.proofs.Common.{◌≡◌, ◌≢◌, ◌⊎◌, ℕ, ◌<◌, ◌≤◌, if◌then◌else◌, Bool, true, false, List, [], ◌∷◌, refl, sym, ◌∙◌, inl, inr, ⊎_elim, arith}
use Rattle.std.proofs.lemmas.Bool.{cases_Bool, cases_eq}
use Rattle.std.proofs.lemmas.List.{get_or-set_other, length-set}
use Rattle.std.proofs.lemmas.List.Elements.{All-contains, Contains-append_cases, Contains-append_left, Contains-append_right}
use Rattle.std.specs.List.{Contains}
use Rattle.xr_block.specs.Frame.{ChangesOnly}
use Rattle.xr_block.specs.FrameLaws.{member_cases, only_member, stays_tree}
use Rattle.xr_block.specs.SharedPool.{AreSameBut, WidenToOthers, ChangesBlockZero, HoldInAnyOrder, IsPartedPool, PartsAreBeside, StaysBesideBlockZero, StaysParted, StaysPartedBesideBlockZero, block_zero}
use Rattle.xr_block.specs.Tree.{IsUsed, tree_blocks}
use Rattle.xr_kinds.specs.Form.{Form}
use Rattle.xr_pool.specs.Overlay.{Blocks, is_changed, is_free, pool_size, with_block}
use Rattle.xr_pool.specs.OverlayLaws.{block_beside}

pub widens_to_others : WidenToOthers
widens_to_others before after old new others change beside = record {
  site = change.site;
  pool = change.pool;
  kept = change.kept;
  kept_free = change.kept_free;
  others = λ n used without.
      let kept = change.others n used (λ within. without (Contains-append_right others old n within)) in (
        kept.0,
        kept.1,
        λ found. ⊎_elim
            (λ (among : Contains others n). without (Contains-append_left others old n among))
            (λ (gained : Contains new n). kept.2 gained)
            (Contains-append_cases others new n found),
      );
  taken = λ n found. ⊎_elim
      (λ (among : Contains others n).
      let known = beside n among in
      let kept = change.others n known.0 known.1 in kept.1)
      (λ (within : Contains new n). change.taken n within)
      (Contains-append_cases others new n found);
  freed = λ n found without. ⊎_elim
      (λ (among : Contains others n). absurd (without (Contains-append_left others new n among)))
      (λ (within : Contains old n). change.freed n within (λ still. without (Contains-append_right others new n still)))
      (Contains-append_cases others old n found);
  spare = λ n free without. change.spare n free (λ within. without (Contains-append_right others new n within));
  marked = λ n is. ⊎_elim
      (λ (was : is_changed before n ≡ true). inl was)
      (λ (own : Contains old n ⊎ (is_free before n ≡ true)). inr (⊎_elim
      (λ (within : Contains old n). inl (Contains-append_right others old n within))
      (λ (free : is_free before n ≡ true). inr free)
      own))
      (change.marked n is);
}

pub holds_in_any_order : HoldInAnyOrder
holds_in_any_order before after old new old' new' change same now = record {
  site = change.site;
  pool = change.pool;
  kept = change.kept;
  kept_free = change.kept_free;
  others = λ n used without.
      let kept = change.others n used (λ within. without ((same n).0 within)) in (kept.0, kept.1, λ found. kept.2 ((now n).1 found));
  taken = λ n within. change.taken n ((now n).1 within);
  freed = λ n within without. change.freed n ((same n).1 within) (λ still. without ((now n).0 still));
  spare = λ n free without. change.spare n free (λ within. without ((now n).0 within));
  marked = λ n is. ⊎_elim
      (λ (was : is_changed before n ≡ true). inl was)
      (λ (own : Contains old n ⊎ (is_free before n ≡ true)). inr (⊎_elim
      (λ (within : Contains old n). inl ((same n).0 within))
      (λ (free : is_free before n ≡ true). inr free)
      own))
      (change.marked n is);
}

-- block 0 is written
module _ (b : Blocks) (bytes : List ℕ) where
  abbrev now : Blocks
  now = with_block b 0 bytes

  mark_beside : (n : ℕ) → n ≢ 0 → is_changed now n ≡ is_changed b n
  mark_beside n other = get_or-set_other b.changed 0 n true false other

  marked_beside : (own : List ℕ) → Contains own 0 ⊎ (is_free b 0 ≡ true) → (n : ℕ) → is_changed now n ≡ true
      → (is_changed b n ≡ true) ⊎ Contains own n ⊎ (is_free b n ≡ true)
  marked_beside own zero n is = ⊎_elim
      (λ (same : n ≡ 0). inr (rw same zero))
      (λ (other : n ≢ 0). inl (sym (mark_beside n other) ∙ is))
      (cases_eq n 0)

  zero_changes : (free : Bool) → is_free b 0 ≡ free
      → (let own : List ℕ = if free then [] else 0 ∷ [] in ChangesOnly b own now own)
  zero_changes true is = record {
    site = refl;
    pool = length-set b.current 0 bytes;
    kept = refl;
    kept_free = refl;
    others = λ n used without. (block_beside b 0 n bytes (λ same. let free = rw same at used in absurd cc), used, without);
    taken = λ n within. absurd (omega (arith, within.1));
    freed = λ n within without. absurd (without within);
    spare = λ n free without. free;
    marked = marked_beside [] (inr is);
  }
  zero_changes false is = record {
    site = refl;
    pool = length-set b.current 0 bytes;
    kept = refl;
    kept_free = refl;
    others = λ n used without. (block_beside b 0 n bytes (λ same. without (0, omega arith, sym same)), used, without);
    taken = λ n within. rw (← only_member 0 n within) is;
    freed = λ n within without. absurd (without within);
    spare = λ n free without. free;
    marked = marked_beside (0 ∷ []) (inl (0, omega arith, refl));
  }

  zero_alone : (free : Bool) (n : ℕ) → Contains (if free then [] else 0 ∷ []) n → n ≡ 0
  zero_alone true n within = absurd (omega (arith, within.1))
  zero_alone false n within = sym (only_member 0 n within)

pub changes_block_zero : ChangesBlockZero
changes_block_zero b bytes = zero_changes b bytes (is_free b 0) refl

pub stays_beside_zero : {X : Type 0} (form : Form X) → StaysBesideBlockZero form
stays_beside_zero form b bytes root level tree =
    stays_tree form b (with_block b 0 bytes) root level (block_zero b) (block_zero b) tree (changes_block_zero b bytes)
    (λ n mine inside.
    let used = All-contains (IsUsed (is_free b) (pool_size b)) (tree_blocks form b root level) n tree.owned mine in
    absurd (omega (arith, used.from, zero_alone b bytes (is_free b 0) n inside)))

pub parts_are_beside : PartsAreBeside
parts_are_beside b parts i k parted differ n within =
    let used = parted.used i n within in (used.taken, λ other. differ (parted.apart i k n within other))

module _ (a b : Blocks) (before after : ℕ → List ℕ) (k : ℕ) (parted : IsPartedPool a before) (change : ChangesOnly a (before k) b (after k))
    (same : AreSameBut k before after) (owned : (n : ℕ) → Contains (after k) n → IsUsed (is_free b) (pool_size b) n) where
  -- what another tree has, the changed one neither had nor has
  other : (i n : ℕ) → i ≢ k → Contains (after i) n → IsUsed (is_free b) (pool_size b) n × ¬ (Contains (after k) n)
  other i n differ held =
      let mine : Contains (before i) n = rw (same i differ) at held in
      let was = parted.used i n mine in
      let kept = change.others n was.taken (λ (inside : Contains (before k) n). differ (parted.apart i k n mine inside)) in
      (record { from = was.from; below = omega (arith, was.below, change.pool); taken = kept.1 }, kept.2)

  apart_after : (i j n : ℕ) → Contains (after i) n → Contains (after j) n → i ≡ j
  apart_after i j n one two = ⊎_elim
      (λ (i_is : i ≡ k). ⊎_elim
      (λ (j_is : j ≡ k). i_is ∙ sym j_is)
      (λ (j_not : j ≢ k). let no = other j n j_not two in absurd (no.1 (rw i_is at one)))
      (cases_eq j k))
      (λ (i_not : i ≢ k). let no = other i n i_not one in ⊎_elim
      (λ (j_is : j ≡ k). absurd (no.1 (rw j_is at two)))
      (λ (j_not : j ≢ k). parted.apart i j n (rw (same i i_not) at one) (rw (same j j_not) at two))
      (cases_eq j k))
      (cases_eq i k)

  used_after : (i n : ℕ) → Contains (after i) n → IsUsed (is_free b) (pool_size b) n
  used_after i n held = ⊎_elim
      (λ (is : i ≡ k). owned n (rw is at held))
      (λ (differ : i ≢ k). let known = other i n differ held in known.0)
      (cases_eq i k)

  every_after : (n : ℕ) → 1 ≤ n → n < pool_size b → is_free b n ≡ false → (i : ℕ) × Contains (after i) n
  every_after n from below taken = ⊎_elim
      (λ (mine : Contains (after k) n). (k, mine))
      (λ (out : ¬ (Contains (after k) n)). ⊎_elim
      (λ (free : is_free a n ≡ true). let lie = change.spare n free out in absurd cc)
      (λ (was : is_free a n ≡ false).
      let old = parted.every n from (omega (arith, below, change.pool)) was in
      ⊎_elim
      (λ (is : old.0 ≡ k). let lie = change.freed n (rw is at old.1) out in absurd cc)
      (λ (differ : old.0 ≢ k). (old.0, rw (same old.0 differ) old.1))
      (cases_eq old.0 k))
      (cases_Bool (is_free a n)))
      (member_cases (after k) n)

  parted_after : IsPartedPool b after
  parted_after = record { apart = apart_after; used = used_after; every = every_after }

pub stays_parted : StaysParted
stays_parted a b before after k parted change same owned = parted_after a b before after k parted change same owned

pub stays_parted_beside_zero : StaysPartedBesideBlockZero
stays_parted_beside_zero b bytes parts parted =
    let pool = length-set b.current 0 bytes in
    record {
      apart = parted.apart;
      used = λ i n within.
          let was = parted.used i n within in record { from = was.from; below = omega (arith, was.below, pool); taken = was.taken };
      every = λ n from below taken. parted.every n from (omega (arith, below, pool)) taken;
    }
