-- A part of a group's pool is changed: the others stay, and the pool stays parted.
use Rattle.std.proofs.Common.{◌≡◌, ◌≢◌, ℕ, zero, suc, true, false, List, length, refl, sym, ap, subst, ◌∙◌, ⊎_elim, arith}
use Rattle.std.proofs.lemmas.Bool.{cases_eq}
use Rattle.std.proofs.lemmas.List.Elements.{All-contains, Contains-append_cases}
use Rattle.std.specs.List.{Contains}
use Rattle.xr_block.specs.Frame.{ChangesOnly}
use Rattle.xr_block.specs.FrameLaws.{stays_tree}
use Rattle.xr_block.specs.SharedPoolLaws.{stays_parted}
use Rattle.xr_block.specs.Tree.{IsUsed}
use Rattle.xr_block.specs.TreeBlock.{Site}
use Rattle.xr_block.specs.Trees.{blocks_of_tree}
use Rattle.xr_group.specs.Group.{first_of_group}
use Rattle.xr_group.specs.Parts.{ChangesPart, HasGroup, HasOldHead, HaveSameRoots, IsPart, head_of}
use Rattle.xr_group.specs.Trees.{AreSameElsewhere, AreSameIn, HasGroupTrees, parts_of, records_of_trees}
use Rattle.xr_group.specs.declared.trees.Trees.{Trees}
use Rattle.xr_headers.specs.declared.layout.TheConstants.{FREE_MAP_BYTES}
use Rattle.xr_kinds.specs.Reference.{reference_form}
use Rattle.xr_kinds.specs.Reverse.{reverse_form}
use Rattle.xr_open.specs.PoolStateLaws.{even_maps_keep_block_zero}
use Rattle.xr_pool.specs.Overlay.{AreBlocks, Blocks, block_at, is_changed, is_free, pool_size}
use Rattle.xr_refcount.specs.Refcount.{IsRefcount, reference_blocks, reference_records}
use Rattle.xr_refcount.specs.declared.refcount.Refcount.{Refcount}
use Rattle.xr_rmap.specs.Rmap.{IsRmap, owner_records}
use Rattle.xr_rmap.specs.declared.rmap.Rmap.{Rmap}
use Rattle.xr_space.specs.Space.{IsSpace, block_blocks, block_records, size_blocks, size_records, space_blocks}
use Rattle.xr_space.specs.SpaceLaws.{space_stays}
use Rattle.xr_space.specs.declared.space.Space.{Space}

-- one part is as it was
abbrev pub PartStays : Blocks → Trees → Blocks → Trees → ℕ → Type 0
PartStays a s b t i = IsPart b t i × AreSameIn i (records_of_trees a s) (records_of_trees b t) × (parts_of b t i ≡ parts_of a s i)

pub stays_part : (a b : Blocks) (s t : Trees) (old new : List ℕ) (i : ℕ) → IsPart a s i → ChangesOnly a old b new
    → ((n : ℕ) → Contains (parts_of a s i) n → ¬ (Contains old n)) → HaveSameRoots i s t → PartStays a s b t i
stays_part a b s t old new zero part change away same =
    let stays = space_stays a b s.space old new part change away in
    let blocks : space_blocks b s.space ≡ space_blocks a s.space = rw (stays.same_block_blocks, stays.same_size_blocks) refl in
    let P : Space → Type 0 =
    λ x. IsSpace b x × ((block_records b x ≡ block_records a s.space) × (size_records b x ≡ size_records a s.space)) × (space_blocks b x ≡ space_blocks a s.space) in
    subst P (sym same) (stays.space, (stays.same_runs, stays.same_sizes), blocks)
stays_part a b s t old new (suc zero) part change away same =
    let stays = stays_tree reverse_form a b s.rmap.tree.block s.rmap.tree.level old new part change away in
    let P : Rmap → Type 0 =
    λ x. IsRmap b x × (owner_records b x ≡ owner_records a s.rmap) × (blocks_of_tree reverse_form b x.tree ≡ blocks_of_tree reverse_form a s.rmap.tree) in
    subst P (sym same) (stays.tree, stays.same_records, stays.same_blocks)
stays_part a b s t old new (suc (suc zero)) part change away same =
    let stays = stays_tree reference_form a b s.counts.tree.block s.counts.tree.level old new part change away in
    let P : Refcount → Type 0 =
    λ x. IsRefcount b x × (reference_records b x ≡ reference_records a s.counts) × (reference_blocks b x ≡ reference_blocks a s.counts) in
    subst P (sym same) (stays.tree, stays.same_records, stays.same_blocks)
stays_part a b s t old new (suc (suc (suc i))) part change away same = (tt, tt, refl)

pub part_in : (b : Blocks) (t : Trees) → HasGroupTrees b t → (i : ℕ) → IsPart b t i
part_in b t all zero = all.space
part_in b t all (suc zero) = all.rmap
part_in b t all (suc (suc zero)) = all.counts
part_in b t all (suc (suc (suc i))) = tt

pub owned_part : (b : Blocks) (t : Trees) (i n : ℕ) → IsPart b t i → Contains (parts_of b t i) n → IsUsed (is_free b) (pool_size b) n
owned_part b t zero n part within = ⊎_elim
    (λ (one : Contains (block_blocks b t.space) n). All-contains (IsUsed (is_free b) (pool_size b)) (block_blocks b t.space) n part.blocks.owned one)
    (λ (other : Contains (size_blocks b t.space) n). All-contains (IsUsed (is_free b) (pool_size b)) (size_blocks b t.space) n part.sizes.owned other)
    (Contains-append_cases (block_blocks b t.space) (size_blocks b t.space) n within)
owned_part b t (suc zero) n part within =
    All-contains (IsUsed (is_free b) (pool_size b)) (blocks_of_tree reverse_form b t.rmap.tree) n part.owned within
owned_part b t (suc (suc zero)) n part within = All-contains (IsUsed (is_free b) (pool_size b)) (reference_blocks b t.counts) n part.owned within
owned_part b t (suc (suc (suc i))) n part within = absurd (omega (arith, within.1))

module _ (k writes : ℕ) (a : Blocks) (s : Trees) (b : Blocks) (t : Trees) (h : HasGroup a s) (change : ChangesPart k writes a s b t) where
  stays : (i : ℕ) → i ≢ k → PartStays a s b t i
  stays i differ =
      stays_part a b s t (parts_of a s k) (parts_of b t k) i (part_in a s h.trees i) change.frame
      (λ n mine inside. differ (h.trees.parted.apart i k n mine inside)) (change.others i differ)

  part_after : (i : ℕ) → IsPart b t i
  part_after i = ⊎_elim
      (λ (same : i ≡ k). subst (IsPart b t) (sym same) change.part)
      (λ (differ : i ≢ k). let stay = stays i differ in stay.0)
      (cases_eq i k)

  pub trees_after : HasGroupTrees b t
  trees_after = record {
    space = part_after 0;
    rmap = part_after 1;
    counts = part_after 2;
    parted = stays_parted a b (parts_of a s) (parts_of b t) k h.trees.parted change.frame (λ i differ. let stay = stays i differ in stay.2)
        (λ n. owned_part b t k n change.part);
    pool = change.frame.pool ∙ h.trees.pool;
  }

  pub same_elsewhere : AreSameElsewhere k (records_of_trees a s) (records_of_trees b t)
  same_elsewhere i differ = let stay = stays i differ in stay.1

  pub same_first : b.first ≡ a.first
  same_first = ap (λ (site : Site). site.first) change.frame.site

  pub same_owner : b.owner ≡ a.owner
  same_owner = ap (λ (site : Site). site.owner) change.frame.site

  pub same_uuid : b.uuid ≡ a.uuid
  same_uuid = ap (λ (site : Site). site.uuid) change.frame.site

  kept_map : length b.kept_free ≡ FREE_MAP_BYTES
  kept_map = ap length change.frame.kept_free ∙ h.place.kept_map

  zero_out : ¬ (Contains (parts_of a s k) 0)
  zero_out within = let used = h.trees.parted.used k 0 within in absurd (omega (arith, used.from))

  zero_taken : is_free a 0 ≡ false
  zero_taken = (even_maps_keep_block_zero a.free).1 h.valid.pool.own_block

  pub zero_stays : (block_at b 0 ≡ block_at a 0) × (is_free b 0 ≡ false) × ¬ (Contains (parts_of b t k) 0)
  zero_stays = change.frame.others 0 zero_taken zero_out

  -- and isn't marked for it
  pub zero_unmarked : is_changed b 0 ≡ true → is_changed a 0 ≡ true
  zero_unmarked marks = ⊎_elim
      (λ (was : is_changed a 0 ≡ true). was)
      (⊎_elim
      (λ (own : Contains (parts_of a s k) 0). absurd (zero_out own))
      (λ (free : is_free a 0 ≡ true). let taken = zero_taken in absurd cc))
      (change.frame.marked 0 marks)

  pub old_head : AreBlocks b → HasOldHead b t (head_of a s)
  old_head blocks =
      let stay = zero_stays in
      record {
        place = record {
          first = same_first ∙ h.place.first ∙ ap first_of_group (sym same_owner);
          long = ap length same_uuid ∙ h.place.long;
          kept_map = kept_map;
        };
        trees = trees_after;
        known = omega (arith, same_owner, h.valid.group);
        map = sym blocks.same_maps ∙ kept_map;
        own_block = stay.1;
        old_valid = h.valid;
        old_long = h.place.long;
        head = stay.0 ∙ h.head;
      }
