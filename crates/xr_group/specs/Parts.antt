-- Of no public contract.
-- A group as its overlay and the roots of its trees.
use Rattle.std.specs.Prelude.{◌≡◌, ◌≢◌, ◌⊎◌, ◌↔◌, ⊤, ℕ, zero, suc, ◌+◌, ◌<◌, ◌≤◌, true, false, List, [], ◌∷◌, length}
use Rattle.std.specs.List.{Contains}
use Rattle.xr_base.specs.declared.geometry.TheConstants.{GROUPS, UUID_BYTES}
use Rattle.xr_block.specs.Frame.{ChangesOnly}
use Rattle.xr_group.specs.Group.{GroupState, first_of_group, group_no}
use Rattle.xr_group.specs.Trees.{AreSameElsewhere, HasGroupTrees, parts_of, records_of_trees}
use Rattle.xr_group.specs.declared.trees.Trees.{Trees}
use Rattle.xr_headers.specs.Headers.{IsGroupHead, group_block}
use Rattle.xr_headers.specs.declared.group_head.GroupHead.{GroupHead}
use Rattle.xr_headers.specs.declared.layout.TheConstants.{FREE_MAP_BYTES}
use Rattle.xr_kinds.specs.Spans.{IsIn}
use Rattle.xr_kinds.specs.declared.reference.Reference.{Reference}
use Rattle.xr_kinds.specs.declared.span.Span.{Span}
use Rattle.xr_pool.specs.Overlay.{AreWhole, Blocks, all_dropped, block_at, changed_blocks, is_changed, is_free}
use Rattle.xr_refcount.specs.Refcount.{IsRefcount, reference_records}
use Rattle.xr_rmap.specs.Rmap.{IsRmap}
use Rattle.xr_space.specs.Space.{IsFreeBlock, IsSpace}

-- the header of some trees and their pool
abbrev pub head_of : Blocks → Trees → GroupHead
head_of b t = record {
  group = group_no b.owner;
  uuid = b.uuid;
  roots = t.space.by_block.block ∷ t.space.by_size.block ∷ t.rmap.tree.block ∷ t.counts.tree.block ∷ [];
  levels = t.space.by_block.level ∷ t.space.by_size.level ∷ t.rmap.tree.level ∷ t.counts.tree.level ∷ [];
  free = b.free;
}

-- the blocks stand where those of their group do, and the map that was kept is as long as a header's
pub record HasGroupPlace (b : Blocks) : Type 0 where
  pub first : b.first ≡ first_of_group b.owner
  pub long : length b.uuid ≡ UUID_BYTES
  pub kept_map : length b.kept_free ≡ FREE_MAP_BYTES

-- the trees have all of the pool that isn't free, and block 0 is their header
pub record HasGroup (b : Blocks) (t : Trees) : Type 0 where
  pub place : HasGroupPlace b
  pub trees : HasGroupTrees b t
  pub valid : IsGroupHead (head_of b t)
  pub head : block_at b 0 ≡ group_block (head_of b t)

-- so it is now, and so it was when it was kept
pub record AreGroupParts (b : Blocks) (now kept : Trees) : Type 0 where
  pub now_group : HasGroup b now
  pub kept_group : HasGroup (all_dropped b) kept
  pub kept_whole : AreWhole b.kept

abbrev pub group_state_of : Blocks → GroupState
group_state_of b = record { number = b.owner; uuid = b.uuid; kept = b.kept; blocks = b.current; changed = changed_blocks b }

-- the records of counts, and a run whose blocks are free no more
abbrev pub references_of : Blocks → Trees → List Reference
references_of b t = reference_records b t.counts

abbrev pub LosesFreeRun : Span → Blocks → Trees → Blocks → Trees → Type 0
LosesFreeRun run a s b t = (n : ℕ) → IsFreeBlock b t.space n ↔ (IsFreeBlock a s.space n × ¬ (IsIn run n))

-- one part is trees, and has the roots that it had
abbrev pub IsPart : Blocks → Trees → ℕ → Type 0
IsPart b t zero = IsSpace b t.space
IsPart b t (suc zero) = IsRmap b t.rmap
IsPart b t (suc (suc zero)) = IsRefcount b t.counts
IsPart b t (suc (suc (suc i))) = ⊤

abbrev pub HaveSameRoots : ℕ → Trees → Trees → Type 0
HaveSameRoots zero s t = t.space ≡ s.space
HaveSameRoots (suc zero) s t = t.rmap ≡ s.rmap
HaveSameRoots (suc (suc zero)) s t = t.counts ≡ s.counts
HaveSameRoots (suc (suc (suc i))) s t = ⊤

-- a change of one part, before the header follows
pub record ChangesPart (k writes : ℕ) (a : Blocks) (s : Trees) (b : Blocks) (t : Trees) : Type 0 where
  pub part : IsPart b t k
  pub others : (i : ℕ) → i ≢ k → HaveSameRoots i s t
  pub frame : ChangesOnly a (parts_of a s k) b (parts_of b t k)
  pub changed : length (changed_blocks b) ≤ length (changed_blocks a) + writes

-- the trees were changed, and block 0 is their header as it was before
pub record HasOldHead (b : Blocks) (t : Trees) (before : GroupHead) : Type 0 where
  pub place : HasGroupPlace b
  pub trees : HasGroupTrees b t
  pub known : b.owner < GROUPS
  pub map : length b.free ≡ FREE_MAP_BYTES
  pub own_block : is_free b 0 ≡ false
  pub old_valid : IsGroupHead before
  pub old_long : length before.uuid ≡ UUID_BYTES
  pub head : block_at b 0 ≡ group_block before

-- only block 0 may be another one, and it is written only where it is
pub record WritesHead (a b : Blocks) (t : Trees) : Type 0 where
  pub same_records : records_of_trees b t ≡ records_of_trees a t
  pub same_owner : b.owner ≡ a.owner
  pub same_uuid : b.uuid ≡ a.uuid
  pub kept : b.kept ≡ a.kept
  pub dropped : all_dropped b ≡ all_dropped a
  pub few : length (changed_blocks b) ≤ length (changed_blocks a) + 1
  pub marked : (n : ℕ) → is_changed b n ≡ true → (is_changed a n ≡ true) ⊎ (n ≡ 0)
  pub head : is_changed b 0 ≡ true → (is_changed a 0 ≡ true) ⊎ (block_at b 0 ≢ block_at a 0)

-- a change of one part with the header
pub record ChangesParts (k writes : ℕ) (a : Blocks) (s : Trees) (b : Blocks) (t : Trees) : Type 0 where
  pub others : AreSameElsewhere k (records_of_trees a s) (records_of_trees b t)
  pub same_owner : b.owner ≡ a.owner
  pub same_uuid : b.uuid ≡ a.uuid
  pub kept : b.kept ≡ a.kept
  pub dropped : all_dropped b ≡ all_dropped a
  pub few : length (changed_blocks b) ≤ length (changed_blocks a) + writes
  pub marked : (n : ℕ) → is_changed b n ≡ true → (is_changed a n ≡ true) ⊎ (n ≡ 0) ⊎ Contains (parts_of a s k) n ⊎ (is_free a n ≡ true)
  pub head : is_changed b 0 ≡ true → (is_changed a 0 ≡ true) ⊎ (block_at b 0 ≢ block_at a 0)
