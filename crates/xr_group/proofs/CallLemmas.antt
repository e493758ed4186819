-- What calls on the overlay and the trees leave of a group as it is seen.
use Rattle.std.proofs.Common.{◌≡◌, ◌≢◌, ◌⊎◌, ◌↔◌, ℕ, zero, suc, ◌+◌, ◌≤◌, true, List, length, refl, sym, ap, subst, ◌∙◌, inl, inr, ⊎_elim, arith}
use Rattle.std.specs.List.{Contains}
use Rattle.xr_change.specs.TreeSteps.{IsTreeStep}
use Rattle.xr_group.proofs.GroupPoolLemmas.{free_read, part_read, records_read, trees_at_rest}
use Rattle.xr_group.proofs.PartLemmas.{same_elsewhere, same_first, same_owner, same_uuid, zero_stays, zero_unmarked}
use Rattle.xr_group.specs.Group.{ChangesGroup, records_now}
use Rattle.xr_group.specs.Parts.{AreGroupParts, ChangesPart, ChangesParts, HasGroup, HaveSameRoots, WritesHead, group_state_of}
use Rattle.xr_group.specs.Trees.{AreSameElsewhere, AreSameIn, GroupRecords, counts_part, free_part, owners_part, parts_of, records_of_trees}
use Rattle.xr_kinds.specs.FreeRuns.{by_block}
use Rattle.xr_kinds.specs.Spans.{IsIn}
use Rattle.xr_kinds.specs.declared.free_runs.ByBlock.{ByBlock}
use Rattle.xr_kinds.specs.declared.span.Span.{Span}
use Rattle.xr_space.specs.Space.{ArePaired, IsFreeBlock, IsSpace, block_records, size_records, space_blocks}
use Rattle.xr_space.specs.declared.space.Space.{Space}
use Rattle.xr_block.specs.Frame.{ChangesOnly}
use Rattle.xr_group.specs.declared.trees.Trees.{Trees}
use Rattle.xr_kinds.specs.Reverse.{reverse_form}
use Rattle.xr_kinds.specs.declared.reverse.Reverse.{Reverse}
use Rattle.xr_open.specs.PoolState.{dropped_to_kept, kept_now}
use Rattle.xr_open.specs.PoolStateLaws.{pool_same}
use Rattle.xr_pool.specs.Overlay.{AreWhole, Blocks, all_dropped, all_kept, block_at, changed_blocks, is_changed, is_free}
use Rattle.xr_pool.specs.OverlayLaws.{changed_are_marked, none_changed}
use Rattle.xr_refcount.specs.Refcount.{IsReferenceStep, reference_records}
use Rattle.xr_refcount.specs.declared.refcount.Refcount.{Refcount}
use Rattle.xr_rmap.specs.Pairs.{HasPairIn, IsPair}
use Rattle.xr_rmap.specs.Rmap.{GainsPairsOf, HasPair, LosesPairsOf}
use Rattle.xr_rmap.specs.declared.rmap.Rmap.{Rmap}

other_roots_than_rmap : (s : Trees) (m : Rmap) (i : ℕ) → i ≢ owners_part → HaveSameRoots i s (record s { rmap = m })
other_roots_than_rmap s m zero differ = refl
other_roots_than_rmap s m (suc zero) differ = absurd (differ refl)
other_roots_than_rmap s m (suc (suc zero)) differ = refl
other_roots_than_rmap s m (suc (suc (suc i))) differ = tt

pub owners_changed : (a : Blocks) (s : Trees) (b : Blocks) (m : Rmap) (most writes : ℕ) → IsTreeStep reverse_form a s.rmap.tree b m.tree most writes
    → ChangesPart owners_part writes a s b (record s { rmap = m })
owners_changed a s b m most writes step = record { part = step.tree; others = other_roots_than_rmap s m; frame = step.frame; changed = step.changed }

other_roots_than_counts : (s : Trees) (c : Refcount) (i : ℕ) → i ≢ counts_part → HaveSameRoots i s (record s { counts = c })
other_roots_than_counts s c zero differ = refl
other_roots_than_counts s c (suc zero) differ = refl
other_roots_than_counts s c (suc (suc zero)) differ = absurd (differ refl)
other_roots_than_counts s c (suc (suc (suc i))) differ = tt

pub counts_changed : (a : Blocks) (s : Trees) (b : Blocks) (c : Refcount) (most writes : ℕ) → IsReferenceStep a s.counts b c most writes
    → ChangesPart counts_part writes a s b (record s { counts = c })
counts_changed a s b c most writes step = record { part = step.tree; others = other_roots_than_counts s c; frame = step.frame; changed = step.changed }

other_roots_than_space : (s : Trees) (x : Space) (i : ℕ) → i ≢ free_part → HaveSameRoots i s (record s { space = x })
other_roots_than_space s x zero differ = absurd (differ refl)
other_roots_than_space s x (suc zero) differ = refl
other_roots_than_space s x (suc (suc zero)) differ = refl
other_roots_than_space s x (suc (suc (suc i))) differ = tt

pub free_changed : (a : Blocks) (s : Trees) (b : Blocks) (x : Space) (writes : ℕ) → IsSpace b x
    → ChangesOnly a (space_blocks a s.space) b (space_blocks b x) → length (changed_blocks b) ≤ length (changed_blocks a) + writes
    → ChangesPart free_part writes a s b (record s { space = x })
free_changed a s b x writes space frame changed = record { part = space; others = other_roots_than_space s x; frame = frame; changed = changed }

module _ (k writes : ℕ) (a : Blocks) (s : Trees) (b : Blocks) (t : Trees) (h : HasGroup a s) (change : ChangesPart k writes a s b t) (c : Blocks)
    (written : WritesHead b c t) where
  pub with_head : ChangesParts k (writes + 1) a s c t
  with_head = record {
    others = subst (λ (x : GroupRecords). AreSameElsewhere k (records_of_trees a s) x) (sym written.same_records) (same_elsewhere k writes a s b t h change);
    same_owner = written.same_owner ∙ same_owner k writes a s b t h change;
    same_uuid = written.same_uuid ∙ same_uuid k writes a s b t h change;
    kept = written.kept ∙ change.frame.kept;
    dropped = written.dropped
        ∙ pool_same b.kept a.kept b.kept_free a.kept_free b.first a.first b.owner a.owner b.uuid a.uuid change.frame.kept change.frame.kept_free
        (same_first k writes a s b t h change) (same_owner k writes a s b t h change) (same_uuid k writes a s b t h change);
    few = omega (arith, written.few, change.changed);
    marked = λ n is. ⊎_elim
        (λ (before : is_changed b n ≡ true). ⊎_elim inl
        (λ (own : Contains (parts_of a s k) n ⊎ (is_free a n ≡ true)). inr (inr own))
        (change.frame.marked n before))
        (λ (zero : n ≡ 0). inr (inl zero))
        (written.marked n is);
    head = λ is. ⊎_elim
        (λ (before : is_changed b 0 ≡ true). inl (zero_unmarked k writes a s b t h change before))
        (λ (other : block_at c 0 ≢ block_at b 0).
        let stay = zero_stays k writes a s b t h change in inr (λ same. other (same ∙ sym stay.0)))
        (written.head is);
  }

-- and the pairs stay where the header is written
pub pairs_gained : (r : Reverse) (a : Blocks) (m : Rmap) (b c : Blocks) (t : Trees) → WritesHead b c t → GainsPairsOf r a m b t.rmap → GainsPairsOf r a m c t.rmap
pairs_gained r a m b c t written gains =
    let P : List Reverse → Type 0 =
    λ xs. (w o n : ℕ) → HasPairIn (Contains xs) w o n ↔ (HasPair a m w o n ⊎ IsPair r w o n) in
    subst P (sym (ap (λ (x : GroupRecords). x.reverse) written.same_records)) gains

pub pairs_lost : (r : Reverse) (a : Blocks) (m : Rmap) (b c : Blocks) (t : Trees) → WritesHead b c t → LosesPairsOf r a m b t.rmap → LosesPairsOf r a m c t.rmap
pairs_lost r a m b c t written loses =
    let P : List Reverse → Type 0 =
    λ xs. (w o n : ℕ) → HasPairIn (Contains xs) w o n ↔ (HasPair a m w o n × ¬ (IsPair r w o n)) in
    subst P (sym (ap (λ (x : GroupRecords). x.reverse) written.same_records)) loses

pub references_stay : (b c : Blocks) (t : Trees) → WritesHead b c t → reference_records b t.counts ≡ reference_records c t.counts
references_stay b c t written = sym (ap (λ (x : GroupRecords). x.reference) written.same_records)

-- and the free runs
module _ (b c : Blocks) (t : Trees) (written : WritesHead b c t) where
  runs_stay : block_records c t.space ≡ block_records b t.space
  runs_stay = ap (λ (x : GroupRecords). x.by_block) written.same_records

  sizes_stay : size_records c t.space ≡ size_records b t.space
  sizes_stay = ap (λ (x : GroupRecords). x.by_size) written.same_records

  pub paired_stays : ArePaired b t.space → ArePaired c t.space
  paired_stays paired = record {
    sized = λ run held. rw sizes_stay (paired.sized run (rw runs_stay at held));
    free = λ run held. rw runs_stay (paired.free run (rw sizes_stay at held));
  }

  pub free_stays : (P : ℕ → Type 0) → ((n : ℕ) → IsFreeBlock b t.space n ↔ P n) → (n : ℕ) → IsFreeBlock c t.space n ↔ P n
  free_stays P told n =
      let Q : List ByBlock → Type 0 = λ xs. ((run : Span) × Contains xs (by_block run) × IsIn run n) ↔ P n in subst Q (sym runs_stay) (told n)

-- the change as it is seen
pub changes_read : (k writes : ℕ) (a : Blocks) (s : Trees) (b : Blocks) (t : Trees) → HasGroup a s → HasGroup b t → ChangesParts k writes a s b t
    → ChangesGroup k writes (group_state_of a) (group_state_of b)
changes_read k writes a s b t before after parts = record {
  number = parts.same_owner;
  uuid = parts.same_uuid;
  kept = parts.kept;
  others = λ i differ.
      subst (λ (x : GroupRecords). AreSameIn i x (records_now (group_state_of b))) (sym (records_read a s before))
      (subst (λ (x : GroupRecords). AreSameIn i (records_of_trees a s) x) (sym (records_read b t after)) (parts.others i differ));
  few = parts.few;
  marked = λ n found. ⊎_elim
      (λ (was : is_changed a n ≡ true). inl ((changed_are_marked a n).1 was))
      (λ (other : (n ≡ 0) ⊎ Contains (parts_of a s k) n ⊎ (is_free a n ≡ true)). inr (⊎_elim inl
      (λ (own : Contains (parts_of a s k) n ⊎ (is_free a n ≡ true)). inr (⊎_elim
      (λ (mine : Contains (parts_of a s k) n). inl (subst (λ (ns : List ℕ). Contains ns n) (sym (part_read a s before k)) mine))
      (λ (free : is_free a n ≡ true). inr (free_read a s before n ∙ free))
      own))
      other))
      (parts.marked n ((changed_are_marked b n).0 found));
  head = λ found. ⊎_elim
      (λ (was : is_changed a 0 ≡ true). inl ((changed_are_marked a 0).1 was))
      (λ (other : block_at b 0 ≢ block_at a 0). inr other)
      (parts.head ((changed_are_marked b 0).0 found));
}

module _ (a : Blocks) (now kept : Trees) (parts : AreGroupParts a now kept) where
  pub parts_after : (k writes : ℕ) (b : Blocks) (t : Trees) → ChangesParts k writes a now b t → HasGroup b t → AreGroupParts b t kept
  parts_after k writes b t change group_now = record {
    now_group = group_now;
    kept_group = subst (λ (c : Blocks). HasGroup c kept) (sym change.dropped) parts.kept_group;
    kept_whole = subst AreWhole (sym change.kept) parts.kept_whole;
  }

  at_rest : HasGroup (all_kept a) now
  at_rest =
      let h = parts.now_group in
      record {
        place = record { first = h.place.first; long = h.place.long; kept_map = h.valid.map_bytes };
        trees = trees_at_rest a now h.trees;
        valid = h.valid;
        head = h.head;
      }

  pub parts_kept : AreWhole a.current → AreGroupParts (all_kept a) now now
  parts_kept whole = record { now_group = at_rest; kept_group = at_rest; kept_whole = whole }

  pub parts_dropped : AreGroupParts (all_dropped a) kept kept
  parts_dropped = record { now_group = parts.kept_group; kept_group = parts.kept_group; kept_whole = parts.kept_whole }

pub kept_view : (b : Blocks) → group_state_of (all_kept b) ≡ kept_now (group_state_of b)
kept_view b = ap (λ (ns : List ℕ). record (kept_now (group_state_of b)) { changed = ns }) (none_changed b.current)

pub dropped_view : (b : Blocks) → group_state_of (all_dropped b) ≡ dropped_to_kept (group_state_of b)
dropped_view b = ap (λ (ns : List ℕ). record (dropped_to_kept (group_state_of b)) { changed = ns }) (none_changed b.kept)
