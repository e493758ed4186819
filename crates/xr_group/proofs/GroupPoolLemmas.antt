-- An overlay with its trees and their header is a group by its blocks, and holds what the trees hold.
use Rattle.std.proofs.Common.{◌≡◌, ℕ, zero, suc, List, get_or, refl, sym, ap, subst, ◌∙◌, arith}
use Rattle.std.proofs.lemmas.List.{get_or_default}
use Rattle.std.specs.List.{Contains}
use Rattle.xr_block.specs.SharedPool.{IsPartedPool}
use Rattle.xr_group.specs.Group.{AreGroups, IsGroup, group_no, group_pool, head_of_blocks, part_now, records_now, trees_of_blocks, trees_of_head}
use Rattle.xr_group.specs.Parts.{AreGroupParts, HasGroup, head_of, group_state_of}
use Rattle.xr_group.specs.Trees.{HasGroupTrees, parts_of, records_of_trees}
use Rattle.xr_group.specs.declared.trees.Trees.{Trees}
use Rattle.xr_headers.specs.HeaderValueLaws.{group_in-group_block}
use Rattle.xr_headers.specs.Headers.{IsGroupHead, group_block, group_in}
use Rattle.xr_headers.specs.declared.group_head.GroupHead.{GroupHead}
use Rattle.xr_open.specs.PoolStateLaws.{marked_are_below, pool_same, unmarked_are_kept}
use Rattle.xr_pool.specs.Overlay.{AreBlocks, AreWhole, Blocks, all_dropped, all_kept, changed_blocks, is_free}
use Rattle.xr_pool.specs.OverlayLaws.{changed_rise}

pub parts_at_rest : (b : Blocks) (t : Trees) (k : ℕ) → parts_of (all_kept b) t k ≡ parts_of b t k
parts_at_rest b t zero = refl
parts_at_rest b t (suc zero) = refl
parts_at_rest b t (suc (suc zero)) = refl
parts_at_rest b t (suc (suc (suc i))) = refl

moved : {xs ys : List ℕ} → xs ≡ ys → (n : ℕ) → Contains xs n → Contains ys n
moved same n held = subst (λ (ns : List ℕ). Contains ns n) same held

-- a pool is parted by the same blocks under other names
pub parted_same : (b : Blocks) (parts others : ℕ → List ℕ) → ((i : ℕ) → others i ≡ parts i) → IsPartedPool b parts → IsPartedPool b others
parted_same b parts others same parted = record {
  apart = λ i j n one two. parted.apart i j n (moved (same i) n one) (moved (same j) n two);
  used = λ i n held. parted.used i n (moved (same i) n held);
  every = λ n from below taken. let found = parted.every n from below taken in (found.0, moved (sym (same found.0)) n found.1);
}

-- what was kept is no part of the trees
pub trees_at_rest : (b : Blocks) (t : Trees) → HasGroupTrees b t → HasGroupTrees (all_kept b) t
trees_at_rest b t all = record {
  space = record { blocks = all.space.blocks; sizes = all.space.sizes; separate = all.space.separate };
  rmap = all.rmap;
  counts = all.counts;
  parted = parted_same (all_kept b) (parts_of b t) (parts_of (all_kept b) t) (parts_at_rest b t)
      (record { apart = all.parted.apart; used = all.parted.used; every = all.parted.every });
  pool = all.pool;
}

module _ (b : Blocks) (t : Trees) (h : HasGroup b t) where
  abbrev here : Blocks
  here = group_pool b.owner b.uuid b.current

  pub head_read : head_of_blocks b.owner b.uuid b.current ≡ head_of b t
  head_read =
      ap (λ (bytes : List ℕ). group_in bytes (group_no b.owner) b.uuid) h.head
      ∙ group_in-group_block (head_of b t) h.valid h.place.long

  pub pool_read : here ≡ all_kept b
  pool_read = pool_same b.current b.current _ _ _ _ _ _ _ _ refl (ap (λ (head : GroupHead). head.free) head_read) (sym h.place.first) refl refl

  pub trees_read : trees_of_blocks b.owner b.uuid b.current ≡ t
  trees_read = ap trees_of_head head_read

  pub is_group : AreWhole b.current → IsGroup b.owner b.uuid b.current
  is_group whole = record {
    whole = whole;
    head = record { valid = subst IsGroupHead (sym head_read) h.valid; head = h.head ∙ ap group_block (sym head_read) };
    trees = subst (λ (s : Trees). HasGroupTrees here s) (sym trees_read) (subst (λ (p : Blocks). HasGroupTrees p t) (sym pool_read) (trees_at_rest b t h.trees));
  }

  pub records_read : records_now (group_state_of b) ≡ records_of_trees b t
  records_read = ap (λ (s : Trees). records_of_trees b s) trees_read

  pub part_read : (k : ℕ) → part_now (group_state_of b) k ≡ parts_of b t k
  part_read k =
      ap (λ (p : Blocks). parts_of p (trees_of_blocks b.owner b.uuid b.current) k) pool_read
      ∙ ap (λ (s : Trees). parts_of (all_kept b) s k) trees_read ∙ parts_at_rest b t k

  pub free_read : (n : ℕ) → is_free here n ≡ is_free b n
  free_read n = ap (λ (p : Blocks). is_free p n) pool_read

pub are_groups : (b : Blocks) (now kept : Trees) → AreGroupParts b now kept → AreBlocks b → AreWhole b.current → AreGroups (group_state_of b)
are_groups b now kept parts all whole = record {
  kept_group = is_group (all_dropped b) kept parts.kept_group parts.kept_whole;
  group = is_group b now parts.now_group whole;
  others = unmarked_are_kept b all;
  rising = changed_rise b;
  below = λ k d within.
      let long = parts.now_group.trees.pool in
      omega (arith, long, marked_are_below b all (get_or (changed_blocks b) k d) (k, within, get_or_default (changed_blocks b) k _ d within));
  identified = parts.now_group.place.long;
}
