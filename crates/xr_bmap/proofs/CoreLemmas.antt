-- A tree of a file was changed, and the core follows: block 0 alone is written.
use Rattle.std.proofs.Common.{◌≡◌, ◌≢◌, ◌⊎◌, ℕ, suc, ◌^◌, ◌<◌, ◌≤◌, Bool, true, false, true≢false, not, ◌&&◌, eqb, List, [], ◌∷◌, length, refl, sym, ap, subst, ◌∙◌, inl, inr, ⊎_elim, arith}
use Rattle.std.proofs.lemmas.Bool.{and_parts, cases_Bool, cases_eq, not-false}
use Rattle.std.proofs.lemmas.List.{get_or-set_other, length-set}
use Rattle.std.proofs.lemmas.List.Elements.{All-contains}
use Rattle.std.specs.List.{Contains}
use lib.Pointwise.{bytes_decides, pointwise}
use borrow.Author.Tests.{eq-eqb, eqb-true}
use Rattle.xr_base.specs.declared.geometry.TheConstants.{FILES}
use Rattle.xr_block.specs.Frame.{Stays}
use Rattle.xr_block.specs.FrameLaws.{member_cases}
use Rattle.xr_block.specs.SharedPool.{block_zero}
use Rattle.xr_block.specs.SharedPoolLaws.{stays_beside_zero}
use Rattle.xr_block.specs.Tree.{IsUsed}
use Rattle.xr_block.specs.TreeBlock.{Site}
use Rattle.xr_block.specs.Trees.{blocks_of_tree}
use Rattle.xr_block.specs.declared.root.Root.{Root}
use Rattle.xr_bmap.specs.Parts.{ChangesFileParts, CoreWritten, HasFile, HasOldCore, core_of}
use Rattle.xr_change.specs.TreeSteps.{IsTreeStep}
use Rattle.xr_headers.specs.HeaderValueLaws.{one_core_block}
use Rattle.xr_headers.specs.Headers.{IsCore, core_block}
use Rattle.xr_headers.specs.declared.file_core.Core.{Core}
use Rattle.xr_kinds.specs.Mapping.{mapping_form}
use Rattle.xr_open.specs.PoolStateLaws.{even_maps_keep_block_zero, pool_same, roots_are_used}
use Rattle.xr_pool.specs.Marks.{marked}
use Rattle.xr_pool.specs.Overlay.{AreBlocks, Blocks, block_at, is_changed, is_free, pool_size, with_block}
use Rattle.xr_pool.specs.OverlayLaws.{block_written}

-- cores that compare as equal are one
abbrev compare : Core → Core → Bool
compare a b = eqb a.ino b.ino && (pointwise eqb a.uuid b.uuid && (eqb a.root b.root && (eqb a.level b.level && eqb a.free b.free)))

one_core : (ino ino' : ℕ) (uuid uuid' : List ℕ) (root root' level level' free free' : ℕ) → ino ≡ ino' → uuid ≡ uuid' → root ≡ root' → level ≡ level' → free ≡ free'
    → ◌≡◌ {A = Core} (record { ino = ino; uuid = uuid; root = root; level = level; free = free })
    (record { ino = ino'; uuid = uuid'; root = root'; level = level'; free = free' })
one_core ino ino' uuid uuid' root root' level level' free free' a b c d e = rw (a, b, c, d, e) refl

pub same_core : (a b : Core) → not (compare a b) ≡ false → a ≡ b
same_core a b same =
    let one = and_parts (eqb a.ino b.ino) _ (not-false _ same) in
    let two = and_parts (pointwise eqb a.uuid b.uuid) _ one.1 in
    let three = and_parts (eqb a.root b.root) _ two.1 in
    let four = and_parts (eqb a.level b.level) (eqb a.free b.free) three.1 in
    one_core _ _ _ _ _ _ _ _ _ _ (eqb-true a.ino b.ino one.0) ((bytes_decides a.uuid b.uuid).0 two.0) (eqb-true a.root b.root three.0)
    (eqb-true a.level b.level four.0) (eqb-true a.free b.free four.1)

equal_core : (a : Core) → compare a a ≡ true
equal_core a =
    rw (
      eq-eqb a.ino a.ino refl,
      (bytes_decides a.uuid a.uuid).1 refl,
      eq-eqb a.root a.root refl,
      eq-eqb a.level a.level refl,
      eq-eqb a.free a.free refl,
    ) refl

pub differ_core : (a b : Core) → not (compare a b) ≡ true → a ≢ b
differ_core a b other same =
    let equal : compare a b ≡ true = subst (λ (x : Core). compare a x ≡ true) same (equal_core a) in
    let lie : not (compare a b) ≡ false = ap not equal in true≢false (sym other ∙ lie)

few_marked : (k : ℕ) (marks : List Bool) → length (marked k marks) ≤ length marks
unfolding marked
few_marked k [] = omega arith
few_marked k (true ∷ marks) = omega (arith, few_marked (suc k) marks)
few_marked k (false ∷ marks) = omega (arith, few_marked (suc k) marks)

pub core_valid : (file : ℕ) (uuid : List ℕ) (b : Blocks) (t : Root) (before : Core) → HasOldCore file uuid b t before → (core_of file uuid b t).free < 256
    → t.level < 2 ^ 32 → IsCore (core_of file uuid b t)
core_valid file uuid b t before h byte level =
    let used = roots_are_used mapping_form b t h.tree.mapping in
    record {
      first_inode = omega arith;
      last_inode = omega (arith, h.known);
      pool = record { some_root = used.from; root_in_pool = omega (arith, used.below, h.tree.pool); mask = omega (arith, byte); own_block = (even_maps_keep_block_zero b.free).0 h.own_block };
      level = level;
    }

module _ (file : ℕ) (uuid : List ℕ) (b : Blocks) (t : Root) (before : Core) (h : HasOldCore file uuid b t before) (valid : IsCore (core_of file uuid b t)) where
  -- it was that core already
  pub core_stays : core_of file uuid b t ≡ before → HasFile file uuid b t
  core_stays same = record { place = h.place; tree = h.tree; valid = valid; core = h.core ∙ ap core_block (sym same) }

  pub nothing_written : CoreWritten b b t
  nothing_written = record { same_records = refl; kept = refl; dropped = refl; marks = refl; marked = λ n is. inl is; differs = λ is. inl is }

  module _ (bytes : List ℕ) (is : bytes ≡ core_block (core_of file uuid b t)) where
    abbrev now : Blocks
    now = with_block b 0 bytes

    stays : Stays mapping_form b now t.block t.level (block_zero b)
    stays = stays_beside_zero mapping_form b bytes t.block t.level h.tree.mapping

    same_size : pool_size now ≡ pool_size b
    same_size = length-set b.current 0 bytes

    zero_is : block_at now 0 ≡ core_block (core_of file uuid b t)
    zero_is = block_written b 0 bytes (omega (arith, h.tree.pool)) ∙ is

    pub core_written : HasFile file uuid now t
    core_written = record {
      place = record {
        first = h.place.first;
        owner = h.place.owner;
        uuid_kept = h.place.uuid_kept;
        long = h.place.long;
        map = h.place.map;
        kept_map = h.place.kept_map;
      };
      tree = record {
        mapping = stays.tree;
        pool = same_size ∙ h.tree.pool;
        used = λ n from below taken. rw stays.same_blocks (h.tree.used n from (omega (arith, below, same_size)) taken);
      };
      valid = valid;
      core = zero_is;
    }

    pub zero_written : core_of file uuid b t ≢ before → CoreWritten b now t
    zero_written differ = record {
      same_records = stays.same_records;
      kept = refl;
      dropped = refl;
      marks = length-set b.changed 0 true;
      marked = λ n marks. ⊎_elim inr
          (λ (other : n ≢ 0). inl (sym (get_or-set_other b.changed 0 n true false other) ∙ marks))
          (cases_eq n 0);
      differs = λ marks. inr (λ same.
          differ (one_core_block (core_of file uuid b t) before valid h.valid h.place.long h.identified (sym zero_is ∙ same ∙ h.core)));
    }

-- the tree was changed
module _ (file : ℕ) (uuid : List ℕ) (a b : Blocks) (old new : Root) (most writes : ℕ) (known : file < FILES) (h : HasFile file uuid a old)
    (step : IsTreeStep mapping_form a old b new most writes) (all : AreBlocks b) where
  own_block : is_free a 0 ≡ false
  own_block = (even_maps_keep_block_zero a.free).1 h.valid.pool.own_block

  zero_out : ¬ (Contains (blocks_of_tree mapping_form a old) 0)
  zero_out within =
      let used = All-contains (IsUsed (is_free a) (pool_size a)) (blocks_of_tree mapping_form a old) 0 h.tree.mapping.owned within in
      absurd (omega (arith, used.from))

  used_after : (n : ℕ) → 1 ≤ n → n < pool_size b → is_free b n ≡ false → Contains (blocks_of_tree mapping_form b new) n
  used_after n from below taken = ⊎_elim
      (λ (mine : Contains (blocks_of_tree mapping_form b new) n). mine)
      (λ (out : ¬ (Contains (blocks_of_tree mapping_form b new) n)). ⊎_elim
      (λ (free : is_free a n ≡ true). let lie = step.frame.spare n free out in absurd cc)
      (λ (was : is_free a n ≡ false).
      let lie = step.frame.freed n (h.tree.used n from (omega (arith, below, step.frame.pool)) was) out in absurd cc)
      (cases_Bool (is_free a n)))
      (member_cases (blocks_of_tree mapping_form b new) n)

  same_first : b.first ≡ a.first
  same_first = ap (λ (s : Site). s.first) step.frame.site

  same_owner : b.owner ≡ a.owner
  same_owner = ap (λ (s : Site). s.owner) step.frame.site

  same_uuid : b.uuid ≡ a.uuid
  same_uuid = ap (λ (s : Site). s.uuid) step.frame.site

  kept_map : length b.kept_free ≡ 1
  kept_map = ap length step.frame.kept_free ∙ h.place.kept_map

  pub old_core : HasOldCore file uuid b new (core_of file uuid a old)
  old_core =
      let zero = step.frame.others 0 own_block zero_out in
      record {
        known = known;
        place = record {
          first = same_first ∙ h.place.first;
          owner = same_owner ∙ h.place.owner;
          uuid_kept = same_uuid ∙ h.place.uuid_kept;
          long = h.place.long;
          map = sym all.same_maps ∙ kept_map;
          kept_map = kept_map;
        };
        tree = record { mapping = step.tree; pool = step.frame.pool ∙ h.tree.pool; used = used_after };
        own_block = zero.1;
        valid = h.valid;
        identified = h.place.long;
        core = zero.0 ∙ h.core;
      }

  pub parts_changed : (c : Blocks) → CoreWritten b c new → ChangesFileParts a old c
  parts_changed c written = record {
    kept = written.kept ∙ step.frame.kept;
    dropped = written.dropped
        ∙ pool_same b.kept a.kept b.kept_free a.kept_free b.first a.first b.owner a.owner b.uuid a.uuid step.frame.kept step.frame.kept_free same_first same_owner
        same_uuid;
    marked = λ n is. ⊎_elim
        (λ (before : is_changed b n ≡ true). ⊎_elim inl (λ (own : Contains (blocks_of_tree mapping_form a old) n ⊎ (is_free a n ≡ true)). inr (inr own)) (step.frame.marked n before))
        (λ (zero : n ≡ 0). inr (inl zero))
        (written.marked n is);
    differs = λ is. ⊎_elim
        (λ (before : is_changed b 0 ≡ true). ⊎_elim inl
        (λ (own : Contains (blocks_of_tree mapping_form a old) 0 ⊎ (is_free a 0 ≡ true)).
        absurd (⊎_elim zero_out (λ (free : is_free a 0 ≡ true). true≢false (sym free ∙ own_block)) own))
        (step.frame.marked 0 before))
        (λ (other : block_at c 0 ≢ block_at b 0). inr (λ same. other (same ∙ sym (step.frame.others 0 own_block zero_out).0)))
        (written.differs is);
    few = omega (arith, few_marked 0 c.changed, written.marks, all.marks, step.frame.pool, h.tree.pool);
  }
