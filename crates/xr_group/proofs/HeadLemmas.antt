-- The trees of a group were changed, and its header follows: block 0 alone is written.
use Rattle.std.proofs.Common.{◌≡◌, ◌≢◌, ℕ, zero, suc, ◌<◌, true, false, true≢false, not, ◌&&◌, eqb, if◌then◌else◌, Bool, List, [], ◌∷◌, length, slice_index, refl, sym, ap, subst, ◌∙◌, inl, inr, ⊎_elim, arith}
use Rattle.std.proofs.lemmas.Bool.{and_parts, cases_eq, not-false}
use Rattle.std.proofs.lemmas.List.{get_or-set_other, length-set}
use Rattle.std.specs.List.{Contains}
use lib.Pointwise.{bytes_decides, pointwise}
use borrow.Author.Tests.{eq-eqb, eqb-true}
use Rattle.xr_block.specs.FrameLaws.{only_member}
use Rattle.xr_block.specs.SharedPool.{block_zero}
use Rattle.xr_block.specs.SharedPoolLaws.{changes_block_zero, stays_parted_beside_zero}
use Rattle.xr_block.specs.Trees.{IsTree}
use Rattle.xr_block.specs.declared.root.Root.{Root}
use Rattle.xr_group.proofs.GroupPoolLemmas.{parted_same}
use Rattle.xr_group.proofs.PartLemmas.{PartStays, part_in, stays_part}
use Rattle.xr_group.specs.Group.{group_no}
use Rattle.xr_group.specs.Parts.{HasGroup, HasOldHead, HaveSameRoots, WritesHead, head_of}
use Rattle.xr_group.specs.Trees.{HasGroupTrees, parts_of}
use Rattle.xr_group.specs.declared.trees.Trees.{Trees}
use Rattle.xr_headers.specs.HeaderValueLaws.{one_group}
use Rattle.xr_headers.specs.Headers.{AreWords, IsGroupHead, IsPoolRoot, group_block}
use Rattle.xr_headers.specs.declared.group_head.GroupHead.{GroupHead}
use Rattle.xr_kinds.specs.Form.{Form}
use Rattle.xr_kinds.specs.FreeRuns.{block_form, size_form}
use Rattle.xr_kinds.specs.Reference.{reference_form}
use Rattle.xr_kinds.specs.Reverse.{reverse_form}
use Rattle.xr_open.specs.PoolStateLaws.{even_maps_keep_block_zero, roots_are_used}
use Rattle.xr_pool.specs.Overlay.{Blocks, block_at, is_free, pool_size, with_block}
use Rattle.xr_pool.specs.OverlayLaws.{block_written, changed_more}

-- headers that compare as equal are one
abbrev compare : GroupHead → GroupHead → Bool
compare a b =
    eqb a.group.0 b.group.0 && (pointwise eqb a.uuid b.uuid && (pointwise eqb a.roots b.roots && (pointwise eqb a.levels b.levels && pointwise eqb a.free b.free)))

one_head : (number number' : ℕ) (uuid uuid' roots roots' levels levels' free free' : List ℕ)
    → number ≡ number' → uuid ≡ uuid' → roots ≡ roots' → levels ≡ levels' → free ≡ free'
    → ◌≡◌ {A = GroupHead} (record { group = group_no number; uuid = uuid; roots = roots; levels = levels; free = free })
    (record { group = group_no number'; uuid = uuid'; roots = roots'; levels = levels'; free = free' })
one_head number number' uuid uuid' roots roots' levels levels' free free' a b c d e = rw (a, b, c, d, e) refl

pub same_head : (a b : GroupHead) → not (compare a b) ≡ false → a ≡ b
same_head a b same =
    let one = and_parts (eqb a.group.0 b.group.0) _ (not-false _ same) in
    let two = and_parts (pointwise eqb a.uuid b.uuid) _ one.1 in
    let three = and_parts (pointwise eqb a.roots b.roots) _ two.1 in
    let four = and_parts (pointwise eqb a.levels b.levels) (pointwise eqb a.free b.free) three.1 in
    one_head _ _ _ _ _ _ _ _ _ _ (eqb-true a.group.0 b.group.0 one.0) ((bytes_decides a.uuid b.uuid).0 two.0) ((bytes_decides a.roots b.roots).0 three.0)
    ((bytes_decides a.levels b.levels).0 four.0) ((bytes_decides a.free b.free).0 four.1)

equal_head : (a : GroupHead) → compare a a ≡ true
equal_head a =
    rw (
      eq-eqb a.group.0 a.group.0 refl,
      (bytes_decides a.uuid a.uuid).1 refl,
      (bytes_decides a.roots a.roots).1 refl,
      (bytes_decides a.levels a.levels).1 refl,
      (bytes_decides a.free a.free).1 refl,
    ) refl

pub differ_head : (a b : GroupHead) → a ≡ b → not (compare a b) ≡ true → ⊥
differ_head a b same other =
    let equal : compare a b ≡ true = subst (λ (x : GroupHead). compare a x ≡ true) same (equal_head a) in
    let lie : not (compare a b) ≡ false = ap not equal in true≢false (sym other ∙ lie)

in_pool : {X : Type 0} (form : Form X) (b : Blocks) (t : Root) → IsTree form b t → pool_size b ≡ 512 → IsPoolRoot t.block
in_pool form b t tree pool = let used = roots_are_used form b t tree in (used.from, omega (arith, used.below, pool))

each_root : (b : Blocks) (t : Trees) → HasGroupTrees b t → (i : ℕ) → i < length (head_of b t).roots → IsPoolRoot (slice_index (head_of b t).roots i)
each_root b t all zero within = in_pool block_form b t.space.by_block all.space.blocks all.pool
each_root b t all (suc zero) within = in_pool size_form b t.space.by_size all.space.sizes all.pool
each_root b t all (suc (suc zero)) within = in_pool reverse_form b t.rmap.tree all.rmap all.pool
each_root b t all (suc (suc (suc zero))) within = in_pool reference_form b t.counts.tree all.counts all.pool
each_root b t all (suc (suc (suc (suc i)))) within = absurd (omega (arith, within))

head_valid : (b : Blocks) (t : Trees) (before : GroupHead) → HasOldHead b t before → AreWords (head_of b t).levels → IsGroupHead (head_of b t)
head_valid b t before h levels = record {
  group = h.known;
  four_roots = refl;
  pool = record { roots = each_root b t h.trees; own_block = (even_maps_keep_block_zero b.free).0 h.own_block };
  four_levels = refl;
  levels = levels;
  map_bytes = h.map;
}

pub head_known : (b : Blocks) (t : Trees) (before made : GroupHead) → HasOldHead b t before → made ≡ head_of b t → AreWords made.levels → IsGroupHead (head_of b t)
head_known b t before made h is levels = head_valid b t before h (subst (λ (x : GroupHead). AreWords x.levels) is levels)

pub put_valid : (b : Blocks) (t : Trees) (before made : GroupHead) → HasOldHead b t before → made ≡ head_of b t → AreWords made.levels → IsGroupHead made
put_valid b t before made h is levels = subst IsGroupHead (sym is) (head_known b t before made h is levels)

module _ (b : Blocks) (t : Trees) (before : GroupHead) (h : HasOldHead b t before) (valid : IsGroupHead (head_of b t)) where
  -- it was that header already
  pub head_stays : head_of b t ≡ before → HasGroup b t
  head_stays same = record { place = h.place; trees = h.trees; valid = valid; head = h.head ∙ ap group_block (sym same) }

  pub nothing_written : WritesHead b b t
  nothing_written = record {
    same_records = refl;
    same_owner = refl;
    same_uuid = refl;
    kept = refl;
    dropped = refl;
    few = omega arith;
    marked = λ n is. inl is;
    head = λ is. inl is;
  }

  -- another header is written in other bytes
  pub bytes_differ : (made : GroupHead) (bytes : List ℕ) → made ≡ head_of b t → not (compare made before) ≡ true → bytes ≡ group_block (head_of b t)
      → bytes ≢ block_at b 0
  bytes_differ made bytes made_is other is same =
      differ_head made before (made_is ∙ one_group (head_of b t) before valid h.old_valid h.place.long h.old_long (sym is ∙ same ∙ h.head)) other

  module _ (bytes : List ℕ) (is : bytes ≡ group_block (head_of b t)) where
    abbrev now : Blocks
    now = with_block b 0 bytes

    same_roots : (i : ℕ) → HaveSameRoots i t t
    same_roots zero = refl
    same_roots (suc zero) = refl
    same_roots (suc (suc zero)) = refl
    same_roots (suc (suc (suc i))) = tt

    zero_alone : (free : Bool) → free ≡ false → (n : ℕ) → Contains (if free then [] else 0 ∷ []) n → n ≡ 0
    zero_alone true lie n within = absurd cc
    zero_alone false own n within = sym (only_member 0 n within)

    stays : (i : ℕ) → PartStays b t now t i
    stays i =
        stays_part b now t t (block_zero b) (block_zero b) i (part_in b t h.trees i) (changes_block_zero b bytes)
        (λ n mine inside.
        let used = h.trees.parted.used i n mine in
        absurd (omega (arith, used.from, zero_alone (is_free b 0) h.own_block n inside)))
        (same_roots i)

    same_size : pool_size now ≡ pool_size b
    same_size = length-set b.current 0 bytes

    trees_stay : HasGroupTrees now t
    trees_stay =
        let space = stays 0 in
        let rmap = stays 1 in
        let counts = stays 2 in
        record {
          space = space.0;
          rmap = rmap.0;
          counts = counts.0;
          parted = parted_same now (parts_of b t) (parts_of now t) (λ i. let stay = stays i in stay.2)
              (stays_parted_beside_zero b bytes (parts_of b t) h.trees.parted);
          pool = same_size ∙ h.trees.pool;
        }

    pub head_written : HasGroup now t
    head_written = record {
      place = record { first = h.place.first; long = h.place.long; kept_map = h.place.kept_map };
      trees = trees_stay;
      valid = valid;
      head = block_written b 0 bytes (omega (arith, h.trees.pool)) ∙ is;
    }

    pub zero_written : bytes ≢ block_at b 0 → WritesHead b now t
    zero_written fresh =
        let space = stays 0 in
        let rmap = stays 1 in
        let counts = stays 2 in
        record {
          same_records = λ i. record {
            by_block = space.1.0 i;
            by_size = space.1.1 i;
            reverse = rmap.1 i;
            reference = counts.1 i;
          };
          same_owner = refl;
          same_uuid = refl;
          kept = refl;
          dropped = refl;
          few = changed_more b 0 bytes;
          marked = λ n marks. ⊎_elim inr
              (λ (other : n ≢ 0). inl (sym (get_or-set_other b.changed 0 n true false other) ∙ marks))
              (cases_eq n 0);
          head = λ marks. inr (λ same. fresh (sym (block_written b 0 bytes (omega (arith, h.trees.pool))) ∙ same));
        }
