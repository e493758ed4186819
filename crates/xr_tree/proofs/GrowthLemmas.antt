-- What it takes to change a tree that has only records of a family, and that the tree stays such.
use Rattle.std.proofs.Common.{◌≡◌, ◌⊎◌, ℕ, zero, suc, ◌+◌, ◌<◌, ◌≤◌, Bool, true, false, if◌then◌else◌, List, length, sym, ap, ◌∙◌, subst, ⊎_elim, arith}
use Rattle.std.proofs.Math.Logic.{⊎_map}
use Rattle.std.proofs.lemmas.List.Elements.{All-contains}
use Rattle.std.specs.List.{All, Contains}
use Rattle.std.specs.Ordering.{is_eq}
use Rattle.std.specs.declared.cmp.Ordering.TheVariants.{Less}
use Rattle.xr_kinds.specs.Form.{Form, IsForm}
use Rattle.xr_pool.specs.Overlay.{Blocks, block_at, free_count}
use Rattle.xr_block.specs.Tree.{AreRecords, IsTreeIn, tree_records}
use Rattle.xr_block.specs.TreeBlock.{entries_in}
use Rattle.xr_change.specs.Sets.{inserted, removed, replaced}
use Rattle.xr_change.specs.Paths.{blocks_wanted, child_of, full_on_path, is_full, path_index}
use Rattle.xr_change.specs.SetLaws.{inserted_all, inserted_length, inserted_rules, pair_in, removed_all, removed_at_most, replaced_all, replaced_length, replaced_rules, untied_cases}
use Rattle.xr_tree.specs.Growth.{IsBeside, IsFamily, IsGrown, MayCome}

pub one_at_most : (t : Bool) → (if t then 1 else 0) ≤ 1
one_at_most true = omega arith
one_at_most false = omega arith

module _ {X : Type 0} (form : Form X) (b : Blocks) (r : X) where
  full_few : (level n : ℕ) → full_on_path form b level n r ≤ level + 1
  unfolding full_on_path
  full_few zero n = omega (arith, one_at_most (is_full form b 0 n))
  full_few (suc level) n =
      let child : ℕ = child_of form b n (path_index form r (entries_in form (block_at b n))) in
      omega (arith, one_at_most (is_full form b (suc level) n), full_few level child)

  -- an insertion takes at most a block for each level, and one more where the root is full
  pub blocks_few : (level root : ℕ) → blocks_wanted form b level root r ≤ level + 2
  blocks_few level root = omega (arith, one_at_most (is_full form b level root), full_few level root)

module _ {X : Type 0} (form : Form X) (laws : IsForm form) (family : X → Bool) (b : Blocks) (root level count spare : ℕ)
    (known : IsGrown form family b root level count spare) where
  abbrev held : List X
  held = tree_records form b root level

  module _ (agrees : IsFamily form family) where
    -- two records of the family agree if one is below the other
    both_agree : (x y : X) → family x ≡ true → family y ≡ true → (form.order x y ≡ Less) ⊎ (form.order y x ≡ Less) → form.agree x y ≡ true
    both_agree x y one other =
        ⊎_elim (agrees x y one other) (λ (less : form.order y x ≡ Less). laws.agrees_both x y ∙ agrees y x other one less)

    member : (x : X) → Contains held x → family x ≡ true
    member x within = All-contains (λ (y : X). family y ≡ true) held x known.members within

    pub may_insert : (r : X) → MayCome form family held r → count < form.most → AreRecords form (inserted form.order r held)
    may_insert r may few =
        let other : (x : X) → Contains held x → is_eq (form.order x r) ≡ false = λ x within.
        All-contains (λ (y : X). is_eq (form.order y r) ≡ false) held x may.other within in
        inserted_rules form laws held r known.tree.records (record {
          valid = may.valid;
          other = other;
          agree = λ x within. both_agree x r (member x within) may.member (untied_cases form.order laws.total x r (other x within));
          few = omega (arith, few, known.few);
        })

    pub may_replace : (old new : X) → IsBeside form held old new → form.is_valid new ≡ true → family new ≡ true
        → AreRecords form (replaced form.order old new held)
    may_replace old new beside valid of_family =
        let rules = known.tree.records in
        replaced_rules form laws held old new rules (record {
          held = beside.held;
          valid = valid;
          place = beside.place;
          agree = λ x within differ. both_agree x new (member x within) of_family (⊎_elim
              (λ (same : x ≡ old). absurd (differ same))
              (⊎_map (beside.place.below x within) (beside.place.after x within))
              (pair_in (λ (a b : X). form.order a b ≡ Less) held x old rules.ascend within beside.held));
        })

  module _ (after : Blocks) (new_root new_level : ℕ) (tree : IsTreeIn form after new_root new_level) where
    grown_so : (xs : List X) (most left : ℕ) → tree_records form after new_root new_level ≡ xs → All (λ (x : X). family x ≡ true) xs → length xs ≤ most
        → left ≤ free_count after → IsGrown form family after new_root new_level most left
    grown_so xs most left set members few room = record {
      tree = tree;
      members = subst (All (λ (x : X). family x ≡ true)) (sym set) members;
      few = omega (arith, ap length set, few);
      room = room;
    }

    pub inserted_grown : (r : X) (left : ℕ) → family r ≡ true → tree_records form after new_root new_level ≡ inserted form.order r held
        → left ≤ free_count after → IsGrown form family after new_root new_level (count + 1) left
    inserted_grown r left member set = grown_so (inserted form.order r held) (count + 1) left set
        (inserted_all form.order r (λ (x : X). family x ≡ true) held known.members member)
        (omega (arith, known.few, inserted_length form.order r held))

    module _ (free : free_count b ≤ free_count after) where
      pub removed_grown : (r : X) → tree_records form after new_root new_level ≡ removed form.order r held
          → IsGrown form family after new_root new_level count spare
      removed_grown r set = grown_so (removed form.order r held) count spare set
          (removed_all form.order r (λ (x : X). family x ≡ true) held known.members)
          (omega (arith, known.few, removed_at_most form.order r held)) (omega (arith, known.room, free))

      pub replaced_grown : (old new : X) → family new ≡ true → tree_records form after new_root new_level ≡ replaced form.order old new held
          → IsGrown form family after new_root new_level count spare
      replaced_grown old new member set = grown_so (replaced form.order old new held) count spare set
          (replaced_all form.order old (λ (x : X). family x ≡ true) new held known.members member)
          (omega (arith, known.few, replaced_length form.order old new held)) (omega (arith, known.room, free))
