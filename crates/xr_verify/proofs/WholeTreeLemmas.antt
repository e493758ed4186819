-- A root is sound exactly where a tree stands below it of which no block is marked, and what its marks are.
use Rattle.std.proofs.Common.{◌≡◌, ◌↔◌, ℕ, zero, suc, ◌^◌, ◌<◌, ◌≤◌, Bool, true, false, if◌then◌else◌, Option, None, List, [], ◌∷◌, refl, sym, ap, ◌∙◌, subst, arith, ⊎_elim}
use Rattle.std.specs.Bool.{⊤}
use Rattle.std.proofs.lemmas.Bool.{cases_eq}
use Rattle.std.specs.List.{All, Contains}
use Rattle.xr_pool.specs.Bits.{has_bit}
use Rattle.xr_kinds.specs.Form.{Form, IsForm}
use Rattle.xr_pool.specs.Overlay.{Blocks, is_free, pool_size, AreKnown}
use Rattle.xr_block.specs.Tree.{IsTreeIn, IsUsed, least_of_root, tree_blocks}
use Rattle.xr_verify.specs.Visits.{AreMarked, AreSound, mark, HasChildren}
use Rattle.xr_block.specs.TimesLaws.{all_of, distinct_of, each_of, few_of, once_of, times_of, found_in}
use Rattle.xr_verify.proofs.WholeRowLemmas.{rows_many, rows_whole, trees_whole}
use Rattle.xr_block.specs.Times.{times}

mark_clear : (seen : List ℕ) (n : ℕ) (bit : Bool) → has_bit seen n ≡ bit → mark seen n ≡ 0 → bit ≡ false
mark_clear seen n true is none = let lie : 1 ≡ 0 = ap (λ (test : Bool). if test then 1 else 0) (sym is) ∙ none in absurd (omega (arith, lie))
mark_clear seen n false is none = refl

mark_set : (seen : List ℕ) (n : ℕ) (bit : Bool) → has_bit seen n ≡ bit → 1 ≤ mark seen n → bit ≡ true
mark_set seen n true is some = refl
mark_set seen n false is some =
    let none : mark seen n ≡ 0 = ap (λ (test : Bool). if test then 1 else 0) is in absurd (omega (arith, some, none))

mark_same : (seen now : List ℕ) (n : ℕ) (bit other : Bool) → has_bit now n ≡ bit → has_bit seen n ≡ other → mark now n ≡ mark seen n → bit ≡ other
mark_same seen now n bit false is was same = mark_clear now n bit is (same ∙ ap (λ (test : Bool). if test then 1 else 0) was)
mark_same seen now n bit true is was same =
    let one : mark seen n ≡ 1 = ap (λ (test : Bool). if test then 1 else 0) was in mark_set now n bit is (omega (arith, same, one))

mark_small : (bit : Bool) → (if bit then 1 else 0) ≤ 1
mark_small true = omega arith
mark_small false = omega arith

pub root_fits : (level : ℕ) → HasChildren (least_of_root level) level
root_fits zero = tt
root_fits (suc level) = omega arith

-- no block of a tree is marked
abbrev pub AreUnmarked : List ℕ → List ℕ → Type 0
AreUnmarked seen blocks = All (λ (n : ℕ). has_bit seen n ≡ false) blocks

module _ {X : Type 0} (form : Form X) (laws : IsForm form) (b : Blocks) (known : AreKnown b) (root level : ℕ) (seen : List ℕ) where
  blocks : List ℕ
  blocks = tree_blocks form b root level

  pub tree_of : AreSound form b (least_of_root level) level None true (root ∷ []) seen [] → IsTreeIn form b root level × AreUnmarked seen (tree_blocks form b root level)
  unfolding blocks
  tree_of sound =
      let rows = trees_whole form laws b known (least_of_root level) level (root ∷ []) sound.trees in (
        record {
          rows = rows.0;
          records = sound.records;
          distinct = distinct_of blocks (λ n. omega (arith, sound.fresh n));
          owned = all_of (IsUsed (is_free b) (pool_size b)) blocks rows.1;
        },
        all_of (λ (n : ℕ). has_bit seen n ≡ false) blocks (λ n some. mark_clear seen n (has_bit seen n) refl (omega (arith, some, sound.fresh n))),
      )

  -- no tree has more levels than its pool has blocks
  low : IsTreeIn form b root level → level < 2 ^ 16
  unfolding blocks
  low tree =
      let few = few_of blocks (pool_size b) tree.distinct (λ k d within. (tree.owned k d within).below) in
      let many = rows_many form laws b known (least_of_root level) level (root ∷ []) (root_fits level) (omega arith) tree.rows in
      omega (arith, few, many, known.small)

  pub sound_of : IsTreeIn form b root level → AreUnmarked seen (tree_blocks form b root level) → AreSound form b (least_of_root level) level None true (root ∷ []) seen []
  unfolding blocks
  sound_of tree unmarked = record {
    trees = rows_whole form laws b known (least_of_root level) level (root ∷ []) (low tree) (each_of (IsUsed (is_free b) (pool_size b)) blocks tree.owned) tree.rows;
    fresh = λ n.
        let once = once_of blocks tree.distinct n in
        ⊎_elim
        (λ (none : times n blocks ≡ 0). omega (arith, none, mark_small (has_bit seen n)))
        (λ (some : times n blocks ≡ 0 → ⊥).
        let clear : has_bit seen n ≡ false = each_of (λ (m : ℕ). has_bit seen m ≡ false) blocks unmarked n (omega (arith, some)) in
        let zero_mark : mark seen n ≡ 0 = ap (λ (test : Bool). if test then 1 else 0) clear in
        omega (arith, once, zero_mark))
        (cases_eq (times n blocks) 0);
    records = tree.records;
  }

-- what is marked, and what isn't
pub marked_of : (seen blocks now : List ℕ) → AreMarked seen blocks now → (n : ℕ) → Contains blocks n → has_bit now n ≡ true
marked_of seen blocks now marked n found =
    mark_set now n (has_bit now n) refl (omega (arith, marked.marks n, times_of blocks n found))

pub others_of : (seen blocks now : List ℕ) → AreMarked seen blocks now → (n : ℕ) → ¬ (Contains blocks n) → has_bit now n ≡ has_bit seen n
others_of seen blocks now marked n without = ⊎_elim
    (λ (none : times n blocks ≡ 0). mark_same seen now n (has_bit now n) (has_bit seen n) refl refl (omega (arith, marked.marks n, none)))
    (λ (some : times n blocks ≡ 0 → ⊥). absurd (without (found_in blocks n (omega (arith, some)))))
    (cases_eq (times n blocks) 0)

-- what a visit of the root answers
pub root_rules : {X : Type 0} (form : Form X) (laws : IsForm form) (b : Blocks) (known : AreKnown b) (root level : ℕ) (seen : List ℕ) (number least : ℕ) (left : Option ℕ) (last : Bool) (Done : Type 0)
    → number ≡ root → least ≡ least_of_root level → left ≡ None → last ≡ true
    → (Done ↔ (AreSound form b least level left last (number ∷ []) seen [] × ⊤)) → Done ↔ (IsTreeIn form b root level × AreUnmarked seen (tree_blocks form b root level))
root_rules form laws b known root level seen number least left last Done same_number same_least none end rules = (
  λ done.
      let first = subst (λ (n : ℕ). AreSound form b least level left last (n ∷ []) seen []) same_number (rules.0 done).0 in
      let second = subst (λ (m : ℕ). AreSound form b m level left last (root ∷ []) seen []) same_least first in
      let third = subst (λ (o : Option ℕ). AreSound form b (least_of_root level) level o last (root ∷ []) seen []) none second in
      tree_of form laws b known root level seen (subst (λ (test : Bool). AreSound form b (least_of_root level) level None test (root ∷ []) seen []) end third),
  λ both.
      let fourth = subst (λ (test : Bool). AreSound form b (least_of_root level) level None test (root ∷ []) seen []) (sym end)
      (sound_of form laws b known root level seen both.0 both.1) in
      let third = subst (λ (o : Option ℕ). AreSound form b (least_of_root level) level o last (root ∷ []) seen []) (sym none) fourth in
      let second = subst (λ (m : ℕ). AreSound form b m level left last (root ∷ []) seen []) (sym same_least) third in
      rules.1 (subst (λ (n : ℕ). AreSound form b least level left last (n ∷ []) seen []) (sym same_number) second, tt),
)
