-- Sound trees side by side, a sound node and what is below it, and a sound leaf.
use Rattle.std.proofs.Common.{◌≡◌, ℕ, zero, suc, ◌+◌, ◌≤◌, ◌==◌, Bool, true, false, if◌then◌else◌, Option, List, [], ◌∷◌, ◌++◌, length, refl, sym, ap, ◌∙◌, subst, arith, ⊎_elim}
use Rattle.std.proofs.lemmas.List.{append-nil, append_assoc, get_or_append_left, length-append}
use Rattle.std.proofs.lemmas.Bool.{cases_eq, eq-eqb, ne_eqb}
use Rattle.std.specs.List.{flat_map, last_or}
use Rattle.xr_pool.specs.Bits.{has_bit}
use Rattle.xr_kinds.specs.Form.{Form, IsForm}
use Rattle.xr_pool.specs.Overlay.{Blocks, block_at}
use Rattle.xr_block.specs.Rows.{min_records, leaves_from, rows_from}
use Rattle.xr_block.specs.Tree.{AreRecords, blocks_of, records_of}
use Rattle.xr_block.specs.TreeBlock.{records_in}
use Rattle.xr_verify.specs.Visits.{AreFresh, AreMarked, AreSound, AreTrees, AreVisited, IsVisited, children, is_end, IsEntered, last_below, mark, HasChildren, HasOwnKeys}
use Rattle.xr_verify.proofs.VisitLemmas.{records_append, times_blocks, trees_apart, trees_joined}
use Rattle.xr_block.specs.TimesLaws.{times-append}
use Rattle.xr_block.specs.Times.{times}

pub records_front : {X : Type 0} (form : Form X) (xs ys : List X) → AreRecords form (xs ++ ys) → AreRecords form xs
records_front form xs ys all =
    let longer : length xs ≤ length (xs ++ ys) = omega (arith, length-append xs ys) in
    record {
      valid = λ k d within. subst (λ (x : _). form.is_valid x ≡ true) (get_or_append_left xs ys d k within) (all.valid k d (omega (arith, within, longer)));
      ascend = λ i j d before within.
          rw (← get_or_append_left xs ys d i (omega arith), ← get_or_append_left xs ys d j within) (all.ascend i j d before (omega (arith, within, longer)));
      agree = λ i j d before within.
          rw (← get_or_append_left xs ys d i (omega arith), ← get_or_append_left xs ys d j within) (all.agree i j d before (omega (arith, within, longer)));
      few = omega (arith, longer, all.few);
    }

-- the first of some sound trees
pub sound_front : {X : Type 0} (form : Form X) (laws : IsForm form) (b : Blocks) (least level : ℕ) (left : Option ℕ) (last : Bool) (xs ys seen : List ℕ) (noted : List X)
    → HasChildren least level → is_end ys ≡ false → AreSound form b least level left last (xs ++ ys) seen noted → AreSound form b least level left false xs seen noted
sound_front form laws b least level left last xs ys seen noted fits more sound = record {
  trees = (trees_apart form b least level left last xs ys laws fits more sound.trees).0;
  fresh = λ n. omega (arith, times_blocks form b n level xs ys, sound.fresh n);
  records = records_front form (noted ++ records_of form b level xs) (records_of form b level ys)
      (subst (AreRecords form) (ap (λ (rs : List _). noted ++ rs) (records_append form b level xs ys)
      ∙ sym (append_assoc noted (records_of form b level xs) (records_of form b level ys))) sound.records);
}

module _ {X : Type 0} (form : Form X) (laws : IsForm form) (b : Blocks) (least level : ℕ) (left : Option ℕ) (last : Bool) (xs ys seen now : List ℕ) (noted : List X) (fits : HasChildren least level) (more : is_end ys ≡ false) (marked : AreMarked seen (blocks_of form b level xs) now) where
  front : List X
  front = records_of form b level xs

  records_are : noted ++ records_of form b level (xs ++ ys) ≡ noted ++ front ++ records_of form b level ys
  unfolding front
  records_are = ap (λ (rs : List X). noted ++ rs) (records_append form b level xs ys) ∙ sym (append_assoc noted front (records_of form b level ys))

  pub sound_apart : AreSound form b least level left last (xs ++ ys) seen noted
      → AreSound form b least level left false xs seen noted
      × AreSound form b least level (last_or left xs) last ys now (noted ++ records_of form b level xs)
  unfolding front
  sound_apart sound =
      let trees = trees_apart form b least level left last xs ys laws fits more sound.trees in (
        sound_front form laws b least level left last xs ys seen noted fits more sound,
        record {
          trees = trees.1;
          fresh = λ n. omega (arith, times_blocks form b n level xs ys, sound.fresh n, marked.marks n);
          records = subst (AreRecords form) records_are sound.records;
        },
      )

  pub sound_joined : AreSound form b least level left false xs seen noted
      → AreSound form b least level (last_or left xs) last ys now (noted ++ records_of form b level xs)
      → AreSound form b least level left last (xs ++ ys) seen noted
  unfolding front
  sound_joined first rest = record {
    trees = trees_joined form b least level left last xs ys laws fits more first.trees rest.trees;
    fresh = λ n. omega (arith, times_blocks form b n level xs ys, rest.fresh n, marked.marks n);
    records = subst (AreRecords form) (sym records_are) rest.records;
  }

unmarked : (seen : List ℕ) (n : ℕ) (bit : Bool) → has_bit seen n ≡ bit → mark seen n ≡ 0 → bit ≡ false
unmarked seen n true is none = let lie : 1 ≡ 0 = ap (λ (test : Bool). if test then 1 else 0) (sym is) ∙ none in absurd (omega (arith, lie))
unmarked seen n false is none = refl

marked_once : (n : ℕ) → times n (n ∷ []) ≡ 1
marked_once n = rw (eq-eqb n n refl) refl

pub one_at_most : (test : Bool) → (if test then 1 else 0) ≤ 1
one_at_most true = omega arith
one_at_most false = omega arith

-- a block that wasn't marked is fresh
once_fresh : (seen : List ℕ) (n : ℕ) → mark seen n ≡ 0 → AreFresh seen (n ∷ [])
once_fresh seen n none k = ⊎_elim
    (λ (same : n ≡ k).
    let here : mark seen k ≡ 0 = ap (mark seen) (sym same) ∙ none in omega (arith, here, one_at_most (n == k)))
    (λ (other : n ≡ k → ⊥).
    let zero_times : times k (n ∷ []) ≡ 0 = rw (ne_eqb n k other) refl in omega (arith, zero_times, one_at_most (has_bit seen k)))
    (cases_eq n k)

-- a block alone, by which the tree below it is entered
module _ {X : Type 0} (form : Form X) (laws : IsForm form) (b : Blocks) (least : ℕ) (left : Option ℕ) (last : Bool) (n : ℕ) (seen : List ℕ) (noted : List X) where
  row_alone : (level : ℕ) → IsVisited form b least level left last n → AreVisited form b least level left last (n ∷ [])
  unfolding AreVisited
  row_alone level visited = (visited, tt)

  alone : (level : ℕ) → AreVisited form b least level left last (n ∷ []) → IsVisited form b least level left last n
  unfolding AreVisited
  alone level visited = visited.0

  entered : (level : ℕ) → IsVisited form b least level left last n → times n (blocks_of form b level (n ∷ [])) + mark seen n ≤ 1
      → 1 ≤ times n (blocks_of form b level (n ∷ [])) → IsEntered form b least level left last n seen
  entered level visited fresh some = record {
    used = visited.used;
    unmarked = unmarked seen n (has_bit seen n) refl (omega (arith, fresh, some));
    tested = visited.tested;
    linked = visited.linked;
  }

  visited_if : (level : ℕ) → IsEntered form b least level left last n seen → HasOwnKeys form b level n → IsVisited form b least level left last n
  visited_if level entered named = record {
    used = entered.used;
    tested = entered.tested;
    linked = entered.linked;
    named = named;
  }

  mark_none : (level : ℕ) → IsEntered form b least level left last n seen → mark seen n ≡ 0
  mark_none level entered = rw entered.unmarked refl

  pub records_alone : records_of form b zero (n ∷ []) ≡ records_in form (block_at b n)
  unfolding leaves_from
  records_alone = append-nil (records_in form (block_at b n))

  pub blocks_alone : blocks_of form b zero (n ∷ []) ≡ n ∷ []
  unfolding rows_from
  blocks_alone = refl

  first_once : (level : ℕ) → 1 ≤ times n (blocks_of form b level (n ∷ []))
  unfolding rows_from
  first_once zero = omega (arith, marked_once n)
  first_once (suc level) =
      omega (arith, marked_once n, times-append n (n ∷ []) (blocks_of form b level (flat_map (children form b) (n ∷ []))))

  pub sound_entered : (level : ℕ) → AreSound form b least level left last (n ∷ []) seen noted → IsEntered form b least level left last n seen
  unfolding AreTrees
  sound_entered zero sound = entered zero (alone zero sound.trees) (sound.fresh n) (first_once zero)
  sound_entered (suc level) sound = entered (suc level) (alone (suc level) sound.trees.0) (sound.fresh n) (first_once (suc level))

  -- a leaf
  pub leaf_entered : AreSound form b least zero left last (n ∷ []) seen noted
      → IsEntered form b least zero left last n seen × AreRecords form (noted ++ records_in form (block_at b n))
  unfolding AreTrees
  leaf_entered sound =
      let once : times n (blocks_of form b zero (n ∷ [])) ≡ 1 = ap (times n) blocks_alone ∙ marked_once n in (
        entered zero (alone zero sound.trees) (sound.fresh n) (omega (arith, once)),
        subst (λ (rs : List X). AreRecords form (noted ++ rs)) records_alone sound.records,
      )

  pub leaf_sound : IsEntered form b least zero left last n seen → AreRecords form (noted ++ records_in form (block_at b n))
      → AreSound form b least zero left last (n ∷ []) seen noted
  unfolding AreTrees
  leaf_sound entered records = record {
    trees = row_alone zero (visited_if zero entered tt);
    fresh = λ k. subst (λ (blocks : List ℕ). times k blocks + mark seen k ≤ 1) (sym blocks_alone) (once_fresh seen n (mark_none zero entered) k);
    records = subst (λ (rs : List X). AreRecords form (noted ++ rs)) (sym records_alone) records;
  }

  -- a node, whose block is marked before those below it
  module _ (level : ℕ) (now : List ℕ) (marked : AreMarked seen (n ∷ []) now) where
    children_alone : flat_map (children form b) (n ∷ []) ≡ children form b n
    children_alone = append-nil (children form b n)

    pub records_node : records_of form b (suc level) (n ∷ []) ≡ records_of form b level (children form b n)
    unfolding leaves_from
    records_node = ap (λ (row : List ℕ). records_of form b level row) children_alone

    pub blocks_node : (k : ℕ) → times k (blocks_of form b (suc level) (n ∷ [])) ≡ times k (n ∷ []) + times k (blocks_of form b level (children form b n))
    unfolding rows_from
    blocks_node k =
        times-append k (n ∷ []) (blocks_of form b level (flat_map (children form b) (n ∷ [])))
        ∙ ap (λ (row : List ℕ). times k (n ∷ []) + times k (blocks_of form b level row)) children_alone

    pub node_entered : AreSound form b least (suc level) left last (n ∷ []) seen noted
        → IsEntered form b least (suc level) left last n seen × HasOwnKeys form b (suc level) n
        × AreSound form b (min_records form level) level (last_below form b left) last (children form b n) now noted
    unfolding AreTrees
    node_entered sound =
        let visited = alone (suc level) sound.trees.0 in (
          entered (suc level) visited (sound.fresh n) (omega (arith, blocks_node n, marked_once n)),
          visited.named,
          record {
            trees = subst (λ (row : List ℕ). AreTrees form b (min_records form level) level (last_below form b left) last row) children_alone sound.trees.1;
            fresh = λ k. omega (arith, blocks_node k, sound.fresh k, marked.marks k);
            records = subst (λ (rs : List X). AreRecords form (noted ++ rs)) records_node sound.records;
          },
        )

    pub node_sound : IsEntered form b least (suc level) left last n seen → HasOwnKeys form b (suc level) n
        → AreSound form b (min_records form level) level (last_below form b left) last (children form b n) now noted
        → AreSound form b least (suc level) left last (n ∷ []) seen noted
    unfolding AreTrees
    node_sound entered named below = record {
      trees = (
        row_alone (suc level) (visited_if (suc level) entered named),
        subst (λ (row : List ℕ). AreTrees form b (min_records form level) level (last_below form b left) last row) (sym children_alone) below.trees,
      );
      fresh = λ k. omega (arith, blocks_node k, below.fresh k, marked.marks k);
      records = subst (λ (rs : List X). AreRecords form (noted ++ rs)) (sym records_node) below.records;
    }
