-- Going back over the items of a log.
use Rattle.std.proofs.Common.{◌≡◌, ℕ, zero, suc, ◌≤◌, true, false, List, [], ◌∷◌, ◌++◌, length, drop, reverse, ap, ◌∙◌, refl, sym, arith}
use Rattle.std.specs.List.{flat_map}
use Rattle.std.proofs.lemmas.List.{append-nil, reverse-reverse}
use Rattle.std.proofs.lemmas.Grind.{reverse_onto}
use Rattle.xr_items.specs.declared.item.Item.{Item}
use Rattle.xr_items.specs.declared.item.Item.TheVariants.{Begin}
use Rattle.xr_items.specs.declared.work.Work.{Work}
use Rattle.xr_commit.specs.declared.pending.DoneIds.{DoneIds}
use Rattle.xr_commit.specs.declared.pending.Pending.{Pending}
use Rattle.xr_commit.specs.Done.{IsWalked, WalksOver, has}
use Rattle.xr_commit.specs.Pending.{pending}

-- an intent that isn't done is one more work
pub one_more : (id : ℕ) (work : Work) (later : List Item) (done : DoneIds) (works : List Pending) → false ≡ has done id work → IsWalked later done works
    → IsWalked (Begin id work ∷ later) done (works ++ record { id = id; work = work } ∷ [])
one_more id work later done works waits walked = record {
  works_are = let e = sym (walked.ids id work) ∙ sym waits in rw e (ap (λ all. all ++ record { id = id; work = work } ∷ []) walked.works_are ∙ sym (reverse_onto (pending later) (record { id = id; work = work }) []));
  ids = λ q w. walked.ids q w;
}

-- one that is done is passed over
pub passed_over : (id : ℕ) (work : Work) (later : List Item) (done : DoneIds) (works : List Pending) → true ≡ has done id work → IsWalked later done works
    → IsWalked (Begin id work ∷ later) done works
passed_over id work later done works ended walked = record {
  works_are = let e = sym (walked.ids id work) ∙ sym ended in rw e walked.works_are;
  ids = λ q w. walked.ids q w;
}

module _ {X : Type 0} (f : X → List Item) where
  -- a loop that goes back over the items of some values has these left
  pub record HasWalked (left : ℕ) (xs : List X) (old : DoneIds) (old_works : List Pending) (new : DoneIds) (new_works : List Pending) : Type 0 where
    pub fits : left ≤ length xs
    pub over : WalksOver (flat_map f (drop left xs)) old old_works new new_works

  pub walked_all : (left : ℕ) (xs : List X) (old : DoneIds) (old_works : List Pending) (new : DoneIds) (new_works : List Pending)
      → left ≤ 0 → HasWalked left xs old old_works new new_works → WalksOver (flat_map f xs) old old_works new new_works
  walked_all zero xs old old_works new new_works none all = all.over
  walked_all (suc left) xs old old_works new new_works none all = absurd (omega arith)

pub alone : (items : List Item) → flat_map (λ (item : Item). item ∷ []) items ≡ items
alone [] = refl
alone (item ∷ items) = ap (λ rest. item ∷ rest) (alone items)

pub walk_ends : (items : List Item) (done : DoneIds) (works : List Pending) → IsWalked (items ++ []) done works → reverse works ≡ pending items
walk_ends items done works walked = ap reverse walked.works_are ∙ reverse-reverse (pending (items ++ [])) ∙ ap pending (append-nil items)
