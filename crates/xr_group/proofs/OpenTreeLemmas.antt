-- Trees are opened one after the other over the marks of those before.
use Rattle.std.proofs.Common.{◌≡◌, ◌↔◌, ℕ, false, List, get_or, Result, Ok, Err, refl, subst}
use Rattle.std.proofs.lemmas.Bool.{false_from_ne_true}
use Rattle.std.proofs.lemmas.List.{get_or_default}
use Rattle.std.proofs.lemmas.List.Elements.{All-contains}
use Rattle.std.specs.List.{Contains}
use Rattle.std.specs.Prelude.{IfErr, IfOk, IsOk}
use Rattle.xr_block.specs.Trees.{IsOwnTree, Marks, blocks_of_tree}
use Rattle.xr_block.specs.declared.fault.TreeFault.{TreeFault}
use Rattle.xr_block.specs.declared.root.Root.{Root}
use Rattle.xr_group.specs.OpenGroup.{IsNextTree}
use Rattle.xr_group.specs.Opening.{OpensNext}
use Rattle.xr_kinds.specs.Form.{Form}
use Rattle.xr_open.specs.Marked.{AreMarkedBlocks}
use Rattle.xr_open.specs.MarkedLaws.{marks_add_up}
use Rattle.xr_pool.specs.Bits.{has_bit}
use Rattle.xr_pool.specs.Overlay.{Blocks}
use Rattle.xr_verify.specs.Refusals.{RefusesTree}

module _ {X : Type 0} (form : Form X) (b : Blocks) (before : List ℕ) (t : Root) (seen now : List ℕ) (marks : AreMarkedBlocks before seen) where
  own_is_next : IsOwnTree form b t seen → IsNextTree form b before t
  own_is_next own = (
    own.0,
    λ n was mine.
        let out = All-contains (λ (m : ℕ). has_bit seen m ≡ false) (blocks_of_tree form b t) n own.1 mine in
        let marked = (marks n).1 was in absurd cc,
  )

  next_is_own : IsNextTree form b before t → IsOwnTree form b t seen
  next_is_own next = (
    next.0,
    λ k d within.
        let n : ℕ = get_or (blocks_of_tree form b t) k d in
        let held : Contains (blocks_of_tree form b t) n = (k, within, get_or_default (blocks_of_tree form b t) k n d within) in
        false_from_ne_true (has_bit seen n) (λ marked. next.1 n ((marks n).0 marked) held),
  )

  pub opens_next : (result : Result Root TreeFault) → (IsOk result ↔ IsOwnTree form b t seen) → IfErr result (RefusesTree form b t seen)
      → IfOk result (λ tree. tree ≡ t) → IfOk result (λ tree. Marks seen (blocks_of_tree form b tree) now) → OpensNext form b before t now result
  opens_next (Ok tree) right refused is made =
      (is, own_is_next (right.0 refl), marks_add_up seen before (blocks_of_tree form b t) now marks (subst (λ (r : Root). Marks seen (blocks_of_tree form b r) now) is made))
  opens_next (Err fault) right refused is made = (λ next. let lie = right.1 (next_is_own next) in absurd cc, (seen, marks, refused))
