-- Where the records of a tree and a list go on otherwise after the same front, they differ, and where both end there, they are the same.
use Rattle.std.proofs.Common.{◌≡◌, ℕ, ◌+◌, ◌<◌, ◌≤◌, List, [], ◌∷◌, ◌++◌, length, get_or, take, drop, Option, sym, ap, ◌∙◌, subst, arith}
use Rattle.std.proofs.lemmas.List.{drop_all, drop_more, take-append-drop, take_all}
use Rattle.std.specs.List.{Contains}
use Rattle.xr_base.specs.declared.address.Addr.{Addr}
use Rattle.xr_check.specs.Differences.{DiffersAt, HeadsDiffer, IsLesserStart}
use Rattle.xr_check.specs.TreeOrders.{IsTreeOrder}
use Rattle.xr_check.specs.WalkLaws.{HasWalked, all_passed, next_is}
use Rattle.xr_group.specs.Group.{AreGroups, GroupState}
use Rattle.xr_group.specs.Next.{ComesAfter, IsFirstAfter}

module _ {X : Type 0} (records : GroupState → List X) (Before : X → X → Type 0) (start : X → Addr) (order : IsTreeOrder records Before start)
    (g : GroupState) (are : AreGroups g) (defined : List X) (n : ℕ) (last : Option X) (walked : HasWalked (records g) defined n last) where
  abbrev tree : List X
  tree = records g

  -- a difference at that place
  differs_there : (key : Addr) → HeadsDiffer Before start (drop n tree) (drop n defined) key → DiffersAt Before start tree defined key
  differs_there key heads = record {
    front = take n tree;
    tree_rest = drop n tree;
    defined_rest = drop n defined;
    tree_is = sym (take-append-drop n tree);
    defined_is = sym (take-append-drop n defined) ∙ ap (λ (front : List X). front ++ drop n defined) (sym walked.same);
    heads = heads;
  }

  -- the record of the list has none beside it
  pub list_goes_on : ((x : X) → Contains tree x → ¬ (ComesAfter Before last x)) → (wanted : X) (key : Addr) → n < length defined → wanted ≡ get_or defined n wanted
      → key ≡ start wanted → DiffersAt Before start tree defined key
  list_goes_on none wanted key within is starts =
      let passed : n ≡ length tree = all_passed records Before start order g are defined n last walked none in
      differs_there key
      (subst (λ (xs : List X). HeadsDiffer Before start xs (drop n defined) key) (sym (drop_all n tree (omega (arith, passed))))
      (subst (λ (ys : List X). HeadsDiffer Before start [] ys key) (sym (drop_more defined n wanted within)) (starts ∙ ap start is)))

  -- the record of the tree has none beside it
  pub tree_goes_on : (held : X) (key : Addr) → IsFirstAfter Before tree last held → length defined ≤ n → key ≡ start held → DiffersAt Before start tree defined key
  tree_goes_on held key is past starts =
      let next = next_is records Before start order g are defined n last walked held is in
      differs_there key
      (subst (λ (xs : List X). HeadsDiffer Before start xs (drop n defined) key) (sym (drop_more tree n held next.0))
      (subst (λ (ys : List X). HeadsDiffer Before start (get_or tree n held ∷ drop (n + 1) tree) ys key) (sym (drop_all n defined past)) (starts ∙ ap start (sym next.1))))

  pub both_go_on : (held wanted : X) (key : Addr) → IsFirstAfter Before tree last held → n < length defined → wanted ≡ get_or defined n wanted
      → IsLesserStart Before start held wanted key → DiffersAt Before start tree defined key
  both_go_on held wanted key is within at lesser =
      let next = next_is records Before start order g are defined n last walked held is in
      differs_there key
      (subst (λ (xs : List X). HeadsDiffer Before start xs (drop n defined) key) (sym (drop_more tree n held next.0))
      (subst (λ (ys : List X). HeadsDiffer Before start (get_or tree n held ∷ drop (n + 1) tree) ys key) (sym (drop_more defined n wanted within))
      (subst (λ (x : X). IsLesserStart Before start x (get_or defined n wanted) key) (sym next.1)
      (subst (λ (y : X). IsLesserStart Before start held y key) at lesser))))

  -- both end there
  pub both_end : ((x : X) → Contains tree x → ¬ (ComesAfter Before last x)) → length defined ≤ n → tree ≡ defined
  both_end none past =
      let passed : n ≡ length tree = all_passed records Before start order g are defined n last walked none in
      sym (take_all n tree (omega (arith, passed))) ∙ walked.same ∙ take_all n defined past
