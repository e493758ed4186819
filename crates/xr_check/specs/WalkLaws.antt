-- A walk over the records of a tree beside a list, as far as both hold the same, goes on with the next record of the tree.
use Rattle.std.proofs.Common.{◌≡◌, ℕ, ◌+◌, ◌-◌, ◌<◌, ◌≤◌, List, [], ◌∷◌, length, get_or, take, Option, Some, None, sym, ap, ◌∙◌, subst, ⊎_elim, arith}
use Rattle.std.proofs.lemmas.Bool.{cases_lt}
use Rattle.std.proofs.lemmas.List.{get_or_default, take_more_same}
use Rattle.std.proofs.lemmas.List.Elements.{Contains-get_or}
use Rattle.std.specs.List.{Contains}
use Rattle.xr_base.specs.declared.address.Addr.{Addr}
use Rattle.xr_check.specs.TreeOrders.{IsTreeOrder}
use Rattle.xr_group.specs.Group.{AreGroups, GroupState}
use Rattle.xr_group.specs.Next.{ComesAfter, IsFirstAfter}

-- so many records of the tree are those of the list, and the last of them is known
pub record HasWalked {X : Type 0} (tree defined : List X) (n : ℕ) (last : Option X) : Type 0 where
  pub within : n ≤ length tree
  pub same : take n tree ≡ take n defined
  pub none : n ≡ 0 → last ≡ None
  pub some : (k : ℕ) (d : X) → k + 1 ≡ n → last ≡ Some (get_or tree k d)

some_of : {X : Type 0} (xs : List X) → 0 < length xs → X
some_of [] some = absurd (omega (arith, some))
some_of (x ∷ xs) some = x

module _ {X : Type 0} (records : GroupState → List X) (Before : X → X → Type 0) (start : X → Addr) (order : IsTreeOrder records Before start)
    (g : GroupState) (are : AreGroups g) (defined : List X) (n : ℕ) (last : Option X) (walked : HasWalked (records g) defined n last) where
  abbrev tree : List X
  tree = records g

  -- the records from there on come after the last
  comes_after : (k : ℕ) (d : X) → n ≤ k → k < length tree → ComesAfter Before last (get_or tree k d)
  comes_after k d from within = ⊎_elim
      (λ (first : n < 1). subst (λ (l : Option X). ComesAfter Before l (get_or tree k d)) (sym (walked.none (omega (arith, first)))) tt)
      (λ (later : 1 ≤ n). subst (λ (l : Option X). ComesAfter Before l (get_or tree k d)) (sym (walked.some (n - 1) d (omega (arith, later))))
      (order.rising g are (n - 1) k d (omega (arith, later, from)) within))
      (cases_lt n 1)

  -- and those before don't
  not_after : (k : ℕ) (d : X) → k < n → ¬ (ComesAfter Before last (get_or tree k d))
  not_after k d below after =
      let le = walked.within in
      let low : Before (get_or tree (n - 1) d) (get_or tree k d) =
      subst (λ (l : Option X). ComesAfter Before l (get_or tree k d)) (walked.some (n - 1) d (omega (arith, below))) after in ⊎_elim
      (λ (less : k < n - 1). order.irreflexive (get_or tree k d)
      (order.transitive (get_or tree k d) (get_or tree (n - 1) d) (get_or tree k d) (order.rising g are k (n - 1) d less (omega (arith, below, le))) low))
      (λ (not_less : n - 1 ≤ k). order.irreflexive (get_or tree k d)
      (subst (λ (j : ℕ). Before (get_or tree j d) (get_or tree k d)) (let e : n - 1 ≡ k = omega (arith, below, not_less) in e) low))
      (cases_lt k (n - 1))

  -- where none comes after it, all have been passed
  pub all_passed : ((x : X) → Contains tree x → ¬ (ComesAfter Before last x)) → n ≡ length tree
  all_passed none =
      let le = walked.within in ⊎_elim
      (λ (less : n < length tree). let d = some_of tree (omega (arith, less)) in
      absurd (none (get_or tree n d) (Contains-get_or tree n d less) (comes_after n d (omega arith) less)))
      (λ (not_less : length tree ≤ n). omega (arith, le, not_less))
      (cases_lt n (length tree))

  -- else the first that does is the next of the tree
  pub next_is : (x : X) → IsFirstAfter Before tree last x → (n < length tree) × (get_or tree n x ≡ x)
  next_is x is =
      let at = is.held in
      let below = at.1 in
      let from : n ≤ at.0 = ⊎_elim
      (λ (less : at.0 < n). absurd (not_after at.0 x less (subst (ComesAfter Before last) (sym at.2) is.follows)))
      (λ (not_less : n ≤ at.0). not_less)
      (cases_lt at.0 n) in ⊎_elim
      (λ (less : n < at.0). let within : n < length tree = omega (arith, less, below) in
      absurd (is.first (get_or tree n x) (Contains-get_or tree n x within) (comes_after n x (omega arith) within)
      (subst (λ (y : X). Before (get_or tree n x) y) at.2 (order.rising g are n at.0 x less below))))
      (λ (not_less : at.0 ≤ n). let here : at.0 ≡ n = omega (arith, from, not_less) in
      (omega (arith, here, below), subst (λ (k : ℕ). get_or tree k x ≡ x) here at.2))
      (cases_lt n at.0)

  -- one record more is the same
  pub one_more : (held wanted : X) → IsFirstAfter Before tree last held → n < length defined → wanted ≡ get_or defined n wanted → held ≡ wanted
      → HasWalked tree defined (n + 1) (Some held)
  one_more held wanted is within at same =
      let next = next_is held is in
      let inside = next.0 in record {
        within = omega (arith, inside);
        same = take_more_same tree defined n held inside within walked.same
            (next.1 ∙ same ∙ at ∙ get_or_default defined n wanted held within);
        none = λ zero. absurd (omega (arith, zero));
        some = λ k d one. ap Some (sym (
            ap (λ (j : ℕ). get_or tree j d) (let e : k ≡ n = omega (arith, one) in e) ∙ get_or_default tree n d held inside ∙ next.1));
      }
