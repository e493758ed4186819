-- A walk over the records of a tree prints each of them.
use Rattle.std.proofs.Common.{◌≡◌, ℕ, ◌+◌, ◌-◌, ◌<◌, List, [], ◌∷◌, ◌++◌, length, get_or, take, Option, Some, None}
use Rattle.std.proofs.Common.{refl, sym, ap, ◌∙◌, arith}
use Rattle.std.proofs.lemmas.List.{append-nil, flat_map_more, length-append, take_all, take_more}
use Rattle.std.proofs.lemmas.List.Folds.{length-flat_map-take}
use Rattle.std.specs.List.{Contains, flat_map}
use Rattle.xr_base.specs.declared.address.Addr.{Addr}
use Rattle.xr_check.specs.TreeOrders.{IsTreeOrder}
use Rattle.xr_check.specs.WalkLaws.{HasWalked, all_passed, next_is, one_more}
use Rattle.xr_group.specs.Group.{AreGroups, GroupState}
use Rattle.xr_group.specs.Next.{ComesAfter, IsFirstAfter}

-- the records of the tree so far were printed, the last of them last
pub record HasPrinted {X : Type 0} (line : X → List ℕ) (tree : List X) (old now : List ℕ) (last : Option X) : Type 0 where
  pub n : ℕ
  pub walked : HasWalked tree tree n last
  pub printed : now ≡ old ++ flat_map line (take n tree)

module _ {X : Type 0} (records : GroupState → List X) (Before : X → X → Type 0) (start : X → Addr) (order : IsTreeOrder records Before start)
    (g : GroupState) (are : AreGroups g) (line : X → List ℕ) (old now : List ℕ) (last : Option X)
    (so_far : HasPrinted line (records g) old now last) where
  abbrev tree : List X
  tree = records g

  abbrev n : ℕ
  n = so_far.n

  -- the line of the next record is that of the next in the tree
  more : (r : X) (new : List ℕ) → (n < length tree) × (get_or tree n r ≡ r) → new ≡ now ++ line r → new ≡ old ++ flat_map line (take (n + 1) tree)
  more r new next pushed =
      pushed ∙ ap (λ (text : List ℕ). text ++ line r) so_far.printed ∙ flat_map_more line old (take n tree) r
      ∙ ap (λ (xs : List X). old ++ flat_map line xs) (ap (λ (x : X). take n tree ++ x ∷ []) (sym next.1) ∙ sym (take_more tree n r next.0))

  -- one record more is printed
  pub prints_more : (r : X) (new : List ℕ) → IsFirstAfter Before tree last r → new ≡ now ++ line r → HasPrinted line tree old new (Some r)
  prints_more r new is pushed =
      let next = next_is records Before start order g are tree n last so_far.walked r is in record {
        n = n + 1;
        walked = one_more records Before start order g are tree n last so_far.walked r r is next.0 (sym next.1) refl;
        printed = more r new next pushed;
      }

  -- and less text is left
  pub less_is_left : (r : X) (new : List ℕ) → IsFirstAfter Before tree last r → new ≡ now ++ line r → 0 < length (line r)
      → length (flat_map line tree) + length old - length new < length (flat_map line tree) + length old - length now
  less_is_left r new is pushed some =
      let next = next_is records Before start order g are tree n last so_far.walked r is in
      let within = length-flat_map-take line tree n r next.0 in
      let longer = ap length pushed ∙ length-append now (line r) in
      let long = ap length so_far.printed ∙ length-append old (flat_map line (take n tree)) in
      let here = ap (λ (x : X). length (line x)) next.1 in
      omega (arith, within, longer, long, here, some)

  -- all are printed where none comes after the last
  pub prints_all : ((x : X) → Contains tree x → ¬ (ComesAfter Before last x)) → now ≡ old ++ flat_map line tree
  prints_all none =
      let passed : n ≡ length tree = all_passed records Before start order g are tree n last so_far.walked none in
      so_far.printed ∙ ap (λ (xs : List X). old ++ flat_map line xs) (take_all n tree (omega (arith, passed)))

pub prints_none : {X : Type 0} (line : X → List ℕ) (tree : List X) (old : List ℕ) → HasPrinted line tree old old None
prints_none line tree old = record {
  n = 0;
  walked = record { within = omega arith; same = refl; none = λ e. refl; some = λ k d e. absurd (omega (arith, e)) };
  printed = sym (append-nil old);
}
