-- Where two lists of records that rise in one order differ first.
use Rattle.std.specs.Prelude.{◌≡◌, ◌≢◌, List, [], ◌∷◌, ◌++◌}
use Rattle.xr_base.specs.declared.address.Addr.{Addr}

-- the start of the lesser of two records that aren't the same, in an order. Where neither comes before the other, both have that start.
pub record IsLesserStart {X : Type 0} (Before : X → X → Type 0) (start : X → Addr) (x y : X) (key : Addr) : Type 0 where
  pub differ : x ≢ y
  pub first : ¬ (Before y x) → key ≡ start x
  pub second : ¬ (Before x y) → key ≡ start y

-- two lists differ at their heads, of which one may be missing: the start of the lesser of them
abbrev pub HeadsDiffer : {X : Type 0} → (X → X → Type 0) → (X → Addr) → List X → List X → Addr → Type 0
HeadsDiffer Before start [] [] key = ⊥
HeadsDiffer Before start (x ∷ xs) [] key = key ≡ start x
HeadsDiffer Before start [] (y ∷ ys) key = key ≡ start y
HeadsDiffer Before start (x ∷ xs) (y ∷ ys) key = IsLesserStart Before start x y key

-- two lists begin with the same records, and differ at the place behind them
pub record DiffersAt {X : Type 0} (Before : X → X → Type 0) (start : X → Addr) (tree defined : List X) (key : Addr) : Type 0 where
  pub front : List X
  pub tree_rest : List X
  pub defined_rest : List X
  pub tree_is : tree ≡ front ++ tree_rest
  pub defined_is : defined ≡ front ++ defined_rest
  pub heads : HeadsDiffer Before start tree_rest defined_rest key
