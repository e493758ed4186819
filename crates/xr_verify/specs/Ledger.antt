-- Records of a tree as they are passed in order: which one may come next, and which may stand in one tree with all before it.
use Rattle.std.specs.Prelude.{◌≡◌, ◌∷◌, [], ⊤, true, IfSome, Option, Some, List}
use Rattle.std.specs.List.{All, AllPairs}
use Rattle.std.specs.declared.cmp.Ordering.TheVariants.{Less}
use Rattle.xr_kinds.specs.Form.{Form}

-- records that keep the rules, as far as they go
pub record ArePassed {X : Type 0} (form : Form X) (noted : List X) : Type 0 where
  pub valid : All (λ (r : X). form.is_valid r ≡ true) noted
  pub ascend : AllPairs (λ (a b : X). form.order a b ≡ Less) noted
  pub agree : AllPairs (λ (a b : X). form.agree a b ≡ true) noted

-- a valid record above all of them
pub record IsNext {X : Type 0} (form : Form X) (noted : List X) (r : X) : Type 0 where
  pub passed : ArePassed form noted
  pub valid : form.is_valid r ≡ true
  pub above : All (λ (x : X). form.order x r ≡ Less) noted

abbrev pub AgreesWithAll : {X : Type 0} → Form X → List X → X → Type 0
AgreesWithAll form noted r = All (λ (x : _). form.agree x r ≡ true) noted

-- each record is above the one before it, the first above the last of those before
abbrev pub Climb : {X : Type 0} → Form X → Option X → List X → Type 0
Climb form last [] = ⊤
Climb form last (r ∷ rs) = IfSome last (λ x. form.order x r ≡ Less) × Climb form (Some r) rs

-- where records agree with the next one, they agree with each later one too
abbrev pub NeighboursSuffice : {X : Type 0} → Form X → Type 0
NeighboursSuffice {X} form =
    (x y z : X) → form.is_valid x ≡ true → form.is_valid y ≡ true → form.is_valid z ≡ true → form.order x y ≡ Less → form.order y z ≡ Less
    → form.agree x y ≡ true → form.agree y z ≡ true → form.agree x z ≡ true
