-- Which refusal comes out, from the refusal of the part that failed.
use Rattle.std.proofs.Common.{◌≡◌, ◌↔◌, ℕ, zero, suc, ◌+◌, Bool, Result, Ok, Err, Option, List, [], ◌∷◌, refl, sym, subst, arith, inl, inr}
use Rattle.std.specs.Result.{IfErr, IsErr, IsErrAnd, IsOk}
use Rattle.xr_block.specs.declared.fault.TreeFault.{TreeFault}
use Rattle.xr_block.specs.declared.fault.TreeKind.{TreeKind}
use Rattle.xr_kinds.specs.Form.{Form}
use Rattle.xr_pool.specs.Overlay.{Blocks}
use Rattle.xr_verify.specs.Refusals.{RefusesBelow, RefusesChildren, RefusesLeafAfter, RefusesNodeAfter}
use Rattle.xr_verify.specs.Visits.{AreMarked, IsEntered}

-- a fault that is handed on
pub handed_on : {A E : Type 0} (r : Result A E) (P : E → Type 0) (e : E) → IsErrAnd r (λ f. f ≡ e) → P e → IfErr r P
handed_on (Ok x) P e is known = absurd is
handed_on (Err f) P e is known = subst P (sym is) known

pub refused_so : {A E : Type 0} (r : Result A E) (P Q : E → Type 0) → ((e : E) → IsErr r → P e → Q e) → IfErr r P → IfErr r Q
refused_so (Ok x) P Q more known = known
refused_so (Err e) P Q more known = more e refl known

-- a kind becomes the fault of a block
pub refused_at : {A B : Type 0} (tested : Result A TreeKind) (answer : Result B TreeFault) (place : ℕ) (P : TreeKind → Type 0) → (IsOk answer ↔ IsOk tested)
    → IfErr tested (λ kind. answer ≡ Err (record { block = place; kind = kind })) → IfErr tested P → IfErr answer (λ fault. (fault.block ≡ place) × P fault.kind)
refused_at (Ok x) (Ok y) place P same named known = known
refused_at (Ok x) (Err fault) place P same named known = absurd (let lie = same.1 refl in cc)
refused_at (Err kind) answer place P same named known = subst (λ r. IfErr r (λ fault. (fault.block ≡ place) × P fault.kind)) (sym named) (refl, known)

module _ {X : Type 0} (form : Form X) (b : Blocks) (least : ℕ) (left : Option ℕ) (last : Bool) (n : ℕ) (seen : List ℕ) (noted : List X) (fault : TreeFault) where
  pub leaf_refused : (level : ℕ) (Key : ℕ → Type 0) → level ≡ 0 → (fault.block ≡ b.first + n) × RefusesLeafAfter form b least left last n (Key zero) seen noted fault.kind
      → RefusesBelow form b level least left last n (Key level) seen noted fault
  unfolding RefusesBelow
  leaf_refused zero Key low refused = refused
  leaf_refused (suc level) Key low refused = absurd (omega (arith, low))

  pub node_refused : (level above : ℕ) (IsNamed : Type 0) → level + 1 ≡ above
      → (fault.block ≡ b.first + n) × RefusesNodeAfter form b least above left last n IsNamed seen fault.kind → RefusesBelow form b above least left last n IsNamed seen noted fault
  unfolding RefusesBelow
  node_refused level zero IsNamed up refused = absurd (omega (arith, up))
  node_refused level (suc same) IsNamed up refused = inl refused

  pub below_refused : (level above : ℕ) (IsNamed : Type 0) (now : List ℕ) → level + 1 ≡ above → IsEntered form b least above left last n seen → IsNamed
      → AreMarked seen (n ∷ []) now → RefusesChildren form b level n left last now noted fault → RefusesBelow form b above least left last n IsNamed seen noted fault
  unfolding RefusesBelow
  below_refused level zero IsNamed now up entered named marked refused = absurd (omega (arith, up))
  below_refused level (suc same) IsNamed now up entered named marked refused =
      let is : level ≡ same = omega (arith, up) in
      inr (entered, named, (now, marked, subst (λ (l : ℕ). RefusesChildren form b l n left last now noted fault) is refused))
