-- The ledger of the record that was passed last.
use Rattle.std.proofs.Common.{◌≡◌, ◌↔◌, ℕ, ◌<◌, true, Some, None, List, length, get_or, sym, ap, ◌∙◌, arith, ⊎_elim}
use Rattle.std.proofs.lemmas.Bool.{cases_eq}
use Rattle.std.specs.List.{last_or}
use Rattle.xr_kinds.specs.Form.{Form}
use Rattle.xr_verify.specs.Ledger.{AgreesWithAll, IsNext, NeighboursSuffice}
use Rattle.xr_verify.proofs.LastLemmas.{none_last, some_last}

pub agrees_after : {X : Type 0} (form : Form X) → NeighboursSuffice form → (noted : List X) (last r : X) → IsNext form noted r → last_or None noted ≡ Some last
    → form.agree last r ≡ true ↔ AgreesWithAll form noted r
agrees_after form suffice noted last r next is = (
  λ agrees k d within.
      let found = some_last noted last d is in
      let n : ℕ = found.0 in
      let at_last : form.agree (get_or noted n d) r ≡ true = ap (λ (x : _). form.agree x r) found.2 ∙ agrees in
      ⊎_elim
      (λ (same : k ≡ n). ap (λ (i : ℕ). form.agree (get_or noted i d) r) same ∙ at_last)
      (λ (other : k ≡ n → ⊥).
      let below : n < length noted = omega (arith, found.1) in
      let before : k < n = omega (arith, found.1, within, other) in
      suffice (get_or noted k d) (get_or noted n d) r (next.passed.valid k d within) (next.passed.valid n d below) next.valid
      (next.passed.ascend k n d before below) (next.above n d below) (next.passed.agree k n d before below) at_last)
      (cases_eq k n),
  λ all.
      let found = some_last noted last last is in
      ap (λ (x : _). form.agree x r) (sym found.2) ∙ all found.0 last (omega (arith, found.1)),
)

pub none_before : {X : Type 0} (form : Form X) (noted : List X) (r : X) → last_or None noted ≡ None → AgreesWithAll form noted r
none_before form noted r is k d within =
    let none = none_last noted is in absurd (omega (arith, within, ap length none))
