-- A chain that loses its first work, and gets new ones at its end.
use Rattle.std.proofs.Common.{◌≡◌, ℕ, ◌+◌, ◌<◌, List, [], ◌∷◌, ◌++◌, arith, ap, ◌∙◌}
use Rattle.std.specs.Prelude.{sum_by}
use Rattle.std.proofs.lemmas.List.Sums.{sum_by-cons, sum_by-append}
use Rattle.xr_items.specs.declared.work.Work.{Work}
use Rattle.xr_balance.specs.Chains.{AreInOrder, GoesBefore, IsChain, answering, recounting, exchanging, giving, lowering, other_than_giving, raising}
use Rattle.xr_balance.specs.Works.{freed, mapping_at, naming_file, unmapping_at, unstaging}

-- works and those that come behind them, as one order
pub record Joins (works new : List Work) : Type 0 where
  pub unmapped : (f o : ℕ) → 0 < sum_by (mapping_at f o) works → sum_by (unmapping_at f o) new ≡ 0
  pub lowered_last : 0 < sum_by lowering works → sum_by giving new + sum_by lowering new ≡ 0
  pub exchanged_last : 0 < sum_by exchanging works → new ≡ []

pub order-append : (works new : List Work) → AreInOrder works → AreInOrder new → Joins works new → AreInOrder (works ++ new)
unfolding AreInOrder
order-append [] new one two joins = two
order-append (w ∷ works) new one two joins =
    let more : (f : Work → ℕ) → sum_by f (works ++ new) ≡ sum_by f works + sum_by f new = λ f. sum_by-append f works new in
    let first : (f : Work → ℕ) → sum_by f (w ∷ works) ≡ f w + sum_by f works = λ f. sum_by-cons f w works in (
      record {
        unmapped = λ f o it. omega (arith, more (unmapping_at f o), one.0.unmapped f o it, joins.unmapped f o (omega (arith, it, first (mapping_at f o))));
        answered = λ b it. omega (arith, more (answering b), one.0.answered b it);
        unstaged = λ b it. omega (arith, more (unstaging b), more (freed b), one.0.unstaged b it);
        lowered_last = λ it. omega (arith, more giving, more lowering, one.0.lowered_last it, joins.lowered_last (omega (arith, it, first lowering)));
        exchanged_last = λ it. ap (λ l. l ++ new) (one.0.exchanged_last it) ∙ joins.exchanged_last (omega (arith, it, first exchanging));
      },
      order-append works new one.1 two (record {
        unmapped = λ f o it. joins.unmapped f o (omega (arith, it, first (mapping_at f o)));
        lowered_last = λ it. joins.lowered_last (omega (arith, it, first lowering));
        exchanged_last = λ it. joins.exchanged_last (omega (arith, it, first exchanging));
      }),
    )

pub order-tail : (w : Work) (works : List Work) → AreInOrder (w ∷ works) → AreInOrder works
unfolding AreInOrder
order-tail w works order = order.1

pub order-head : (w : Work) (works : List Work) → AreInOrder (w ∷ works) → GoesBefore w works
unfolding AreInOrder
order-head w works order = order.0

pub order-none : AreInOrder []
unfolding AreInOrder
order-none = tt

pub order-cons : (w : Work) (works : List Work) → GoesBefore w works → AreInOrder works → AreInOrder (w ∷ works)
unfolding AreInOrder
order-cons w works goes order = (goes, order)

-- the chain after its first work is done and leaves nothing
pub chain-tail : (w : Work) (works : List Work) → IsChain (w ∷ works) → IsChain works
chain-tail w works chain =
    let first : (f : Work → ℕ) → sum_by f (w ∷ works) ≡ f w + sum_by f works = λ f. sum_by-cons f w works in
    record {
      order = order-tail w works chain.order;
      short = omega (arith, chain.short, first other_than_giving);
      given_once = omega (arith, chain.given_once, first giving);
      raised_once = omega (arith, chain.raised_once, first raising);
      one = chain.one;
      two = chain.two;
      files = λ f it. chain.files f (omega (arith, it, first (naming_file f)));
      apart = λ it. omega (arith, first recounting, chain.apart (omega (arith, it, first exchanging)));
    }
