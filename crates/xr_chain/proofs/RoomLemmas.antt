-- A chain has room for what its next roll leaves.
use Rattle.std.proofs.Common.{◌≡◌, ◌+◌, ◌≤◌, List, [], ◌∷◌, length, refl, ap, arith}
use Rattle.std.proofs.lemmas.List.Sums.{sum_by-cons}
use Rattle.std.specs.Prelude.{sum_by}
use Rattle.xr_balance.specs.Chains.{AreInOrder, GoesBefore, IsChain, giving, other_than_giving}
use Rattle.xr_chain.specs.ChainRoom.{ChainsHaveRoom}
use Rattle.xr_chain.specs.ChainView.{most_left}
use Rattle.xr_items.specs.declared.work.CountKind.TheVariants.{AllocCow, Decrease, FreeCow, Increase}
use Rattle.xr_items.specs.declared.work.Work.TheVariants.{Count, Free, Map, Own, Swap}
use Rattle.xr_items.specs.declared.work.Work.{Work}

one_each : (w : Work) → other_than_giving w + giving w ≡ 1
one_each (Free run) = refl
one_each (Own kind owner off run) = refl
one_each (Count kind run) = refl
one_each (Map kind file off run) = refl
one_each (Swap file off other other_off len) = refl

how_many : (works : List Work) → length works ≡ sum_by other_than_giving works + sum_by giving works
how_many [] = refl
how_many (w ∷ works) = omega (arith, how_many works, one_each w, sum_by-cons other_than_giving w works, sum_by-cons giving w works)

head : (w : Work) (works : List Work) → IsChain (w ∷ works) → GoesBefore w works
unfolding AreInOrder
head w works chain = chain.order.0

behind : (w : Work) (works : List Work) → IsChain (w ∷ works) → length works ≤ 11
behind w works chain = omega (arith, how_many (w ∷ works), chain.short, chain.given_once)

room : (w : Work) (works : List Work) → IsChain (w ∷ works) → length works + most_left w ≤ 12
room (Count Decrease run) works chain =
    let none = (head (Count Decrease run) works chain).lowered_last (omega arith) in
    omega (arith, how_many works, none, chain.short, sum_by-cons other_than_giving (Count Decrease run) works)
room (Count Increase run) works chain = omega (arith, behind (Count Increase run) works chain)
room (Count AllocCow run) works chain = omega (arith, behind (Count AllocCow run) works chain)
room (Count FreeCow run) works chain = omega (arith, behind (Count FreeCow run) works chain)
room (Swap file off other other_off len) works chain =
    let none : works ≡ [] = (head (Swap file off other other_off len) works chain).exchanged_last (omega arith) in
    omega (arith, ap length none)
room (Free run) works chain = omega (arith, behind (Free run) works chain)
room (Own kind owner off run) works chain = omega (arith, behind (Own kind owner off run) works chain)
room (Map kind file off run) works chain = omega (arith, behind (Map kind file off run) works chain)

pub chains_have_room : ChainsHaveRoom
chains_have_room [] chain = tt
chains_have_room (w ∷ works) chain = room w works chain
