-- The first work of a placed chain, and the chain behind it.
use Rattle.std.proofs.Common.{◌≡◌, ℕ, ◌≤◌, List, [], ◌∷◌, ◌++◌, drop, get_or, length, refl, sym, ◌∙◌, ap, subst, arith}
use Rattle.xr_chain.specs.ChainView.{ChainView, IsHead, IsPlaced, OfFirst, first_need, need_of}
use Rattle.xr_chain.specs.Events.{RollsWith, trans_with}
use Rattle.xr_chain.specs.declared.chain.Need.{Need}
use Rattle.xr_chain.specs.declared.chain.Need.TheVariants as need
use Rattle.xr_items.specs.Transactions.{TransView}
use Rattle.xr_items.specs.declared.trans.Logged.{Logged}
use Rattle.xr_items.specs.declared.work.Work.{Work}

head_of_lists : (works : List Work) (slots : List ℕ) (d : Work) (e : ℕ) → 1 ≤ length works → length slots ≡ length works
    → IsHead (record { works = works; slots = slots }) (get_or works 0 d) (get_or slots 0 e)
head_of_lists [] slots d e some placed = absurd (omega (arith, some))
head_of_lists (work ∷ works) [] d e some placed = absurd (omega (arith, placed))
head_of_lists (work ∷ works) (slot ∷ slots) d e some placed = record { behind = works; slots = slots; is = refl }

pub head_of : (chain : ChainView) (works : List Work) (slots : List ℕ) (d : Work) (e : ℕ) → works ≡ chain.works → slots ≡ chain.slots
    → 1 ≤ length chain.works → IsPlaced chain → IsHead chain (get_or works 0 d) (get_or slots 0 e)
head_of chain works slots d e are also some placed =
    subst (λ (x : List Work). IsHead chain (get_or x 0 d) (get_or slots 0 e)) (sym are)
    (subst (λ (x : List ℕ). IsHead chain (get_or chain.works 0 d) (get_or x 0 e)) (sym also) (head_of_lists chain.works chain.slots d e some placed))

-- what needs something has a work
pub some_work : (works : List Work) (n : Need) → first_need works ≡ n → (n ≡ need.Ended → ⊥) → 1 ≤ length works
some_work [] n needs not = absurd (not (sym needs))
some_work (work ∷ works) n needs not = omega arith

-- what is so of the first work
module _ (chain : ChainView) (work : Work) (slot : ℕ) (first : IsHead chain work slot) where
  works_are : chain.works ≡ work ∷ first.behind
  works_are = ap (λ (c : ChainView). c.works) first.is

  slots_are : chain.slots ≡ slot ∷ first.slots
  slots_are = ap (λ (c : ChainView). c.slots) first.is

  pub of_head : (fact : Work → Type 0) → OfFirst fact chain.works → fact work
  of_head fact is = subst (λ (works : List Work). OfFirst fact works) works_are is

  pub at_head : (fact : Work → Type 0) → fact work → OfFirst fact chain.works
  at_head fact is = subst (λ (works : List Work). OfFirst fact works) (sym works_are) is

  pub head_need : (n : Need) → first_need chain.works ≡ n → need_of work ≡ n
  head_need n needs = ap first_need (sym works_are) ∙ needs

  pub rolls_with : (event : Work → List Work → Type 0) (blocks : List Logged) (left : List Work) (result : ChainView) (trans : TransView) → event work left
      → result ≡ record { works = drop 1 chain.works ++ left; slots = drop 1 chain.slots } → trans ≡ trans_with blocks left (slot ∷ [])
      → RollsWith event blocks chain result trans
  rolls_with event blocks left result trans gives chain_is trans_is = record {
    work = work;
    behind = first.behind;
    slot = slot;
    slots = first.slots;
    is_first = first.is;
    left = left;
    gives = gives;
    chain_is =
        chain_is
        ∙ ap (λ (works : List Work). record { works = drop 1 works ++ left; slots = drop 1 chain.slots }) works_are
        ∙ ap (λ (slots : List ℕ). record { works = first.behind ++ left; slots = drop 1 slots }) slots_are;
    trans_is = trans_is;
  }
