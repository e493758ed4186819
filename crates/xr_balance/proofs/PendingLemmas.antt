-- The chains of lanes at their events, the head of one, and how many works are pending.
use Rattle.std.proofs.Common.{◌≡◌, ◌<◌, zero, suc, List, [], ◌∷◌, length, get_or, cond, arith, refl, ap, sym, ◌∙◌, ⊎_elim}
use Rattle.std.specs.Prelude.{◌≢◌}
use Rattle.std.proofs.lemmas.Bool.{cases_eq, eq-eqb, ne_eqb}
use Rattle.std.proofs.lemmas.List.{length-map}
use Rattle.std.proofs.lemmas.List.Sums.{sum_by-cons}
use Rattle.xr_maps.specs.Holdings.{sum_below}
use Rattle.xr_balance.specs.ChainLaws.{ChainsBegin, ChainsMoveOn, FewArePending, HeadIsFirst}
use Rattle.xr_balance.specs.Rolls.{in_lane}
use Rattle.xr_balance.specs.Settled.{chain_of}
use Rattle.xr_balance.specs.Works.{Debt, total}
use Rattle.xr_balance.proofs.AloneLemmas.{works_of}
use Rattle.xr_balance.proofs.ChainLemmas.{chain-begun, chain-begun-other, chain-rolls, chain-rolls-other}
use Rattle.xr_balance.proofs.KindLemmas.{chains_are_short}
use Rattle.xr_balance.proofs.ReadyLemmas.{below-times, total-by-lanes}

pub chains_move_on : ChainsMoveOn
chains_move_on P P' i lane w new rolls =
    let it = chain-rolls rolls in
    record { rest = it.0; before = it.1; after = it.2; others = λ l ne. chain-rolls-other rolls (λ e. ne (sym e)) }

pub chains_begin : ChainsBegin
chains_begin P P' lane new begins = (chain-begun begins, λ l ne. chain-begun-other l (λ e. ne (sym e)) begins)

pub head_is_first : HeadIsFirst
head_is_first [] rest lane d is = absurd (omega (arith, ap length is))
head_is_first (e ∷ P) rest lane d is = ⊎_elim
    (λ mine. let whole : e ∷ chain_of P lane ≡ d ∷ rest = ap (λ t. cond t (e ∷ chain_of P lane) (chain_of P lane)) (sym (eq-eqb e.lane lane mine)) ∙ is in
    let same : e ≡ d = ap (λ c. get_or c 0 e) whole in
    let own : e ≡ in_lane lane e.work = ap (λ l. in_lane l e.work) mine in
    let its : d ≡ in_lane lane d.work = sym same ∙ own ∙ ap (λ (x : Debt). in_lane lane x.work) same in
    (its, (0, record { inside = omega arith; is_work = λ x. same ∙ its; none_before = λ k x l. absurd (omega (arith, l)) })))
    (λ ne. let whole : chain_of P lane ≡ d ∷ rest = ap (λ t. cond t (e ∷ chain_of P lane) (chain_of P lane)) (sym (ne_eqb e.lane lane ne)) ∙ is in
    let at = head_is_first P rest lane d whole in (
      at.0,
      (
        suc at.1.0,
        record {
          inside = omega (arith, at.1.1.inside);
          is_work = λ x. at.1.1.is_work x;
          none_before = λ k. elim k as (λ k. (x : Debt) → k < suc at.1.0 → (get_or (e ∷ P) k x).lane ≢ lane) [
            | zero ↦ λ x l. ne
            | suc j ↦ λ x l. at.1.1.none_before j x (omega (arith, l))
          ];
        },
      ),
    ))
    (cases_eq e.lane lane)

ones : (P : List Debt) → total (λ _. 1) P ≡ length P
ones [] = refl
ones (d ∷ P) = omega (arith, sum_by-cons (λ (e : Debt). 1) d P, ones P)

eight_chains : sum_below 8 (λ _. 12) ≡ 96
unfolding sum_below
eight_chains = refl

pub few_are_pending : FewArePending
few_are_pending C P M Q was = omega (
  arith,
  ones P,
  total-by-lanes (λ _. 1) P was.parted.lanes,
  eight_chains,
  below-times 8 12 (λ k. total (λ _. 1) (chain_of P (suc k))) (λ k. let chain : List Debt = chain_of P (suc k) in
      omega (arith, ones chain, length-map chain (λ d. d.work), chains_are_short (works_of chain) (was.parted.chains (suc k)))),
)
