-- The parting into chains, when the last lowering of some blocks is rolled.
use Rattle.std.proofs.Common.{◌≡◌, ℕ, ◌+◌, ◌<◌, List, ◌++◌, length, get_or, arith, sym, map, ⊎_elim, ◌-◌, length-append, subst}
use Rattle.std.specs.Prelude.{remove, All, AllPairs}
use Rattle.std.proofs.lemmas.List.Quantifiers.{all_pairs_remove}
use Rattle.std.proofs.lemmas.List.{get_or_append_left, get_or-map, length-map}
use Rattle.std.proofs.Math.Seq.{get_or-append_right}
use Rattle.std.proofs.lemmas.Bool.{cases_lt}
use Rattle.xr_items.specs.declared.work.Work.{Work}
use Rattle.xr_balance.specs.Chains.{IsChain}
use Rattle.xr_balance.specs.Rolls.{Rolls, in_lane}
use Rattle.xr_balance.specs.Settled.{Agree, IsPartedByLane, chain_of}
use Rattle.xr_balance.specs.Works.{Debt, IsLane}

-- Each of the works that stay agrees with each new one, and so do the new ones in their order
pub record NewAgree (rest : List Debt) (lane : ℕ) (new : List Work) : Type 0 where
  pub old : (k : ℕ) (d : Debt) (j : ℕ) (w : Work) → k < length rest → j < length new → Agree (get_or rest k d) (in_lane lane (get_or new j w))
  pub among : AllPairs Agree (map (in_lane lane) new)

pub get_or-new : (lane : ℕ) (new : List Work) (j : ℕ) (d : Debt) → j < length new → get_or (map (in_lane lane) new) j d ≡ in_lane lane (get_or new j d.work)
get_or-new lane new j d inside = get_or-map (in_lane lane) new j d.work d inside

pub all_pairs_append : (xs ys : List Debt) → AllPairs Agree xs → AllPairs Agree ys
    → ((i j : ℕ) (d : Debt) → i < length xs → j < length ys → Agree (get_or xs i d) (get_or ys j d)) → AllPairs Agree (xs ++ ys)
all_pairs_append xs ys left right cross i j d less inside =
    let n : ℕ = length xs in
    let all : length (xs ++ ys) ≡ n + length ys = length-append xs ys in
    ⊎_elim
    (λ jl. rw (get_or_append_left xs ys d i (omega (arith, less, jl)), get_or_append_left xs ys d j jl) (left i j d less jl))
    (λ jr. ⊎_elim
    (λ il. rw (get_or_append_left xs ys d i il, get_or-append_right xs ys j d jr) (cross i (j - n) d il (omega (arith, inside, all, jr))))
    (λ ir. rw (get_or-append_right xs ys i d ir, get_or-append_right xs ys j d jr) (right (i - n) (j - n) d (omega (arith, less, ir, jr)) (omega (arith, inside, all, jr))))
    (cases_lt i n))
    (cases_lt j n)

-- what stays and what is new keep the parting
pub roll_parted : {P P' : List Debt} {i lane : ℕ} {w : Work} {new : List Work} → IsPartedByLane P → Rolls P i lane w new P' → NewAgree (remove P i) lane new
    → All (λ d. IsLane d.lane) P' → ((l : ℕ) → IsChain (map (λ d. d.work) (chain_of P' l))) → IsPartedByLane P'
roll_parted {P} {P'} {i} {lane} {w} {new} was rolls agree lanes chains =
    let rest : AllPairs Agree (remove P i) = all_pairs_remove Agree P i rolls.first.inside was.agree in
    let both : AllPairs Agree (remove P i ++ map (in_lane lane) new) = all_pairs_append (remove P i) (map (in_lane lane) new) rest agree.among
    (λ k j d kl jl. rw (get_or-new lane new j d (omega (arith, jl, length-map new (in_lane lane)))) (agree.old k d j d.work kl (omega (arith, jl, length-map new (in_lane lane))))) in
    record { lanes = lanes; chains = chains; agree = subst (AllPairs Agree) (sym rolls.after) both }
