-- A first commit leaves what lanes hold, and what lanes hold gives two owners for each raise.
use Rattle.xr_maps.specs.StepLaws.{sum_below-same}
use Rattle.std.proofs.Common.{◌≡◌, ℕ, ◌+◌, ◌-◌, ◌<◌, ◌≤◌, zero, suc, List, cond, eqb, arith, refl, ap, sym, ◌∙◌, true, false, Bool, ⊎_elim, ◌⊎◌, inl, inr, subst}
use Rattle.std.specs.Prelude.{sum_by, IsTrue, ◌≢◌}
use Rattle.std.proofs.lemmas.Bool.{cases_lt, cases_eq, eq-eqb, ne_eqb}
use Rattle.xr_base.specs.declared.geometry.TheConstants.{FILES}
use Rattle.xr_items.specs.declared.work.Work.{Work}
use Rattle.xr_maps.specs.Holdings.{in_run, one_if, owners, owners_of_file, sum_below}
use Rattle.xr_balance.proofs.StepPremises.{StepHolds}
use Rattle.xr_balance.specs.Lanes.{TwoOwners, lane_total, owners_in}
use Rattle.xr_balance.specs.Rows.{works_of_staging}
use Rattle.xr_balance.specs.Stagings.{BeginsChain, StageHolds}
use Rattle.xr_balance.specs.Works.{Debt, lowered, naming_file, raised, staging, staging_pair, sum_of_lanes, total, unstaging}
use Rattle.xr_balance.proofs.TotalLemmas.{sum_by-in_lane}
use Rattle.xr_balance.proofs.ChainLemmas.{chain-begun, chain-begun-other}
use Rattle.xr_balance.proofs.CountSlots.{sum_below-none, sum_below-balance, sum_below-one}
use Rattle.xr_balance.proofs.ReadyLemmas.{total-by-lanes}
use Rattle.xr_balance.proofs.FirstCommits.{is_true, not_true}
use Rattle.xr_balance.proofs.StagingEvents.{or_sum, staged_free, staged_more}
use Rattle.xr_balance.proofs.SumLemmas.{lane-term}
use Rattle.xr_maps.specs.Steps.{is_within}
use Rattle.xr_balance.proofs.AloneLemmas.{chain-le}

pub below-le : (n : ℕ) (f g : ℕ → ℕ) → ((k : ℕ) → f k ≤ g k) → sum_below n f ≤ sum_below n g
unfolding sum_below
below-le zero f g le = omega arith
below-le (suc n) f g le = omega (arith, le n, below-le n f g le)

pub below-add : (n : ℕ) (f g : ℕ → ℕ) → sum_below n f + sum_below n g ≡ sum_below n (λ k. f k + g k)
unfolding sum_below
below-add zero f g = refl
below-add (suc n) f g = omega (arith, below-add n f g)

-- sums in either order
pub below-swap : (n m : ℕ) (a : ℕ → ℕ → ℕ) → sum_below n (λ l. sum_below m (a l)) ≡ sum_below m (λ f. sum_below n (λ l. a l f))
unfolding sum_below
below-swap zero m a = sym (sum_below-none m (λ _. 0) (λ _ _. refl))
below-swap (suc n) m a = omega (arith, below-swap n m a, below-add m (a n) (λ f. sum_below n (λ l. a l f)))

-- where at most one of them passes
pub below-unique : (n x : ℕ) (t : ℕ → Bool) → ((k l : ℕ) → IsTrue (t k) → IsTrue (t l) → k ≡ l) → sum_below n (λ l. cond (t l) x 0) ≤ x
unfolding sum_below
below-unique zero x t one = omega arith
below-unique (suc n) x t one = ⊎_elim
    (λ (e : t n ≡ true). let rest : sum_below n (λ l. cond (t l) x 0) ≡ 0 = sum_below-none n (λ l. cond (t l) x 0) (λ k kl. no (t k) (λ it. absurd (omega (arith, kl, one k n it (yes (t n) e))))) in
    rw e (omega (arith, rest)))
    (λ (e : t n ≡ false). rw e (omega (arith, below-unique n x t one)))
    (true_or_false (t n))
  where
    true_or_false : (s : Bool) → (s ≡ true) ⊎ (s ≡ false)
    true_or_false true = inl refl
    true_or_false false = inr refl

    yes : (s : Bool) → s ≡ true → IsTrue s
    yes true e = refl
    yes false e = absurd (omega (arith, ap one_if e))

    no : (s : Bool) → (IsTrue s → ⊥) → cond s x 0 ≡ 0
    no true h = absurd (h refl)
    no false h = refl

pub two_owners : TwoOwners
two_owners held mine P M Q b below lanes =
    let n : ℕ → ℕ = owners_of_file M b in
    let own : ℕ → ℕ = λ k. lane_total (raised b) (suc k) P in
    let all : total (raised b) P ≡ sum_below 8 own = total-by-lanes (raised b) P below in
    let double : sum_below 8 own + sum_below 8 own ≡ sum_below 8 (λ k. own k + own k) = below-add 8 own own in
    let each : sum_below 8 (λ k. own k + own k) ≤ sum_below 8 (λ k. owners_in (held (suc k)) M b) = below-le 8 _ _ (λ k. omega (arith, lanes.raised_twice (suc k) b)) in
    let swap : sum_below 8 (λ k. owners_in (held (suc k)) M b) ≡ sum_below FILES (λ f. sum_below 8 (λ k. cond (held (suc k) f) (n f) 0)) = below-swap 8 FILES (λ k f. cond (held (suc k) f) (n f) 0) in
    let most : sum_below FILES (λ f. sum_below 8 (λ k. cond (held (suc k) f) (n f) 0)) ≤ owners M b =
    below-le FILES _ n (λ f. below-unique 8 (n f) (λ k. held (suc k) f) (λ j k x y. let e = lanes.apart (suc j) (suc k) f x y in omega (arith, e))) in
    omega (arith, all, double, each, swap, most)

pub begun-own : (g : Work → ℕ) (P : List Debt) {P' : List Debt} {lane : ℕ} {new : List Work} → BeginsChain P lane new P' → lane_total g lane P' ≡ sum_by g new
begun-own g P {P'} {lane} {new} begins = ap (total g) (chain-begun begins) ∙ sum_by-in_lane g lane new

pub begun-other : (g : Work → ℕ) (P : List Debt) {P' : List Debt} {lane : ℕ} {new : List Work} (l : ℕ) → lane ≢ l → BeginsChain P lane new P' → lane_total g l P' ≡ lane_total g l P
begun-other g P l ne begins = ap (total g) (chain-begun-other l ne begins)

pub step_holds : StepHolds
step_holds held mine mine' P P' M M' Q Q' lane new was it =
    let mine_total : (g : Work → ℕ) → lane_total g lane P' ≡ sum_by g new = λ g. begun-own g P it.begins in
    let other_total : (g : Work → ℕ) (l : ℕ) → lane ≢ l → lane_total g l P' ≡ lane_total g l P = λ g l ne. begun-other g P l ne it.begins in
    let same : (l b : ℕ) → lane ≢ l → owners_in (held l) M' b ≡ owners_in (held l) M b = λ l b ne. sum_below-same FILES _ _ (λ f. ⊎_elim
    (λ (h : held l f ≡ true). let out : held lane f ≡ false = not_held (held lane f) (λ here. ne (was.apart lane l f here (is_true (held l f) (omega (arith, ap one_if h))))) in rw (h, it.elsewhere f b out) refl)
    (λ (h : held l f ≡ false). rw h refl)
    (true_or_false (held l f))) in
    record {
      apart = was.apart;
      staged_for = it.own;
      stages_own = λ l b some. ⊎_elim
          (λ e. absurd (omega (arith, some, it.no_staging b, mine_total (staging b), mine_total (staging_pair b), ap (λ m. lane_total (staging b) m P') e, ap (λ m. lane_total (staging_pair b) m P') e)))
          (λ ne. subst IsTrue (sym (it.others l b (λ e. ne (sym e)))) (was.stages_own l b (omega (arith, some, other_total (staging b) l ne, other_total (staging_pair b) l ne))))
          (cases_eq lane l);
      named = λ l f some. ⊎_elim
          (λ e. subst (λ m. IsTrue (held m f)) e (it.files f (omega (arith, some, mine_total (naming_file f), ap (λ m. lane_total (naming_file f) m P') e))))
          (λ ne. was.named l f (omega (arith, some, other_total (naming_file f) l ne)))
          (cases_eq lane l);
      raised_twice = λ l b. ⊎_elim
          (λ e. omega (arith, it.raises b, mine_total (raised b), ap (λ m. lane_total (raised b) m P') e, ap (λ m. owners_in (held m) M' b) e))
          (λ ne. omega (arith, was.raised_twice l b, other_total (raised b) l ne, same l b ne))
          (cases_eq lane l);
      unstaged_own = λ l b some. ⊎_elim
          (λ e. ap (λ m. owners_in (held m) M' b) (sym e) ∙ it.unstages b (omega (arith, some, mine_total (unstaging b), ap (λ m. lane_total (unstaging b) m P') e)))
          (λ ne. let pending : 0 < lane_total (unstaging b) l P = omega (arith, some, other_total (unstaging b) l ne) in
          ⊎_elim
          (λ touched. absurd (omega (arith, pending, it.quiet b touched, chain-le (unstaging b) P l)))
          (λ z. omega (arith, z, was.unstaged_own l b pending, same l b ne, it.counts b, it.staged b))
          (cases_lt 0 (sum_by (raised b) new + sum_by (lowered b) new + sum_by (unstaging b) new)))
          (cases_eq lane l);
    }
  where
    true_or_false : (s : Bool) → (s ≡ true) ⊎ (s ≡ false)
    true_or_false true = inl refl
    true_or_false false = inr refl

    not_held : (s : Bool) → (IsTrue s → ⊥) → s ≡ false
    not_held true h = absurd (h refl)
    not_held false h = refl

pub stage_holds : StageHolds
stage_holds held mine mine' C C' P P' M Q Q' lane run settled was it others puts =
    let staged : (b : ℕ) → one_if (Q' b) ≡ one_if (Q b) + in_run b run = λ b. staged_more settled it b in
    -- what is free was staged for no lane
    let own : (b : ℕ) → one_if (mine' lane b) ≡ one_if (mine lane b) + in_run b run = λ b. ap one_if (puts b) ∙ or_sum (mine lane b) (is_within run.start.0 run.len b) (λ one. not_true (mine lane b) (omega (
      arith,
      lane-term lane (λ l. one_if (mine l b)) it.begins.seat,
      was.staged_for b,
      ap one_if (staged_free settled it b one).unstaged,
    ))) in
    let new : List Work = works_of_staging run in
    let mine_total : (g : Work → ℕ) → lane_total g lane P' ≡ sum_by g new = λ g. begun-own g P it.begins in
    let other_total : (g : Work → ℕ) (l : ℕ) → lane ≢ l → lane_total g l P' ≡ lane_total g l P = λ g l ne. begun-other g P l ne it.begins in
    record {
      apart = was.apart;
      staged_for = λ b.
          let one : ℕ → ℕ = λ l. cond (eqb l lane) (in_run b run) 0 in
          let all : sum_of_lanes (λ l. one_if (mine' l b)) + sum_below 8 (λ _. 0) ≡ sum_of_lanes (λ l. one_if (mine l b)) + sum_of_lanes one = sum_below-balance 8 (λ k. one_if (mine' (suc k) b)) (λ _. 0) (λ k. one_if (mine (suc k) b)) (λ k. one (suc k)) (λ k _. let l : ℕ = suc k in ⊎_elim
          (λ e. omega (arith, own b, ap (λ m. one_if (mine' m b)) e, ap (λ m. one_if (mine m b)) e, ap (λ t. cond t (in_run b run) 0) (eq-eqb l lane e)))
          (λ ne. rw (others l b ne, ne_eqb l lane ne) (omega arith))
          (cases_eq l lane)) in
          let seat = it.begins.seat in
          let it_is : sum_of_lanes one ≡ in_run b run = sum_below-one 8 (lane - 1) (λ k. one (suc k)) (omega (arith, seat.0, seat.1)) (λ k _ ne. ap (λ t. cond t (in_run b run) 0) (ne_eqb (suc k) lane (λ e. ne (omega (arith, e)))))
          ∙ ap (λ t. cond t (in_run b run) 0) (eq-eqb (suc (lane - 1)) lane (omega (arith, seat.0))) in
          omega (arith, all, it_is, sum_below-none 8 (λ _. 0) (λ _ _. refl), was.staged_for b, staged b);
      stages_own = λ l b some. ⊎_elim
          (λ e. subst (λ m. IsTrue (mine' m b)) e (is_true (mine' lane b) (omega (arith, own b, some, mine_total (staging b), mine_total (staging_pair b), ap (λ m. lane_total (staging b) m P') e, ap (λ m. lane_total (staging_pair b) m P') e))))
          (λ ne. subst IsTrue (sym (others l b (λ e. ne (sym e)))) (was.stages_own l b (omega (arith, some, other_total (staging b) l ne, other_total (staging_pair b) l ne))))
          (cases_eq lane l);
      named = λ l f some. ⊎_elim
          (λ e. absurd (omega (arith, some, mine_total (naming_file f), ap (λ m. lane_total (naming_file f) m P') e)))
          (λ ne. was.named l f (omega (arith, some, other_total (naming_file f) l ne)))
          (cases_eq lane l);
      raised_twice = λ l b. ⊎_elim
          (λ e. omega (arith, mine_total (raised b), ap (λ m. lane_total (raised b) m P') e))
          (λ ne. omega (arith, was.raised_twice l b, other_total (raised b) l ne))
          (cases_eq lane l);
      unstaged_own = λ l b some. ⊎_elim
          (λ e. absurd (omega (arith, some, mine_total (unstaging b), ap (λ m. lane_total (unstaging b) m P') e)))
          (λ ne. was.unstaged_own l b (omega (arith, some, other_total (unstaging b) l ne)))
          (cases_eq lane l);
    }
