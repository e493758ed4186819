-- A roll leaves what lanes hold, and the maps are determined.
use Rattle.std.proofs.Common.{subst, ◌≡◌, ℕ, suc, ◌+◌, ◌-◌, ◌<◌, ◌≤◌, List, [], get_or, cond, eqb, arith, refl, ap, sym, ◌∙◌, true, false, map, Bool, ⊎_elim, ◌⊎◌, inl, inr}
use Rattle.std.specs.Prelude.{sum_by, ◌≢◌}
use Rattle.std.proofs.lemmas.Bool.{cases_lt, cases_eq, eq-eqb, ne_eqb}
use Rattle.std.proofs.lemmas.List.Sums.{sum_by-cons, sum_by-append}
use Rattle.xr_maps.specs.FileMaps.{FileMaps}
use Rattle.xr_maps.specs.StepLaws.{maps_are_one}
use Rattle.xr_items.specs.declared.work.Work.{Work}
use Rattle.xr_items.specs.declared.work.Work.TheVariants.{Free, Own, Count, Map, Swap}
use Rattle.xr_items.specs.declared.work.CountKind.TheVariants.{Increase, Decrease, AllocCow, FreeCow}
use Rattle.xr_maps.specs.Holdings.{holds, one_if, owners, owners_of_file, sum_below}
use Rattle.xr_balance.specs.Determined.{MapsAreDetermined}
use Rattle.xr_balance.specs.Lanes.{IdleMayChangeFiles, NothingIsHeld, IdleIsApart, IdleIsStaged, OwnedIsUnstaged, lane_total, owners_in}
use Rattle.xr_balance.specs.RollGives.{RollGives, works_of_rest}
use Rattle.xr_balance.specs.RollLaws.{RollHolds}
use Rattle.xr_balance.specs.Rolls.{Rolls, in_lane, works_of_freed}
use Rattle.xr_balance.specs.Settled.{Committed, IsSettled, bringing, chain_of, taking}
use Rattle.xr_balance.specs.Works.{Debt, IsLane, mapping, naming_file, raised, staging, staging_pair, sum_of_lanes, total, unmapping, unstaging}
use Rattle.xr_balance.proofs.TotalLemmas.{sum_by-in_lane}
use Rattle.xr_balance.proofs.AloneLemmas.{total-works}
use Rattle.std.specs.Prelude.{IsTrue}
use Rattle.xr_base.specs.declared.geometry.TheConstants.{FILES}
use Rattle.xr_balance.proofs.SumLemmas.{lane-term, total-same, term-le}
use Rattle.xr_balance.proofs.CountSlots.{sum_below-none, sum_below-balance}
use Rattle.xr_balance.proofs.ReadyLemmas.{total-by-lanes}
use Rattle.xr_balance.proofs.FirstCommits.{is_one, is_true, at_most_one}
use Rattle.xr_balance.proofs.ChainLemmas.{chain-rolls, chain-rolls-other}
use Rattle.xr_balance.proofs.LastLowering.{none_left, rest_of_run}
use Rattle.xr_balance.proofs.CountRolls.{rest-sum, rest-none}
use Rattle.xr_balance.proofs.PieceRows.{given_files, uncounted}

-- the new works raise no more, unstage no more and name no other file than the work did
record Lessens (w : Work) (new : List Work) : Type 0 where
  pub raises : (b : ℕ) → sum_by (raised b) new ≤ raised b w
  pub unstages : (b : ℕ) → sum_by (unstaging b) new ≤ unstaging b w
  pub files : (f : ℕ) → 0 < sum_by (naming_file f) new → 0 < naming_file f w
  pub stages : (b : ℕ) → sum_by (staging b) new ≤ staging b w
  pub stage_pairs : (b : ℕ) → sum_by (staging_pair b) new ≤ staging_pair b w

none_lessens : (w : Work) (new : List Work) → new ≡ [] → Lessens w new
none_lessens w new is = record { raises = λ b. omega (arith, ap (sum_by (raised b)) is); unstages = λ b. omega (arith, ap (sum_by (unstaging b)) is); files = λ f some. absurd (omega (arith, some, ap (sum_by (naming_file f)) is)); stages = λ b. omega (arith, ap (sum_by (staging b)) is); stage_pairs = λ b. omega (arith, ap (sum_by (staging_pair b)) is) }

lessens : (C C' : Committed) (w : Work) (new : List Work) → RollGives C w C' new → Lessens w new
lessens C C' (Map kind file off run) new gives = none_lessens _ new gives.new_is
lessens C C' (Own kind owner off run) new gives = none_lessens _ new gives.new_is
lessens C C' (Count AllocCow run) new gives = none_lessens _ new gives.new_is
lessens C C' (Count FreeCow run) new gives = none_lessens _ new gives.new_is
lessens C C' (Free run) new gives = none_lessens _ new gives.new_is
lessens C C' (Swap file off other other_off len) new gives = let it = uncounted gives.piece in record {
  raises = λ b. omega (arith, it.raises b);
  unstages = λ b. omega (arith, it.unstages b);
  files = λ f some. given_files f gives.piece some;
  stages = λ b. omega (arith, it.stages b);
  stage_pairs = λ b. omega (arith, it.stage_pairs b);
}
lessens C C' (Count Increase run) new gives = record {
  raises = λ b. omega (arith, ap (sum_by (raised b)) gives.new_is, rest-sum (raised b) Increase run gives.len, rest_of_run b run gives.len gives.part.fits);
  unstages = λ b. omega (arith, ap (sum_by (unstaging b)) gives.new_is, rest-none (unstaging b) Increase run gives.len refl);
  files = λ f some. absurd (omega (arith, some, ap (sum_by (naming_file f)) gives.new_is, rest-none (naming_file f) Increase run gives.len refl));
  stages = λ b. omega (arith, ap (sum_by (staging b)) gives.new_is, rest-none (staging b) Increase run gives.len refl);
  stage_pairs = λ b. omega (arith, ap (sum_by (staging_pair b)) gives.new_is, rest-none (staging_pair b) Increase run gives.len refl);
}
lessens C C' (Count Decrease run) new gives = ⊎_elim
    (λ one. let is : new ≡ works_of_freed run gives.len = gives.new_is ∙ rw one refl in record {
      raises = λ b. omega (arith, ap (sum_by (raised b)) is, none_left (raised b) run gives.len refl refl);
      unstages = λ b. omega (arith, ap (sum_by (unstaging b)) is, none_left (unstaging b) run gives.len refl refl);
      files = λ f some. absurd (omega (arith, some, ap (sum_by (naming_file f)) is, none_left (naming_file f) run gives.len refl refl));
      stages = λ b. omega (arith, ap (sum_by (staging b)) is, none_left (staging b) run gives.len refl refl);
      stage_pairs = λ b. omega (arith, ap (sum_by (staging_pair b)) is, none_left (staging_pair b) run gives.len refl refl);
    })
    (λ more. let is : new ≡ works_of_rest Decrease run gives.len = gives.new_is ∙ rw (ne_eqb gives.count 1 more) refl in record {
      raises = λ b. omega (arith, ap (sum_by (raised b)) is, rest-none (raised b) Decrease run gives.len refl);
      unstages = λ b. omega (arith, ap (sum_by (unstaging b)) is, rest-none (unstaging b) Decrease run gives.len refl);
      files = λ f some. absurd (omega (arith, some, ap (sum_by (naming_file f)) is, rest-none (naming_file f) Decrease run gives.len refl));
      stages = λ b. omega (arith, ap (sum_by (staging b)) is, rest-none (staging b) Decrease run gives.len refl);
      stage_pairs = λ b. omega (arith, ap (sum_by (staging_pair b)) is, rest-none (staging_pair b) Decrease run gives.len refl);
    })
    (cases_eq gives.count 1)

lane-rolls : (g : Work → ℕ) {P P' : List Debt} {i lane : ℕ} {w : Work} {new : List Work} → Rolls P i lane w new P' → sum_by g new ≤ g w → (l : ℕ) → lane_total g l P' ≤ lane_total g l P
lane-rolls g {P} {P'} {i} {lane} {w} {new} rolls less l = ⊎_elim
    (λ e. let it = chain-rolls rolls in
    let h : Debt → ℕ = λ d. g d.work in
    let before : lane_total g l P ≡ g w + total g it.0 = ap (λ m. lane_total g m P) (sym e) ∙ ap (total g) it.1 ∙ sum_by-cons h (in_lane lane w) it.0 in
    let after : lane_total g l P' ≡ total g it.0 + sum_by g new = ap (λ m. lane_total g m P') (sym e) ∙ ap (total g) it.2 ∙ sum_by-append h it.0 (map (in_lane lane) new) ∙ ap (λ n. total g it.0 + n) (sum_by-in_lane g lane new) in
    omega (arith, before, after, less))
    (λ ne. omega (arith, ap (total g) (chain-rolls-other rolls ne)))
    (cases_eq lane l)

-- what a chain names after a roll, it named before
lane-some : (g : Work → ℕ) {P P' : List Debt} {i lane : ℕ} {w : Work} {new : List Work} → Rolls P i lane w new P' → (0 < sum_by g new → 0 < g w) → (l : ℕ) → 0 < lane_total g l P' → 0 < lane_total g l P
lane-some g {P} {P'} {i} {lane} {w} {new} rolls less l some = ⊎_elim
    (λ e. let it = chain-rolls rolls in
    let h : Debt → ℕ = λ d. g d.work in
    let before : lane_total g l P ≡ g w + total g it.0 = ap (λ m. lane_total g m P) (sym e) ∙ ap (total g) it.1 ∙ sum_by-cons h (in_lane lane w) it.0 in
    let after : lane_total g l P' ≡ total g it.0 + sum_by g new = ap (λ m. lane_total g m P') (sym e) ∙ ap (total g) it.2 ∙ sum_by-append h it.0 (map (in_lane lane) new) ∙ ap (λ n. total g it.0 + n) (sum_by-in_lane g lane new) in
    ⊎_elim
    (λ fresh. omega (arith, before, less fresh))
    (λ none. omega (arith, before, after, none, some))
    (cases_lt 0 (sum_by g new)))
    (λ ne. omega (arith, some, ap (total g) (chain-rolls-other rolls ne)))
    (cases_eq lane l)

pub roll_holds : RollHolds
roll_holds held mine C C' P P' M Q i lane w new was rolls gives =
    let less = lessens C C' w new gives in
    record {
      apart = was.apart;
      staged_for = was.staged_for;
      stages_own = λ l b some. was.stages_own l b (omega (arith, some, lane-rolls (staging b) rolls (less.stages b) l, lane-rolls (staging_pair b) rolls (less.stage_pairs b) l));
      named = λ l f some. was.named l f (lane-some (naming_file f) rolls (less.files f) l some);
      raised_twice = λ l b. omega (arith, was.raised_twice l b, lane-rolls (raised b) rolls (less.raises b) l);
      unstaged_own = λ l b some. was.unstaged_own l b (omega (arith, some, lane-rolls (unstaging b) rolls (less.unstages b) l));
    }

taking_same : (A B : FileMaps) → ((f o b : ℕ) → holds A f o b ≡ holds B f o b) → (f o b : ℕ) (w : Work) → taking A f o b w ≡ taking B f o b w
taking_same A B same f o b (Swap file off other other_off len) = rw (same f o b) refl
taking_same A B same f o b (Free run) = refl
taking_same A B same f o b (Own kind owner off run) = refl
taking_same A B same f o b (Count kind run) = refl
taking_same A B same f o b (Map kind file off run) = refl

bringing_same : (A B : FileMaps) → ((f o b : ℕ) → holds A f o b ≡ holds B f o b) → (f o b : ℕ) (w : Work) → bringing A f o b w ≡ bringing B f o b w
bringing_same A B same f o b (Swap file off other other_off len) = rw (same other.0 (other_off + (o - off)) b, same file.0 (off + (o - other_off)) b) refl
bringing_same A B same f o b (Free run) = refl
bringing_same A B same f o b (Own kind owner off run) = refl
bringing_same A B same f o b (Count kind run) = refl
bringing_same A B same f o b (Map kind file off run) = refl

same_bool : (s t : Bool) → one_if s ≡ one_if t → s ≡ t
same_bool true true h = refl
same_bool true false h = absurd (omega (arith, h))
same_bool false true h = absurd (omega (arith, h))
same_bool false false h = refl

pub maps_are_determined : MapsAreDetermined
maps_are_determined C P R M N Q S works one two =
    let turn : (g : Work → ℕ) → total g P ≡ total g R = λ g. sym (total-works g P) ∙ ap (sum_by g) works ∙ total-works g R in
    let same : (f o b : ℕ) → holds one.base f o b ≡ holds two.base f o b = λ f o b. omega (arith, one.maps.base f o b, two.maps.base f o b, turn (mapping f o b), turn (unmapping f o b)) in
    let takes : (f o b : ℕ) → total (taking one.base f o b) P ≡ total (taking two.base f o b) P = λ f o b. total-same (taking one.base f o b) (taking two.base f o b) P (λ k d l. taking_same one.base two.base same f o b (get_or P k d).work) in
    let brings : (f o b : ℕ) → total (bringing one.base f o b) P ≡ total (bringing two.base f o b) P = λ f o b. total-same (bringing one.base f o b) (bringing two.base f o b) P (λ k d l. bringing_same one.base two.base same f o b (get_or P k d).work) in (
      maps_are_one M N one.good_maps two.good_maps (λ f o b. omega (arith, one.maps.exchanged f o b, two.maps.exchanged f o b, same f o b, takes f o b, brings f o b, turn (taking two.base f o b), turn (bringing two.base f o b))),
      λ b. same_bool (Q b) (S b) (omega (arith, one.staging.staged b, two.staging.staged b, turn (staging b), turn (unstaging b))),
    )

-- what no lane's chain does, nothing pending does
none_by_lanes : (g : Work → ℕ) {C : Committed} {P : List Debt} {M : FileMaps} {Q : ℕ → Bool} → IsSettled C P M Q → ((l : ℕ) → IsLane l → lane_total g l P ≡ 0) → total g P ≡ 0
none_by_lanes g {C} {P} was none = total-by-lanes g P was.parted.lanes ∙ sum_below-none 8 (λ k. total g (chain_of P (suc k))) (λ k kl. none (suc k) (omega arith, omega (arith, kl)))

idle-none : (g : Work → ℕ) (P : List Debt) (lane l : ℕ) → chain_of P lane ≡ [] → l ≡ lane → lane_total g l P ≡ 0
idle-none g P lane l idle e = ap (λ m. lane_total g m P) e ∙ ap (total g) idle

pub idle_is_apart : IdleIsApart
idle_is_apart held mine C P M Q lane f was lanes idle is = none_by_lanes (naming_file f) was (λ l _. ⊎_elim
    (λ some. absurd (omega (arith, some, idle-none (naming_file f) P lane l idle (lanes.apart l lane f (lanes.named l f some) is))))
    (λ none. omega (arith, none))
    (cases_lt 0 (lane_total (naming_file f) l P)))

-- two terms of a sum
two-terms : (n j k : ℕ) (f : ℕ → ℕ) → j < n → k < n → j ≢ k → f j + f k ≤ sum_below n f
two-terms n j k f jl kl ne =
    let g : ℕ → ℕ = λ i. cond (eqb i j) 0 (f i) in
    let h : ℕ → ℕ = λ i. cond (eqb i j) (f i) 0 in
    let all : sum_below n f + sum_below n (λ _. 0) ≡ sum_below n g + sum_below n h = sum_below-balance n f (λ _. 0) g h (λ i _. ⊎_elim
    (λ e. rw (eq-eqb i j e) (omega arith))
    (λ d. rw (ne_eqb i j d) (omega arith))
    (cases_eq i j)) in
    let one : f k ≤ sum_below n g = let it : g k ≡ f k = rw (ne_eqb k j (λ e. ne (sym e))) refl in omega (arith, it, term-le n k g kl) in
    let two : f j ≤ sum_below n h = let it : h j ≡ f j = rw (eq-eqb j j refl) refl in omega (arith, it, term-le n j h jl) in
    omega (arith, all, one, two, sum_below-none n (λ _. 0) (λ _ _. refl))

two-lanes : (l k : ℕ) (f : ℕ → ℕ) → IsLane l → IsLane k → l ≢ k → f l + f k ≤ sum_of_lanes f
two-lanes l k f ll kl ne =
    let one : suc (l - 1) ≡ l = omega (arith, ll.0) in
    let two : suc (k - 1) ≡ k = omega (arith, kl.0) in
    omega (arith, ap f one, ap f two, two-terms 8 (l - 1) (k - 1) (λ j. f (suc j)) (omega (arith, ll.0, ll.1)) (omega (arith, kl.0, kl.1)) (λ e. ne (omega (arith, e, ll.0, kl.0))))

pub idle_is_staged : IdleIsStaged
idle_is_staged held mine C P M Q lane b was lanes seat idle is =
    let q : one_if (Q b) ≡ 1 = omega (arith, lanes.staged_for b, lane-term lane (λ l. one_if (mine l b)) seat, is_one (mine lane b) is, at_most_one (Q b)) in
    let only : (l : ℕ) → IsLane l → IsTrue (mine l b) → l ≡ lane = λ l ll it. ⊎_elim
    (λ e. e)
    (λ ne. absurd (omega (arith, lanes.staged_for b, q, two-lanes l lane (λ k. one_if (mine k b)) ll seat ne, is_one (mine l b) it, is_one (mine lane b) is)))
    (cases_eq l lane) in
    let none : (g : Work → ℕ) → ((l : ℕ) → 0 < lane_total g l P → IsTrue (mine l b)) → total g P ≡ 0 = λ g own. none_by_lanes g was (λ l ll. ⊎_elim
    (λ some. absurd (omega (arith, some, idle-none g P lane l idle (only l ll (own l some)))))
    (λ z. omega (arith, z))
    (cases_lt 0 (lane_total g l P))) in
    let s = none (staging b) (λ l some. lanes.stages_own l b (omega (arith, some))) in
    let p = none (staging_pair b) (λ l some. lanes.stages_own l b (omega (arith, some))) in
    (omega (arith, s, p, q, was.staging.staged b, was.blocks.staged_once b, was.pairs.staging_pairs b, was.due.staging_additions b), is_true (Q b) (omega (arith, q)))

-- the owners in the files of one lane leave out those in a file of another
owners-out : (test : ℕ → Bool) (M : FileMaps) (b f : ℕ) → f < FILES → test f ≡ false → owners_in test M b + owners_of_file M b f ≤ owners M b
owners-out test M b f fl out =
    let n : ℕ → ℕ = owners_of_file M b in
    let g : ℕ → ℕ = λ k. cond (test k) (n k) 0 in
    let h : ℕ → ℕ = λ k. cond (test k) 0 (n k) in
    let split : (t : Bool) (m : ℕ) → m + 0 ≡ cond t m 0 + cond t 0 m = split_of in
    let all : sum_below FILES n + sum_below FILES (λ _. 0) ≡ sum_below FILES g + sum_below FILES h = sum_below-balance FILES n (λ _. 0) g h (λ k _. split (test k) (n k)) in
    let it : h f ≡ n f = rw out refl in
    omega (arith, all, it, term-le FILES f h fl, sum_below-none FILES (λ _. 0) (λ _ _. refl))
  where
    split_of : (t : Bool) (m : ℕ) → m + 0 ≡ cond t m 0 + cond t 0 m
    split_of true m = omega arith
    split_of false m = omega arith

pub owned_is_unstaged : OwnedIsUnstaged
owned_is_unstaged held mine C P M Q lane f b was lanes idle fl is owned =
    let some : 0 < owners M b = omega (arith, owned, term-le FILES f (owners_of_file M b) fl) in (
      ⊎_elim
          (λ q. absurd (omega (arith, some, was.staging.unowned b (is_true (Q b) q))))
          (λ z. omega (arith, z))
          (cases_lt 0 (one_if (Q b))),
      none_by_lanes (unstaging b) was (λ l _. ⊎_elim
          (λ more. ⊎_elim
          (λ (in_l : held l f ≡ true). absurd (omega (arith, more, idle-none (unstaging b) P lane l idle (lanes.apart l lane f (is_true (held l f) (omega (arith, ap one_if in_l))) is))))
          (λ (out : held l f ≡ false). absurd (omega (arith, lanes.unstaged_own l b more, owners-out (held l) M b f fl out, owned)))
          (true_or_false (held l f)))
          (λ z. omega (arith, z))
          (cases_lt 0 (lane_total (unstaging b) l P))),
    )
  where
    true_or_false : (t : Bool) → (t ≡ true) ⊎ (t ≡ false)
    true_or_false true = inl refl
    true_or_false false = inr refl

pub idle_may_change_files : IdleMayChangeFiles
idle_may_change_files held held' mine P M Q lane was idle others apart =
    let none : (g : Work → ℕ) (l : ℕ) → l ≡ lane → lane_total g l P ≡ 0 = λ g l e. idle-none g P lane l idle e in
    let same : (l b : ℕ) → l ≢ lane → owners_in (held' l) M b ≡ owners_in (held l) M b = λ l b ne. ap (λ (t : ℕ → Bool). owners_in t M b) (λ i f. others l f ne i) in
    record {
      apart = apart;
      staged_for = was.staged_for;
      stages_own = was.stages_own;
      named = λ l f some. ⊎_elim
          (λ e. absurd (omega (arith, some, none (naming_file f) l e)))
          (λ ne. subst IsTrue (sym (others l f ne)) (was.named l f some))
          (cases_eq l lane);
      raised_twice = λ l b. ⊎_elim
          (λ e. omega (arith, none (raised b) l e))
          (λ ne. omega (arith, was.raised_twice l b, same l b ne))
          (cases_eq l lane);
      unstaged_own = λ l b some. ⊎_elim
          (λ e. absurd (omega (arith, some, none (unstaging b) l e)))
          (λ ne. same l b ne ∙ was.unstaged_own l b some)
          (cases_eq l lane);
    }

pub nothing_is_held : NothingIsHeld
nothing_is_held held M apart = record {
  apart = apart;
  staged_for = λ b. sym (sum_below-none 8 (λ _. 0) (λ _ _. refl));
  stages_own = λ l b some. absurd (omega (arith, some));
  named = λ l f some. absurd (omega (arith, some));
  raised_twice = λ l b. omega arith;
  unstaged_own = λ l b some. absurd (omega (arith, some));
}
