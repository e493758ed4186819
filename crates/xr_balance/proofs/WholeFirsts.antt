-- What a lane holds and what a lookup tells give all that the first commit of a remap or punch needs.
use Rattle.xr_maps.specs.StepLaws.{sum_below-same}
use Rattle.std.proofs.Common.{◌≡◌, ℕ, ◌+◌, ◌-◌, ◌<◌, ◌≤◌, zero, suc, List, get_or, cond, eqb, arith, refl, ap, sym, ◌∙◌, true, false, Bool, ⊎_elim, inl, inr, Option, Some, None, subst}
use Rattle.std.specs.Prelude.{is_some, sum_by, ◌≢◌, ◌&&◌, All, IsTrue}
use Rattle.std.proofs.lemmas.Bool.{cases_lt, cases_eq, eq-eqb, ne_eqb}
use Rattle.std.proofs.lemmas.List.Sums.{get_or-le-sum_by}
use Rattle.xr_base.specs.declared.address.FileNo.{FileNo}
use Rattle.xr_base.specs.declared.address.Run.{Run}
use Rattle.xr_base.specs.declared.geometry.TheConstants.{FILES, OFFSETS}
use Rattle.xr_maps.specs.FileMaps.{FileMaps, address_at, AreGoodMaps}
use Rattle.xr_maps.specs.Steps.{is_within, IsFileRange}
use Rattle.xr_maps.specs.Holdings.{holds, in_run, is_mapped, one_if, sum_below, owners, owners_of_file}
use Rattle.xr_maps.specs.StepLaws.{in_or_out, same_slot}
use Rattle.xr_items.specs.declared.work.Work.{Work}
use Rattle.xr_items.specs.declared.work.Work.TheVariants.{Free, Own, Count, Map, Swap}
use Rattle.xr_items.specs.Valid.{IsWork}
use Rattle.xr_balance.proofs.StepPremises.{BeginsStep, StepsInLane}
use Rattle.xr_balance.specs.Determined.{UnnamedFilesAgree}
use Rattle.xr_balance.specs.FirstGives.{Uses}
use Rattle.xr_balance.specs.Pieces.{IsHoleOrRun}
use Rattle.xr_balance.specs.Lanes.{LanesHold, owners_in}
use Rattle.xr_balance.specs.Settled.{Committed, IsSettled, bringing, taking}
use Rattle.xr_balance.specs.Stagings.{BeginsChain}
use Rattle.xr_balance.specs.Works.{Debt, IsLane, exchanging_at, lowered, mapping, mapping_at, naming_file, raised, sum_of_lanes, total, unmapping, unmapping_at, unstaging}
use Rattle.xr_balance.proofs.SumLemmas.{at_most_one, lane-term, term-le, one_owner, layout-there, total-le, total-same, mapping-le, unmapping-le, taking-le, bringing-le, run-range}
use Rattle.xr_balance.proofs.CountSlots.{sum_below-balance, sum_below-none, sum_below-one}
use Rattle.xr_balance.proofs.QuietLemmas.{quiet_at, or_zero}
use Rattle.xr_balance.proofs.FirstCommits.{is_one, total-begins, all_begin}
use Rattle.xr_balance.proofs.LaneLemmas.{idle_is_apart, idle_is_staged, owned_is_unstaged}
use Rattle.xr_balance.proofs.StagingEvents.{and_sum}
use Rattle.xr_balance.proofs.StepLaneLemmas.{below-le, step_holds, two_owners}
use Rattle.xr_balance.proofs.PieceLemmas.{blocks_of, offsets_of, layout_of, FitsAt, IsRow, piece_layout, same_piece, owners_step}

-- on a file that no pending work names, the trees, the base and the maps agree
pub file_agrees : {C : Committed} {P : List Debt} {M : FileMaps} {Q : ℕ → Bool} (f : ℕ) → (was : IsSettled C P M Q) → total (naming_file f) P ≡ 0
    → (o b : ℕ) → (holds C.maps f o b ≡ holds was.base f o b) × (holds was.base f o b ≡ holds M f o b)
file_agrees {C} {P} {M} {Q} f was none o b =
    let q = quiet_at P f o none in
    let B : FileMaps = was.base in (
      omega (arith, was.maps.base f o b, q, total-le (mapping f o b) (mapping_at f o) P (mapping-le f o b), total-le (unmapping f o b) (unmapping_at f o) P (unmapping-le f o b)),
      omega (arith, was.maps.exchanged f o b, q, total-le (taking B f o b) (exchanging_at f o) P (taking-le B f o b), total-le (bringing B f o b) (exchanging_at f o) P (bringing-le B f o b)),
    )

pub unnamed_files_agree : UnnamedFilesAgree
unnamed_files_agree C P M Q f was none o = same_slot (address_at C.maps f o) (address_at M f o) (λ b. (file_agrees f was none o b).0 ∙ (file_agrees f was none o b).1)

not_named : (a file : ℕ) → one_if (eqb a file) ≡ 0 → a ≢ file
not_named a file z e = absurd (omega (arith, z, ap one_if (eq-eqb a file e)))

-- an exchange that doesn't name a file takes and brings the same, whatever that file maps
apart_taking : (A B : FileMaps) (file f o b : ℕ) (w : Work) → naming_file file w ≡ 0 → ((g p c : ℕ) → g ≢ file → holds A g p c ≡ holds B g p c) → taking A f o b w ≡ taking B f o b w
apart_taking A B file f o b (Swap one off two two_off len) none same =
    let z = or_zero (eqb one.0 file) (eqb two.0 file) none in
    let part : (a : ℕ) (t : Bool) → one_if (eqb a file) ≡ 0 → cond (eqb a f && t) (holds A f o b) 0 ≡ cond (eqb a f && t) (holds B f o b) 0 = λ a t none. ⊎_elim
    (λ e. ap (λ n. cond (eqb a f && t) n 0) (same f o b (λ h. not_named a file none (e ∙ h))))
    (λ ne. rw (ne_eqb a f ne) refl)
    (cases_eq a f) in
    omega (arith, part one.0 (is_within off len o) z.0, part two.0 (is_within two_off len o) z.1)
apart_taking A B file f o b (Free run) none same = refl
apart_taking A B file f o b (Own kind owner off run) none same = refl
apart_taking A B file f o b (Count kind run) none same = refl
apart_taking A B file f o b (Map kind named off run) none same = refl

apart_bringing : (A B : FileMaps) (file f o b : ℕ) (w : Work) → naming_file file w ≡ 0 → ((g p c : ℕ) → g ≢ file → holds A g p c ≡ holds B g p c) → bringing A f o b w ≡ bringing B f o b w
apart_bringing A B file f o b (Swap one off two two_off len) none same =
    let z = or_zero (eqb one.0 file) (eqb two.0 file) none in
    rw (same two.0 (two_off + (o - off)) b (not_named two.0 file z.1), same one.0 (off + (o - two_off)) b (not_named one.0 file z.0)) refl
apart_bringing A B file f o b (Free run) none same = refl
apart_bringing A B file f o b (Own kind owner off run) none same = refl
apart_bringing A B file f o b (Count kind run) none same = refl
apart_bringing A B file f o b (Map kind named off run) none same = refl

-- what a lane uses was staged for it, and is staged no more
pub record UsesStaged (lane : ℕ) (mine : ℕ → ℕ → Bool) (Q : ℕ → Bool) (used : ℕ → ℕ) (mine' : ℕ → ℕ → Bool) (Q' : ℕ → Bool) : Type 0 where
  pub own : (b : ℕ) → one_if (mine' lane b) + used b ≡ one_if (mine lane b)
  pub others : (l b : ℕ) → l ≢ lane → mine' l b ≡ mine l b
  pub staged : (b : ℕ) → one_if (Q' b) + used b ≡ one_if (Q b)

pub uses_staged : (held mine mine' : ℕ → ℕ → Bool) {P : List Debt} {M : FileMaps} {Q Q' used : ℕ → Bool} {lane : ℕ} → LanesHold held mine P M Q → IsLane lane → Uses lane mine Q used mine' Q'
    → ((b : ℕ) → one_if (used b) ≡ 1 → IsTrue (mine lane b)) → UsesStaged lane mine Q (λ b. one_if (used b)) mine' Q'
uses_staged held mine mine' {P} {M} {Q} {Q'} {used} {lane} lanes seat it own = record {
  own = λ b. ap (λ t. one_if t + one_if (used b)) (it.own b) ∙ and_sum (mine lane b) (used b) (λ one. is_one (mine lane b) (own b one));
  others = it.others;
  staged = λ b. ap (λ t. one_if t + one_if (used b)) (it.staged b) ∙ and_sum (Q b) (used b) (λ one. omega (
    arith,
    is_one (mine lane b) (own b one),
    lane-term lane (λ l. one_if (mine l b)) seat,
    lanes.staged_for b,
    at_most_one (Q b),
  ));
}

-- what is known where a lane begins a step on one file, which turns maps into `A` of them
pub record Begins (held mine : ℕ → ℕ → Bool) (C : Committed) (P : List Debt) (M : FileMaps) (Q : ℕ → Bool) (lane : ℕ) (file : FileNo) (off len : ℕ) (old put : Option Run) (staged : Bool)
    (new : List Work) (A : FileMaps → FileMaps) (P' : List Debt) (mine' : ℕ → ℕ → Bool) (Q' : ℕ → Bool) : Type 0 where
  pub row : IsRow file off old put staged new
  pub range : IsFileRange file off len
  pub holds_file : IsTrue (held lane file.0)
  pub begins : BeginsChain P lane new P'
  pub piece : IsHoleOrRun C.maps file off len old
  pub old_fits : FitsAt old off
  pub put_fits : FitsAt put off
  pub put_within : (o : ℕ) → offsets_of put o off ≤ one_if (is_within off len o)
  pub change : (maps : FileMaps) → AreGoodMaps maps → IsHoleOrRun maps file off len old
      → (f o b : ℕ) → holds (A maps) f o b + cond (eqb file.0 f) (layout_of old b o off) 0 ≡ holds maps f o b + cond (eqb file.0 f) (layout_of put b o off) 0
  pub good : (maps : FileMaps) → AreGoodMaps maps → AreGoodMaps (A maps)
  pub valid : All (λ w. IsWork w) new
  pub uses : UsesStaged lane mine Q (λ b. cond staged (blocks_of put b) 0) mine' Q'
  pub own : (b : ℕ) → 0 < cond staged (blocks_of put b) 0 → IsTrue (mine lane b)
  pub raises : (b : ℕ) → 0 < cond staged 0 (blocks_of put b) → 2 ≤ owners_in (held lane) (A M) b
  pub unlike : (o b : ℕ) → 0 < cond staged 0 (layout_of put b o off) → holds M file.0 o b ≡ 0

blocks-le : (run : Option Run) (b : ℕ) → blocks_of run b ≤ 1
blocks-le None b = omega arith
blocks-le (Some run) b = at_most_one _

layout-le : (run : Option Run) (b o off : ℕ) → layout_of run b o off ≤ 1
layout-le None b o off = omega arith
layout-le (Some run) b o off = at_most_one _

-- a block that is laid out is one of the run's, at an offset of a file
laid_in : (run : Option Run) (b o off : ℕ) → FitsAt run off → 0 < layout_of run b o off → (0 < blocks_of run b) × (o < OFFSETS)
laid_in None b o off fits some = absurd (omega (arith, some))
laid_in (Some run) b o off fits some =
    let both = and_one (is_within off run.len o) (eqb (b + off) (run.start.0 + o)) some in
    let r = run-range off run.len o both.0 in
    let e : b + off ≡ run.start.0 + o = ⊎_elim (λ e. e) (λ ne. absurd (omega (arith, both.1, ap one_if (ne_eqb (b + off) (run.start.0 + o) ne)))) (cases_eq (b + off) (run.start.0 + o)) in
    (omega (arith, Rattle.xr_balance.proofs.LastLowering.inside_one run.start.0 run.len b (omega (arith, e, r.0)) (omega (arith, e, r.1))), omega (arith, r.1, fits))
  where
    and_one : (s t : Bool) → 0 < one_if (s && t) → (one_if s ≡ 1) × (one_if t ≡ 1)
    and_one true true h = (refl, refl)
    and_one true false h = absurd (omega (arith, h))
    and_one false t h = absurd (omega (arith, h))

pub two_conds : (s t : Bool) (n : ℕ) → cond s (cond t n 0) 0 ≤ n
two_conds true true n = omega arith
two_conds true false n = omega arith
two_conds false t n = omega arith

-- a block of the piece has an owner in its file
piece_owner : (maps : FileMaps) (file : FileNo) (off len : ℕ) (old : Option Run) (b : ℕ) → IsHoleOrRun maps file off len old → FitsAt old off → 0 < blocks_of old b → 0 < owners_of_file maps b file.0
piece_owner maps file off len None b piece fits some = absurd (omega (arith, some))
piece_owner maps file off len (Some run) b piece fits some =
    let one : in_run b run ≡ 1 = omega (arith, some, at_most_one (is_within run.start.0 run.len b)) in
    let r = run-range run.start.0 run.len b one in
    let o : ℕ = off + (b - run.start.0) in
    let laid = layout-there b off run one in
    let all = piece_layout maps file off len (Some run) piece file.0 o b in
    let here : eqb file.0 file.0 ≡ true = eq-eqb file.0 file.0 refl in
    let right : cond (eqb file.0 file.0) (layout_of (Some run) b o off) 0 ≡ layout_of (Some run) b o off = ap (λ t. cond t (layout_of (Some run) b o off) 0) here in
    omega (arith, laid, all, right, two_conds (eqb file.0 file.0) (is_within off len o) (holds maps file.0 o b), term-le OFFSETS o (λ k. holds maps file.0 k b) (omega (arith, r.0, r.1, fits)))

-- in the range of the piece the file is mapped exactly where it is taken out
pub piece_fills : (maps : FileMaps) (file : FileNo) (off len : ℕ) (old : Option Run) (o : ℕ) → IsHoleOrRun maps file off len old → is_mapped maps file.0 o + one_if (is_within off len o) ≤ 1 + offsets_of old o off
piece_fills maps file off len (Some run) o piece = omega (arith, at_most_one (is_some (address_at maps file.0 o)), ap (λ n. one_if (is_within off n o)) piece.1)
piece_fills maps file off len None o piece = ⊎_elim
    (λ it. let hole : address_at maps file.0 o ≡ None = ap (address_at maps file.0) (omega (arith, it.0)) ∙ piece (o - off) (omega (arith, it.0, it.1)) in
    omega (arith, ap (λ s. one_if (is_some s)) hole, at_most_one (is_within off len o)))
    (λ out. omega (arith, ap one_if out, at_most_one (is_some (address_at maps file.0 o))))
    (in_or_out off len o)

pub owners_in-le : (test : ℕ → Bool) (M : FileMaps) (b : ℕ) → owners_in test M b ≤ owners M b
owners_in-le test M b = below-le FILES _ _ (λ f. part (test f) (owners_of_file M b f))
  where
    part : (t : Bool) (n : ℕ) → cond t n 0 ≤ n
    part true n = omega arith
    part false n = omega arith

some_term : (n : ℕ) (g : ℕ → ℕ) → 0 < sum_below n g → (k : ℕ) × (k < n) × (0 < g k)
unfolding sum_below
some_term zero g some = absurd (omega (arith, some))
some_term (suc n) g some = ⊎_elim
    (λ here. (n, omega arith, here))
    (λ none. let rest = some_term n g (omega (arith, some, none)) in (rest.0, omega (arith, rest.1), rest.2))
    (cases_lt 0 (g n))

-- a block with an owner in files that pass has one
pub some_owner : (test : ℕ → Bool) (M : FileMaps) (b : ℕ) → 0 < owners_in test M b → (f : ℕ) × (f < FILES) × (IsTrue (test f)) × (0 < owners_of_file M b f)
some_owner test M b some =
    let it = some_term FILES (λ f. cond (test f) (owners_of_file M b f) 0) some in
    let both = passes (test it.0) (owners_of_file M b it.0) it.2 in
    (it.0, it.1, both.0, both.1)
  where
    passes : (t : Bool) (n : ℕ) → 0 < cond t n 0 → (IsTrue t) × (0 < n)
    passes true n h = (refl, h)
    passes false n h = absurd (omega (arith, h))

-- the sum over the lanes falls by what one of them uses
pub uses_sum : (lane : ℕ) (mine mine' : ℕ → ℕ → Bool) (used : ℕ → ℕ) (b : ℕ) → IsLane lane → one_if (mine' lane b) + used b ≡ one_if (mine lane b) → ((l : ℕ) → l ≢ lane → mine' l b ≡ mine l b)
    → sum_of_lanes (λ l. one_if (mine' l b)) + used b ≡ sum_of_lanes (λ l. one_if (mine l b))
uses_sum lane mine mine' used b seat own others =
    let one : ℕ → ℕ = λ l. cond (eqb l lane) (used b) 0 in
    let all : sum_of_lanes (λ l. one_if (mine' l b)) + sum_of_lanes one ≡ sum_of_lanes (λ l. one_if (mine l b)) + sum_below 8 (λ _. 0) =
    sum_below-balance 8 (λ k. one_if (mine' (suc k) b)) (λ k. one (suc k)) (λ k. one_if (mine (suc k) b)) (λ _. 0) (λ k _. let l : ℕ = suc k in ⊎_elim
    (λ e. omega (arith, own, ap (λ m. one_if (mine' m b)) e, ap (λ m. one_if (mine m b)) e, ap (λ t. cond t (used b) 0) (eq-eqb l lane e)))
    (λ ne. omega (arith, ap one_if (others l ne), ap (λ t. cond t (used b) 0) (ne_eqb l lane ne)))
    (cases_eq l lane)) in
    let it_is : sum_of_lanes one ≡ used b = sum_below-one 8 (lane - 1) (λ k. one (suc k)) (omega (arith, seat.0, seat.1)) (λ k _ ne. ap (λ t. cond t (used b) 0) (ne_eqb (suc k) lane (λ e. ne (omega (arith, e)))))
    ∙ ap (λ t. cond t (used b) 0) (eq-eqb (suc (lane - 1)) lane (omega (arith, seat.0))) in
    omega (arith, all, it_is, sum_below-none 8 (λ _. 0) (λ _ _. refl))

true_is : (t : Bool) → IsTrue t → t ≡ true
true_is true h = refl
true_is false h = absurd (omega (arith, ap one_if h))

split_cond : (t : Bool) (n : ℕ) → cond t n 0 + cond t 0 n ≡ n
split_cond true n = omega arith
split_cond false n = omega arith

-- all that the step's first commit is given
pub whole : (held mine mine' : ℕ → ℕ → Bool) {C : Committed} {P P' : List Debt} {M : FileMaps} {Q Q' : ℕ → Bool} {lane : ℕ} {file : FileNo} {off len : ℕ} {old put : Option Run} {staged : Bool} {new : List Work} (A : FileMaps → FileMaps)
    → (was : IsSettled C P M Q) → LanesHold held mine P M Q → Begins held mine C P M Q lane file off len old put staged new A P' mine' Q'
    → BeginsStep C P M was.base Q lane new P' (A M) (A was.base) Q' × StepsInLane held mine P M Q lane new P' (A M) mine' Q' × ((f : ℕ) → 0 < sum_by (naming_file f) new → total (naming_file f) P ≡ 0)
whole held mine mine' {C} {P} {P'} {M} {Q} {Q'} {lane} {file} {off} {len} {old} {put} {staged} {new} A was lanes it =
    let B : FileMaps = was.base in
    let M' : FileMaps = A M in
    let row = it.row in
    let used : ℕ → ℕ = λ b. cond staged (blocks_of put b) 0 in
    let none : total (naming_file file.0) P ≡ 0 = idle_is_apart held mine C P M Q lane file.0 was lanes it.begins.idle it.holds_file in
    let agree = file_agrees file.0 was none in
    let piece_B = same_piece C.maps B file off len old (λ o b. (agree o b).0) it.piece in
    let piece_M = same_piece B M file off len old (λ o b. (agree o b).1) piece_B in
    let base = it.change B was.good_base piece_B in
    let step = it.change M was.good_maps piece_M in
    let apart : (f o b : ℕ) → f ≢ file.0 → (holds (A B) f o b ≡ holds B f o b) × (holds M' f o b ≡ holds M f o b) = λ f o b ne.
    let no : eqb file.0 f ≡ false = ne_eqb file.0 f (λ h. ne (sym h)) in
    let a = ap (λ t. cond t (layout_of old b o off) 0) no in
    let c = ap (λ t. cond t (layout_of put b o off) 0) no in
    (omega (arith, base f o b, a, c), omega (arith, step f o b, a, c)) in
    let own_total : (b : ℕ) → owners M' b + blocks_of old b ≡ owners M b + blocks_of put b = λ b.
    owners_step (λ _. true) b file.0 off old put M M' it.range.file_there it.old_fits it.put_fits refl (λ f o. step f o b) in
    let own_held : (b : ℕ) → owners_in (held lane) M' b + blocks_of old b ≡ owners_in (held lane) M b + blocks_of put b = λ b.
    owners_step (held lane) b file.0 off old put M M' it.range.file_there it.old_fits it.put_fits (true_is (held lane file.0) it.holds_file) (λ f o. step f o b) in
    let staged_for = λ (b : ℕ) (some : 0 < used b). idle_is_staged held mine C P M Q lane b was lanes it.begins.seat it.begins.idle (it.own b some) in
    let owned : (f b : ℕ) → f < FILES → IsTrue (held lane f) → 0 < owners_of_file M b f → (one_if (Q b) ≡ 0) × (total (unstaging b) P ≡ 0) = λ f b fl is some. owned_is_unstaged held mine C P M Q lane f b was lanes it.begins.idle fl is some in
    let counted : (b : ℕ) → 0 < sum_by (raised b) new + sum_by (lowered b) new → (one_if (Q b) ≡ 0) × (total (unstaging b) P ≡ 0) = λ b some. ⊎_elim
    (λ in_old. owned file.0 b it.range.file_there it.holds_file (piece_owner M file off len old b piece_M it.old_fits in_old))
    (λ out. let raise : 0 < cond staged 0 (blocks_of put b) = omega (arith, some, out, row.raises b, row.lowers b) in
    let at = some_owner (held lane) M b (omega (arith, it.raises b raise, own_held b, blocks-le put b)) in
    owned at.0 b at.1 at.2 at.3)
    (cases_lt 0 (blocks_of old b)) in
    let named_file : (f : ℕ) → 0 < sum_by (naming_file f) new → f ≡ file.0 = λ f some. ⊎_elim (λ e. e) (λ ne. absurd (omega (arith, some, row.files f ne))) (cases_eq f file.0) in
    let counts : (b : ℕ) → owners M' b + one_if (Q' b) + sum_by (lowered b) new ≡ owners M b + one_if (Q b) + sum_by (raised b) new = λ b.
    omega (arith, own_total b, it.uses.staged b, row.lowers b, row.raises b, split_cond staged (blocks_of put b)) in
    let lane_step : StepsInLane held mine P M Q lane new P' M' mine' Q' = record {
      begins = it.begins;
      files = λ f some. subst (λ g. IsTrue (held lane g)) (sym (named_file f some)) it.holds_file;
      elsewhere = λ f b out. ⊎_elim
          (λ e. absurd (omega (arith, is_one (held lane file.0) it.holds_file, ap (λ g. one_if (held lane g)) (sym e), ap one_if out)))
          (λ ne. sum_below-same OFFSETS _ _ (λ o. (apart f o b ne).1))
          (cases_eq f file.0);
      counts = counts;
      staged = λ b. omega (arith, it.uses.staged b, row.unstages b);
      raises = λ b. ⊎_elim
          (λ some. omega (arith, some, row.raises b, it.raises b (omega (arith, some, row.raises b)), split_cond staged (blocks_of put b), blocks-le put b))
          (λ zero. omega (arith, zero))
          (cases_lt 0 (sum_by (raised b) new));
      unstages = λ b some.
          let q = staged_for b (omega (arith, some, row.unstages b)) in
          omega (arith, was.staging.unowned b q.1, own_total b, own_held b, owners_in-le (held lane) M b);
      no_staging = λ b. omega (arith, row.step.no_staging b, row.step.no_staging_pair b);
      quiet = λ b some. ⊎_elim
          (λ counting. (counted b counting).1)
          (λ zero. let q = staged_for b (omega (arith, some, zero, row.unstages b)) in omega (arith, q.0))
          (cases_lt 0 (sum_by (raised b) new + sum_by (lowered b) new));
      others = it.uses.others;
      own = λ b. omega (arith, lanes.staged_for b, it.uses.staged b, uses_sum lane mine mine' used b it.begins.seat (it.uses.own b) (λ l ne. it.uses.others l b ne));
    } in
    let after : LanesHold held mine' P' M' Q' = step_holds held mine mine' P P' M M' Q Q' lane new lanes lane_step in (
      record {
        begins = it.begins;
        chain = row.chain;
        row = row.step;
        good_base = it.good B was.good_base;
        good = it.good M was.good_maps;
        base = λ f o b. omega (arith, base f o b, row.unmaps f o b, row.maps f o b);
        step = λ f o b. omega (arith, step f o b, row.unmaps f o b, row.maps f o b);
        staged = λ b. omega (arith, it.uses.staged b, row.unstages b);
        counts = counts;
        quiet = λ f o. ⊎_elim
            (λ e. inl (subst (λ g. Rattle.xr_balance.proofs.QuietLemmas.IsQuiet P g o) (sym e) (quiet_at P file.0 o none)))
            (λ ne. let no : eqb file.0 f ≡ false = ne_eqb file.0 f (λ h. ne (sym h)) in
            inr (omega (arith, row.maps_at f o, row.unmaps_at f o, ap (λ t. cond t (offsets_of put o off) 0) no, ap (λ t. cond t (offsets_of old o off) 0) no)))
            (cases_eq f file.0);
        takes = λ f o b. omega (
          arith,
          total-begins (taking (A B) f o b) P lane new it.begins.after,
          row.takes (A B) f o b,
          total-same (taking (A B) f o b) (taking B f o b) P (λ k d l.
              apart_taking (A B) B file.0 f o b (get_or P k d).work (omega (arith, none, get_or-le-sum_by (λ (e : Debt). naming_file file.0 e.work) P k d l)) (λ g p c ne. (apart g p c ne).0)),
        );
        brings = λ f o b. omega (
          arith,
          total-begins (bringing (A B) f o b) P lane new it.begins.after,
          row.brings (A B) f o b,
          total-same (bringing (A B) f o b) (bringing B f o b) P (λ k d l.
              apart_bringing (A B) B file.0 f o b (get_or P k d).work (omega (arith, none, get_or-le-sum_by (λ (e : Debt). naming_file file.0 e.work) P k d l)) (λ g p c ne. (apart g p c ne).0)),
        );
        old_there = λ f o b. omega (arith, row.unmaps f o b, piece_layout C.maps file off len old it.piece f o b, two_conds (eqb file.0 f) (is_within off len o) (holds C.maps f o b));
        fills = λ f o. ⊎_elim
            (λ e. let same : eqb file.0 f ≡ true = eq-eqb file.0 f e in
            omega (arith, row.maps_at f o, row.unmaps_at f o, ap (λ t. cond t (offsets_of put o off) 0) same, ap (λ t. cond t (offsets_of old o off) 0) same, piece_fills C.maps file off len old o it.piece, it.put_within o, ap (λ g. is_mapped C.maps g o) e))
            (λ ne. omega (arith, row.maps_at f o, ap (λ t. cond t (offsets_of put o off) 0) (ne_eqb file.0 f ne), at_most_one (is_some (address_at C.maps f o))))
            (cases_eq file.0 f);
        others = λ f o b. ⊎_elim
            (λ e. let laid : sum_by (mapping f o b) new ≡ layout_of put b o off = row.maps f o b ∙ ap (λ t. cond t (layout_of put b o off) 0) (eq-eqb file.0 f e) in
            let agrees : holds B f o b ≡ holds M file.0 o b = ap (λ g. holds B g o b) (sym e) ∙ (agree o b).1 in
            ⊎_elim
            (λ some. omega (arith, laid, agrees, layout-le put b o off, unlike_there o b some))
            (λ zero. omega (arith, zero, laid, at_most_one (Rattle.xr_maps.specs.Records.maps_to (Rattle.xr_base.specs.Address.address_of b) (address_at B f o))))
            (cases_lt 0 (layout_of put b o off)))
            (λ ne. omega (arith, row.maps f o b, ap (λ t. cond t (layout_of put b o off) 0) (ne_eqb file.0 f ne), at_most_one (Rattle.xr_maps.specs.Records.maps_to (Rattle.xr_base.specs.Address.address_of b) (address_at B f o))))
            (cases_eq file.0 f);
        there = λ b some. ⊎_elim
            (λ in_old. omega (arith, piece_owner M file off len old b piece_M it.old_fits in_old, term-le FILES file.0 (owners_of_file M b) it.range.file_there))
            (λ out. ⊎_elim
            (λ staged_one. omega (arith, is_one (Q b) (staged_for b staged_one).1))
            (λ zero. let raise : 0 < cond staged 0 (blocks_of put b) = omega (arith, row.names b some, out, zero, split_cond staged (blocks_of put b)) in
            omega (arith, it.raises b raise, own_held b, blocks-le put b, owners_in-le (held lane) M b))
            (cases_lt 0 (used b)))
            (cases_lt 0 (blocks_of old b));
        counted_unstaged = counted;
        staged_now = λ b some. (staged_for b (omega (arith, some, row.unstages b))).0;
        two_owners = λ b. omega (arith, total-begins (raised b) P lane new it.begins.after, two_owners held mine' P' M' Q' b (all_begin (λ d. IsLane d.lane) P new it.begins.after was.parted.lanes (λ k d l. it.begins.seat)) after);
      },
      lane_step,
      λ f some. ap (λ g. total (naming_file g) P) (named_file f some) ∙ none,
    )
  where
    -- what is put at an offset isn't there
    unlike_there : (o b : ℕ) → 0 < layout_of put b o off → holds M file.0 o b ≡ 0
    unlike_there o b some = ⊎_elim
        (λ staged_one. let q = idle_is_staged held mine C P M Q lane b was lanes it.begins.seat it.begins.idle (it.own b (staged_block staged_one)) in
        omega (arith, was.staging.unowned b q.1, one_owner M file.0 o b it.range.file_there (laid_in put b o off it.put_fits some).1))
        (λ zero. it.unlike o b (omega (arith, zero, some, split_cond staged (layout_of put b o off))))
        (cases_lt 0 (cond staged (layout_of put b o off) 0))
      where
        staged_block : 0 < cond staged (layout_of put b o off) 0 → 0 < cond staged (blocks_of put b) 0
        staged_block h = both staged h
          where
            both : (t : Bool) → 0 < cond t (layout_of put b o off) 0 → 0 < cond t (blocks_of put b) 0
            both true h = (laid_in put b o off it.put_fits h).0
            both false h = absurd (omega (arith, h))
