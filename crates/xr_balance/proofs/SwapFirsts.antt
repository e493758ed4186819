-- The first commit of an exchange: what the maps hold, the owners that stay, and what lanes hold.
use Rattle.xr_maps.specs.StepLaws.{sum_below-same}
use Rattle.std.proofs.Common.{◌≡◌, ℕ, ◌+◌, ◌-◌, ◌<◌, List, cond, eqb, arith, refl, ap, sym, ◌∙◌, Bool, ⊎_elim, ◌⊎◌, subst}
use Rattle.std.specs.Prelude.{◌≢◌, ◌&&◌, IsTrue}
use Rattle.std.proofs.lemmas.Bool.{cases_eq, ne_eqb}
use Rattle.xr_base.specs.declared.address.FileNo.{FileNo}
use Rattle.xr_base.specs.declared.geometry.TheConstants.{OFFSETS}
use Rattle.xr_base.specs.Address.{address_of}
use Rattle.xr_maps.specs.FileMaps.{FileMaps, address_at, AreGoodMaps}
use Rattle.xr_maps.specs.Records.{maps_to}
use Rattle.xr_maps.specs.declared.steps.Step.TheVariants.{Exchange}
use Rattle.xr_maps.specs.Steps.{is_within, applied, IsFileRange}
use Rattle.xr_maps.specs.Holdings.{holds, one_if}
use Rattle.xr_maps.specs.StepLaws.{exchange_swaps, steps_leave_good_maps}
use Rattle.xr_items.specs.declared.work.Work.{Work}
use Rattle.xr_items.specs.declared.work.Work.TheVariants.{Swap}
use Rattle.xr_balance.proofs.StepPremises.{Exchanges, StepsInLane}
use Rattle.xr_balance.specs.FirstGives.{FirstGives}
use Rattle.xr_balance.specs.Lanes.{LanesHold}
use Rattle.xr_balance.specs.Rows.{works_of_exchange}
use Rattle.xr_balance.specs.Settled.{Committed, IsSettled, bringing, taking}
use Rattle.xr_balance.specs.Stagings.{BeginsChain}
use Rattle.xr_balance.specs.Works.{Debt, naming_file, total}
use Rattle.xr_balance.proofs.ExchangeBalances.{exchange_keeps_owners, exchange_moves}
use Rattle.xr_balance.proofs.FirstCommits.{is_one}
use Rattle.xr_balance.proofs.LaneLemmas.{idle_is_apart}
use Rattle.xr_balance.proofs.RowLemmas.{two_files}
use Rattle.xr_balance.proofs.WholeFirsts.{file_agrees, uses_staged, uses_sum}

-- the base and the maps agree on both files
same_swap : (A B : FileMaps) (file : FileNo) (off : ℕ) (other : FileNo) (other_off len : ℕ) → ((o b : ℕ) → holds A file.0 o b ≡ holds B file.0 o b) → ((o b : ℕ) → holds A other.0 o b ≡ holds B other.0 o b)
    → (f o b : ℕ) → (taking A f o b (Swap file off other other_off len) ≡ taking B f o b (Swap file off other other_off len)) × (bringing A f o b (Swap file off other other_off len) ≡ bringing B f o b (Swap file off other other_off len))
same_swap A B file off other other_off len one two f o b =
    let part : (a : ℕ) (t : Bool) → ((p c : ℕ) → holds A a p c ≡ holds B a p c) → cond (eqb a f && t) (holds A f o b) 0 ≡ cond (eqb a f && t) (holds B f o b) 0 = λ a t same. ⊎_elim
    (λ e. ap (λ n. cond (eqb a f && t) n 0) (ap (λ g. holds A g o b) (sym e) ∙ same o b ∙ ap (λ g. holds B g o b) e))
    (λ ne. rw (ne_eqb a f ne) refl)
    (cases_eq a f) in (
      omega (arith, part file.0 (is_within off len o) one, part other.0 (is_within other_off len o) two),
      rw (two (other_off + (o - off)) b, one (off + (o - other_off)) b) refl,
    )

-- a file that the exchange doesn't name stays
untouched : (M : FileMaps) (file : FileNo) (off : ℕ) (other : FileNo) (other_off len f o : ℕ) → AreGoodMaps M → IsFileRange file off len → IsFileRange other other_off len → f ≢ file.0 → f ≢ other.0
    → address_at (applied (Exchange file off other other_off len) M) f o ≡ address_at M f o
untouched M file off other other_off len f o good range other_range not_one not_two =
    exchange_swaps M file off other other_off len good range other_range f o ∙ rw (ne_eqb f file.0 not_one, ne_eqb f other.0 not_two) refl

-- what the first commit of an exchange is given
pub swap_whole : (held mine mine' : ℕ → ℕ → Bool) {C : Committed} {P P' : List Debt} {M : FileMaps} {Q Q' : ℕ → Bool} {lane : ℕ} (file : FileNo) (off : ℕ) (other : FileNo) (other_off len : ℕ) (staged : Bool)
    → (was : IsSettled C P M Q) → LanesHold held mine P M Q → FirstGives held mine C P M Q lane (Exchange file off other other_off len) staged P' mine' Q'
    → Exchanges P M was.base lane file off other other_off len P' (applied (Exchange file off other other_off len) M)
    × StepsInLane held mine P M Q lane (works_of_exchange file off other other_off len) P' (applied (Exchange file off other other_off len) M) mine' Q'
swap_whole held mine mine' {C} {P} {P'} {M} {Q} {Q'} {lane} file off other other_off len staged was lanes it =
    let new : List Work = works_of_exchange file off other other_off len in
    let M' : FileMaps = applied (Exchange file off other other_off len) M in
    let range = it.fits.0 in
    let other_range = it.fits.1 in
    let none : total (naming_file file.0) P ≡ 0 = idle_is_apart held mine C P M Q lane file.0 was lanes it.begins.idle it.holds_files.0 in
    let other_none : total (naming_file other.0) P ≡ 0 = idle_is_apart held mine C P M Q lane other.0 was lanes it.begins.idle it.holds_files.1 in
    let same = same_swap was.base M file off other other_off len (λ o b. (file_agrees file.0 was none o b).1) (λ o b. (file_agrees other.0 was other_none o b).1) in
    let uses = uses_staged held mine mine' lanes it.begins.seat it.uses (λ b one. absurd (omega (arith, one))) in
    let owners_stay = exchange_keeps_owners M file off other other_off len was.good_maps it.fits in
    let begins : BeginsChain P lane new P' = subst (λ l. BeginsChain P lane l P') it.row it.begins in
    let of_two : (f : ℕ) → 0 < naming_file f (Swap file off other other_off len) → (f ≡ file.0) ⊎ (f ≡ other.0) = λ f some. two_files file.0 other.0 f some in (
      record {
        begins = begins;
        valid = record {
          first_file = range.file_there;
          second_file = other_range.file_there;
          some = omega (arith, range.some);
          first_range = range.within;
          second_range = other_range.within;
          apart = λ e. ⊎_elim (λ differs. absurd (differs (ap (λ n. let number : FileNo = record { 0 = n } in number) e))) (λ order. order) it.fits.2;
        };
        quiet = λ f some. ⊎_elim (λ e. ap (λ g. total (naming_file g) P) e ∙ none) (λ e. ap (λ g. total (naming_file g) P) e ∙ other_none) (of_two f some);
        good = steps_leave_good_maps (Exchange file off other other_off len) M it.fits was.good_maps;
        step = λ f o b. omega (arith, exchange_moves M file off other other_off len was.good_maps it.fits f o b, (same f o b).0, (same f o b).1);
        same_owners = owners_stay;
      },
      record {
        begins = begins;
        files = λ f some. ⊎_elim (λ e. subst (λ g. IsTrue (held lane g)) (sym e) it.holds_files.0) (λ e. subst (λ g. IsTrue (held lane g)) (sym e) it.holds_files.1) (of_two f (omega (arith, some)));
        elsewhere = λ f b out. sum_below-same OFFSETS _ _ (λ o. ap (λ s. one_if (maps_to (address_of b) s)) (untouched M file off other other_off len f o was.good_maps range other_range
            (λ e. absurd (omega (arith, is_one (held lane file.0) it.holds_files.0, ap (λ g. one_if (held lane g)) (sym e), ap one_if out)))
            (λ e. absurd (omega (arith, is_one (held lane other.0) it.holds_files.1, ap (λ g. one_if (held lane g)) (sym e), ap one_if out)))));
        counts = λ b. omega (arith, owners_stay b, uses.staged b);
        staged = λ b. omega (arith, uses.staged b);
        raises = λ b. omega arith;
        unstages = λ b some. absurd (omega (arith, some));
        no_staging = λ b. refl;
        quiet = λ b some. absurd (omega (arith, some));
        others = uses.others;
        own = λ b. omega (arith, lanes.staged_for b, uses.staged b, uses_sum lane mine mine' (λ _. 0) b it.begins.seat (uses.own b) (λ l ne. uses.others l b ne));
      },
    )
