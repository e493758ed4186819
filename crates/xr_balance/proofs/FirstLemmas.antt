-- The first commit of each kind of step keeps the balance and what lanes hold.
use Rattle.std.proofs.Common.{◌≡◌, ℕ, ◌+◌, ◌-◌, ◌<◌, ◌≤◌, List, [], cond, eqb, arith, refl, ap, sym, ◌∙◌, true, false, Bool, ⊎_elim, Option, Some, None, subst}
use Rattle.std.specs.Prelude.{⊤, ◌≢◌, ◌&&◌, All, IsTrue}
use Rattle.std.proofs.lemmas.Bool.{cases_eq, ne_eqb}
use Rattle.xr_base.specs.declared.address.FileNo.{FileNo}
use Rattle.xr_base.specs.declared.address.Run.{Run}
use Rattle.xr_base.specs.declared.address.Addr.{Addr}
use Rattle.xr_base.specs.declared.geometry.TheConstants.{FILES, OFFSETS, FIRST_INODE, OWN_COW}
use Rattle.xr_base.specs.Address.{IsGoodRun, address_of}
use Rattle.xr_maps.specs.FileMaps.{FileMaps, AreGoodMaps, address_at}
use Rattle.xr_maps.specs.declared.steps.Step.TheVariants.{Remap, Punch, Exchange}
use Rattle.xr_maps.specs.Records.{maps_to}
use Rattle.xr_maps.specs.Steps.{is_within, applied, IsFileRange}
use Rattle.xr_maps.specs.Holdings.{holds, one_if}
use Rattle.xr_maps.specs.StepLaws.{punch_takes, remap_puts, steps_leave_good_maps}
use Rattle.xr_items.specs.Valid.{IsWork, IsInode, KeepsOffsets}
use Rattle.xr_balance.specs.FirstGives.{FirstGives, FirstHolds, FirstKeeps}
use Rattle.xr_balance.specs.Pieces.{IsHoleOrRun}
use Rattle.xr_balance.specs.Lanes.{LanesHold}
use Rattle.xr_balance.specs.Rows.{works_of_exchange, works_of_fresh, works_of_punch, works_of_share}
use Rattle.xr_balance.specs.Settled.{Committed, IsSettled, chain_of}
use Rattle.xr_balance.specs.Works.{Debt}
use Rattle.xr_balance.proofs.SumLemmas.{at_most_one, run-range}
use Rattle.xr_balance.proofs.FirstCommits.{first_keeps}
use Rattle.xr_balance.proofs.PieceLemmas.{blocks_of, offsets_of, layout_of, FitsAt, Each, all_each, row_of_punch, row_of_share, row_of_fresh, piece_layout}
use Rattle.xr_balance.proofs.StepLaneLemmas.{step_holds}
use Rattle.xr_balance.proofs.WholeFirsts.{Begins, whole, file_agrees, uses_staged}
use Rattle.xr_balance.proofs.SwapFirsts.{swap_whole}
use Rattle.xr_balance.proofs.StagingEvents.{exchange_keeps}
use Rattle.xr_balance.proofs.LaneLemmas.{idle_is_apart}

-- a row's works on a file's range are valid
pub owner_good : (file off : ℕ) (run : Run) → file < FILES → off + run.len ≤ OFFSETS
    → IsInode (FIRST_INODE + file) × KeepsOffsets (FIRST_INODE + file) off run.len
owner_good file off run small fits = ((omega arith, omega (arith, small)), (λ _. fits, λ e. absurd (omega (arith, e, small))))

cow_good : (run : Run) → KeepsOffsets OWN_COW 0 run.len
cow_good run = (λ x. absurd (omega (arith, x.1)), λ _. refl)

punch_valid : (file : FileNo) (off : ℕ) (old : Run) → IsGoodRun old → file.0 < FILES → off + old.len ≤ OFFSETS → All (λ w. IsWork w) (works_of_punch file off old)
punch_valid file off old good small fits = let o = owner_good file.0 off old small fits in
    all_each IsWork (works_of_punch file off old) ((good, small, fits), ((good, o.0, o.1), (good, tt)))

abbrev OldGood : Option Run → ℕ → Type 0
OldGood None off = ⊤
OldGood (Some run) off = IsGoodRun run × (off + run.len ≤ OFFSETS)

share_valid : (file : FileNo) (off : ℕ) (old : Option Run) (new : Run) → OldGood old off → IsGoodRun new → file.0 < FILES → off + new.len ≤ OFFSETS → All (λ w. IsWork w) (works_of_share file off old new)
share_valid file off (Some old) new was good small fits = let o = owner_good file.0 off old small was.1 in let n = owner_good file.0 off new small fits in
    all_each IsWork (works_of_share file off (Some old) new) ((was.0, small, was.1), ((good, small, fits), ((was.0, o.0, o.1), ((good, n.0, n.1), (good, (was.0, tt))))))
share_valid file off None new was good small fits = let n = owner_good file.0 off new small fits in
    all_each IsWork (works_of_share file off None new) ((good, small, fits), ((good, n.0, n.1), (good, tt)))

fresh_valid : (file : FileNo) (off : ℕ) (old : Option Run) (new : Run) → OldGood old off → IsGoodRun new → file.0 < FILES → off + new.len ≤ OFFSETS → All (λ w. IsWork w) (works_of_fresh file off old new)
fresh_valid file off (Some old) new was good small fits = let o = owner_good file.0 off old small was.1 in let n = owner_good file.0 off new small fits in
    all_each IsWork (works_of_fresh file off (Some old) new) ((was.0, small, was.1), ((good, small, fits), ((good, refl, cow_good new), ((was.0, o.0, o.1), ((good, n.0, n.1), (good, (was.0, tt)))))))
fresh_valid file off None new was good small fits = let n = owner_good file.0 off new small fits in
    all_each IsWork (works_of_fresh file off None new) ((good, small, fits), ((good, refl, cow_good new), ((good, n.0, n.1), (good, tt))))

old_good : (maps : FileMaps) (file : FileNo) (off len : ℕ) (old : Option Run) → IsHoleOrRun maps file off len old → off + len ≤ OFFSETS → OldGood old off
old_good maps file off len None piece fits = tt
old_good maps file off len (Some run) piece fits = (piece.0, omega (arith, piece.1, fits))

old_fits : (old : Option Run) (off : ℕ) → OldGood old off → FitsAt old off
old_fits None off good = tt
old_fits (Some run) off good = good.1

swap_sides : (x y u v : ℕ) → x + y ≡ u → u + 0 ≡ x + y
swap_sides x y u v e = omega (arith, e)

-- a punch
punch_begins : (held mine mine' : ℕ → ℕ → Bool) {C : Committed} {P P' : List Debt} {M : FileMaps} {Q Q' : ℕ → Bool} {lane : ℕ} (file : FileNo) (off len : ℕ) (staged : Bool) → LanesHold held mine P M Q
    → (it : FirstGives held mine C P M Q lane (Punch file off len) staged P' mine' Q')
    → Begins held mine C P M Q lane file off len (Some it.row.old) None false it.new (applied (Punch file off len)) P' mine' Q'
punch_begins held mine mine' {C} {P} {P'} {M} {Q} {Q'} {lane} file off len staged lanes it =
    let old : Run = it.row.old in
    let piece = it.row.piece in
    record {
      row = subst (Rattle.xr_balance.proofs.PieceLemmas.IsRow file off (Some old) None false) (sym it.row.row) (row_of_punch file off old);
      range = it.fits;
      holds_file = it.holds_files;
      begins = it.begins;
      piece = piece;
      old_fits = omega (arith, piece.1, it.fits.within);
      put_fits = tt;
      put_within = λ o. omega arith;
      change = λ maps good there f o b.
          let range : IsFileRange file off old.len = record { file_there = it.fits.file_there; some = omega (arith, it.fits.some, there.1); within = omega (arith, it.fits.within, there.1) } in
          let takes = punch_takes maps file off old good range (λ k l. there.2 k (omega (arith, l, there.1))) f o b in
          omega (arith, takes, ap (λ n. holds (applied (Punch file off n) maps) f o b) there.1, Rattle.xr_balance.proofs.PieceLemmas.zero_cond (eqb file.0 f));
      good = λ maps good. steps_leave_good_maps (Punch file off len) maps it.fits good;
      valid = subst (All (λ w. IsWork w)) (sym it.row.row) (punch_valid file off old piece.0 it.fits.file_there (omega (arith, piece.1, it.fits.within)));
      uses = uses_staged held mine mine' lanes it.begins.seat it.uses (λ b one. absurd (omega (arith, one)));
      own = λ b some. absurd (omega (arith, some));
      raises = λ b some. absurd (omega (arith, some));
      unlike = λ o b some. absurd (omega (arith, some));
    }

-- a remap
remap_changes : (file : FileNo) (off : ℕ) (old : Option Run) (new : Run) (maps : FileMaps) → IsFileRange file off new.len → AreGoodMaps maps → IsHoleOrRun maps file off new.len old
    → (f o b : ℕ) → holds (applied (Remap file off new.len new.start) maps) f o b + cond (eqb file.0 f) (layout_of old b o off) 0 ≡ holds maps f o b + cond (eqb file.0 f) (layout_of (Some new) b o off) 0
remap_changes file off old new maps range good piece f o b = omega (arith, remap_puts maps file off new good range f o b, piece_layout maps file off new.len old piece f o b)

share_begins : (held mine mine' : ℕ → ℕ → Bool) {C : Committed} {P P' : List Debt} {M : FileMaps} {Q Q' : ℕ → Bool} {lane : ℕ} (file : FileNo) (off len : ℕ) (at : Addr)
    → ((o b : ℕ) → holds C.maps file.0 o b ≡ holds M file.0 o b) → LanesHold held mine P M Q
    → (it : FirstGives held mine C P M Q lane (Remap file off len at) false P' mine' Q')
    → Begins held mine C P M Q lane file off len it.row.old (Some (record { start = at; len = len })) false it.new (applied (Remap file off len at)) P' mine' Q'
share_begins held mine mine' {C} {P} {P'} {M} {Q} {Q'} {lane} file off len at agree lanes it =
    let run : Run = record { start = at; len = len } in
    let old : Option Run = it.row.old in
    let was = old_good C.maps file off len old it.row.piece it.fits.0.within in
    record {
      row = subst (Rattle.xr_balance.proofs.PieceLemmas.IsRow file off old (Some run) false) (sym it.row.row) (row_of_share file off old run);
      range = it.fits.0;
      holds_file = it.holds_files;
      begins = it.begins;
      piece = it.row.piece;
      old_fits = old_fits old off was;
      put_fits = it.fits.0.within;
      put_within = λ o. omega arith;
      change = λ maps good there. remap_changes file off old run maps it.fits.0 good there;
      good = λ maps good. steps_leave_good_maps (Remap file off len at) maps it.fits good;
      valid = subst (All (λ w. IsWork w)) (sym it.row.row) (share_valid file off old run was it.fits.1 it.fits.0.file_there it.fits.0.within);
      uses = uses_staged held mine mine' lanes it.begins.seat it.uses (λ b one. absurd (omega (arith, one)));
      own = λ b some. absurd (omega (arith, some));
      raises = λ b some. it.row.raises b (omega (arith, some, at_most_one (is_within at.0 len b)));
      unlike = λ o b some. sym (agree o b) ∙ other_there o b some;
    }
  where
    other_there : (o b : ℕ) → 0 < layout_of (Some (record { start = at; len = len })) b o off → holds C.maps file.0 o b ≡ 0
    other_there o b some =
        let both = and_one (is_within off len o) (eqb (b + off) (at.0 + o)) some in
        let r = run-range off len o both.0 in
        let e : b + off ≡ at.0 + o = ⊎_elim (λ e. e) (λ ne. absurd (omega (arith, both.1, ap one_if (ne_eqb (b + off) (at.0 + o) ne)))) (cases_eq (b + off) (at.0 + o)) in
        let place : off + (o - off) ≡ o = omega (arith, r.0) in
        not_there (address_at C.maps file.0 o) b (λ h. it.row.changes (o - off) (omega (arith, r.0, r.1))
        (ap (address_at C.maps file.0) place ∙ h ∙ ap (λ n. Some (address_of n)) (omega (arith, e, r.0))))
      where
        and_one : (s t : Bool) → 0 < one_if (s && t) → (one_if s ≡ 1) × (one_if t ≡ 1)
        and_one true true h = (refl, refl)
        and_one true false h = absurd (omega (arith, h))
        and_one false t h = absurd (omega (arith, h))

        not_there : (slot : Option Addr) (b : ℕ) → slot ≢ Some (address_of b) → one_if (maps_to (address_of b) slot) ≡ 0
        not_there None b ne = refl
        not_there (Some a) b ne = ⊎_elim (λ (e : a.0 ≡ b). absurd (ne (ap (λ n. Some (address_of n)) e))) (λ no. ap one_if (ne_eqb a.0 b no)) (cases_eq a.0 b)

fresh_begins : (held mine mine' : ℕ → ℕ → Bool) {C : Committed} {P P' : List Debt} {M : FileMaps} {Q Q' : ℕ → Bool} {lane : ℕ} (file : FileNo) (off len : ℕ) (at : Addr) → LanesHold held mine P M Q
    → (it : FirstGives held mine C P M Q lane (Remap file off len at) true P' mine' Q')
    → Begins held mine C P M Q lane file off len it.row.old (Some (record { start = at; len = len })) true it.new (applied (Remap file off len at)) P' mine' Q'
fresh_begins held mine mine' {C} {P} {P'} {M} {Q} {Q'} {lane} file off len at lanes it =
    let run : Run = record { start = at; len = len } in
    let old : Option Run = it.row.old in
    let was = old_good C.maps file off len old it.row.piece it.fits.0.within in
    record {
      row = subst (Rattle.xr_balance.proofs.PieceLemmas.IsRow file off old (Some run) true) (sym it.row.row) (row_of_fresh file off old run);
      range = it.fits.0;
      holds_file = it.holds_files;
      begins = it.begins;
      piece = it.row.piece;
      old_fits = old_fits old off was;
      put_fits = it.fits.0.within;
      put_within = λ o. omega arith;
      change = λ maps good there. remap_changes file off old run maps it.fits.0 good there;
      good = λ maps good. steps_leave_good_maps (Remap file off len at) maps it.fits good;
      valid = subst (All (λ w. IsWork w)) (sym it.row.row) (fresh_valid file off old run was it.fits.1 it.fits.0.file_there it.fits.0.within);
      uses = uses_staged held mine mine' lanes it.begins.seat it.uses (λ b one. it.row.own b one);
      own = λ b some. it.row.own b (omega (arith, some, at_most_one (is_within at.0 len b)));
      raises = λ b some. absurd (omega (arith, some));
      unlike = λ o b some. absurd (omega (arith, some));
    }

-- what a lane's file maps in the trees, it maps
idle_agrees : (held mine : ℕ → ℕ → Bool) {C : Committed} {P : List Debt} {M : FileMaps} {Q : ℕ → Bool} {lane : ℕ} → IsSettled C P M Q → LanesHold held mine P M Q → chain_of P lane ≡ []
    → (f : ℕ) → IsTrue (held lane f) → (o b : ℕ) → holds C.maps f o b ≡ holds M f o b
idle_agrees held mine {C} {P} {M} {Q} {lane} was lanes idle f is o b =
    let it = file_agrees f was (idle_is_apart held mine C P M Q lane f was lanes idle is) o b in it.0 ∙ it.1

pub first_keeps_all : FirstKeeps
first_keeps_all held mine mine' C P P' M Q Q' lane (Punch file off len) staged was lanes it =
    let all = whole held mine mine' (applied (Punch file off len)) was lanes (punch_begins held mine mine' file off len staged lanes it) in
    first_keeps C P P' M (applied (Punch file off len) M) (applied (Punch file off len) was.base) Q Q' lane it.new was all.0 all.2 (punch_begins held mine mine' file off len staged lanes it).valid
first_keeps_all held mine mine' C P P' M Q Q' lane (Remap file off len at) true was lanes it =
    let all = whole held mine mine' (applied (Remap file off len at)) was lanes (fresh_begins held mine mine' file off len at lanes it) in
    first_keeps C P P' M (applied (Remap file off len at) M) (applied (Remap file off len at) was.base) Q Q' lane it.new was all.0 all.2 (fresh_begins held mine mine' file off len at lanes it).valid
first_keeps_all held mine mine' C P P' M Q Q' lane (Remap file off len at) false was lanes it =
    let all = whole held mine mine' (applied (Remap file off len at)) was lanes (share_begins held mine mine' file off len at (idle_agrees held mine was lanes it.begins.idle file.0 it.holds_files) lanes it) in
    first_keeps C P P' M (applied (Remap file off len at) M) (applied (Remap file off len at) was.base) Q Q' lane it.new was all.0 all.2
    (share_begins held mine mine' file off len at (idle_agrees held mine was lanes it.begins.idle file.0 it.holds_files) lanes it).valid
first_keeps_all held mine mine' C P P' M Q Q' lane (Exchange file off other other_off len) staged was lanes it =
    let all = swap_whole held mine mine' file off other other_off len staged was lanes it in
    subst (λ (S : ℕ → Bool). IsSettled C P' (applied (Exchange file off other other_off len) M) S) (λ i b. same_staged b i)
    (exchange_keeps C P P' M (applied (Exchange file off other other_off len) M) Q lane off other_off len file other was all.0)
  where
    not_used : (s : Bool) → (s && true) ≡ s
    not_used true = refl
    not_used false = refl

    same_staged : (b : ℕ) → Q b ≡ Q' b
    same_staged b = sym (it.uses.staged b ∙ not_used (Q b))

pub first_holds_all : FirstHolds
first_holds_all held mine mine' C P P' M Q Q' lane (Punch file off len) staged was lanes it =
    step_holds held mine mine' P P' M (applied (Punch file off len) M) Q Q' lane it.new lanes (whole held mine mine' (applied (Punch file off len)) was lanes (punch_begins held mine mine' file off len staged lanes it)).1
first_holds_all held mine mine' C P P' M Q Q' lane (Remap file off len at) true was lanes it =
    step_holds held mine mine' P P' M (applied (Remap file off len at) M) Q Q' lane it.new lanes (whole held mine mine' (applied (Remap file off len at)) was lanes (fresh_begins held mine mine' file off len at lanes it)).1
first_holds_all held mine mine' C P P' M Q Q' lane (Remap file off len at) false was lanes it =
    step_holds held mine mine' P P' M (applied (Remap file off len at) M) Q Q' lane it.new lanes
    (whole held mine mine' (applied (Remap file off len at)) was lanes (share_begins held mine mine' file off len at (idle_agrees held mine was lanes it.begins.idle file.0 it.holds_files) lanes it)).1
first_holds_all held mine mine' C P P' M Q Q' lane (Exchange file off other other_off len) staged was lanes it =
    step_holds held mine mine' P P' M (applied (Exchange file off other other_off len) M) Q Q' lane (works_of_exchange file off other other_off len) lanes (swap_whole held mine mine' file off other other_off len staged was lanes it).1
