-- The rows of steps on one file, by the piece that they take out and the run that they put in.
use Rattle.std.proofs.Common.{◌≡◌, ℕ, ◌+◌, ◌-◌, ◌<◌, ◌≤◌, zero, suc, List, [], ◌∷◌, length, get_or, cond, eqb, arith, refl, ap, sym, ◌∙◌, true, false, Bool, ⊎_elim, Option, Some, None}
use Rattle.std.specs.Prelude.{⊤, is_some, sum_by, ◌≢◌, All}
use Rattle.std.proofs.lemmas.Bool.{cases_eq, eq-eqb, ne_eqb}
use Rattle.xr_base.specs.declared.address.Addr.{Addr}
use Rattle.xr_base.specs.declared.address.FileNo.{FileNo}
use Rattle.xr_base.specs.declared.address.Run.{Run}
use Rattle.xr_base.specs.declared.geometry.TheConstants.{FILES, OFFSETS}
use Rattle.xr_maps.specs.FileMaps.{FileMaps, address_at}
use Rattle.xr_maps.specs.Steps.{is_within}
use Rattle.xr_maps.specs.Holdings.{holds, in_layout, in_run, one_if, sum_below, owners_of_file}
use Rattle.xr_maps.specs.StepLaws.{piece_held, in_or_out, same_slot}
use Rattle.xr_items.specs.declared.work.Work.{Work}
use Rattle.xr_balance.proofs.StepPremises.{IsStepRow}
use Rattle.xr_balance.specs.Chains.{IsChain}
use Rattle.xr_balance.specs.Pieces.{IsHoleOrRun}
use Rattle.xr_balance.specs.Lanes.{owners_in}
use Rattle.xr_balance.specs.Rows.{works_of_fresh, works_of_punch, works_of_share}
use Rattle.xr_balance.specs.Settled.{bringing, taking}
use Rattle.xr_balance.specs.Works.{in_offsets, lowered, mapping, mapping_at, naming, naming_file, raised, unmapping, unmapping_at, unstaging}
use Rattle.xr_balance.proofs.CountSlots.{sum_below-balance, sum_below-none, sum_below-one, sum-layout}
use Rattle.xr_balance.proofs.RowLemmas.{punch_row, share_row, fresh_row, rows_are_chains}

-- what a run, or none, has of a block, of an offset, and of both
abbrev pub blocks_of : Option Run → ℕ → ℕ
blocks_of None b = 0
blocks_of (Some run) b = in_run b run

abbrev pub offsets_of : Option Run → ℕ → ℕ → ℕ
offsets_of None o off = 0
offsets_of (Some run) o off = in_offsets o off run

abbrev pub layout_of : Option Run → ℕ → ℕ → ℕ → ℕ
layout_of None b o off = 0
layout_of (Some run) b o off = in_layout b o off run

-- the run, or none, is laid out at offsets of a file
abbrev pub FitsAt : Option Run → ℕ → Type 0
FitsAt None off = ⊤
FitsAt (Some run) off = off + run.len ≤ OFFSETS

-- a row takes out `old` and puts in `put`, which is staged or raised
pub record IsRow (file : FileNo) (off : ℕ) (old put : Option Run) (staged : Bool) (new : List Work) : Type 0 where
  pub unmaps : (f o b : ℕ) → sum_by (unmapping f o b) new ≡ cond (eqb file.0 f) (layout_of old b o off) 0
  pub maps : (f o b : ℕ) → sum_by (mapping f o b) new ≡ cond (eqb file.0 f) (layout_of put b o off) 0
  pub unmaps_at : (f o : ℕ) → sum_by (unmapping_at f o) new ≡ cond (eqb file.0 f) (offsets_of old o off) 0
  pub maps_at : (f o : ℕ) → sum_by (mapping_at f o) new ≡ cond (eqb file.0 f) (offsets_of put o off) 0
  pub lowers : (b : ℕ) → sum_by (lowered b) new ≡ blocks_of old b
  pub raises : (b : ℕ) → sum_by (raised b) new ≡ cond staged 0 (blocks_of put b)
  pub unstages : (b : ℕ) → sum_by (unstaging b) new ≡ cond staged (blocks_of put b) 0
  pub names : (b : ℕ) → 0 < sum_by (naming b) new → 0 < blocks_of old b + blocks_of put b
  pub files : (f : ℕ) → f ≢ file.0 → sum_by (naming_file f) new ≡ 0
  pub takes : (B : FileMaps) (f o b : ℕ) → sum_by (taking B f o b) new ≡ 0
  pub brings : (B : FileMaps) (f o b : ℕ) → sum_by (bringing B f o b) new ≡ 0
  pub step : IsStepRow new
  pub chain : IsChain new

no_file : (file f : ℕ) (works : List Work) → f ≢ file → (eqb file f ≡ false → eqb (128 + file) (128 + f) ≡ false → sum_by (naming_file f) works ≡ 0) → sum_by (naming_file f) works ≡ 0
no_file file f works ne none = none (ne_eqb file f (λ h. ne (sym h))) (ne_eqb (128 + file) (128 + f) (λ h. ne (omega (arith, h))))

pub zero_cond : (t : Bool) → let n : ℕ = 0 in n ≡ cond t n n
zero_cond true = refl
zero_cond false = refl

pub row_of_punch : (file : FileNo) (off : ℕ) (old : Run) → IsRow file off (Some old) None false (works_of_punch file off old)
row_of_punch file off old = record {
  unmaps = λ f o b. omega arith;
  maps = λ f o b. zero_cond (eqb file.0 f);
  unmaps_at = λ f o. omega arith;
  maps_at = λ f o. zero_cond (eqb file.0 f);
  lowers = λ b. omega arith;
  raises = λ b. refl;
  unstages = λ b. refl;
  names = λ b it. omega (arith, it);
  files = λ f ne. no_file file.0 f (works_of_punch file off old) ne (λ x y. rw (x, y) refl);
  takes = λ B f o b. refl;
  brings = λ B f o b. refl;
  step = punch_row file off old;
  chain = rows_are_chains.punch file off old;
}

pub row_of_share : (file : FileNo) (off : ℕ) (old : Option Run) (new : Run) → IsRow file off old (Some new) false (works_of_share file off old new)
row_of_share file off (Some old) new = record {
  unmaps = λ f o b. omega arith;
  maps = λ f o b. omega arith;
  unmaps_at = λ f o. omega arith;
  maps_at = λ f o. omega arith;
  lowers = λ b. omega arith;
  raises = λ b. omega arith;
  unstages = λ b. refl;
  names = λ b it. omega (arith, it);
  files = λ f ne. no_file file.0 f (works_of_share file off (Some old) new) ne (λ x y. rw (x, y) refl);
  takes = λ B f o b. refl;
  brings = λ B f o b. refl;
  step = share_row file off (Some old) new;
  chain = rows_are_chains.share file off (Some old) new;
}
row_of_share file off None new = record {
  unmaps = λ f o b. zero_cond (eqb file.0 f);
  maps = λ f o b. omega arith;
  unmaps_at = λ f o. zero_cond (eqb file.0 f);
  maps_at = λ f o. omega arith;
  lowers = λ b. omega arith;
  raises = λ b. omega arith;
  unstages = λ b. refl;
  names = λ b it. omega (arith, it);
  files = λ f ne. no_file file.0 f (works_of_share file off None new) ne (λ x y. rw (x, y) refl);
  takes = λ B f o b. refl;
  brings = λ B f o b. refl;
  step = share_row file off None new;
  chain = rows_are_chains.share file off None new;
}

pub row_of_fresh : (file : FileNo) (off : ℕ) (old : Option Run) (new : Run) → IsRow file off old (Some new) true (works_of_fresh file off old new)
row_of_fresh file off (Some old) new = record {
  unmaps = λ f o b. omega arith;
  maps = λ f o b. omega arith;
  unmaps_at = λ f o. omega arith;
  maps_at = λ f o. omega arith;
  lowers = λ b. omega arith;
  raises = λ b. refl;
  unstages = λ b. omega arith;
  names = λ b it. omega (arith, it);
  files = λ f ne. no_file file.0 f (works_of_fresh file off (Some old) new) ne (λ x y. rw (x, y) refl);
  takes = λ B f o b. refl;
  brings = λ B f o b. refl;
  step = fresh_row file off (Some old) new;
  chain = rows_are_chains.fresh file off (Some old) new;
}
row_of_fresh file off None new = record {
  unmaps = λ f o b. zero_cond (eqb file.0 f);
  maps = λ f o b. omega arith;
  unmaps_at = λ f o. zero_cond (eqb file.0 f);
  maps_at = λ f o. omega arith;
  lowers = λ b. omega arith;
  raises = λ b. refl;
  unstages = λ b. omega arith;
  names = λ b it. omega (arith, it);
  files = λ f ne. no_file file.0 f (works_of_fresh file off None new) ne (λ x y. rw (x, y) refl);
  takes = λ B f o b. refl;
  brings = λ B f o b. refl;
  step = fresh_row file off None new;
  chain = rows_are_chains.fresh file off None new;
}

-- what a piece holds, it is laid out as
pub piece_layout : (maps : FileMaps) (file : FileNo) (off len : ℕ) (old : Option Run) → IsHoleOrRun maps file off len old
    → (f o b : ℕ) → cond (eqb file.0 f) (cond (is_within off len o) (holds maps f o b) 0) 0 ≡ cond (eqb file.0 f) (layout_of old b o off) 0
piece_layout maps file off len (Some run) piece f o b =
    ap (λ n. cond (eqb file.0 f) (cond (is_within off n o) (holds maps f o b) 0) 0) (sym piece.1) ∙ piece_held maps file.0 off run (λ k l. piece.2 k (omega (arith, l, piece.1))) f o b
piece_layout maps file off len None piece f o b = ⊎_elim
    (λ e. ap (λ t. cond t (cond (is_within off len o) (holds maps f o b) 0) 0) (eq-eqb file.0 f e) ∙ ⊎_elim
    (λ it. let hole : address_at maps f o ≡ None = ap (λ k. address_at maps k o) (sym e) ∙ ap (address_at maps file.0) (omega (arith, it.0)) ∙ piece (o - off) (omega (arith, it.0, it.1)) in
    ap (λ t. cond t (holds maps f o b) 0) it.2 ∙ rw hole refl)
    (λ out. ap (λ t. cond t (holds maps f o b) 0) out)
    (in_or_out off len o) ∙ zero_cond (eqb file.0 f))
    (λ ne. ap (λ t. cond t (cond (is_within off len o) (holds maps f o b) 0) 0) (ne_eqb file.0 f ne) ∙ zero_cond (eqb file.0 f))
    (cases_eq file.0 f)

pub not_some : (a : Addr) → Some a ≡ None → ⊥
not_some a e = absurd (omega (arith, ap (λ (s : Option Addr). one_if (is_some s)) e))

abbrev pub address_number : Option Addr → ℕ
address_number None = 0
address_number (Some a) = a.0

-- a piece is the same in maps that agree on the file
pub same_piece : (maps others : FileMaps) (file : FileNo) (off len : ℕ) (old : Option Run) → ((o b : ℕ) → holds maps file.0 o b ≡ holds others file.0 o b)
    → IsHoleOrRun maps file off len old → IsHoleOrRun others file off len old
same_piece maps others file off len None same piece = λ k l. sym (same_slot (address_at maps file.0 (off + k)) (address_at others file.0 (off + k)) (same (off + k))) ∙ piece k l
same_piece maps others file off len (Some run) same piece =
    (piece.0, piece.1, λ k l. sym (same_slot (address_at maps file.0 (off + k)) (address_at others file.0 (off + k)) (same (off + k))) ∙ piece.2 k l)

-- laid out in a file that passes, a run has each of its blocks once
taken : (test : ℕ → Bool) (b file off : ℕ) (old : Option Run) → file < FILES → FitsAt old off → test file ≡ true
    → sum_below FILES (λ f. cond (test f) (sum_below OFFSETS (λ o. cond (eqb file f) (layout_of old b o off) 0)) 0) ≡ blocks_of old b
taken test b file off None is_file fits passes =
    sum_below-none FILES _ (λ f _. zero_both (test f) (sum_below-none OFFSETS _ (λ o _. sym (zero_cond (eqb file f)))))
  where
    zero_both : (t : Bool) {n : ℕ} → n ≡ 0 → cond t n 0 ≡ 0
    zero_both true e = e
    zero_both false e = refl
taken test b file off (Some run) is_file fits passes =
    sum_below-one FILES file _ is_file (λ f _ ne. zero_both (test f) (sum_below-none OFFSETS _ (λ o _. ap (λ t. cond t (in_layout b o off run) 0) (ne_eqb file f (λ e. ne (sym e))))))
    ∙ rw (passes, eq-eqb file file refl) (sum-layout b off run fits)
  where
    zero_both : (t : Bool) {n : ℕ} → n ≡ 0 → cond t n 0 ≡ 0
    zero_both true e = e
    zero_both false e = refl

-- what a step does to one file's offsets, it does to the numbers of owners in files that pass, that one among them
pub owners_step : (test : ℕ → Bool) (b file off : ℕ) (old put : Option Run) (M M' : FileMaps) → file < FILES → FitsAt old off → FitsAt put off → test file ≡ true
    → ((f o : ℕ) → holds M' f o b + cond (eqb file f) (layout_of old b o off) 0 ≡ holds M f o b + cond (eqb file f) (layout_of put b o off) 0)
    → owners_in test M' b + blocks_of old b ≡ owners_in test M b + blocks_of put b
owners_step test b file off old put M M' is_file fits put_fits passes step =
    let off_at : ℕ → ℕ = λ f. sum_below OFFSETS (λ o. cond (eqb file f) (layout_of old b o off) 0) in
    let on_at : ℕ → ℕ = λ f. sum_below OFFSETS (λ o. cond (eqb file f) (layout_of put b o off) 0) in
    let each : (f : ℕ) → owners_of_file M' b f + off_at f ≡ owners_of_file M b f + on_at f = λ f.
    sum_below-balance OFFSETS (λ o. holds M' f o b) (λ o. cond (eqb file f) (layout_of old b o off) 0) (λ o. holds M f o b) (λ o. cond (eqb file f) (layout_of put b o off) 0) (λ o _. step f o) in
    let all = sum_below-balance FILES (λ f. cond (test f) (owners_of_file M' b f) 0) (λ f. cond (test f) (off_at f) 0) (λ f. cond (test f) (owners_of_file M b f) 0) (λ f. cond (test f) (on_at f) 0) (λ f _. pass (test f) _ _ _ _ (each f)) in
    omega (arith, all, taken test b file off old is_file fits passes, taken test b file off put is_file put_fits passes)
  where
    pass : (t : Bool) (x y u v : ℕ) → x + y ≡ u + v → cond t x 0 + cond t y 0 ≡ cond t u 0 + cond t v 0
    pass true x y u v e = e
    pass false x y u v e = refl

-- facts of each work of a row
abbrev pub Each : (Work → Type 0) → List Work → Type 0
Each T [] = ⊤
Each T (w ∷ works) = T w × Each T works

pub all_each : (T : Work → Type 0) (works : List Work) → Each T works → All T works
all_each T [] each = λ k d l. absurd (omega (arith, l))
all_each T (w ∷ works) each = λ k. elim k as (λ k. (d : Work) → k < length (w ∷ works) → T (get_or (w ∷ works) k d)) [
  | zero ↦ λ d l. each.0
  | suc j ↦ λ d l. all_each T works each.1 j d (omega (arith, l))
]
