-- Blocks that lie together, read into their places.
use Rattle.std.proofs.Common.{◌≡◌, ◌∙◌, ◌||◌, ℕ, ◌+◌, ◌-◌, ◌*◌, ◌<◌, ◌≤◌, Bool, false, List, ◌++◌, length, get_or, replicate, take, drop, Option, Result, Ok, Err, sym, ap, subst, inl, inr, arith}
use Rattle.std.specs.Prelude.{OnOk}
use Rattle.std.proofs.Math.Seq.{drop-append-add}
use Rattle.std.proofs.lemmas.Bool.{cases_lt}
use Rattle.std.proofs.lemmas.List.{append_assoc, drop-drop, drop-take, get_or-replicate, length-append, length-take-le, take-append-le, take-take, take_all}
use Rattle.xr_base.specs.Image.{overlaid, part}
use Rattle.xr_base.specs.ImageLaws.{part-front, part_below}
use Rattle.xr_disk.specs.Seen.{WasSeen}
use Rattle.xr_scan.specs.Homes.{AreHomes, AreHomesBelow}
use Rattle.xr_commit.specs.LoggedItems.{Logged}
use Rattle.xr_scan.specs.Replayed.{is_logged, replayed}
use Rattle.xr_scan.specs.Replaying.{IsStateBlock, Replays}
use Rattle.xr_scan.specs.Scanned.{copy_number, copy_of}
use Rattle.xr_scan.specs.CopyLaws.{placed}

-- what an image has that has P
pub seen_more : {T E : Type 0} (r : Result T E) (seen : Option (List ℕ)) (P Q : List ℕ → Type 0) → ((image : List ℕ) → P image → Q image) → OnOk r (WasSeen seen P) → OnOk r (WasSeen seen Q)
seen_more (Ok x) seen P Q more was = λ image at. more image (was image at)
seen_more (Err e) seen P Q more was = tt

pub piece : (at n place m : ℕ) (xs : List ℕ) → place + m ≤ n → part place m (part at n xs) ≡ part (at + place) m xs
piece at n place m xs within =
    let e : n ≡ place + (n - place) = omega (arith, within) in
    ap (λ (k : ℕ). take m (drop place (take k (drop at xs)))) e ∙ ap (take m) (drop-take place (n - place) (drop at xs))
    ∙ take-take m (n - place) (drop place (drop at xs)) (omega (arith, within)) ∙ ap (take m) (drop-drop place at xs)

-- a part of what was laid over some bytes
pub laid_inside : (at d m : ℕ) (out old : List ℕ) → at ≤ length old → d + m ≤ length out → part (at + d) m (overlaid at out old) ≡ part d m out
laid_inside at d m out old fits within =
    let front : length (take at old) ≡ at = length-take-le at old fits in
    part-front (at + d) m (take at old ++ out) (drop (at + length out) old) (omega (arith, front, within, length-append (take at old) out))
    ∙ ap (take m) (ap (λ (k : ℕ). drop (k + d) (take at old ++ out)) (sym front) ∙ drop-append-add (take at old) out d)

-- the blocks of a run, which has the next numbers
pub run_read : (image old out new : List ℕ) (first a n : ℕ) → new ≡ overlaid (4096 * a) out old → out ≡ part (4096 * first) (4096 * n) image → length out ≡ 4096 * n
    → 4096 * (a + n) ≤ length old
    → ((block : ℕ) → IsStateBlock block → a ≤ copy_number block → copy_number block < a + n → block ≡ first + (copy_number block - a))
    → AreHomesBelow image a old → AreHomesBelow image (a + n) new
run_read image old out new first a n is read long fits home before block has below = ap (λ (xs : List ℕ). copy_of xs block) is ∙ elim (cases_lt (copy_number block) a) [
  | inl less ↦ part_below (4096 * a) 4096 (4096 * copy_number block) out old (omega (arith, less)) (omega (arith, fits)) ∙ before block has less
  | inr more ↦ (
      let d : ℕ = copy_number block - a in
      let e : 4096 * copy_number block ≡ 4096 * a + 4096 * d = omega (arith, more) in
      let w : 4096 * d + 4096 ≤ 4096 * n = omega (arith, more, below) in
      let f : 4096 * first + 4096 * d ≡ 4096 * block = let h : block ≡ first + d = home block has more below in omega (arith, h) in
      ap (λ (k : ℕ). part k 4096 (overlaid (4096 * a) out old)) e
      ∙ laid_inside (4096 * a) (4096 * d) 4096 out old (omega (arith, fits)) (omega (arith, long, w))
      ∙ ap (part (4096 * d) 4096) read ∙ piece (4096 * first) (4096 * n) (4096 * d) 4096 image w ∙ ap (λ (k : ℕ). part k 4096 image) f
      )
]

pub put_back : (at n : ℕ) (old out : List ℕ) → length out ≡ n → take at old ++ (out ++ drop n (drop at old)) ≡ overlaid at out old
put_back at n old out long =
    ap (λ (xs : List ℕ). take at old ++ (out ++ xs)) (drop-drop n at old ∙ ap (λ (k : ℕ). drop (at + k) old) (sym long)) ∙ sym (append_assoc (take at old) out (drop (at + length out) old))

pub file_home : (block : ℕ) → IsStateBlock block → copy_number block < 256 → block ≡ 520 + (copy_number block - 0)
file_home block has below = elim (placed block has).back [ inl (p, q, r) ↦ omega (arith, q, r) | inr (p, q, w, r) ↦ absurd (omega (arith, r, below)) ]

pub group_home : (group block : ℕ) → IsStateBlock block → 256 + 512 * group ≤ copy_number block → copy_number block < 256 + 512 * group + 512
    → block ≡ 776 + 2048 * group + (copy_number block - (256 + 512 * group))
group_home group block has from below = elim (placed block has).back [
  | inl (p, q, r) ↦ absurd (omega (arith, p, q, r, from))
  | inr (p, q, w, r) ↦ omega (arith, p, q, w, r, from, below)
]

pub files_read : (image old out : List ℕ) (n len : ℕ) → n ≡ 1048576 → length old ≡ 9437184 → length out ≡ len → len ≡ n → out ≡ part 2129920 len image
    → AreHomesBelow image 256 (out ++ drop n old)
files_read image old out n len whole long same fits read =
    run_read image old out (out ++ drop n old) 520 0 256 (put_back 0 n old out (same ∙ fits)) (read ∙ ap (λ (k : ℕ). part 2129920 k image) (fits ∙ whole)) (same ∙ fits ∙ whole)
    (omega (arith, long)) (λ block has from below. file_home block has below) (λ block has below. absurd (omega (arith, below)))

pub group_read : (image old out : List ℕ) (group at n len : ℕ) → group < 4 → at ≡ 1048576 + 2097152 * group → n ≡ 2097152 → length old ≡ 9437184 → length out ≡ len → len ≡ n
    → out ≡ part (4096 * (776 + 2048 * group)) len image → AreHomesBelow image (256 + 512 * group) old
    → AreHomesBelow image (256 + 512 * (group + 1)) (take at old ++ (out ++ drop n (drop at old)))
group_read image old out group at n len small place whole long same fits read before =
    let e : 256 + 512 * group + 512 ≡ 256 + 512 * (group + 1) = omega arith in
    let new : List ℕ = take at old ++ (out ++ drop n (drop at old)) in
    let w : at ≡ 4096 * (256 + 512 * group) = omega (arith, place) in
    subst (λ (k : ℕ). AreHomesBelow image k new) e
    (run_read image old out new (776 + 2048 * group) (256 + 512 * group) 512 (put_back at n old out (same ∙ fits) ∙ ap (λ (k : ℕ). overlaid k out old) w)
    (read ∙ ap (λ (k : ℕ). part (4096 * (776 + 2048 * group)) k image) (fits ∙ whole)) (same ∙ fits ∙ whole) (omega (arith, long, small)) (group_home group) before)

pub all_read : (image copies : List ℕ) → AreHomesBelow image 2304 copies → AreHomes image copies
all_read image copies below block has = below block has (placed block has).within

-- read into a vector
pub written_back : {X : Type 0} (old new : List X) (n : ℕ) → length new ≡ n → take n (new ++ drop (length new) old) ≡ new
written_back old new n long = take-append-le n new (drop (length new) old) (omega (arith, long)) ∙ take_all n new (omega (arith, long))

-- and replayed over
pub blocks_back : (ls : List Logged) (homes old new : List ℕ) (marks marks' : List Bool) (n : ℕ) → old ≡ homes → length new ≡ n → Replays ls old marks new marks' → (block : ℕ) → IsStateBlock block
    → copy_of (take n (new ++ drop (length new) homes)) block ≡ replayed block (copy_of homes block) ls
blocks_back ls homes old new marks marks' n same long replays block has =
    ap (λ (xs : List ℕ). copy_of xs block) (written_back homes new n long) ∙ replays.blocks block has ∙ ap (λ (xs : List ℕ). replayed block (copy_of xs block) ls) same

pub dirty_back : (ls : List Logged) (blocks blocks' : List ℕ) (begun old new : List Bool) (n : ℕ) → old ≡ begun → begun ≡ replicate 2304 false → length new ≡ n
    → Replays ls blocks old blocks' new → (block : ℕ) → IsStateBlock block → get_or (take n (new ++ drop (length new) begun)) (copy_number block) false ≡ is_logged block ls
dirty_back ls blocks blocks' begun old new n same none long replays block has =
    ap (λ (ms : List Bool). get_or ms (copy_number block) false) (written_back begun new n long) ∙ replays.dirty block has
    ∙ ap (λ (ms : List Bool). get_or ms (copy_number block) false || is_logged block ls) (same ∙ none)
    ∙ ap (λ (b : Bool). b || is_logged block ls) (get_or-replicate 2304 (copy_number block) false false (placed block has).within)
