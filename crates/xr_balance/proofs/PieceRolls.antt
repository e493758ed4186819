-- The works that the roll of an exchange leaves, by a piece of the two ranges, keep the balance.
use Rattle.std.proofs.Common.{◌≡◌, ℕ, ◌+◌, ◌-◌, ◌<◌, ◌≤◌, List, [], length, get_or, cond, eqb, arith, refl, ap, sym, ◌∙◌, true, false, Bool, ⊎_elim, inl, inr, Option, Some, None, subst}
use Rattle.std.specs.Prelude.{sum_by, remove, is_some, ◌≢◌, ◌&&◌}
use Rattle.std.proofs.lemmas.Bool.{cases_lt, cases_eq, eq-eqb, ne_eqb}
use Rattle.std.proofs.lemmas.List.Sums.{sum_by-remove, get_or-le-sum_by}
use Rattle.xr_base.specs.declared.address.Addr.{Addr}
use Rattle.xr_base.specs.declared.address.FileNo.{FileNo}
use Rattle.xr_base.specs.declared.address.Run.{Run}
use Rattle.xr_base.specs.declared.geometry.TheConstants.{FILES, OFFSETS}
use Rattle.xr_base.specs.Address.{address_after, address_of}
use Rattle.xr_maps.specs.FileMaps.{FileMaps, address_at}
use Rattle.xr_maps.specs.Records.{maps_to}
use Rattle.xr_maps.specs.declared.steps.Step.TheVariants.{Exchange}
use Rattle.xr_maps.specs.Steps.{Fits, applied, is_within}
use Rattle.xr_maps.specs.Holdings.{holds, in_layout, in_run, is_mapped, one_if, owners}
use Rattle.xr_maps.specs.StepLaws.{in_or_out, in_range, laid_out, no_layout, same_slot, steps_leave_good_maps}
use Rattle.xr_items.specs.declared.work.Work.{Work}
use Rattle.xr_items.specs.declared.work.Work.TheVariants.{Free, Own, Count, Map, Swap}
use Rattle.xr_items.specs.Valid.{IsSwap, IsWork}
use Rattle.xr_balance.specs.Pieces.{IsHoleOrRun, TakesPiece}
use Rattle.xr_balance.specs.Rolls.{IsFirstWork, in_lane}
use Rattle.xr_balance.specs.Settled.{Committed, IsSettled, bringing, taking}
use Rattle.xr_balance.specs.Works.{Debt, exchanging_at, in_offsets, mapping, mapping_at, naming, pairing, pairing_at, total, unmapping, unmapping_at, unpairing, unpairing_at}
use Rattle.xr_balance.proofs.ExchangeBalances.{and_split, exchange_moves}
use Rattle.xr_balance.proofs.ExchangePremises.{IsExchangeRow, RollsExchange}
use Rattle.xr_balance.proofs.FirstLemmas.{owner_good}
use Rattle.xr_balance.proofs.LastLowering.{in_parts}
use Rattle.xr_balance.proofs.OrderLemmas.{order-none}
use Rattle.xr_balance.proofs.PieceLemmas.{address_number, all_each, layout_of, not_some, piece_layout, zero_cond}
use Rattle.xr_balance.proofs.PieceRows.{OfFirst, chain_new, each_new, either, files_new, flat_sum, of_none, of_run, swap_sum, uncounted_new}
use Rattle.xr_balance.proofs.QuietLemmas.{once}
use Rattle.xr_balance.proofs.RowLemmas.{owner_same}
use Rattle.xr_balance.proofs.SumLemmas.{at_most_one, bringing-le, mapping-le, one_owner, run-range, taken-le, taking-le, total-le, total-same, unmapping-le}
use Rattle.xr_balance.proofs.WholeFirsts.{piece_fills}

no_and : (s : Bool) (x : ℕ) → cond (s && false) x 0 ≡ 0
no_and true x = refl
no_and false x = refl

-- one side of an exchange says of an offset what it says in its range
side_same : (a off len f o x y : ℕ) → (a ≡ f → off ≤ o → o < off + len → x ≡ y) → cond (eqb a f && is_within off len o) x 0 ≡ cond (eqb a f && is_within off len o) y 0
side_same a off len f o x y same = ⊎_elim
    (λ e. ⊎_elim
    (λ it. ap (λ n. cond (eqb a f && is_within off len o) n 0) (same e it.0 it.1))
    (λ out. ap (λ t. cond (eqb a f && t) x 0) out ∙ no_and (eqb a f) x ∙ sym (no_and (eqb a f) y) ∙ ap (λ t. cond (eqb a f && t) y 0) (sym out))
    (in_or_out off len o))
    (λ ne. rw (ne_eqb a f ne) refl)
    (cases_eq a f)

side_one : (a off len o x : ℕ) → off ≤ o → o < off + len → x ≡ 1 → cond (eqb a a && is_within off len o) x 0 ≡ 1
side_one a off len o x low high one = rw (eq-eqb a a refl, in_range off len o low high) one

two_parts : (s t u v : Bool) (x y : ℕ) → one_if t ≡ one_if u + one_if v → (one_if v ≡ 1 → x ≡ y) → cond (s && t) x 0 ≡ cond (s && u) x 0 + cond (s && v) y 0
two_parts false t u v x y sum same = refl
two_parts true true true true x y sum same = absurd (omega (arith, sum))
two_parts true true true false x y sum same = omega arith
two_parts true true false true x y sum same = omega (arith, same refl)
two_parts true true false false x y sum same = absurd (omega (arith, sum))
two_parts true false true v x y sum same = absurd (omega (arith, sum))
two_parts true false false true x y sum same = absurd (omega (arith, sum))
two_parts true false false false x y sum same = refl

cond_sum : (s : Bool) (x y z : ℕ) → x ≡ y + z → cond s x 0 ≡ cond s y 0 + cond s z 0
cond_sum true x y z e = e
cond_sum false x y z e = refl

-- an exchange is one of its first n offsets and one of the others
record IsInParts (B : FileMaps) (f o b : ℕ) (v front back : Work) : Type 0 where
  pub takes : taking B f o b v ≡ taking B f o b front + taking B f o b back
  pub brings : bringing B f o b v ≡ bringing B f o b front + bringing B f o b back
  pub at : exchanging_at f o v ≡ exchanging_at f o front + exchanging_at f o back

swap_parts : (B : FileMaps) (f o b : ℕ) (file : FileNo) (off : ℕ) (other : FileNo) (other_off len n : ℕ) → n ≤ len
    → IsInParts B f o b (Swap file off other other_off len) (Swap file off other other_off n) (Swap file (off + n) other (other_off + n) (len - n))
swap_parts B f o b file off other other_off len n fits =
    let one = in_parts off n len o fits in
    let two = in_parts other_off n len o fits in
    let partner : (at from : ℕ) → one_if (is_within (at + n) (len - n) o) ≡ 1 → from + (o - at) ≡ from + n + (o - (at + n)) = λ at from it. let r = run-range (at + n) (len - n) o it in omega (arith, r.0) in
    record {
      takes = omega (
        arith,
        two_parts (eqb file.0 f) (is_within off len o) (is_within off n o) (is_within (off + n) (len - n) o) (holds B f o b) (holds B f o b) one (λ _. refl),
        two_parts (eqb other.0 f) (is_within other_off len o) (is_within other_off n o) (is_within (other_off + n) (len - n) o) (holds B f o b) (holds B f o b) two (λ _. refl),
      );
      brings = omega (
        arith,
        two_parts (eqb file.0 f) (is_within off len o) (is_within off n o) (is_within (off + n) (len - n) o) (holds B other.0 (other_off + (o - off)) b) (holds B other.0 (other_off + n + (o - (off + n))) b) one
            (λ it. ap (λ p. holds B other.0 p b) (partner off other_off it)),
        two_parts (eqb other.0 f) (is_within other_off len o) (is_within other_off n o) (is_within (other_off + n) (len - n) o) (holds B file.0 (off + (o - other_off)) b) (holds B file.0 (off + n + (o - (other_off + n))) b) two
            (λ it. ap (λ p. holds B file.0 p b) (partner other_off off it)),
      );
      at = omega (arith, cond_sum (eqb file.0 f) _ _ _ one, cond_sum (eqb other.0 f) _ _ _ two);
    }

-- an offset in one of the two ranges
first_there : (file : FileNo) (off : ℕ) (other : FileNo) (other_off len f o : ℕ) → file.0 ≡ f → off ≤ o → o < off + len → 0 < exchanging_at f o (Swap file off other other_off len)
first_there file off other other_off len f o e low high =
    let one : cond (eqb file.0 f) (one_if (is_within off len o)) 0 ≡ 1 = rw (eq-eqb file.0 f e, in_range off len o low high) refl in
    omega (arith, one)

second_there : (file : FileNo) (off : ℕ) (other : FileNo) (other_off len f o : ℕ) → other.0 ≡ f → other_off ≤ o → o < other_off + len → 0 < exchanging_at f o (Swap file off other other_off len)
second_there file off other other_off len f o e low high =
    let one : cond (eqb other.0 f) (one_if (is_within other_off len o)) 0 ≡ 1 = rw (eq-eqb other.0 f e, in_range other_off len o low high) refl in
    omega (arith, one)

-- maps that hold the same wherever an exchange names an offset are the same to it
same_where : (A B : FileMaps) (b : ℕ) (v : Work) → ((g p : ℕ) → 0 < exchanging_at g p v → holds A g p b ≡ holds B g p b)
    → (f o : ℕ) → (taking A f o b v ≡ taking B f o b v) × (bringing A f o b v ≡ bringing B f o b v)
same_where A B b (Swap file off other other_off len) same f o = (
  omega (
    arith,
    side_same file.0 off len f o (holds A f o b) (holds B f o b) (λ e low high. same f o (first_there file off other other_off len f o e low high)),
    side_same other.0 other_off len f o (holds A f o b) (holds B f o b) (λ e low high. same f o (second_there file off other other_off len f o e low high)),
  ),
  omega (
    arith,
    side_same file.0 off len f o (holds A other.0 (other_off + (o - off)) b) (holds B other.0 (other_off + (o - off)) b)
        (λ e low high. same other.0 (other_off + (o - off)) (second_there file off other other_off len other.0 (other_off + (o - off)) refl (omega arith) (omega (arith, low, high)))),
    side_same other.0 other_off len f o (holds A file.0 (off + (o - other_off)) b) (holds B file.0 (off + (o - other_off)) b)
        (λ e low high. same file.0 (off + (o - other_off)) (first_there file off other other_off len file.0 (off + (o - other_off)) refl (omega arith) (omega (arith, low, high)))),
  ),
)
same_where A B b (Free run) same f o = (refl, refl)
same_where A B b (Own kind owner off run) same f o = (refl, refl)
same_where A B b (Count kind run) same f o = (refl, refl)
same_where A B b (Map kind file off run) same f o = (refl, refl)

-- ranges that hold the same are exchanged in vain
front_same : (B : FileMaps) (b : ℕ) (file : FileNo) (off : ℕ) (other : FileNo) (other_off n : ℕ) → ((k : ℕ) → k < n → holds B file.0 (off + k) b ≡ holds B other.0 (other_off + k) b)
    → (f o : ℕ) → taking B f o b (Swap file off other other_off n) ≡ bringing B f o b (Swap file off other other_off n)
front_same B b file off other other_off n same f o = omega (
  arith,
  side_same file.0 off n f o (holds B f o b) (holds B other.0 (other_off + (o - off)) b)
      (λ e low high. ap (λ g. holds B g o b) (sym e) ∙ ap (λ p. holds B file.0 p b) (omega (arith, low)) ∙ same (o - off) (omega (arith, low, high))),
  side_same other.0 other_off n f o (holds B f o b) (holds B file.0 (off + (o - other_off)) b)
      (λ e low high. ap (λ g. holds B g o b) (sym e) ∙ ap (λ p. holds B other.0 p b) (omega (arith, low)) ∙ sym (same (o - other_off) (omega (arith, low, high)))),
)

both-le : (s t : Bool) (n : ℕ) → cond (s && t) n 0 ≤ n
both-le true true n = omega arith
both-le true false n = omega arith
both-le false t n = omega arith

-- what an exchange takes, the maps hold
taking_held : (B : FileMaps) (f o b : ℕ) (file : FileNo) (off : ℕ) (other : FileNo) (other_off len : ℕ) → IsSwap file off other other_off len
    → taking B f o b (Swap file off other other_off len) ≤ holds B f o b
taking_held B f o b file off other other_off len valid =
    let h : ℕ = holds B f o b in
    let le : h ≤ 1 = at_most_one (maps_to (address_of b) (address_at B f o)) in
    omega (
      arith,
      once f o file other off other_off len valid,
      both-le (eqb file.0 f) (is_within off len o) h,
      both-le (eqb other.0 f) (is_within other_off len o) h,
      taken-le (eqb file.0 f) (is_within off len o) h le,
      taken-le (eqb other.0 f) (is_within other_off len o) h le,
    )

-- the part of an exchange behind its first n offsets
part_swap : {file : FileNo} {off : ℕ} {other : FileNo} {other_off len : ℕ} (n m : ℕ) → IsSwap file off other other_off len → n + m ≤ len → 0 < m → IsSwap file (off + n) other (other_off + n) m
part_swap n m valid fits some = record {
  first_file = valid.first_file;
  second_file = valid.second_file;
  some = some;
  first_range = omega (arith, valid.first_range, fits);
  second_range = omega (arith, valid.second_range, fits);
  apart = λ e. ⊎_elim (λ below. inl (omega (arith, below, fits))) (λ above. inr (omega (arith, above, fits))) (valid.apart e);
}

fits_of : {file : FileNo} {off : ℕ} {other : FileNo} {other_off len : ℕ} → IsSwap file off other other_off len → Fits (Exchange file off other other_off len)
fits_of {file} {off} {other} {other_off} {len} valid = (
  record { file_there = valid.first_file; some = valid.some; within = valid.first_range },
  record { file_there = valid.second_file; some = valid.some; within = valid.second_range },
  ⊎_elim (λ e. inr (valid.apart e)) (λ ne. inl (λ same. ne (ap (λ (n : FileNo). n.0) same))) (cases_eq file.0 other.0),
)

cond_run : (s : Bool) (old : Option Run) (b o off : ℕ) → cond s (layout_of old b o off) 0 ≡ of_run (λ r. cond s (in_layout b o off r) 0) old
cond_run s None b o off = sym (zero_cond s)
cond_run s (Some run) b o off = refl

-- what is taken from one side of a piece, and what is brought to it
side_taken : (maps : FileMaps) (a : FileNo) (off size : ℕ) (old : Option Run) → IsHoleOrRun maps a off size old
    → (f o b : ℕ) → cond (eqb a.0 f && is_within off size o) (holds maps f o b) 0 ≡ of_run (λ r. cond (eqb a.0 f) (in_layout b o off r) 0) old
side_taken maps a off size old piece f o b = and_split (eqb a.0 f) (is_within off size o) (holds maps f o b) ∙ piece_layout maps a off size old piece f o b ∙ cond_run (eqb a.0 f) old b o off

side_brought : (maps : FileMaps) (a : FileNo) (off size : ℕ) (g : FileNo) (from : ℕ) (old : Option Run) → IsHoleOrRun maps g from size old
    → (f o b : ℕ) → cond (eqb a.0 f && is_within off size o) (holds maps g.0 (from + (o - off)) b) 0 ≡ of_run (λ r. cond (eqb a.0 f) (in_layout b o off r) 0) old
side_brought maps a off size g from None piece f o b =
    side_same a.0 off size f o (holds maps g.0 (from + (o - off)) b) 0 (λ e low high. ap (λ s. one_if (maps_to (address_of b) s)) (piece (o - off) (omega (arith, low, high))))
    ∙ sym (zero_cond (eqb a.0 f && is_within off size o))
side_brought maps a off size g from (Some run) piece f o b =
    let x : ℕ = holds maps g.0 (from + (o - off)) b in
    let len : run.len ≡ size = piece.1 in
    side_same a.0 off size f o x (in_layout b o off run)
    (λ e low high. sym (laid_out b o off run (address_at maps g.0 (from + (o - off))) low (omega (arith, high, len)) (piece.2 (o - off) (omega (arith, low, high)))))
    ∙ and_split (eqb a.0 f) (is_within off size o) (in_layout b o off run)
    ∙ ap (λ n. cond (eqb a.0 f) n 0) (⊎_elim
    (λ it. ap (λ t. cond t (in_layout b o off run) 0) it.2)
    (λ out. ap (λ t. cond t (in_layout b o off run) 0) out ∙ sym (no_layout b o off run (ap (λ n. is_within off n o) len ∙ out)))
    (in_or_out off size o))

-- the same of offsets: at most those of the range
side_at : (maps : FileMaps) (a : FileNo) (off size : ℕ) (g : FileNo) (from : ℕ) (old : Option Run) → IsHoleOrRun maps g from size old
    → (f o : ℕ) → of_run (λ r. cond (eqb a.0 f) (in_offsets o off r) 0) old ≤ cond (eqb a.0 f) (one_if (is_within off size o)) 0
side_at maps a off size g from None piece f o = omega arith
side_at maps a off size g from (Some run) piece f o = omega (arith, ap (λ n. cond (eqb a.0 f) (one_if (is_within off n o)) 0) piece.1)

side_fills : (maps : FileMaps) (a : FileNo) (off size : ℕ) (old : Option Run) → IsHoleOrRun maps a off size old
    → (f o : ℕ) → is_mapped maps f o + cond (eqb a.0 f) (one_if (is_within off size o)) 0 ≤ 1 + of_run (λ r. cond (eqb a.0 f) (in_offsets o off r) 0) old
side_fills maps a off size old piece f o = ⊎_elim
    (λ e. omega (
      arith,
      ap (λ g. is_mapped maps g o) e,
      piece_fills maps a off size old o piece,
      ap (λ t. cond t (one_if (is_within off size o)) 0) (eq-eqb a.0 f e),
      offsets old (eq-eqb a.0 f e),
    ))
    (λ ne. omega (arith, at_most_one (is_some (address_at maps f o)), ap (λ t. cond t (one_if (is_within off size o)) 0) (ne_eqb a.0 f ne)))
    (cases_eq a.0 f)
  where
    offsets : (old : Option Run) → eqb a.0 f ≡ true → of_run (λ r. cond (eqb a.0 f) (in_offsets o off r) 0) old ≡ Rattle.xr_balance.proofs.PieceLemmas.offsets_of old o off
    offsets None is = refl
    offsets (Some run) is = ap (λ t. cond t (in_offsets o off run) 0) is

-- a piece stands in all maps that agree there
moved_piece : (maps others : FileMaps) (a : FileNo) (off size : ℕ) (old : Option Run) → ((k : ℕ) → k < size → address_at maps a.0 (off + k) ≡ address_at others a.0 (off + k))
    → IsHoleOrRun maps a off size old → IsHoleOrRun others a off size old
moved_piece maps others a off size None same piece = λ k l. sym (same k l) ∙ piece k l
moved_piece maps others a off size (Some run) same piece = (piece.0, piece.1, λ k l. sym (same k l) ∙ piece.2 k l)

moved_held : (B : FileMaps) (f x y b : ℕ) → x ≡ y → holds B f y b ≡ 1 → holds B f x b ≡ 1
moved_held B f x y b same held = ap (λ o. holds B f o b) same ∙ held

-- two pieces that differ at their first offset differ at each
all_differ : (maps : FileMaps) (file : FileNo) (off : ℕ) (other : FileNo) (other_off size : ℕ) (one two : Option Run) → 0 < size → address_at maps file.0 off ≢ address_at maps other.0 other_off
    → IsHoleOrRun maps file off size one → IsHoleOrRun maps other other_off size two → (k : ℕ) → k < size → address_at maps file.0 (off + k) ≢ address_at maps other.0 (other_off + k)
all_differ maps file off other other_off size one two some differs first second k l same =
    differs (ap (address_at maps file.0) (omega arith) ∙ starts one two first second ∙ ap (address_at maps other.0) (omega arith))
  where
    starts : (one two : Option Run) → IsHoleOrRun maps file off size one → IsHoleOrRun maps other other_off size two → address_at maps file.0 (off + 0) ≡ address_at maps other.0 (other_off + 0)
    starts None None first second = first 0 some ∙ sym (second 0 some)
    starts (Some r) None first second = absurd (not_some (address_after r.start k) (sym (first.2 k l) ∙ same ∙ second k l))
    starts None (Some s) first second = absurd (not_some (address_after s.start k) (sym (second.2 k l) ∙ sym same ∙ first k l))
    starts (Some r) (Some s) first second =
        let at : r.start.0 + k ≡ s.start.0 + k = ap address_number (sym (first.2 k l) ∙ same ∙ second.2 k l) in
        first.2 0 some ∙ ap (λ n. Some (address_of (n + 0))) (omega (arith, at)) ∙ sym (second.2 0 some)

one_slot : (b : ℕ) (x y : Option Addr) → x ≢ y → one_if (maps_to (address_of b) x) + one_if (maps_to (address_of b) y) ≤ 1
one_slot b None y ne = omega (arith, at_most_one (maps_to (address_of b) y))
one_slot b (Some a) None ne = omega (arith, at_most_one (maps_to (address_of b) (Some a)))
one_slot b (Some a) (Some c) ne = ⊎_elim
    (λ (e : a.0 ≡ b). ⊎_elim
    (λ (same : c.0 ≡ b). absurd (ne (ap (λ n. Some (address_of n)) (e ∙ sym same))))
    (λ no. omega (arith, at_most_one (eqb a.0 b), ap one_if (ne_eqb c.0 b no)))
    (cases_eq c.0 b))
    (λ no. omega (arith, at_most_one (eqb c.0 b), ap one_if (ne_eqb a.0 b no)))
    (cases_eq a.0 b)

side_apart : (a off len f o h x : ℕ) → h ≤ 1 → (a ≡ f → off ≤ o → o < off + len → h + x ≤ 1) → h + cond (eqb a f && is_within off len o) x 0 ≤ 1
side_apart a off len f o h x le apart = ⊎_elim
    (λ e. ⊎_elim
    (λ it. omega (arith, apart e it.0 it.1, both-le (eqb a f) (is_within off len o) x))
    (λ out. omega (arith, le, ap (λ t. cond (eqb a f && t) x 0) out, no_and (eqb a f) x))
    (in_or_out off len o))
    (λ ne. omega (arith, le, ap (λ t. cond (t && is_within off len o) x 0) (ne_eqb a f ne)))
    (cases_eq a f)

-- an exchange of no offset
empty_swap : (B : FileMaps) (f o b : ℕ) (file : FileNo) (off : ℕ) (other : FileNo) (other_off n : ℕ) → n ≡ 0
    → (taking B f o b (Swap file off other other_off n) ≡ 0) × (bringing B f o b (Swap file off other other_off n) ≡ 0) × (exchanging_at f o (Swap file off other other_off n) ≡ 0)
empty_swap B f o b file off other other_off n e =
    let out : (at : ℕ) → is_within at n o ≡ false = λ at. ⊎_elim (λ it. absurd (omega (arith, it.0, it.1, e))) (λ out. out) (in_or_out at n o) in
    let none : (a at x : ℕ) → cond (eqb a f && is_within at n o) x 0 ≡ 0 = λ a at x. ap (λ t. cond (eqb a f && t) x 0) (out at) ∙ no_and (eqb a f) x in
    let no : (a at : ℕ) → cond (eqb a f) (one_if (is_within at n o)) 0 ≡ 0 = λ a at. ap (λ t. cond (eqb a f) (one_if t) 0) (out at) ∙ sym (zero_cond (eqb a f)) in (
      omega (arith, none file.0 off (holds B f o b), none other.0 other_off (holds B f o b)),
      omega (arith, none file.0 off (holds B other.0 (other_off + (o - off)) b), none other.0 other_off (holds B file.0 (off + (o - other_off)) b)),
      omega (arith, no file.0 off, no other.0 other_off),
    )

-- a block of a piece stands at one of its offsets
piece_block : (maps : FileMaps) (a : FileNo) (off size : ℕ) (old : Option Run) (b : ℕ) → IsHoleOrRun maps a off size old → 0 < of_run (λ r. in_run b r) old
    → (k : ℕ) × (k < size) × (holds maps a.0 (off + k) b ≡ 1)
piece_block maps a off size None b piece some = absurd (omega (arith, some))
piece_block maps a off size (Some r) b piece some =
    let at = run-range r.start.0 r.len b (omega (arith, some, at_most_one (is_within r.start.0 r.len b))) in
    let k : ℕ = b - r.start.0 in
    let inside : k < size = omega (arith, at.0, at.1, piece.1) in (
      k,
      inside,
      ap (λ s. one_if (maps_to (address_of b) s)) (piece.2 k inside) ∙ ap one_if (eq-eqb (r.start.0 + k) b (omega (arith, at.0))),
    )

-- what the works of a piece do to maps is what its exchange does
piece_unmaps : {maps : FileMaps} {file : FileNo} {off : ℕ} {other : FileNo} {other_off len : ℕ} {new : List Work} (B : FileMaps) (it : TakesPiece maps file off other other_off len new)
    → IsHoleOrRun B file off it.size it.one → IsHoleOrRun B other other_off it.size it.two
    → (f o b : ℕ) → sum_by (unmapping f o b) new ≡ taking B f o b (Swap file off other other_off it.size)
piece_unmaps {maps} {file} {off} {other} {other_off} {len} B it first second f o b = omega (
  arith,
  flat_sum (unmapping f o b) it refl,
  of_none it.one,
  of_none it.two,
  side_taken B file off it.size it.one first f o b,
  side_taken B other other_off it.size it.two second f o b,
)

piece_maps : {maps : FileMaps} {file : FileNo} {off : ℕ} {other : FileNo} {other_off len : ℕ} {new : List Work} (B : FileMaps) (it : TakesPiece maps file off other other_off len new)
    → IsHoleOrRun B file off it.size it.one → IsHoleOrRun B other other_off it.size it.two
    → (f o b : ℕ) → sum_by (mapping f o b) new ≡ bringing B f o b (Swap file off other other_off it.size)
piece_maps {maps} {file} {off} {other} {other_off} {len} B it first second f o b = omega (
  arith,
  flat_sum (mapping f o b) it refl,
  of_none it.one,
  of_none it.two,
  side_brought B file off it.size other other_off it.two second f o b,
  side_brought B other other_off it.size file off it.one first f o b,
)

-- and to pairs what they do to maps
piece_row : {maps : FileMaps} {file : FileNo} {off : ℕ} {other : FileNo} {other_off len : ℕ} {new : List Work} → TakesPiece maps file off other other_off len new → IsExchangeRow new
piece_row {maps} {file} {off} {other} {other_off} {len} {new} it =
    let none = uncounted_new it in
    let laid : (a at b o f : ℕ) (old : Option Run) → of_run (λ r. cond (eqb (128 + a) (128 + f)) (in_layout b o at r) 0) old ≡ of_run (λ r. cond (eqb a f) (in_layout b o at r) 0) old =
    λ a at b o f old. ap (λ t. of_run (λ r. cond t (in_layout b o at r) 0) old) (owner_same a f) in
    let there : (a at o f : ℕ) (old : Option Run) → of_run (λ r. cond (eqb (128 + a) (128 + f)) (in_offsets o at r) 0) old ≡ of_run (λ r. cond (eqb a f) (in_offsets o at r) 0) old =
    λ a at o f old. ap (λ t. of_run (λ r. cond t (in_offsets o at r) 0) old) (owner_same a f) in
    record {
      pairs_on = λ f o b. omega (arith, flat_sum (pairing f o b) it refl, flat_sum (mapping f o b) it refl, of_none it.one, of_none it.two, laid file.0 off b o f it.two, laid other.0 other_off b o f it.one);
      pairs_off = λ f o b. omega (arith, flat_sum (unpairing f o b) it refl, flat_sum (unmapping f o b) it refl, of_none it.one, of_none it.two, laid file.0 off b o f it.one, laid other.0 other_off b o f it.two);
      at_on = λ f o. omega (arith, flat_sum (pairing_at f o) it refl, flat_sum (mapping_at f o) it refl, of_none it.one, of_none it.two, there file.0 off o f it.two, there other.0 other_off o f it.one);
      at_off = λ f o. omega (arith, flat_sum (unpairing_at f o) it refl, flat_sum (unmapping_at f o) it refl, of_none it.one, of_none it.two, there file.0 off o f it.one, there other.0 other_off o f it.two);
      uncounted = λ b. omega (arith, none.gives b, none.raises b, none.lowers b);
      unstaged = λ b. omega (arith, none.stages b, none.unstages b, none.stage_pairs b, none.unstage_pairs b);
    }

-- where the exchange names an offset no other pending work does, so the trees and the base have the same there
swap_slots : {C : Committed} {P : List Debt} {M : FileMaps} {Q : ℕ → Bool} {i lane : ℕ} {w : Work} → (was : IsSettled C P M Q) → IsFirstWork P i lane w
    → (f o : ℕ) → 0 < exchanging_at f o w → address_at C.maps f o ≡ address_at was.base f o
swap_slots {C} {P} {M} {Q} {i} {lane} {w} was first f o some =
    let e : Debt = in_lane lane w in
    same_slot (address_at C.maps f o) (address_at was.base f o) (λ b. omega (
      arith,
      some,
      was.maps.base f o b,
      was.offsets.unmaps f o,
      was.offsets.maps f o,
      sum_by-remove (λ (x : Debt). exchanging_at f o x.work) P i e first.inside,
      ap (λ (x : Debt). exchanging_at f o x.work) (first.is_work e),
      total-le (mapping f o b) (mapping_at f o) P (mapping-le f o b),
      total-le (unmapping f o b) (unmapping_at f o) P (unmapping-le f o b),
    ))

-- a front in which both ranges hold the same in the trees
pub all_same : {C : Committed} {P : List Debt} {M : FileMaps} {Q : ℕ → Bool} {i lane : ℕ} {file : FileNo} {off : ℕ} {other : FileNo} {other_off len over : ℕ}
    → (was : IsSettled C P M Q) → IsFirstWork P i lane (Swap file off other other_off len) → over ≤ len
    → ((k : ℕ) → k < over → address_at C.maps file.0 (off + k) ≡ address_at C.maps other.0 (other_off + k))
    → (f o b : ℕ) → taking was.base f o b (Swap file off other other_off over) ≡ bringing was.base f o b (Swap file off other other_off over)
all_same {C} {P} {M} {Q} {i} {lane} {file} {off} {other} {other_off} {len} {over} was first within alike f o b =
    front_same was.base b file off other other_off over (λ k l. ap (λ s. one_if (maps_to (address_of b) s))
    (sym (swap_slots was first file.0 (off + k) (first_there file off other other_off len file.0 (off + k) refl (omega arith) (omega (arith, l, within))))
    ∙ alike k l
    ∙ swap_slots was first other.0 (other_off + k) (second_there file off other other_off len other.0 (other_off + k) refl (omega arith) (omega (arith, l, within))))) f o

pub takes_rolls : {C : Committed} {P : List Debt} {M : FileMaps} {Q : ℕ → Bool} {i lane : ℕ} {file : FileNo} {off : ℕ} {other : FileNo} {other_off len : ℕ} {new : List Work} (over : ℕ)
    → (was : IsSettled C P M Q) → IsFirstWork P i lane (Swap file off other other_off len) → over ≤ len
    → ((k : ℕ) → k < over → address_at C.maps file.0 (off + k) ≡ address_at C.maps other.0 (other_off + k))
    → (it : TakesPiece C.maps file (off + over) other (other_off + over) (len - over) new)
    → RollsExchange C P M was.base i (Swap file off other other_off len) new (applied (Exchange file (off + over) other (other_off + over) it.size) was.base)
takes_rolls {C} {P} {M} {Q} {i} {lane} {file} {off} {other} {other_off} {len} {new} over was first within alike it =
    let B : FileMaps = was.base in
    let w : Work = Swap file off other other_off len in
    let e : Debt = in_lane lane w in
    let p : ℕ = off + over in
    let q : ℕ = other_off + over in
    let size : ℕ = it.size in
    let fits : over + size ≤ len = omega (arith, within, it.piece.fits) in
    let front : Work = Swap file off other other_off over in
    let piece : Work = Swap file p other q size in
    let rest : Work = Swap file (p + size) other (q + size) (len - over - size) in
    let B' : FileMaps = applied (Exchange file p other q size) B in
    let valid : IsSwap file off other other_off len = subst (λ (d : Debt). IsWork d.work) (first.is_work e) (was.valid i e first.inside) in
    let piece_valid : IsSwap file p other q size = part_swap over size valid fits it.piece.some in
    let back_valid : IsSwap file p other q (len - over) = part_swap over (len - over) valid (omega (arith, within)) (omega (arith, it.piece.some, it.piece.fits)) in
    let parts = λ (f o b : ℕ). swap_parts B f o b file off other other_off len over within in
    let more = λ (f o b : ℕ). swap_parts B f o b file p other q (len - over) size it.piece.fits in
    let less : (g : Work → ℕ) → total g (remove P i) + g w ≡ total g P = λ g. omega (arith, sum_by-remove (λ (x : Debt). g x.work) P i e first.inside, ap (λ (x : Debt). g x.work) (first.is_work e)) in
    let slots = swap_slots was first in
    let one : IsHoleOrRun B file p size it.one = moved_piece C.maps B file p size it.one
    (λ k l. slots file.0 (p + k) (first_there file off other other_off len file.0 (p + k) refl (omega arith) (omega (arith, l, fits)))) it.piece.first in
    let two : IsHoleOrRun B other q size it.two = moved_piece C.maps B other q size it.two
    (λ k l. slots other.0 (q + k) (second_there file off other other_off len other.0 (q + k) refl (omega arith) (omega (arith, l, fits)))) it.piece.second in
    let unmaps = piece_unmaps B it one two in
    let maps = piece_maps B it one two in
    let same_out : (f o b : ℕ) → exchanging_at f o piece ≡ 0 → holds B' f o b ≡ holds B f o b = λ f o b out.
    omega (arith, out, exchange_moves B file p other q size was.good_base (fits_of piece_valid) f o b, taking-le B f o b piece, bringing-le B f o b piece) in
    let rest_same = λ (f o b : ℕ). same_where B' B b rest (λ g r some. same_out g r b (omega (arith, some, (parts g r b).at, (more g r b).at, once g r file other off other_off len valid))) f o in
    let left : (f o : ℕ) → total (exchanging_at f o) (remove P i) + exchanging_at f o w ≤ 1 = λ f o. omega (arith, less (exchanging_at f o), was.offsets.maps f o) in
    let others_same = λ (f o b k : ℕ) (d : Debt) (l : k < length (remove P i)). same_where B' B b (get_or (remove P i) k d).work (λ g r some. same_out g r b (omega (
      arith,
      some,
      left g r,
      get_or-le-sum_by (λ (x : Debt). exchanging_at g r x.work) (remove P i) k d l,
      (parts g r b).at,
      (more g r b).at,
    ))) f o in
    let exchanged : (f o : ℕ) → sum_by (exchanging_at f o) new ≡ exchanging_at f o rest = λ f o.
    swap_sum (exchanging_at f o) it (λ r. (refl, refl, refl, refl)) (λ s. (refl, refl, refl, refl)) (λ z. (empty_swap B f o 0 file (p + size) other (q + size) (len - over - size) z).2) in
    let off_at : (f o : ℕ) → sum_by (unmapping_at f o) new ≡ of_run (λ r. cond (eqb file.0 f) (in_offsets o p r) 0) it.one + of_run (λ r. cond (eqb other.0 f) (in_offsets o q r) 0) it.two = λ f o.
    omega (arith, flat_sum (unmapping_at f o) it refl, of_none it.one, of_none it.two) in
    let on_at : (f o : ℕ) → sum_by (mapping_at f o) new ≡ of_run (λ r. cond (eqb file.0 f) (in_offsets o p r) 0) it.two + of_run (λ r. cond (eqb other.0 f) (in_offsets o q r) 0) it.one = λ f o.
    omega (arith, flat_sum (mapping_at f o) it refl, of_none it.one, of_none it.two) in
    -- what an exchanged offset gets, an owner in the maps has
    let owned : (f o b : ℕ) → f < FILES → o < OFFSETS → 0 < exchanging_at f o w → 0 < bringing B f o b w → 0 < owners M b = λ f o b fl ol some brings. omega (
      arith,
      some,
      brings,
      was.maps.exchanged f o b,
      less (taking B f o b),
      less (bringing B f o b),
      total-le (taking B f o b) (exchanging_at f o) (remove P i) (taking-le B f o b),
      left f o,
      taking_held B f o b file off other other_off len valid,
      one_owner M f o b fl ol,
    ) in
    let differs = all_differ C.maps file p other q size it.one it.two it.piece.some it.differs it.piece.first it.piece.second in
    record {
      is = omega arith;
      good = steps_leave_good_maps (Exchange file p other q size) B (fits_of piece_valid) was.good_base;
      row = piece_row it;
      chain = chain_new it;
      valid = all_each IsWork new (each_new IsWork it
          (λ r is. works_good r p q it.piece.some (subst (IsHoleOrRun B file p size) is one) valid.first_file valid.second_file piece_valid.first_range piece_valid.second_range)
          (λ s is. works_good s q p it.piece.some (subst (IsHoleOrRun B other q size) is two) valid.second_file valid.first_file piece_valid.second_range piece_valid.first_range)
          (λ ne. part_swap size (len - over - size) back_valid (omega (arith, it.piece.fits)) (omega (arith, it.piece.fits, ne))));
      base = λ f o b. omega (arith, exchange_moves B file p other q size was.good_base (fits_of piece_valid) f o b, unmaps f o b, maps f o b);
      moved = λ f o b. omega (
        arith,
        (parts f o b).takes,
        (parts f o b).brings,
        (more f o b).takes,
        (more f o b).brings,
        all_same was first within alike f o b,
        unmaps f o b,
        maps f o b,
        swap_sum (taking B' f o b) it (λ r. (refl, refl, refl, refl)) (λ s. (refl, refl, refl, refl)) (λ z. (empty_swap B' f o b file (p + size) other (q + size) (len - over - size) z).0),
        swap_sum (bringing B' f o b) it (λ r. (refl, refl, refl, refl)) (λ s. (refl, refl, refl, refl)) (λ z. (empty_swap B' f o b file (p + size) other (q + size) (len - over - size) z).1),
        (rest_same f o b).0,
        (rest_same f o b).1,
      );
      others_take = λ f o b. total-same (taking B' f o b) (taking B f o b) (remove P i) (λ k d l. (others_same f o b k d l).0);
      others_bring = λ f o b. total-same (bringing B' f o b) (bringing B f o b) (remove P i) (λ k d l. (others_same f o b k d l).1);
      unmaps_within = λ f o. omega (arith, off_at f o, exchanged f o, (parts f o 0).at, (more f o 0).at, side_at B file p size file p it.one one f o, side_at B other q size other q it.two two f o);
      maps_within = λ f o. omega (arith, on_at f o, exchanged f o, (parts f o 0).at, (more f o 0).at, side_at B file p size other q it.two two f o, side_at B other q size file p it.one one f o);
      files_within = λ f some. ⊎_elim
          (λ named. omega (arith, either (eqb file.0 f) (eqb other.0 f) (inl (eq-eqb file.0 f (sym named)))))
          (λ named. omega (arith, either (eqb file.0 f) (eqb other.0 f) (inr (eq-eqb other.0 f (sym named)))))
          (files_new f it some);
      old_there = λ f o b. omega (arith, piece_unmaps C.maps it it.piece.first it.piece.second f o b, taking_held C.maps f o b file p other q size piece_valid);
      fills = λ f o. omega (
        arith,
        off_at f o,
        on_at f o,
        once f o file other p q size piece_valid,
        side_at B file p size other q it.two two f o,
        side_at B other q size file p it.one one f o,
        side_fills C.maps file p size it.one it.piece.first f o,
        side_fills C.maps other q size it.two it.piece.second f o,
      );
      others = λ f o b. omega (
        arith,
        maps f o b,
        once f o file other p q size piece_valid,
        side_unlike B file p size other q f o b (λ k l same. differs k l (slots file.0 (p + k) (first_there file off other other_off len file.0 (p + k) refl (omega arith) (omega (arith, l, fits)))
            ∙ same ∙ sym (slots other.0 (q + k) (second_there file off other other_off len other.0 (q + k) refl (omega arith) (omega (arith, l, fits)))))),
        side_unlike B other q size file p f o b (λ k l same. differs k l (slots file.0 (p + k) (first_there file off other other_off len file.0 (p + k) refl (omega arith) (omega (arith, l, fits)))
            ∙ sym same ∙ sym (slots other.0 (q + k) (second_there file off other other_off len other.0 (q + k) refl (omega arith) (omega (arith, l, fits)))))),
        taken-le (eqb file.0 f) (is_within p size o) (holds B other.0 (q + (o - p)) b) (at_most_one _),
        taken-le (eqb other.0 f) (is_within q size o) (holds B file.0 (p + (o - q)) b) (at_most_one _),
      );
      there = λ b some. ⊎_elim
          (λ in_one. let at = piece_block B file p size it.one b one in_one in
          let place : ℕ = q + at.0 in
          let held = moved_held B file.0 (off + (place - other_off)) (p + at.0) b (omega arith) at.2 in
          let inside : place < other_off + len = omega (arith, at.1, fits) in
          let part = side_one other.0 other_off len place (holds B file.0 (off + (place - other_off)) b) (omega arith) inside held in
          owned other.0 place b valid.second_file (omega (arith, inside, valid.second_range)) (second_there file off other other_off len other.0 place refl (omega arith) inside) (omega (arith, part)))
          (λ not_one. let names : 0 < of_run (λ r. in_run b r) it.two = omega (arith, some, not_one, flat_sum (naming b) it refl) in
          let at = piece_block B other q size it.two b two names in
          let place : ℕ = p + at.0 in
          let held = moved_held B other.0 (other_off + (place - off)) (q + at.0) b (omega arith) at.2 in
          let inside : place < off + len = omega (arith, at.1, fits) in
          let part = side_one file.0 off len place (holds B other.0 (other_off + (place - off)) b) (omega arith) inside held in
          owned file.0 place b valid.first_file (omega (arith, inside, valid.first_range)) (first_there file off other other_off len file.0 place refl (omega arith) inside) (omega (arith, part)))
          (cases_lt 0 (of_run (λ r. in_run b r) it.one));
    }
  where
    works_good : (r : Run) (at there : ℕ) {a g : FileNo} {n : ℕ} → 0 < n → IsHoleOrRun was.base a at n (Some r) → a.0 < FILES → g.0 < FILES → at + n ≤ OFFSETS → there + n ≤ OFFSETS → OfFirst IsWork a at g there r
    works_good r at there {a} {g} {n} some piece small other_small within other_within =
        let len : r.len ≡ n = piece.1 in
        let mine = owner_good a.0 at r small (omega (arith, len, within)) in
        let theirs = owner_good g.0 there r other_small (omega (arith, len, other_within)) in
        ((piece.0, small, omega (arith, len, within)), (piece.0, other_small, omega (arith, len, other_within)), (piece.0, mine.0, mine.1), (piece.0, theirs.0, theirs.1))

    side_unlike : (B : FileMaps) (a : FileNo) (at n : ℕ) (g : FileNo) (from f o b : ℕ) → ((k : ℕ) → k < n → address_at B a.0 (at + k) ≢ address_at B g.0 (from + k))
        → holds B f o b + cond (eqb a.0 f && is_within at n o) (holds B g.0 (from + (o - at)) b) 0 ≤ 1
    side_unlike B a at n g from f o b unlike = side_apart a.0 at n f o (holds B f o b) (holds B g.0 (from + (o - at)) b) (at_most_one (maps_to (address_of b) (address_at B f o)))
        (λ e low high. let here : holds B f o b ≡ holds B a.0 (at + (o - at)) b = ap (λ m. holds B m o b) (sym e) ∙ ap (λ m. holds B a.0 m b) (omega (arith, low)) in
        omega (arith, here, one_slot b (address_at B a.0 (at + (o - at))) (address_at B g.0 (from + (o - at))) (unlike (o - at) (omega (arith, low, high)))))

-- an exchange whose ranges hold the same leaves nothing
pub none_rolls : {C : Committed} {P : List Debt} {M : FileMaps} {Q : ℕ → Bool} {i : ℕ} {file : FileNo} {off : ℕ} {other : FileNo} {other_off len : ℕ}
    → (was : IsSettled C P M Q) → ((f o b : ℕ) → taking was.base f o b (Swap file off other other_off len) ≡ bringing was.base f o b (Swap file off other other_off len))
    → RollsExchange C P M was.base i (Swap file off other other_off len) [] was.base
none_rolls {C} was same = record {
  is = omega arith;
  good = was.good_base;
  row = record { pairs_on = λ f o b. refl; pairs_off = λ f o b. refl; at_on = λ f o. refl; at_off = λ f o. refl; uncounted = λ b. refl; unstaged = λ b. refl };
  chain = record { order = order-none; short = omega arith; given_once = omega arith; raised_once = omega arith; one = 0; two = 0; files = λ f it. absurd (omega (arith, it)); apart = λ it. refl };
  valid = λ k d l. absurd (omega (arith, l));
  base = λ f o b. refl;
  moved = λ f o b. omega (arith, same f o b);
  others_take = λ f o b. refl;
  others_bring = λ f o b. refl;
  unmaps_within = λ f o. omega arith;
  maps_within = λ f o. omega arith;
  files_within = λ f some. absurd (omega (arith, some));
  old_there = λ f o b. omega arith;
  fills = λ f o. omega (arith, at_most_one (is_some (address_at C.maps f o)));
  others = λ f o b. omega (arith, at_most_one (maps_to (address_of b) (address_at was.base f o)));
  there = λ b some. absurd (omega (arith, some));
}
