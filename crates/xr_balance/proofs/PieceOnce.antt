-- Two ranges give one list of works: how much is passed over, the size of the piece, and its two runs are determined.
use Rattle.std.proofs.Common.{◌≡◌, ℕ, ◌+◌, ◌-◌, ◌<◌, ◌≤◌, List, ◌++◌, arith, ap, sym, ◌∙◌, ⊎_elim, Option, Some, None, refl, subst}
use Rattle.std.proofs.lemmas.Bool.{cases_lt}
use Rattle.xr_base.specs.declared.address.FileNo.{FileNo}
use Rattle.xr_base.specs.declared.address.Run.{Run}
use Rattle.xr_base.specs.Address.{address_after, address_of}
use Rattle.xr_maps.specs.FileMaps.{FileMaps}
use Rattle.xr_items.specs.declared.work.Work.{Work}
use Rattle.xr_balance.specs.Pieces.{GivesPiece, IsHoleOrRun, IsLongestPiece, PiecesAreDetermined, TakesPiece}
use Rattle.xr_balance.specs.Rolls.{run_front}
use Rattle.xr_balance.specs.Rows.{works_of_exchange_rest, works_of_piece}
use Rattle.xr_balance.proofs.KeptRolls.{good_front}
use Rattle.xr_balance.proofs.PieceLemmas.{address_number, not_some}

-- the front of a hole or run is one
front_of : (maps : FileMaps) (file : FileNo) (off size n : ℕ) (old : Option Run) → 0 < n → n ≤ size → IsHoleOrRun maps file off size old → (r : Option Run) × IsHoleOrRun maps file off n r
front_of maps file off size n None some le piece = (None, λ k l. piece k (omega (arith, l, le)))
front_of maps file off size n (Some run) some le piece =
    (Some (run_front run n), (good_front run n piece.0 some (omega (arith, le, piece.1)), refl, λ k l. piece.2 k (omega (arith, l, le))))

not_longer : (maps : FileMaps) (file : FileNo) (off : ℕ) (other : FileNo) (other_off len size n : ℕ) (one two r s : Option Run)
    → IsLongestPiece maps file off other other_off len size one two → IsLongestPiece maps file off other other_off len n r s → n ≤ size
not_longer maps file off other other_off len size n one two r s piece more = ⊎_elim
    (λ less. let first = front_of maps file off n (size + 1) r (omega arith) (omega (arith, less)) more.first in
    let second = front_of maps other other_off n (size + 1) s (omega arith) (omega (arith, less)) more.second in
    absurd (piece.longest (omega (arith, less, more.fits)) first.0 second.0 first.1 second.1))
    (λ le. le)
    (cases_lt size n)

one_run : (maps : FileMaps) (file : FileNo) (off size : ℕ) (old new : Option Run) → 0 < size → IsHoleOrRun maps file off size old → IsHoleOrRun maps file off size new → old ≡ new
one_run maps file off size None None some a c = refl
one_run maps file off size None (Some s) some a c = absurd (not_some (address_after s.start 0) (sym (c.2 0 some) ∙ a 0 some))
one_run maps file off size (Some r) None some a c = absurd (not_some (address_after r.start 0) (sym (a.2 0 some) ∙ c 0 some))
one_run maps file off size (Some r) (Some s) some a c =
    let start : r.start.0 + 0 ≡ s.start.0 + 0 = ap address_number (sym (a.2 0 some) ∙ c.2 0 some) in
    let run : ℕ → ℕ → Option Run = λ n m. Some (record { start = address_of n; len = m }) in
    ap (λ n. run n r.len) (omega (arith, start)) ∙ ap (run s.start.0) (omega (arith, a.1, c.1))

one_taken : {maps : FileMaps} {file : FileNo} {off : ℕ} {other : FileNo} {other_off len : ℕ} {new others : List Work}
    → TakesPiece maps file off other other_off len new → TakesPiece maps file off other other_off len others → new ≡ others
one_taken {maps} {file} {off} {other} {other_off} {len} a c =
    let works : Option Run → Option Run → ℕ → List Work = λ one two n. works_of_piece file off one other other_off two ++ works_of_exchange_rest file off other other_off len n in
    let size : a.size ≡ c.size = omega (
      arith,
      not_longer maps file off other other_off len a.size c.size a.one a.two c.one c.two a.piece c.piece,
      not_longer maps file off other other_off len c.size a.size c.one c.two a.one a.two c.piece a.piece,
    ) in
    let one : a.one ≡ c.one = one_run maps file off c.size a.one c.one c.piece.some (subst (λ n. IsHoleOrRun maps file off n a.one) size a.piece.first) c.piece.first in
    let two : a.two ≡ c.two = one_run maps other other_off c.size a.two c.two c.piece.some (subst (λ n. IsHoleOrRun maps other other_off n a.two) size a.piece.second) c.piece.second in
    a.new_is ∙ ap (λ o. works o a.two a.size) one ∙ ap (λ o. works c.one o a.size) two ∙ ap (works c.one c.two) size ∙ sym c.new_is

-- neither passes over more than the other
not_over : {maps : FileMaps} {file : FileNo} {off : ℕ} {other : FileNo} {other_off len : ℕ} {new others : List Work}
    → (a : GivesPiece maps file off other other_off len new) → (c : GivesPiece maps file off other other_off len others) → c.over ≤ a.over
not_over a c = ⊎_elim
    (λ less. ⊎_elim
    (λ none. absurd (omega (arith, less, none.0, c.within)))
    (λ takes. absurd (takes.differs (c.same a.over less)))
    a.gives)
    (λ le. le)
    (cases_lt a.over c.over)

pub pieces_are_determined : PiecesAreDetermined
pieces_are_determined maps file off other other_off len new others a c =
    let over : a.over ≡ c.over = omega (arith, not_over a c, not_over c a) in
    ⊎_elim
    (λ none. ⊎_elim
    (λ nor. none.1 ∙ sym nor.1)
    (λ takes. absurd (omega (arith, none.0, over, takes.piece.some, takes.piece.fits)))
    c.gives)
    (λ takes. ⊎_elim
    (λ none. absurd (omega (arith, none.0, over, takes.piece.some, takes.piece.fits)))
    (λ too. one_taken (subst (λ n. TakesPiece maps file (off + n) other (other_off + n) (len - n) new) over takes) too)
    c.gives)
    a.gives
