-- Two ranges of good maps always give works: the front is passed over and the piece grows offset by offset.
use Rattle.std.proofs.Common.{◌≡◌, ◌≢◌, ℕ, ◌+◌, ◌-◌, ◌<◌, zero, suc, [], ◌++◌, arith, ap, sym, ◌∙◌, ⊎_elim, ◌⊎◌, inl, inr, Option, Some, None, refl, subst}
use Rattle.std.specs.Prelude.{IfSome}
use Rattle.std.proofs.lemmas.Bool.{cases_lt, cases_eq}
use Rattle.xr_base.specs.declared.address.Addr.{Addr}
use Rattle.xr_base.specs.declared.address.FileNo.{FileNo}
use Rattle.xr_base.specs.declared.address.Run.{Run}
use Rattle.xr_base.specs.Address.{IsData, address_after, address_of, group_number}
use Rattle.xr_maps.specs.FileMaps.{AreGoodMaps, FileMaps, address_at}
use Rattle.xr_balance.specs.Pieces.{IsHoleOrRun, IsLongestPiece, PiecesAreThere}
use Rattle.xr_balance.specs.Rows.{works_of_exchange_rest, works_of_piece}
use Rattle.xr_balance.proofs.PieceLemmas.{address_number, not_some}

same_or_not : (x y : Option Addr) → (x ≡ y) ⊎ (x ≢ y)
same_or_not None None = inl refl
same_or_not None (Some a) = inr (λ e. not_some a (sym e))
same_or_not (Some a) None = inr (λ e. not_some a e)
same_or_not (Some a) (Some c) = ⊎_elim (λ (e : a.0 ≡ c.0). inl (ap (λ n. Some (address_of n)) e)) (λ ne. inr (λ e. ne (ap address_number e))) (cases_eq a.0 c.0)

-- what is so below n and at n
below_suc : (T : ℕ → Type 0) (n : ℕ) → ((k : ℕ) → k < n → T k) → T n → (k : ℕ) → k < suc n → T k
below_suc T n all here k l = ⊎_elim (λ e. subst T (sym e) here) (λ ne. all k (omega (arith, l, ne))) (cases_eq k n)

abbrev AreAlike : FileMaps → FileNo → ℕ → FileNo → ℕ → ℕ → Type 0
AreAlike maps file off other other_off k = address_at maps file.0 (off + k) ≡ address_at maps other.0 (other_off + k)

first_unlike : (maps : FileMaps) (file : FileNo) (off : ℕ) (other : FileNo) (other_off n : ℕ)
    → ((k : ℕ) → k < n → AreAlike maps file off other other_off k)
    ⊎ ((over : ℕ) × (over < n) × ((k : ℕ) → k < over → AreAlike maps file off other other_off k) × (AreAlike maps file off other other_off over → ⊥))
first_unlike maps file off other other_off zero = inl (λ k l. absurd (omega (arith, l)))
first_unlike maps file off other other_off (suc n) = ⊎_elim
    (λ all. ⊎_elim
    (λ same. inl (below_suc (AreAlike maps file off other other_off) n all same))
    (λ ne. inr (n, omega arith, all, ne))
    (same_or_not (address_at maps file.0 (off + n)) (address_at maps other.0 (other_off + n))))
    (λ found. inr (found.0, omega (arith, found.1), found.2, found.3))
    (first_unlike maps file off other other_off n)

data_at : (maps : FileMaps) (f o : ℕ) (a : Addr) → AreGoodMaps maps → address_at maps f o ≡ Some a → IsData a
data_at maps f o a good is = subst (λ s. IfSome s IsData) is (good.data_blocks f o)

-- each offset is a hole or a run of one block
one_offset : (maps : FileMaps) (file : FileNo) (off : ℕ) → AreGoodMaps maps → (s : Option Addr) → address_at maps file.0 off ≡ s → (r : Option Run) × IsHoleOrRun maps file off 1 r
one_offset maps file off good None is = (None, λ k l. ap (address_at maps file.0) (omega (arith, l)) ∙ is)
one_offset maps file off good (Some a) is = (
  Some (record { start = a; len = 1 }),
  (
    record {
      some = omega arith;
      data_blocks = λ k l. subst (λ n. IsData (address_of n)) (omega (arith, l)) (data_at maps file.0 off a good is);
      one_group = λ k l. ap (λ n. group_number (address_of n)) (omega (arith, l));
    },
    refl,
    λ k l. ap (address_at maps file.0) (omega (arith, l)) ∙ is ∙ ap (λ n. Some (address_of n)) (omega (arith, l)),
  ),
)

-- a longer one begins as the shorter one does
hole_or_start : (maps : FileMaps) (file : FileNo) (off n : ℕ) (run : Run) (r : Option Run) → 0 < n → IsHoleOrRun maps file off n (Some run) → IsHoleOrRun maps file off (n + 1) r
    → (s : Run) × (s.start.0 ≡ run.start.0) × (IsHoleOrRun maps file off (n + 1) (Some s))
hole_or_start maps file off n run None some piece more = absurd (not_some (address_after run.start 0) (sym (piece.2 0 some) ∙ more 0 (omega arith)))
hole_or_start maps file off n run (Some s) some piece more =
    let start : s.start.0 + 0 ≡ run.start.0 + 0 = ap address_number (sym (more.2 0 (omega arith)) ∙ piece.2 0 some) in
    (s, omega (arith, start), more)

grows : (maps : FileMaps) (file : FileNo) (off n : ℕ) (old : Option Run) → AreGoodMaps maps → 0 < n → IsHoleOrRun maps file off n old
    → ((r : Option Run) × IsHoleOrRun maps file off (n + 1) r) ⊎ ((r : Option Run) → IsHoleOrRun maps file off (n + 1) r → ⊥)
grows maps file off n None good some piece = ⊎_elim
    (λ same. inl (None, λ k l. below_suc (λ j. address_at maps file.0 (off + j) ≡ None) n piece same k (omega (arith, l))))
    (λ ne. inr (λ r. elim r as (λ r. IsHoleOrRun maps file off (n + 1) r → ⊥) [
      | None ↦ λ more. ne (more n (omega arith))
      | Some s ↦ λ more. not_some (address_after s.start 0) (sym (more.2 0 (omega arith)) ∙ piece 0 some)
    ]))
    (same_or_not (address_at maps file.0 (off + n)) None)
grows maps file off n (Some run) good some piece =
    let slots : ℕ → Type 0 = λ j. address_at maps file.0 (off + j) ≡ Some (address_after run.start j) in
    let next : Addr = address_after run.start n in
    ⊎_elim
    (λ same. ⊎_elim
    (λ group. inl (
      Some (record { start = run.start; len = n + 1 }),
      (
        record {
          some = omega arith;
          data_blocks = λ k l. below_suc (λ j. IsData (address_after run.start j)) n (λ j m. piece.0.data_blocks j (omega (arith, m, piece.1))) (data_at maps file.0 (off + n) next good same) k (omega (arith, l));
          one_group = λ k l. below_suc (λ j. group_number (address_after run.start j) ≡ group_number run.start) n (λ j m. piece.0.one_group j (omega (arith, m, piece.1))) group k (omega (arith, l));
        },
        refl,
        λ k l. below_suc slots n piece.2 same k (omega (arith, l)),
      ),
    ))
    (λ ne. inr (λ r more. let it = hole_or_start maps file off n run r some piece more in
    ne (ap (λ m. group_number (address_of (m + n))) (sym it.1) ∙ it.2.0.one_group n (omega (arith, it.2.1)) ∙ ap (λ m. group_number (address_of m)) it.1)))
    (cases_eq (group_number next) (group_number run.start)))
    (λ ne. inr (λ r more. let it = hole_or_start maps file off n run r some piece more in
    ne (it.2.2 n (omega arith) ∙ ap (λ m. Some (address_of (m + n))) it.1)))
    (same_or_not (address_at maps file.0 (off + n)) (Some next))

longest_piece : (maps : FileMaps) (file : FileNo) (off : ℕ) (other : FileNo) (other_off : ℕ) → AreGoodMaps maps → (n : ℕ)
    → (size : ℕ) × (one : Option Run) × (two : Option Run) × IsLongestPiece maps file off other other_off (suc n) size one two
longest_piece maps file off other other_off good zero =
    let one = one_offset maps file off good (address_at maps file.0 off) refl in
    let two = one_offset maps other other_off good (address_at maps other.0 other_off) refl in
    (1, one.0, two.0, record { some = omega arith; fits = omega arith; first = one.1; second = two.1; longest = λ l r s a c. absurd (omega (arith, l)) })
longest_piece maps file off other other_off good (suc n) =
    let it = longest_piece maps file off other other_off good n in
    let size : ℕ = it.0 in
    let piece = it.3 in
    let stays : ((r s : Option Run) → IsHoleOrRun maps file off (size + 1) r → IsHoleOrRun maps other other_off (size + 1) s → ⊥)
    → (size : ℕ) × (one : Option Run) × (two : Option Run) × IsLongestPiece maps file off other other_off (suc (suc n)) size one two = λ none.
    (size, it.1, it.2, record { some = piece.some; fits = omega (arith, piece.fits); first = piece.first; second = piece.second; longest = λ l r s a c. none r s a c }) in
    ⊎_elim
    (λ less. stays (piece.longest less))
    (λ full. ⊎_elim
    (λ one. ⊎_elim
    (λ two. (size + 1, one.0, two.0, record { some = omega arith; fits = omega (arith, piece.fits); first = one.1; second = two.1; longest = λ l r s a c. absurd (omega (arith, l, full)) }))
    (λ no. stays (λ r s a c. no s c))
    (grows maps other other_off size it.2 good piece.some piece.second))
    (λ no. stays (λ r s a c. no r a))
    (grows maps file off size it.1 good piece.some piece.first))
    (cases_lt size (suc n))

pub pieces_are_there : PiecesAreThere
pieces_are_there maps file off other other_off len good = ⊎_elim
    (λ all. ([], record { over = len; within = omega arith; same = all; gives = inl (refl, refl) }))
    (λ found. let over : ℕ = found.0 in
    let left : suc (len - over - 1) ≡ len - over = omega (arith, found.1) in
    let it = longest_piece maps file (off + over) other (other_off + over) good (len - over - 1) in (
      works_of_piece file (off + over) it.1 other (other_off + over) it.2 ++ works_of_exchange_rest file (off + over) other (other_off + over) (len - over) it.0,
      record {
        over = over;
        within = omega (arith, found.1);
        same = found.2;
        gives = inr (record {
          size = it.0;
          one = it.1;
          two = it.2;
          differs = found.3;
          piece = subst (λ n. IsLongestPiece maps file (off + over) other (other_off + over) n it.0 it.1 it.2) left it.3;
          new_is = refl;
        });
      },
    ))
    (first_unlike maps file off other other_off len)
