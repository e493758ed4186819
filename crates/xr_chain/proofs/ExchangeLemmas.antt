-- The piece of an exchange, by a lookup of both its ranges.
use Rattle.std.proofs.Common.{◌≡◌, ℕ, ◌+◌, ◌-◌, ◌<◌, ◌≤◌, List, [], ◌++◌, Option, Some, None, inl, inr, ⊎_elim, refl, sym, ◌∙◌, ap, subst, arith}
use Rattle.std.proofs.lemmas.Bool.{cases_lt}
use Rattle.std.specs.Prelude.{IfSome}
use Rattle.xr_balance.specs.Pieces.{IsHoleOrRun, TakesPiece}
use Rattle.xr_balance.specs.Rows.{works_of_exchange_rest, works_of_piece}
use Rattle.xr_base.specs.Address.{IsGoodRun, address_after, address_of}
use Rattle.xr_base.specs.declared.address.Addr.{Addr}
use Rattle.xr_base.specs.declared.address.FileNo.{FileNo}
use Rattle.xr_base.specs.declared.address.Run.{Run}
use Rattle.xr_base.specs.declared.geometry.TheConstants.{OFFSETS}
use Rattle.xr_bmap.specs.File.{FileState, slot_of_file}
use Rattle.xr_bmap.specs.Slots.{IsPieceAt, piece_len, piece_slot}
use Rattle.xr_bmap.specs.declared.piece.Piece.{Piece}
use Rattle.xr_bmap.specs.declared.piece.Piece.TheVariants.{Hole, Mapped}
use Rattle.xr_chain.proofs.PartLemmas.{front_good}
use Rattle.xr_chain.specs.ExchangeParts.{AreRanges, FitsRanges, IsRunAt, IsShorterLength, LeavesWorks, ranges_behind, run_of_front}
use Rattle.xr_chain.specs.declared.exchange.Ranges.{Ranges}
use Rattle.xr_items.specs.Transactions.{TransView, no_trans}
use Rattle.xr_items.specs.declared.work.Work.{Work}
use Rattle.xr_maps.specs.FileMaps.{FileMaps, address_at}

-- the blocks of a piece are those of a group
abbrev pub IsGoodPiece : Piece → Type 0
IsGoodPiece piece = (at : Addr) (len : ℕ) → piece ≡ Mapped at len → IsGoodRun (record { start = at; len = len })

no_block : (a : Addr) → Some a ≡ None → ⊥
no_block a same = absurd (cc same)

-- what begins with the same block goes on with the same
same_start : (a b : Addr) → Some (address_after a 0) ≡ Some (address_after b 0) → (k : ℕ) → Some (address_after a k) ≡ Some (address_after b k)
same_start a b same k =
    let number : Option Addr → ℕ = λ s. elim s [ None ↦ 0 | Some x ↦ x.0 ] in
    let start : a.0 + 0 ≡ b.0 + 0 = ap number same in
    ap (λ n. Some (address_of n)) (omega (arith, start))

pub alike_on : (p q : Piece) → piece_slot p 0 ≡ piece_slot q 0 → (k : ℕ) → piece_slot p k ≡ piece_slot q k
alike_on (Mapped a n) (Mapped b m) same k = same_start a b same k
alike_on (Mapped a n) (Hole m) same k = absurd (no_block (address_after a 0) same)
alike_on (Hole n) (Mapped b m) same k = absurd (no_block (address_after b 0) (sym same))
alike_on (Hole n) (Hole m) same k = refl

-- the run of a piece's front
front_run_good : (p : Piece) (n : ℕ) → 0 < n → n ≤ piece_len p → IsGoodPiece p → (off : ℕ) → off + n ≤ OFFSETS → IfSome (run_of_front p n) (IsRunAt off)
front_run_good (Mapped at len) n some within good off fits = (front_good (record { start = at; len = len }) (good at len refl) n some within, fits)
front_run_good (Hole len) n some within good off fits = tt

pub front_fits : (r : Ranges) (p : Piece) (n : ℕ) → AreRanges r → 0 < n → n ≤ piece_len p → piece_len p ≤ r.len → IsGoodPiece p → FitsRanges r (run_of_front p n)
front_fits r p n are some within few good = record {
  at_first = front_run_good p n some within good r.off (omega (arith, are.first_range, within, few));
  at_second = front_run_good p n some within good r.other_off (omega (arith, are.second_range, within, few));
}

-- a file of the maps, and the piece that it has at an offset
module _ (maps : FileMaps) (file : FileNo) (slots : ℕ → Option Addr) (has : (o : ℕ) → address_at maps file.0 o ≡ slots o) (off most : ℕ) where
  piece_front : (p : Piece) → IsPieceAt slots off most p → IsGoodPiece p → (n : ℕ) → 0 < n → n ≤ piece_len p → IsHoleOrRun maps file off n (run_of_front p n)
  piece_front (Mapped at len) is good n some within = (
    front_good (record { start = at; len = len }) (good at len refl) n some within,
    refl,
    λ k inside. has (off + k) ∙ is.alike k (omega (arith, inside, within)),
  )
  piece_front (Hole len) is good n some within = λ k inside. has (off + k) ∙ is.alike k (omega (arith, inside, within))

  -- nothing longer is a hole or a run
  no_longer : (p : Piece) → IsPieceAt slots off most p → piece_len p < most → (r : Option Run) → IsHoleOrRun maps file off (piece_len p + 1) r → ⊥
  no_longer (Mapped at len) is less None more = absurd (no_block (address_after at 0) (sym (is.alike 0 is.some) ∙ sym (has (off + 0)) ∙ more 0 (omega arith)))
  no_longer (Mapped at len) is less (Some run) more =
      is.longest less (sym (has (off + len)) ∙ more.2 len (omega arith)
      ∙ same_start run.start at (sym (more.2 0 (omega arith)) ∙ has (off + 0) ∙ is.alike 0 is.some) len)
  no_longer (Hole len) is less None more = is.longest less (sym (has (off + len)) ∙ more len (omega arith))
  no_longer (Hole len) is less (Some run) more =
      absurd (no_block (address_after run.start 0) (sym (more.2 0 (omega arith)) ∙ has (off + 0) ∙ is.alike 0 is.some))

  no_longer_than : (p : Piece) → IsPieceAt slots off most p → (n : ℕ) → n ≡ piece_len p → n < most → (r : Option Run) → IsHoleOrRun maps file off (n + 1) r → ⊥
  no_longer_than p is n same less r more =
      no_longer p is (omega (arith, same, less)) r (subst (λ m. IsHoleOrRun maps file off (m + 1) r) same more)

-- a piece is told by numbers that are the same
taken_at : (maps : FileMaps) (file other : FileNo) (left : List Work) (off off' other_off other_off' len len' : ℕ) → off ≡ off' → other_off ≡ other_off' → len ≡ len'
    → TakesPiece maps file off other other_off len left → TakesPiece maps file off' other other_off' len' left
taken_at maps file other left off off' other_off other_off' len len' first second third takes =
    subst (λ o. TakesPiece maps file o other other_off' len' left) first
    (subst (λ o. TakesPiece maps file off other o len' left) second (subst (λ n. TakesPiece maps file off other other_off n left) third takes))

-- what is left of all is what is left of the rest, which can be exchanged, and for which nothing is asked yet
pub record IsRestOf (one two : FileState) (r rest : Ranges) (trans : TransView) : Type 0 where
  pub ranges : AreRanges rest
  pub empty : trans ≡ no_trans
  pub leads : (left : List Work) → LeavesWorks one two rest left → LeavesWorks one two r left

-- a lookup of both ranges
module _ (one two : FileState) (r : Ranges) (p q : Piece) (n : ℕ) (first : IsPieceAt (slot_of_file one) r.off r.len p) (second : IsPieceAt (slot_of_file two) r.other_off r.len q) (shorter : IsShorterLength p q n) where
  pub some_offset : 0 < n
  some_offset = ⊎_elim (λ (e : n ≡ piece_len p). omega (arith, e, first.some)) (λ (e : n ≡ piece_len q). omega (arith, e, second.some)) shorter.is_one

  -- where they begin alike, what is left behind them is what is left of all
  pub passes_over : piece_slot p 0 ≡ piece_slot q 0 → (left : List Work) → LeavesWorks one two (ranges_behind r n) left → LeavesWorks one two r left
  passes_over alike left leaves maps has_one has_two =
      let rest = leaves maps has_one has_two in
      let over : ℕ = rest.over in
      let fits : n ≤ r.len = omega (arith, shorter.in_first, first.few) in
      record {
        over = n + over;
        within = omega (arith, rest.within, fits);
        same = λ k inside. ⊎_elim
            (λ (before : k < n).
            has_one (r.off + k) ∙ first.alike k (omega (arith, before, shorter.in_first)) ∙ alike_on p q alike k
            ∙ sym (second.alike k (omega (arith, before, shorter.in_second))) ∙ sym (has_two (r.other_off + k)))
            (λ (behind : n ≤ k).
            let at : r.off + n + (k - n) ≡ r.off + k = omega (arith, behind) in
            let there : r.other_off + n + (k - n) ≡ r.other_off + k = omega (arith, behind) in
            ap (address_at maps r.file.0) (sym at) ∙ rest.same (k - n) (omega (arith, behind, inside)) ∙ ap (address_at maps r.other.0) there)
            (cases_lt k n);
        gives = ⊎_elim
            (λ none. inl (omega (arith, none.0, fits), none.1))
            (λ takes. inr (taken_at maps r.file r.other left (r.off + n + over) (r.off + (n + over)) (r.other_off + n + over) (r.other_off + (n + over)) (r.len - n - over) (r.len - (n + over)) (omega arith) (omega arith) (omega arith) takes))
            rest.gives;
      }

  -- where all of both is alike, nothing is left
  pub passes_all : piece_slot p 0 ≡ piece_slot q 0 → n ≡ r.len → LeavesWorks one two r []
  passes_all alike all maps has_one has_two = record {
    over = r.len;
    within = omega arith;
    same = λ k inside.
        has_one (r.off + k) ∙ first.alike k (omega (arith, inside, all, shorter.in_first)) ∙ alike_on p q alike k
        ∙ sym (second.alike k (omega (arith, inside, all, shorter.in_second))) ∙ sym (has_two (r.other_off + k));
    gives = inl (refl, refl);
  }

  -- where they don't, the works of the piece and of the rest are
  pub takes_piece : (piece_slot p 0 ≡ piece_slot q 0 → ⊥) → IsGoodPiece p → IsGoodPiece q
      → LeavesWorks one two r (works_of_piece r.file r.off (run_of_front p n) r.other r.other_off (run_of_front q n) ++ works_of_exchange_rest r.file r.off r.other r.other_off r.len n)
  takes_piece unlike good_one good_two maps has_one has_two = record {
    over = 0;
    within = omega arith;
    same = λ k inside. absurd (omega (arith, inside));
    gives =
        let works : List Work = works_of_piece r.file r.off (run_of_front p n) r.other r.other_off (run_of_front q n) ++ works_of_exchange_rest r.file r.off r.other r.other_off r.len n in
        inr (taken_at maps r.file r.other works r.off (r.off + 0) r.other_off (r.other_off + 0) r.len (r.len - 0) (omega arith) (omega arith) (omega arith) (record {
          size = n;
          one = run_of_front p n;
          two = run_of_front q n;
          differs = λ same.
              let here : r.off + 0 ≡ r.off = omega arith in
              let there : r.other_off + 0 ≡ r.other_off = omega arith in
              unlike (sym (first.alike 0 first.some) ∙ sym (has_one (r.off + 0)) ∙ ap (address_at maps r.file.0) here ∙ same
              ∙ ap (address_at maps r.other.0) (sym there) ∙ has_two (r.other_off + 0) ∙ second.alike 0 second.some);
          piece = record {
            some = some_offset;
            fits = omega (arith, shorter.in_first, first.few);
            first = piece_front maps r.file (slot_of_file one) has_one r.off r.len p first good_one n some_offset shorter.in_first;
            second = piece_front maps r.other (slot_of_file two) has_two r.other_off r.len q second good_two n some_offset shorter.in_second;
            longest = λ less u v a c. ⊎_elim
                (λ (e : n ≡ piece_len p). no_longer_than maps r.file (slot_of_file one) has_one r.off r.len p first n e less u a)
                (λ (e : n ≡ piece_len q). no_longer_than maps r.other (slot_of_file two) has_two r.other_off r.len q second n e less v c)
                shorter.is_one;
          };
          new_is = refl;
        }));
  }

  pub passes_on : (whole rest : Ranges) (trans : TransView) → IsRestOf one two whole r trans → piece_slot p 0 ≡ piece_slot q 0 → rest ≡ ranges_behind r n → AreRanges rest
      → IsRestOf one two whole rest trans
  passes_on whole rest trans is alike behind are = record {
    ranges = are;
    empty = is.empty;
    leads = λ left leaves. is.leads left (passes_over alike left (subst (λ rest. LeavesWorks one two rest left) behind leaves));
  }
