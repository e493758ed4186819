-- Where an extent ends, and what a lookup says of the offsets from one on.
use Rattle.std.proofs.Common.{◌≡◌, ℕ, ◌+◌, ◌-◌, ◌<◌, ◌≤◌, true, false, List, Some, None, min, ap, sym, subst, ◌∙◌, ⊎_elim, arith}
use Rattle.std.proofs.lemmas.Bool.{cases_lt}
use Rattle.std.proofs.lemmas.Bool.Decides.{nat_tests}
use Rattle.std.proofs.lemmas.List.Elements.{All-contains}
use Rattle.std.specs.List.{Contains}
use Rattle.std.specs.Ordering.{is_lt}
use Rattle.xr_base.specs.Address.{IsGoodRun, address_after, address_of}
use Rattle.xr_base.specs.declared.address.Addr.{Addr}
use Rattle.xr_base.specs.declared.address.Run.{Run}
use Rattle.xr_block.specs.Tree.{AreRecords}
use Rattle.xr_bmap.proofs.BesideLemmas.{probe}
use Rattle.xr_bmap.specs.MappedBlockLaws.{extent_part_good}
use Rattle.xr_bmap.specs.SlotLaws.{block_at_offset, bounds, ends, known_slot, list_slot, same_number}
use Rattle.xr_bmap.specs.Joins.{IsPartOfExtent}
use Rattle.xr_bmap.specs.Slots.{HasOffset, IsHole, IsMappedRun, IsPieceAt, mapped_in}
use Rattle.xr_bmap.specs.declared.piece.Piece.{Piece}
use Rattle.xr_bmap.specs.declared.piece.Piece.TheVariants.{Hole, Mapped}
use Rattle.xr_kinds.specs.Mapping.{is_mapping, mapping_form}
use Rattle.xr_kinds.specs.declared.mapping.Mapping.{Mapping}
use Rattle.xr_lookup.specs.Lookup.{AreUnwanted, IsLeast, from}
use Rattle.xr_maps.specs.StepLaws.{in_range}

pub no_slot : (xs : List Mapping) (o : ℕ) → ((x : Mapping) → Contains xs x → ¬ (HasOffset x o)) → mapped_in xs o ≡ None
no_slot xs o none = ⊎_elim
    (λ (hole : (mapped_in xs o ≡ None) × ((x : Mapping) → Contains xs x → ¬ (HasOffset x o))). hole.0)
    (λ (some : (x : Mapping) × Contains xs x × HasOffset x o × (mapped_in xs o ≡ Some (block_at_offset x o))). absurd (none some.0 some.1 some.2))
    (list_slot xs o)

module _ (xs : List Mapping) (rules : AreRecords mapping_form xs) (x : Mapping) (held : Contains xs x) where
  pub known_at : (off i : ℕ) → HasOffset x off → off + i < x.off + x.len → mapped_in xs (off + i) ≡ Some (address_of (x.at + (off - x.off) + i))
  known_at off i has within =
      let from = bounds x.off x.len off has in
      known_slot xs rules x held (off + i) (in_range x.off x.len (off + i) (omega (arith, from.0)) within)
      ∙ (let same : x.at + (off + i - x.off) ≡ x.at + (off - x.off) + i = omega (arith, from.0) in ap (λ (n : ℕ). Some (address_of n)) same)

  -- offsets that are mapped to one block after another are those of one extent
  pub part_of_one : (off len : ℕ) → HasOffset x off → IsMappedRun (mapped_in xs) off len → IsPartOfExtent off len x
  part_of_one off len has run =
      let some = run.some in
      let from = bounds x.off x.len off has in
      record {
        some = omega (arith, some);
        from = from.0;
        up_to = ⊎_elim
            (λ (past : x.off + x.len < off + len).
            let i : ℕ = x.off + x.len - off in
            let place : off + i ≡ x.off + x.len = omega (arith, from.1) in
            let start = same_number (address_after run.at 0) (address_of (x.at + (off - x.off) + 0)) (sym (run.alike 0 (omega (arith, some))) ∙ known_at off 0 has (omega (arith, from.1))) in
            let next = run.alike i (omega (arith, past, from.1)) in
            let same : run.at.0 + i ≡ x.at + x.len = omega (arith, start, from.0, from.1) in
            absurd (ends xs rules x held (ap (mapped_in xs) (sym place) ∙ next ∙ ap (λ (n : ℕ). Some (address_of n)) same)))
            (λ (fits : off + len ≤ x.off + x.len). fits)
            (cases_lt (x.off + x.len) (off + len));
      }

  -- the offsets from one of its own on, at most so many
  pub is_mapped_piece : (off most : ℕ) → HasOffset x off → 1 ≤ most
      → (let at : Addr = address_of (x.at + (off - x.off)) in IsPieceAt (mapped_in xs) off most (Mapped at (min most (x.len - (off - x.off)))))
  is_mapped_piece off most has some =
      let from = bounds x.off x.len off has in
      record {
        some = omega (arith, from.0, from.1, some);
        few = omega arith;
        alike = λ i within. known_at off i has (omega (arith, within, from.0, from.1));
        longest = λ less is.
            let place : off + min most (x.len - (off - x.off)) ≡ x.off + x.len = omega (arith, less, from.0, from.1) in
            let same : x.at + (off - x.off) + min most (x.len - (off - x.off)) ≡ x.at + x.len = omega (arith, less, from.0, from.1) in
            ends xs rules x held (ap (mapped_in xs) (sym place) ∙ is ∙ ap (λ (n : ℕ). Some (address_of n)) same);
      }

-- its blocks are a good run
run_of_piece : Piece → Run
run_of_piece (Mapped at len) = record { start = at; len = len }
run_of_piece (Hole len) = record { start = address_of 0; len = len }

good_run_of : (start : Addr) (n : ℕ) → IsGoodRun (record { start = start; len = n }) → (at : Addr) (len : ℕ) → Mapped start n ≡ Mapped at len
    → IsGoodRun (record { start = at; len = len })
unfolding run_of_piece
good_run_of start n good at len same = subst IsGoodRun (ap run_of_piece same) good

pub is_good_piece : (x : Mapping) (off most : ℕ) → is_mapping x ≡ true → HasOffset x off → 1 ≤ most → (at : Addr) (len : ℕ)
    → Mapped (address_of (x.at + (off - x.off))) (min most (x.len - (off - x.off))) ≡ Mapped at len → IsGoodRun (record { start = at; len = len })
is_good_piece x off most good has some =
    let from = bounds x.off x.len off has in
    good_run_of (address_of (x.at + (off - x.off))) (min most (x.len - (off - x.off)))
    (extent_part_good x good (off - x.off) (min most (x.len - (off - x.off))) (omega (arith, from.0, from.1, some)) (omega (arith, from.0, from.1)))

-- a hole up to where the next extent begins
before_next : (xs : List Mapping) (off o : ℕ) (next : Mapping) → IsLeast mapping_form xs (from mapping_form (probe off)) next → off ≤ o → o < next.off
    → (x : Mapping) → Contains xs x → HasOffset x o → ¬ (HasOffset x off) → ⊥
before_next xs off o next least above below x held has not =
    let first = All-contains (λ (y : Mapping). from mapping_form (probe off) y ≡ true → is_lt (mapping_form.order y next) ≡ false) xs x least.least held in
    ⊎_elim
    (λ (low : x.off < off). let in_x = bounds x.off x.len o has in not (in_range x.off x.len off (omega (arith, low)) (omega (arith, in_x, above))))
    (λ (from_off : off ≤ x.off). let in_x = bounds x.off x.len o has in absurd (grind (arith, nat_tests, first, from_off, in_x, below)))
    (cases_lt x.off off)

module _ (xs : List Mapping) (off : ℕ) (hole : (x : Mapping) → Contains xs x → ¬ (HasOffset x off)) where
  pub hole_to_next : (next : Mapping) → IsLeast mapping_form xs (from mapping_form (probe off)) next → (len : ℕ) → off + len ≤ next.off → IsHole (mapped_in xs) off len
  hole_to_next next least len fits o within =
      let ranged = bounds off len o within in
      no_slot xs o (λ x held has. before_next xs off o next least ranged.0 (omega (arith, ranged.1, fits)) x held has (hole x held))

  pub hole_to_end : AreUnwanted (from mapping_form (probe off)) xs → (len : ℕ) → IsHole (mapped_in xs) off len
  hole_to_end none len o within =
      let ranged = bounds off len o within in
      no_slot xs o (λ x held has.
      let unwanted = All-contains (λ (y : Mapping). from mapping_form (probe off) y ≡ false) xs x none held in
      let in_x = bounds x.off x.len o has in
      let low : x.off < off = grind (arith, nat_tests, unwanted) in
      hole x held (in_range x.off x.len off (omega (arith, low)) (omega (arith, in_x, ranged.0))))

  pub is_hole_piece : (most len : ℕ) → 1 ≤ len → len ≤ most → IsHole (mapped_in xs) off len
      → (len < most → (x : Mapping) × Contains xs x × HasOffset x (off + len)) → (rules : AreRecords mapping_form xs) → IsPieceAt (mapped_in xs) off most (Hole len)
  is_hole_piece most len some few empty longest rules = record {
    some = some;
    few = few;
    alike = λ i within. empty (off + i) (in_range off len (off + i) (omega arith) (omega (arith, within)));
    longest = λ less is. let found = longest less in let held = known_slot xs rules found.0 found.1 (off + len) found.2 in absurd cc;
  }

pub next_has : (next : Mapping) → is_mapping next ≡ true → HasOffset next next.off
next_has next good = grind (arith, nat_tests)
