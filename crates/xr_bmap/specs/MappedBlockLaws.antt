-- The blocks of an extent are data blocks of one group, and its offsets are offsets of a file.
use Rattle.std.proofs.Common.{◌≡◌, ℕ, ◌+◌, ◌-◌, ◌/◌, ◌%◌, ◌<◌, ◌≤◌, true, List, Some, None, IfSome, IsSome, subst, ⊎_elim, arith}
use Rattle.std.proofs.lemmas.Bool.{false≢true}
use Rattle.std.proofs.lemmas.Bool.Decides.{nat_tests}
use Rattle.std.specs.List.{Contains}
use Rattle.xr_base.specs.Address.{IsData, IsGoodRun, address_of}
use Rattle.xr_base.specs.declared.geometry.TheConstants.{FIRST_DATA_BLOCK, GROUPS, GROUP_BLOCKS, OFFSETS}
use Rattle.xr_block.specs.Tree.{AreRecords}
use Rattle.xr_bmap.specs.File.{extents_in}
use Rattle.xr_bmap.specs.MappedBlocks.{MappedBlocksAreData}
use Rattle.xr_bmap.specs.SlotLaws.{block_at_offset, bounds, list_slot, valid_in}
use Rattle.xr_bmap.specs.Slots.{HasOffset, mapped_in}
use Rattle.xr_kinds.specs.Mapping.{is_mapping, mapping_form}
use Rattle.xr_kinds.specs.declared.mapping.Mapping.{Mapping}

-- where the blocks of an extent stand, and its offsets
record IsInDataBlocks (x : Mapping) : Type 0 where
  group : x.at / GROUP_BLOCKS < GROUPS
  from : FIRST_DATA_BLOCK ≤ x.at % GROUP_BLOCKS
  up_to : x.at % GROUP_BLOCKS + x.len ≤ GROUP_BLOCKS
  within : x.off + x.len ≤ OFFSETS

in_data_blocks : (x : Mapping) → is_mapping x ≡ true → IsInDataBlocks x
in_data_blocks x good = record {
  group = grind (arith, nat_tests);
  from = grind (arith, nat_tests);
  up_to = grind (arith, nat_tests);
  within = grind (arith, nat_tests);
}

module _ (x : Mapping) (good : is_mapping x ≡ true) where
  extent_in_group : (i : ℕ) → i < x.len → (x.at + i) / GROUP_BLOCKS ≡ x.at / GROUP_BLOCKS
  extent_in_group i within = let p = in_data_blocks x good in omega (arith, within, p.up_to)

  block_is_data : (i : ℕ) → i < x.len → IsData (address_of (x.at + i))
  block_is_data i within =
      let p = in_data_blocks x good in
      record { group = omega (arith, extent_in_group i within, p.group); block = omega (arith, within, p.from, p.up_to) }

  -- so a part of an extent is a good run
  pub extent_part_good : (i len : ℕ) → 1 ≤ len → i + len ≤ x.len → IsGoodRun (record { start = address_of (x.at + i); len = len })
  extent_part_good i len some fits = record {
    some = some;
    data_blocks = λ k within.
        let same : x.at + (i + k) ≡ x.at + i + k = omega arith in
        subst (λ (n : ℕ). IsData (address_of n)) same (block_is_data (i + k) (omega (arith, within, fits)));
    one_group = λ k within.
        let here = extent_in_group i (omega (arith, some, fits)) in
        let there = extent_in_group (i + k) (omega (arith, within, fits)) in
        let same : x.at + (i + k) ≡ x.at + i + k = omega arith in
        omega (arith, here, there, same);
  }

module _ (xs : List Mapping) (rules : AreRecords mapping_form xs) (o : ℕ) where
  pub slot_data : IfSome (mapped_in xs o) IsData
  slot_data = ⊎_elim
      (λ (none : (mapped_in xs o ≡ None) × ((x : Mapping) → Contains xs x → ¬ (HasOffset x o))). rw none.0 tt)
      (λ (some : (x : Mapping) × Contains xs x × HasOffset x o × (mapped_in xs o ≡ Some (block_at_offset x o))).
      let x : Mapping = some.0 in
      let inside = bounds x.off x.len o some.2 in
      rw some.3 (block_is_data x (valid_in xs rules x some.1) (o - x.off) (omega (arith, inside))))
      (list_slot xs o)

  pub slot_below : IsSome (mapped_in xs o) → o < OFFSETS
  slot_below is = ⊎_elim
      (λ (none : (mapped_in xs o ≡ None) × ((x : Mapping) → Contains xs x → ¬ (HasOffset x o))). let lie = rw none.0 at is in absurd (false≢true lie))
      (λ (some : (x : Mapping) × Contains xs x × HasOffset x o × (mapped_in xs o ≡ Some (block_at_offset x o))).
      let x : Mapping = some.0 in
      let inside = bounds x.off x.len o some.2 in
      let p = in_data_blocks x (valid_in xs rules x some.1) in
      omega (arith, inside, p.within))
      (list_slot xs o)

pub mapped_blocks_are_data : MappedBlocksAreData
mapped_blocks_are_data file uuid blocks is o =
    let rules = is.tree.mapping.records in (slot_data (extents_in file uuid blocks) rules o, slot_below (extents_in file uuid blocks) rules o)
