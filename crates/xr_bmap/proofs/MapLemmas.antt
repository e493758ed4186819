-- A run with the offset of its first block as an extent.
use Rattle.std.proofs.Common.{◌≡◌, ℕ, ◌+◌, ◌-◌, ◌≤◌, true, List, Option, ap, ◌∙◌, arith}
use Rattle.std.proofs.lemmas.Bool.Decides.{nat_tests}
use Rattle.std.specs.List.{Contains}
use Rattle.xr_base.specs.Address.{IsGoodRun, address_of}
use Rattle.xr_base.specs.declared.address.Addr.{Addr}
use Rattle.xr_base.specs.declared.address.Run.{Run}
use Rattle.xr_block.specs.Tree.{AreRecords}
use Rattle.xr_bmap.proofs.RangeLemmas.{joins_right}
use Rattle.xr_bmap.specs.SlotLaws.{known_slot, mapped_lost}
use Rattle.xr_bmap.specs.Slots.{mapped_in}
use Rattle.xr_change.specs.Sets.{Loses}
use Rattle.xr_kinds.specs.Mapping.{is_mapping, mapping_form, runs_on}
use Rattle.xr_kinds.specs.declared.mapping.Mapping.{Mapping}
use Rattle.xr_maps.specs.Steps.{remapped_slot}

abbrev pub new_extent : ℕ → Run → Mapping
new_extent off run = record { off = off; at = run.start.0; len = run.len }

pub run_good : (off : ℕ) (run : Run) → IsGoodRun run → off + run.len ≤ 512 → is_mapping (new_extent off run) ≡ true
run_good off run good within =
    let last : ℕ = run.len - 1 in
    let some = good.some in
    let first = good.data_blocks 0 some in
    let end = good.data_blocks last (omega (arith, some)) in
    let one = good.one_group last (omega (arith, some)) in
    grind (arith, nat_tests, some, first.group, first.block, end.block, one)

-- the extent behind was cut, and comes back with the new one
pub mapped_both : (xs ys : List Mapping) → AreRecords mapping_form xs → AreRecords mapping_form ys → (new next : Mapping) → Contains xs next
    → runs_on new next ≡ true → Loses (Contains xs) next (Contains ys) → (o : ℕ) (s : Option Addr)
    → s ≡ remapped_slot new.off (new.len + next.len) (address_of new.at) o (mapped_in ys o)
    → s ≡ remapped_slot new.off new.len (address_of new.at) o (mapped_in xs o)
mapped_both xs ys rules after new next held on out o s is =
    is ∙ ap (remapped_slot new.off (new.len + next.len) (address_of new.at) o) (mapped_lost xs ys rules after o next held out)
    ∙ joins_right new next on o (mapped_in xs o) (known_slot xs rules next held o)
