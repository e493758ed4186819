-- Of no public contract, and for tests alone.
-- Families of each kind of record: runs of one block each at even places, which never touch, and owners' runs at offset 0.
use Rattle.std.specs.Prelude.{ℕ, ◌%◌, ◌==◌, ◌&&◌, Bool, not}
use Rattle.std.proofs.Common.{arith}
use Rattle.std.proofs.lemmas.Bool.Decides.{nat_tests}
use Rattle.xr_base.specs.declared.geometry.TheConstants.{OWN_COW}
use Rattle.xr_kinds.specs.FreeRuns.{block_form, size_form}
use Rattle.xr_kinds.specs.Mapping.{mapping_form}
use Rattle.xr_kinds.specs.Reference.{reference_form}
use Rattle.xr_kinds.specs.Reverse.{reverse_form}
use Rattle.xr_tree.specs.Growth.{IsFamily}

abbrev pub is_even_block : ℕ → ℕ → Bool
is_even_block start len = (start % 2 == 0) && (len == 1)

pub blocks_family : IsFamily block_form (λ r. is_even_block r.start r.len)
blocks_family x y one two less = grind (arith, nat_tests)

pub sizes_family : IsFamily size_form (λ r. is_even_block r.start r.len)
sizes_family x y one two less = grind (arith, nat_tests)

pub counts_family : IsFamily reference_form (λ r. is_even_block r.start r.len && not r.staged)
counts_family x y one two less = grind (arith, nat_tests)

pub extents_family : IsFamily mapping_form (λ r. is_even_block r.at r.len)
extents_family x y one two less = grind (arith, nat_tests)

pub owners_family : IsFamily reverse_form (λ r. (r.off == 0) && not (r.owner == OWN_COW))
owners_family x y one two less = grind (arith, nat_tests)
