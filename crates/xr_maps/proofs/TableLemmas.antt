-- Tables of files as maps.
use Rattle.std.proofs.Common.{◌≡◌, ℕ, ◌<◌, ◌≤◌, List, length, Option, None, sym, ap, ◌∙◌, subst, arith, replicate, ⊎_elim}
use Rattle.std.specs.Prelude.{IfSome}
use Rattle.std.proofs.lemmas.List.{get_or-replicate, get_or_past, length-replicate}
use Rattle.std.proofs.lemmas.Bool.{cases_lt}
use Rattle.xr_base.specs.declared.address.Addr.{Addr}
use Rattle.xr_base.specs.declared.geometry.TheConstants.{OFFSETS}
use Rattle.xr_base.specs.Address.{IsData}
use Rattle.xr_maps.specs.Tables.{slot_of, IsTable}

none_in : (n o : ℕ) → slot_of (replicate n None) o ≡ None
none_in n o =
    ⊎_elim
    (λ (below : o < n). get_or-replicate n o None None below)
    (λ (above : n ≤ o). get_or_past (replicate n None) o None (let l : length (replicate n (let x : Option Addr = None in x)) ≡ n = length-replicate n None in omega arith))
    (cases_lt o n)

pub hole_in_none : (n : ℕ) (table : List (Option Addr)) → table ≡ replicate n None → (o : ℕ) → slot_of table o ≡ None
hole_in_none n table e o = ap (λ t. slot_of t o) e ∙ none_in n o

data_in_none : (slot : Option Addr) → slot ≡ None → IfSome slot IsData
data_in_none slot e = let P : Option Addr → Type 0 = λ s. IfSome s IsData in subst P (sym e) tt

pub is_table_of_none : (n : ℕ) (table : List (Option Addr)) → n ≡ OFFSETS → table ≡ replicate n None → IsTable table
is_table_of_none n table same e = record {
  slots = ap length e ∙ length-replicate n None ∙ same;
  data_blocks = λ o. data_in_none (slot_of table o) (hole_in_none n table e o);
}
