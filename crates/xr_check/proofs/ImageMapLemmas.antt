-- Maps that hold what the files of an image map are that image's.
use Rattle.std.proofs.Common.{◌≡◌, ℕ, ◌<◌, ◌≤◌, Option, Some, None, get_or, map, refl, sym, subst, ◌∙◌, ⊎_elim, arith}
use Rattle.std.specs.Prelude.{IsSome}
use Rattle.std.proofs.lemmas.Bool.{cases_lt}
use Rattle.std.proofs.lemmas.List.FromFn.{fill_by_all}
use Rattle.std.specs.Cmp.{nat_cmp_total}
use Rattle.std.specs.FinMap as finite
use Rattle.std.specs.List.{range_with_len}
use Rattle.xr_base.specs.declared.address.Addr.{Addr}
use Rattle.xr_base.specs.declared.geometry.TheConstants.{FILES, OFFSETS}
use Rattle.xr_maps.specs.FileMaps.{AreGoodMaps, FileMap, FileMaps, address_at, tabulated}
use Rattle.xr_maps.specs.FileMapLaws.{get-tabulated, get-tabulated_past}

-- nothing is mapped past the last offset
none_past : (maps : FileMaps) (f o : ℕ) → AreGoodMaps maps → OFFSETS ≤ o → address_at maps f o ≡ None
none_past maps f o good past = elim (address_at maps f o) as (λ s. address_at maps f o ≡ s → s ≡ None) [
  | None ↦ λ _. refl
  | Some a ↦ λ e. absurd (omega (arith, past, good.offsets f o (subst IsSome (sym e) refl)))
] refl

pub maps_are : (maps : FileMaps) (slots : ℕ → ℕ → Option Addr) → AreGoodMaps maps
    → ((f o : ℕ) → f < FILES → o < OFFSETS → address_at maps f o ≡ slots f o)
    → maps ≡ map (λ f. tabulated OFFSETS (slots f)) (range_with_len 0 FILES)
maps_are maps slots good same =
    let none : FileMap = finite.empty in
    fill_by_all (λ f. tabulated OFFSETS (slots f)) maps FILES none good.files
    (λ f known. finite.same_map nat_cmp_total finite.nat_cmp-IsAntisymmetric (get_or maps f none) (tabulated OFFSETS (slots f)) (λ o. ⊎_elim
    (λ (below : o < OFFSETS). same f o known below ∙ sym (get-tabulated OFFSETS (slots f) o below))
    (λ (past : OFFSETS ≤ o). none_past maps f o good past ∙ sym (get-tabulated_past OFFSETS (slots f) o past))
    (cases_lt o OFFSETS)))
