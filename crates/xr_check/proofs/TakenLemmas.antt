-- What one file maps is put into the maps, offset by offset.
use Rattle.std.proofs.Common.{◌≡◌, ◌≢◌, ℕ, ◌+◌, ◌-◌, ◌<◌, ◌≤◌, Option, Some, None, cond, eqb, refl, sym, ap, ◌∙◌, ⊎_elim, arith}
use Rattle.std.proofs.lemmas.Bool.{cases_lt, eq-eqb, ne_eqb}
use Rattle.std.specs.Prelude.{◌==◌, if◌then◌else◌}
use Rattle.xr_base.specs.Address.{address_after}
use Rattle.xr_base.specs.declared.address.Addr.{Addr}
use Rattle.xr_base.specs.declared.address.FileNo.{FileNo}
use Rattle.xr_base.specs.declared.geometry.TheConstants.{OFFSETS}
use Rattle.xr_maps.specs.FileMaps.{AreGoodMaps, FileMaps, address_at}
use Rattle.xr_maps.specs.StepLaws.{above_range, below_range, file_changes, in_range}
use Rattle.xr_maps.specs.Steps.{Fits, applied, remapped_slot}
use Rattle.xr_maps.specs.declared.steps.Step.TheVariants.{Remap}

-- below an offset the maps have what the file maps, and from there on nothing yet; the maps of the others are as they were
pub record IsTakenTo (old new : FileMaps) (file off : ℕ) (slots : ℕ → Option Addr) : Type 0 where
  pub good : AreGoodMaps new
  pub taken : (o : ℕ) → o < off → address_at new file o ≡ slots o
  pub rest : (o : ℕ) → off ≤ o → address_at new file o ≡ None
  pub others : (f o : ℕ) → f ≢ file → address_at new f o ≡ address_at old f o

module _ (old maps new : FileMaps) (file : FileNo) (off len : ℕ) (slots : ℕ → Option Addr) (so_far : IsTakenTo old maps file.0 off slots) where
  -- a run of blocks is put at the next offsets
  pub run_taken : (at : Addr) → new ≡ applied (Remap file off len at) maps → AreGoodMaps new → Fits (Remap file off len at)
      → ((i : ℕ) → i < len → slots (off + i) ≡ Some (address_after at i)) → IsTakenTo old new file.0 (off + len) slots
  run_taken at is good fits alike =
      let changed : ℕ → Option Addr → Option Addr = remapped_slot off len at in
      let step : (f o : ℕ) → address_at new f o ≡ cond (eqb f file.0) (changed o (address_at maps f o)) (address_at maps f o) =
      λ f o. ap (λ (m : FileMaps). address_at m f o) is
      ∙ file_changes maps file.0 changed so_far.good fits.0.file_there
      (λ p past. ap (λ b. cond b (Some (address_after at (p - off))) None) (above_range off len p (omega (arith, past, fits.0.within)))) f o in
      let own : (o : ℕ) → address_at new file.0 o ≡ changed o (address_at maps file.0 o) =
      λ o. step file.0 o ∙ ap (λ b. cond b (changed o (address_at maps file.0 o)) (address_at maps file.0 o)) (eq-eqb file.0 file.0 refl) in
      record {
        good = good;
        taken = λ o below. own o ∙ ⊎_elim
            (λ (low : o < off). ap (λ b. cond b (Some (address_after at (o - off))) (address_at maps file.0 o)) (below_range off len o low) ∙ so_far.taken o low)
            (λ (from : off ≤ o).
            ap (λ b. cond b (Some (address_after at (o - off))) (address_at maps file.0 o)) (in_range off len o from below)
            ∙ sym (alike (o - off) (omega (arith, from, below))) ∙ ap slots (omega (arith, from)))
            (cases_lt o off);
        rest = λ o past. own o
            ∙ ap (λ b. cond b (Some (address_after at (o - off))) (address_at maps file.0 o)) (above_range off len o past) ∙ so_far.rest o (omega (arith, past));
        others = λ f o other. step f o
            ∙ ap (λ b. cond b (changed o (address_at maps f o)) (address_at maps f o)) (ne_eqb f file.0 other) ∙ so_far.others f o other;
      }

  -- or nothing, as nothing is mapped there
  pub hole_taken : ((i : ℕ) → i < len → slots (off + i) ≡ None) → IsTakenTo old maps file.0 (off + len) slots
  hole_taken alike = record {
    good = so_far.good;
    taken = λ o below. ⊎_elim
        (λ (low : o < off). so_far.taken o low)
        (λ (from : off ≤ o). so_far.rest o from ∙ sym (alike (o - off) (omega (arith, from, below))) ∙ ap slots (omega (arith, from)))
        (cases_lt o off);
    rest = λ o past. so_far.rest o (omega (arith, past));
    others = so_far.others;
  }
