use Rattle.std.proofs.Common.{◌≡◌, [], ◌∷◌, refl, sym, ◌∙◌}
use Rattle.std.proofs.lemmas.Bool.Decides.{Decides-eqb}
use Rattle.std.proofs.lemmas.Slice.Eq.{slice_eq-Decides}
use Rattle.xr_record.specs.Operations.{operation_bytes, raw_operation}
use Rattle.xr_record.specs.Stream.{unmount}
use Rattle.xr_commit.proofs.log_ends.is_unmount.Goals as goal

-- the bytes of an unmount operation
unmount_is : 0 ∷ 0 ∷ 0 ∷ 0 ∷ 0 ∷ 0 ∷ 0 ∷ 8 ∷ 170 ∷ 32 ∷ 0 ∷ 0 ∷ 110 ∷ 85 ∷ 0 ∷ 0 ∷ 0 ∷ 0 ∷ 0 ∷ 0 ∷ [] ≡ operation_bytes unmount
unfolding raw_operation
unmount_is = refl

pub returns : goal.returns
returns c =
    let both = slice_eq-Decides Decides-eqb c.args.body.now c.as_slice.result.now c.eq.result c.eq.ensures in
    let is = c.as_slice.ensures ∙ unmount_is in
    (λ yes. both.0 yes ∙ is, λ same. both.1 (same ∙ sym is))
