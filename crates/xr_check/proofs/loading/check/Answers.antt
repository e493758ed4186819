use Rattle.std.proofs.Common.{List, subst}
use Rattle.xr_check.specs.CleanImages.{maps_of_image}
use Rattle.xr_check.specs.Verdicts.{IsVerdict}
use Rattle.xr_group.specs.Group.{GroupState}
use Rattle.xr_maps.specs.FileMaps.{FileMaps}
use Rattle.xr_check.proofs.loading.check.Goals as goal

pub returns-clause-verdict : goal.returns-clause-verdict
returns-clause-verdict g c image at =
    let of_image = c.in_ok-loaded.ensures.loaded image at in
    let verdict = c.in_ok-judge.field-0 in
    record {
      uuid = of_image.uuid;
      clean = of_image.clean;
      is = subst (λ (gs : List GroupState). IsVerdict (maps_of_image image of_image.uuid) gs verdict) of_image.groups
          (subst (λ (maps : FileMaps). IsVerdict maps c.in_ok-loaded.loaded.groups.items verdict) of_image.maps c.in_ok-judge.ensures);
    }
