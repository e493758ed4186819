use Rattle.std.proofs.Common.{◌≡◌, drop}
use Rattle.xr_maps.specs.FileMaps.{no_maps}
use Rattle.xr_maps.specs.Steps.{maps_after}
use Rattle.xr_cmd.proofs.expect.maps_of.Given as goal

-- the steps that are left lead to what all steps lead to
abbrev pub invariant-loop-step : goal.invariant-loop-step
invariant-loop-step l = maps_after (drop l.step-index l.steps) l.maps ≡ maps_after l.steps no_maps
