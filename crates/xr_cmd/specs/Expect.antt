-- The text that `expect` prints: that of the records of the maps after the steps of a script.
use Rattle.std.specs.Prelude.{ℕ, List}
use Rattle.xr_maps.specs.declared.steps.Step.{Step}
use Rattle.xr_maps.specs.FileMaps.{no_maps}
use Rattle.xr_maps.specs.Steps.{maps_after}
use Rattle.xr_text.specs.MapText.{IsTextOfMaps}
use Rattle.xr_cmd.specs.Script.{HasNoBadLine, AreStepsOf}

-- the script has no bad line, and the text is that of the maps after its steps
pub record Expects (script text : List ℕ) : Type 0 where
  pub steps : List Step
  pub sound : HasNoBadLine script
  pub are_steps : AreStepsOf script steps
  pub is_text : IsTextOfMaps (maps_after steps no_maps) text
