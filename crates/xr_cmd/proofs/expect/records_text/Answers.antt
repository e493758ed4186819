use Rattle.xr_cmd.specs.Script.{lines_of}
use Rattle.xr_cmd.proofs.StepLineLemmas.{All-fits}
use Rattle.xr_cmd.proofs.expect.records_text.Goals as goal

pub maps_of-requires : goal.maps_of-requires
maps_of-requires c = rw c.deref.ensures.value (All-fits (lines_of c.args.script.now) c.in_ok-steps.steps.items c.in_ok-steps.ensures.steps)
