use Rattle.xr_scan.specs.CleanStreamLaws.{clean_holds_its_blocks}
use Rattle.xr_scan.proofs.laws.clean_images_hold_their_blocks.Goals as goal

pub returns : goal.returns
returns c = clean_holds_its_blocks
