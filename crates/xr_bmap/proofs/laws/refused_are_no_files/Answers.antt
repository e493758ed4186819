use Rattle.xr_bmap.specs.OpenFileLaws as laws
use Rattle.xr_bmap.proofs.laws.refused_are_no_files.Goals as goal

pub returns : goal.returns
returns c = laws.refused_are_no_files
