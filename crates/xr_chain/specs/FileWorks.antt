-- What a work does to the file that it changes.
use Rattle.xr_bmap.specs.File.{FileState, PunchesFile, RemapsFile}
use Rattle.xr_items.specs.declared.work.MapKind.TheVariants as Mapping
use Rattle.xr_items.specs.declared.work.Work.{Work}
use Rattle.xr_items.specs.declared.work.Work.TheVariants.{Map}

abbrev pub DoesFileWork : FileState → FileState → Work → Type 0
DoesFileWork old new (Map Mapping.Map file off run) = RemapsFile off run.len run.start old new
DoesFileWork old new (Map Mapping.Unmap file off run) = PunchesFile off run.len old new
DoesFileWork old new _ = ⊥
