-- The view of a disk over a file.
use Rattle.std.specs.Prelude.{Bool, Option, String}
use Rattle.std.specs.Global.{Global}
use Rattle.xr_disk.specs.declared.file.FileDisk.{FileDisk}
use Rattle.xr_disk.specs.Disk.{DiskView}
use Rattle.xr_disk.specs.FileDisk.{untold}

abbrev pub file_view : {R F D : Type 0} → FileDisk R F D → DiskView
file_view disk = untold disk.moment disk.faults

-- the runtime that it opens its file with, the file's path, and whether it makes one that is missing
abbrev pub runtime_of : {R F D : Type 0} → FileDisk R F D → R
runtime_of disk = disk.file.rt

abbrev pub path_of : {R F D : Type 0} → FileDisk R F D → String Global
path_of disk = disk.file.path

abbrev pub makes_file : {R F D : Type 0} → FileDisk R F D → Bool
makes_file disk = disk.file.create

-- the file, where it is open
abbrev pub file_of : {R F D : Type 0} → FileDisk R F D → Option F
file_of disk = disk.file.file
