use Rattle.std.specs.String.{string_bytes}
use Rattle.xr_maps.specs.Records.{AreExtents}
use Rattle.xr_text.specs.MapText.{AppendsLists, files_text}
use Rattle.xr_text.proofs.map_text.push_files.Given as goal

abbrev pub invariant-loop-file : goal.invariant-loop-file
invariant-loop-file l = AppendsLists (AreExtents l.maps) (files_text 0) l.file (string_bytes l.fn.text) (string_bytes l.text)
