use Rattle.std.specs.String.{string_bytes}
use Rattle.xr_maps.specs.Records.{AreReverseRecords}
use Rattle.std.specs.List.{flat_map}
use Rattle.xr_text.specs.MapText.{AppendsLists}
use Rattle.xr_text.specs.RecordText.{owners_text}
use Rattle.xr_text.proofs.map_text.push_all_owners.Given as goal

abbrev pub invariant-loop-group : goal.invariant-loop-group
invariant-loop-group l = AppendsLists (AreReverseRecords l.maps) (flat_map owners_text) l.group (string_bytes l.fn.text) (string_bytes l.text)
