-- From what was loaded of an image to what is printed of it.
use Rattle.std.proofs.Common.{Option, List, ℕ, subst}
use Rattle.xr_check.specs.CleanImages.{groups_of_image}
use Rattle.xr_check.specs.Loading.{IsLoaded}
use Rattle.xr_check.specs.declared.loaded.Loaded.{Loaded}
use Rattle.xr_commit.specs.Refusals.{IsReadable}
use Rattle.xr_disk.specs.Seen.{WasSeen}
use Rattle.xr_cmd.specs.ImageText.{IsTextOfLoaded, IsTextOfPart, ShowsPart}
use Rattle.xr_cmd.specs.declared.command_line.Part.{Part}

pub shows_part : (seen : Option (List ℕ)) (part : Part) (loaded : Loaded) (text : List ℕ) → WasSeen seen IsReadable
    → WasSeen seen (λ image. IsLoaded image loaded) → IsTextOfLoaded part loaded text → ShowsPart seen part text
shows_part seen part loaded text readable was is = record {
  readable = readable;
  is_text = λ image has.
      let l = was image has in
      record {
        uuid = l.uuid;
        clean = l.clean;
        is_text = subst (λ maps. IsTextOfPart part maps (groups_of_image image l.uuid) text) l.maps
            (subst (λ groups. IsTextOfPart part loaded.maps groups text) l.groups is);
      };
}
