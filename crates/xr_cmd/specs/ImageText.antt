-- What `check` and `show` print of a clean image.
use Rattle.std.specs.Prelude.{◌≡◌, ℕ, Option, List}
use Rattle.xr_base.specs.declared.geometry.TheConstants.{FILES}
use Rattle.xr_check.specs.CleanImages.{IsCleanImage, groups_of_image, maps_of_image}
use Rattle.xr_check.specs.Loading.{IsVerdictOn}
use Rattle.xr_check.specs.declared.loaded.Loaded.{Loaded}
use Rattle.xr_check.specs.declared.verdict.Verdict.TheVariants.{Sound}
use Rattle.xr_commit.specs.Refusals.{IsReadable}
use Rattle.xr_disk.specs.Seen.{WasSeen}
use Rattle.xr_group.specs.Group.{GroupState}
use Rattle.xr_group.specs.Next.{counteds_now, frees_now, revs_now}
use Rattle.xr_maps.specs.FileMaps.{FileMaps}
use Rattle.xr_maps.specs.Records.{AreExtents}
use Rattle.xr_maps.specs.declared.records.Extent.{Extent}
use Rattle.xr_text.specs.MapText.{AreListsOf, files_text}
use Rattle.xr_text.specs.RecordText.{free_line, owner_line, shared_line}
use Rattle.xr_text.specs.TreeText.{trees_text}
use Rattle.xr_cmd.specs.AnswerText.{sound_text}
use Rattle.xr_cmd.specs.declared.command_line.Part.{Part}
use Rattle.xr_cmd.specs.declared.command_line.Part.TheVariants.{Files, Free, Owners, Shared}

-- the extents of what files map, or the records of one tree of each group
abbrev pub IsTextOfPart : Part → FileMaps → List GroupState → List ℕ → Type 0
IsTextOfPart Files maps groups text = (lists : List (List Extent)) × AreListsOf (AreExtents maps) FILES lists × (text ≡ files_text 0 lists)
IsTextOfPart Owners maps groups text = text ≡ trees_text revs_now owner_line groups
IsTextOfPart Shared maps groups text = text ≡ trees_text counteds_now shared_line groups
IsTextOfPart Free maps groups text = text ≡ trees_text frees_now free_line groups

-- the same of what was loaded
abbrev pub IsTextOfLoaded : Part → Loaded → List ℕ → Type 0
IsTextOfLoaded part loaded text = IsTextOfPart part loaded.maps loaded.groups.items text

-- the image is a clean one, and this is the text of a part of it
pub record IsTextOfImage (part : Part) (image text : List ℕ) : Type 0 where
  pub uuid : List ℕ
  pub clean : IsCleanImage image uuid
  pub is_text : IsTextOfPart part (maps_of_image image uuid) (groups_of_image image uuid) text

-- The disk read such an image. What refuses an image refuses no clean one that is readable.
pub record ShowsPart (seen : Option (List ℕ)) (part : Part) (text : List ℕ) : Type 0 where
  pub readable : WasSeen seen IsReadable
  pub is_text : WasSeen seen (λ image. IsTextOfImage part image text)

-- the disk read an image that is sound
pub record CallsSound (seen : Option (List ℕ)) (text : List ℕ) : Type 0 where
  pub readable : WasSeen seen IsReadable
  pub sound : WasSeen seen (λ image. IsVerdictOn image Sound)
  pub printed : text ≡ sound_text
