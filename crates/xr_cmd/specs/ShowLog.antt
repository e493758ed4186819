-- What `show` of a log prints.
use Rattle.std.specs.Prelude.{◌≡◌, ℕ, Option, List, length}
use Rattle.std.specs.List.{flat_map}
use Rattle.xr_base.specs.Fields.{AreBytes}
use Rattle.xr_items.specs.declared.item.Item.{Item}
use Rattle.xr_commit.specs.declared.live_stream.Live.{Live}
use Rattle.xr_commit.specs.LiveStream.{IsLiveStream}
use Rattle.xr_commit.specs.LogRecords.{log_of}
use Rattle.xr_commit.specs.LoggedItems.{AreItemsOfEach}
use Rattle.xr_commit.specs.Pending.{pending}
use Rattle.xr_disk.specs.Seen.{WasSeen}
use Rattle.xr_text.specs.LogText.{log_text}

-- the items of entries, one entry after another
abbrev pub all_items : List (List Item) → List Item
all_items lists = flat_map (λ (list : List Item). list) lists

-- the records of a live stream, its entries with their items, and how many of its intents are pending
pub record IsTextOfLive (live : Live) (text : List ℕ) : Type 0 where
  pub items : List (List Item)
  pub are_items : AreItemsOfEach live.entries.items items
  pub printed : text ≡ log_text live.heads.items live.entries.items items (length (pending (all_items items)))

-- what the disk read was an image with a live stream, of which this is the text; its log is bytes, so nothing refuses it
pub record ShowsLog (seen : Option (List ℕ)) (text : List ℕ) : Type 0 where
  pub live : Live
  pub was_live : WasSeen seen (λ image. IsLiveStream image live)
  pub bytes : WasSeen seen (λ image. AreBytes (log_of image))
  pub is_text : IsTextOfLive live text
