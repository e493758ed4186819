-- An image has one live stream at most.
use Rattle.std.specs.Prelude.{◌≡◌, ℕ, List}
use Rattle.xr_commit.specs.declared.live_stream.Live.{Live}
use Rattle.xr_commit.specs.LiveStream.{IsLiveStream}

-- two live streams of an image say the same
pub record IsSameLive (one two : Live) : Type 0 where
  pub uuid : one.uuid ≡ two.uuid
  pub heads : one.heads.items ≡ two.heads.items
  pub entries : one.entries.items ≡ two.entries.items

abbrev pub IsOneLive : Type 0
IsOneLive = (image : List ℕ) (one two : Live) → IsLiveStream image one → IsLiveStream image two → IsSameLive one two
