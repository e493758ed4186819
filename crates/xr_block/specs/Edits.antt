-- A block of a tree with the items that it holds, and what an edit makes of its place and its items.
use Rattle.std.specs.Prelude.{◌≡◌, ℕ, ◌+◌, ◌≤◌, true, Option, List, [], ◌∷◌, ◌++◌, length, take, drop}
use Rattle.std.specs.List.{All}
use Rattle.xr_block.specs.BlockLaws.{AreEntries}
use Rattle.xr_kinds.specs.Form.{Form}
use Rattle.xr_block.specs.TreeBlock.{Entry, Place, Site, leaf_bytes, node_bytes, crc_place}
use Rattle.xr_block.specs.declared.header.Header.{Header}
use Rattle.xr_base.specs.Checksum.{with_crc}

-- the bytes with their checksum
abbrev pub sealed : {X : Type 0} → Form X → List ℕ → List ℕ
sealed form bytes = with_crc (crc_place form) bytes

-- a whole leaf with these records
pub record IsLeafOf {X : Type 0} (form : Form X) (site : Site) (place : Place) (records : List X) (bytes : List ℕ) : Type 0 where
  pub identified : length site.uuid ≡ 16
  pub valid : All (λ (r : X). form.is_valid r ≡ true) records
  pub few : length records ≤ form.leaf_max
  pub whole : bytes ≡ leaf_bytes form site place records

-- a whole node with these keys and children
pub record IsNodeOf {X : Type 0} (form : Form X) (site : Site) (place : Place) (entries : List Entry) (bytes : List ℕ) : Type 0 where
  pub identified : length site.uuid ≡ 16
  pub fit : AreEntries form entries
  pub few : length entries ≤ form.node_max
  pub whole : bytes ≡ node_bytes form site place entries

-- a header names this site and this place
pub record IsHeader (fields : Header) (site : Site) (place : Place) : Type 0 where
  pub identified : length site.uuid ≡ 16
  pub block : fields.block ≡ site.first + place.number
  pub level : fields.level ≡ place.level
  pub left : fields.left ≡ place.left
  pub right : fields.right ≡ place.right
  pub owner : fields.owner ≡ site.owner
  pub uuid : fields.uuid ≡ site.uuid

-- a place with another sibling
abbrev pub with_left : Option ℕ → Place → Place
with_left left place = record { number = place.number; level = place.level; left = left; right = place.right }

-- the entries with another key at a place
abbrev pub first_keyed : List ℕ → List Entry → List Entry
first_keyed key [] = []
first_keyed key (e ∷ es) = record { key = key; child = e.child } ∷ es

abbrev pub with_key : ℕ → List ℕ → List Entry → List Entry
with_key k key entries = take k entries ++ first_keyed key (drop k entries)
