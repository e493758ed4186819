-- What logged items make of the blocks outside the log.
use Rattle.std.specs.Prelude.{ℕ, ◌+◌, ◌*◌, ◌-◌, ◌/◌, ◌==◌, Bool, false, if◌then◌else◌, List, [], ◌∷◌}
use Rattle.std.specs.List.{list_any}
use Rattle.xr_base.specs.declared.geometry.TheConstants.{BLOCK_BYTES, BLOCK_SECTORS, FILE_BLOCKS, FIRST_FILE_BLOCK, FIRST_INODE}
use Rattle.xr_headers.specs.Padded.{zero_padded}
use Rattle.xr_items.specs.declared.item.Item.{Item}
use Rattle.xr_items.specs.declared.item.Item.TheVariants.{Buf, Inode, Begin, Done}
use Rattle.xr_commit.specs.LoggedItems.{Logged}

-- the item logs this block of the image: the whole block, or the core that stands at its front
abbrev pub logs_block : ℕ → Item → Bool
logs_block block (Buf sector) = sector / BLOCK_SECTORS == block
logs_block block (Inode ino) = FIRST_FILE_BLOCK + FILE_BLOCKS * (ino - FIRST_INODE) == block
logs_block block (Begin id work) = false
logs_block block (Done id of) = false

abbrev pub is_logged : ℕ → List Logged → Bool
is_logged block logged = list_any (λ (l : Logged). logs_block block l.item) logged

-- The block after these items, where it was these bytes before them: its last image counts. Zeros follow a core.
abbrev pub replayed : ℕ → List ℕ → List Logged → List ℕ
replayed block bytes [] = bytes
replayed block bytes (l ∷ ls) = replayed block (if logs_block block l.item then zero_padded BLOCK_BYTES l.bytes else bytes) ls
