-- How long a sealed record is, and that no cycle is how a record begins.
use Rattle.std.proofs.Common.{◌≡◌, ◌≢◌, ℕ, ◌+◌, ◌*◌, ◌<◌, List, length, take, ap, sym, ◌∙◌, arith}
use Rattle.byteorder.specs.Endian.{big_bytes}
use Rattle.xr_base.specs.Checksum.{checksum_of}
use Rattle.xr_base.specs.declared.geometry.TheConstants.{CYCLES, SECTOR_BYTES}
use Rattle.xr_base.specs.declared.layout.TheConstants.{RECORD_MAGIC}
use Rattle.xr_record.specs.declared.head.Head.{Head}
use Rattle.xr_record.specs.Record.{IsGoodHead, IsStored, record_sectors, sectors_of, sectors_with}
use Rattle.xr_record.specs.SealedRecordLaws.{length-sectors_with}
use Rattle.xr_record.specs.StampLaws.{number_of_bytes}
use Rattle.xr_record.specs.Unsealing.{HasMagic}

-- the header's sector, and those of the body
pub length-record_sectors : (head : Head) (body : List ℕ) → IsGoodHead head → IsStored head → length body ≡ head.len
    → length (record_sectors head body) ≡ SECTOR_BYTES + SECTOR_BYTES * sectors_of (length body)
length-record_sectors head body good stored long =
    length-sectors_with head body (checksum_of (sectors_with 0 head body)) long good.fits stored.uuid
    ∙ ap (λ (len : ℕ). SECTOR_BYTES + SECTOR_BYTES * sectors_of len) (sym long)

pub cycle_is_no_magic : (cycle : ℕ) → cycle < CYCLES → cycle ≢ RECORD_MAGIC
cycle_is_no_magic cycle small same = omega arith

-- so no record begins at a sector that begins with a stamp
pub no_magic_at_stamp : (bytes : List ℕ) (cycle : ℕ) → cycle < CYCLES → take 4 bytes ≡ big_bytes 4 cycle → ¬ HasMagic bytes
no_magic_at_stamp bytes cycle small stamp magic =
    let number = number_of_bytes bytes cycle (omega arith) stamp in cycle_is_no_magic cycle small (omega arith)
