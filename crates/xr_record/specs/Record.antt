-- A record of the log as bytes: its header, and its body with the first word of each sector moved into the header.
use Rattle.std.specs.Prelude.{◌≡◌, ℕ, zero, suc, ◌+◌, ◌-◌, ◌*◌, ◌/◌, ◌^◌, ◌<◌, ◌≤◌, List, [], ◌++◌, length, take, drop, replicate}
use Rattle.byteorder.specs.Endian.{big_bytes, little_bytes}
use Rattle.xr_base.specs.Checksum.{checksum_of}
use Rattle.xr_base.specs.declared.geometry.TheConstants.{LOG_SECTORS, SECTOR_BYTES, CYCLES, UUID_BYTES}
use Rattle.xr_record.specs.declared.head.Lsn.{Lsn}
use Rattle.xr_record.specs.declared.head.Head.{Head}
use Rattle.xr_record.specs.declared.layout.TheConstants.{WORDS_BYTES, ZEROS_BYTES}
use Rattle.xr_base.specs.declared.layout.TheConstants.{MAX_BODY_BYTES, RECORD_FORMAT, RECORD_VERSION, RECORD_MAGIC}
use Rattle.xr_record.specs.Lsn.{lsn_number}

unfoldable pub zeros : ℕ → List ℕ
zeros n = replicate n 0

-- the sectors that so many bytes take
abbrev pub sectors_of : ℕ → ℕ
sectors_of len = (len + (SECTOR_BYTES - 1)) / SECTOR_BYTES

-- the bytes with zeros up to the end of their last sector
abbrev pub padded_body : List ℕ → List ℕ
padded_body bytes = bytes ++ zeros (SECTOR_BYTES * sectors_of (length bytes) - length bytes)

-- the first words of n sectors
abbrev pub moved : ℕ → List ℕ → List ℕ
moved zero bytes = []
moved (suc n) bytes = take 4 bytes ++ moved n (drop SECTOR_BYTES bytes)

-- the bytes with the first word of each of their first n sectors replaced by the stamp
abbrev pub stamped : List ℕ → ℕ → List ℕ → List ℕ
stamped stamp zero bytes = bytes
stamped stamp (suc n) bytes = (stamp ++ take (SECTOR_BYTES - 4) (drop 4 bytes)) ++ stamped stamp n (drop SECTOR_BYTES bytes)

-- the bytes with these words put back in front of their first n sectors
abbrev pub restored : ℕ → List ℕ → List ℕ → List ℕ
restored zero words bytes = bytes
restored (suc n) words bytes = (take 4 words ++ take (SECTOR_BYTES - 4) (drop 4 bytes)) ++ restored n (drop 4 words) (drop SECTOR_BYTES bytes)

-- a place in the log in eight bytes, the highest first
abbrev pub lsn_bytes : Lsn → List ℕ
lsn_bytes lsn = big_bytes 4 lsn.cycle ++ big_bytes 4 lsn.sector

-- the header's fields before the words
abbrev pub fields_before : Head → ℕ → List ℕ
fields_before head checksum =
    big_bytes 4 RECORD_MAGIC ++ big_bytes 4 head.lsn.cycle ++ big_bytes 4 RECORD_VERSION ++ big_bytes 4 head.len
    ++ lsn_bytes head.lsn ++ lsn_bytes head.tail ++ little_bytes 4 checksum
    ++ big_bytes 4 head.prev ++ big_bytes 4 head.ops

-- and those after them
abbrev pub fields_after : Head → List ℕ
fields_after head = big_bytes 4 RECORD_FORMAT ++ head.uuid ++ big_bytes 4 MAX_BODY_BYTES ++ zeros ZEROS_BYTES

-- the header's sector, with the words of these first n body sectors and this checksum
abbrev pub header_sector : Head → ℕ → List ℕ → ℕ → List ℕ
header_sector head n body checksum =
    fields_before head checksum ++ (moved n body ++ zeros (WORDS_BYTES - 4 * n)) ++ fields_after head

-- the sectors of a record with this body, as if it had this checksum
abbrev pub sectors_with : ℕ → Head → List ℕ → List ℕ
sectors_with checksum head body =
    header_sector head (sectors_of head.len) (padded_body body) checksum
    ++ stamped (big_bytes 4 head.lsn.cycle) (sectors_of head.len) (padded_body body)

-- the sectors of a sealed record: the checksum is that of the record without one
abbrev pub record_sectors : Head → List ℕ → List ℕ
record_sectors head body = sectors_with (checksum_of (sectors_with 0 head body)) head body

-- what a header has room for
pub record IsStored (head : Head) : Type 0 where
  pub prev : head.prev < 2 ^ 32
  pub ops : head.ops < 2 ^ 32
  pub round : head.tail.cycle < 2 ^ 32
  pub sector : head.tail.sector < 2 ^ 32
  pub uuid : length head.uuid ≡ UUID_BYTES

-- what may stand in a header
pub record IsGoodHead (head : Head) : Type 0 where
  pub some : 0 < head.len
  pub fits : head.len ≤ MAX_BODY_BYTES
  pub sector : head.lsn.sector < LOG_SECTORS
  pub round : 0 < head.lsn.cycle
  pub cycle : head.lsn.cycle < CYCLES
  pub tail : lsn_number head.tail ≤ lsn_number head.lsn

-- the bytes begin with the sealed record of this header and this body
pub record IsSealed (bytes : List ℕ) (head : Head) (body : List ℕ) : Type 0 where
  pub good : IsGoodHead head
  pub stored : IsStored head
  pub length_is : length body ≡ head.len
  pub rest : List ℕ
  pub bytes_are : bytes ≡ record_sectors head body ++ rest
