-- The rules that a record is tested by, in their order, and what is made of one that keeps them.
use Rattle.std.specs.Prelude.{◌≡◌, ℕ, ◌+◌, ◌*◌, ◌<◌, ◌≤◌, List, ◌++◌, All, length, slice_range, take, drop}
use Rattle.byteorder.specs.Endian.{big_bytes, little_number}
use Rattle.xr_base.specs.Checksum.{checksum_of, without_four}
use Rattle.xr_base.specs.Fields.{be32_at}
use Rattle.xr_base.specs.Image.{part}
use Rattle.xr_base.specs.declared.geometry.TheConstants.{LOG_SECTORS, SECTOR_BYTES, CYCLES, UUID_BYTES}
use Rattle.xr_record.specs.declared.head.Head.{Head}
use Rattle.xr_record.specs.declared.layout.TheConstants.{CYCLE_PLACE, LEN_PLACE, OPS_PLACE, PREV_PLACE, VERSION_PLACE, WORDS_BYTES, WORDS_PLACE, ZEROS_PLACE}
use Rattle.xr_base.specs.declared.layout.TheConstants.{RECORD_CRC_PLACE, MAX_BODY_BYTES, RECORD_FORMAT, RECORD_VERSION, RECORD_MAGIC, RECORD_FORMAT_PLACE, RECORD_LSN_PLACE, RECORD_SIZE_PLACE, RECORD_TAIL_PLACE, RECORD_UUID_PLACE}
use Rattle.xr_record.specs.declared.unsealing.SealFault.{SealFault}
use Rattle.xr_record.specs.declared.unsealing.SealFault.TheVariants.{Magic, Version, Length, Checksum, Place}
use Rattle.xr_record.specs.Lsn.{lsn_number}
use Rattle.xr_record.specs.Record.{IsSealed, restored, sectors_of, padded_body}

-- the values in the fields of a header
abbrev pub head_in : List ℕ → Head
head_in bytes = record {
  lsn = record { cycle = be32_at bytes RECORD_LSN_PLACE; sector = be32_at bytes (RECORD_LSN_PLACE + 4) };
  tail = record { cycle = be32_at bytes RECORD_TAIL_PLACE; sector = be32_at bytes (RECORD_TAIL_PLACE + 4) };
  prev = be32_at bytes PREV_PLACE;
  ops = be32_at bytes OPS_PLACE;
  len = be32_at bytes LEN_PLACE;
  uuid = part RECORD_UUID_PLACE UUID_BYTES bytes;
}

-- the sectors of the body that the header names
abbrev pub sectors_in : List ℕ → ℕ
sectors_in bytes = sectors_of (head_in bytes).len

abbrev pub HasMagic : List ℕ → Type 0
HasMagic bytes = be32_at bytes 0 ≡ RECORD_MAGIC

pub record HasVersion (bytes : List ℕ) : Type 0 where
  pub version : be32_at bytes VERSION_PLACE ≡ RECORD_VERSION
  pub format : be32_at bytes RECORD_FORMAT_PLACE ≡ RECORD_FORMAT
  pub size : be32_at bytes RECORD_SIZE_PLACE ≡ MAX_BODY_BYTES

pub record HasLength (bytes : List ℕ) : Type 0 where
  pub some : 0 < be32_at bytes LEN_PLACE
  pub most : be32_at bytes LEN_PLACE ≤ MAX_BODY_BYTES
  pub room : SECTOR_BYTES + SECTOR_BYTES * sectors_of (be32_at bytes LEN_PLACE) ≤ length bytes

-- the checksum of the record's sectors with its own field as zero
abbrev pub checksum_in : List ℕ → ℕ
checksum_in bytes = checksum_of (without_four RECORD_CRC_PLACE (take (SECTOR_BYTES + SECTOR_BYTES * sectors_of (be32_at bytes LEN_PLACE)) bytes))

abbrev pub HasChecksum : List ℕ → Type 0
HasChecksum bytes = little_number 4 (drop RECORD_CRC_PLACE bytes) ≡ checksum_in bytes

-- each of the first sectors begins with the cycle
abbrev pub HasStamps : ℕ → ℕ → List ℕ → Type 0
HasStamps cycle sectors body = (i : ℕ) → i < sectors → take 4 (drop (SECTOR_BYTES * i) body) ≡ big_bytes 4 cycle

abbrev pub AreZero : List ℕ → Type 0
AreZero bytes = All (λ byte. byte ≡ 0) bytes

-- the body's sectors with their first words put back
abbrev pub body_in : ℕ → List ℕ → List ℕ
body_in len bytes = restored (sectors_of len) (part WORDS_PLACE WORDS_BYTES bytes) (drop SECTOR_BYTES bytes)

-- the record with the body put back
abbrev pub opened_record : ℕ → List ℕ → List ℕ
opened_record len bytes = take SECTOR_BYTES bytes ++ body_in len bytes

-- zeros follow the body up to the end of its last sector
abbrev pub IsPadded : ℕ → List ℕ → Type 0
IsPadded len bytes = AreZero (slice_range (body_in len bytes) len (SECTOR_BYTES * sectors_of len))

-- it says that it is the record of that sector of the log
pub record IsHere (sector : ℕ) (bytes : List ℕ) : Type 0 where
  pub here : be32_at bytes (RECORD_LSN_PLACE + 4) ≡ sector
  pub log : sector < LOG_SECTORS
  pub cycle : be32_at bytes CYCLE_PLACE ≡ be32_at bytes RECORD_LSN_PLACE
  pub round : 0 < be32_at bytes RECORD_LSN_PLACE
  pub cycles : be32_at bytes RECORD_LSN_PLACE < CYCLES
  pub tail : lsn_number (head_in bytes).tail ≤ lsn_number (head_in bytes).lsn

-- the header's words past the last sector and its end are zero
abbrev pub HasZeros : ℕ → List ℕ → Type 0
HasZeros sectors bytes =
    AreZero (slice_range bytes (WORDS_PLACE + 4 * sectors) RECORD_FORMAT_PLACE) × AreZero (slice_range bytes ZEROS_PLACE SECTOR_BYTES)

-- and has its stamps and zeros, but for what follows the body
pub record IsPlacedRecord (sector : ℕ) (bytes : List ℕ) : Type 0 where
  pub here : IsHere sector bytes
  pub stamps : HasStamps (be32_at bytes RECORD_LSN_PLACE) (sectors_in bytes) (drop SECTOR_BYTES bytes)
  pub zeros : HasZeros (sectors_in bytes) bytes

pub record IsInPlace (sector : ℕ) (bytes : List ℕ) : Type 0 where
  pub placed : IsPlacedRecord sector bytes
  pub padding : IsPadded (be32_at bytes LEN_PLACE) bytes

-- this is the first rule that is broken
abbrev pub IsRefusal : ℕ → List ℕ → SealFault → Type 0
IsRefusal sector bytes (Magic at) = (at ≡ sector) × ¬ HasMagic bytes
IsRefusal sector bytes (Version at) = (at ≡ sector) × HasMagic bytes × ¬ HasVersion bytes
IsRefusal sector bytes (Length at) = (at ≡ sector) × HasMagic bytes × HasVersion bytes × ¬ HasLength bytes
IsRefusal sector bytes (Checksum at) =
    (at ≡ sector) × HasMagic bytes × HasVersion bytes × HasLength bytes × ¬ HasChecksum bytes
IsRefusal sector bytes (Place at) =
    (at ≡ sector) × HasMagic bytes × HasVersion bytes × HasLength bytes × HasChecksum bytes × ¬ IsInPlace sector bytes

-- the bytes are those of a record of that sector, with the first words of its body put back
pub record Opens (sector : ℕ) (old new : List ℕ) (head : Head) : Type 0 where
  pub body : List ℕ
  pub record_is : IsSealed old head body
  pub here : head.lsn.sector ≡ sector
  pub new_is : new ≡ take SECTOR_BYTES old ++ padded_body body ++ drop (SECTOR_BYTES + SECTOR_BYTES * sectors_of head.len) old
