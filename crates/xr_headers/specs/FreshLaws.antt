-- What tells one fresh image from another: the identifier in its superblock, and the cycle in its log.
use Rattle.std.proofs.Common.{◌≡◌, ◌≢◌, ℕ, ◌-◌, ◌*◌, ◌/◌, ◌%◌, ◌<◌, ◌^◌, ◌==◌, List, ◌++◌, length, drop, replicate, nat_lt, if◌then◌else◌, refl, ap, sym, ◌∙◌, arith}
use Rattle.std.proofs.lemmas.Bool.{cond-false, ne_eqb}
use Rattle.std.proofs.lemmas.List.{take-append-drop}
use Rattle.byteorder.specs.Endian.{big_bytes, big_number}
use Rattle.byteorder.specs.Numbers.{big_number-reads_back}
use Rattle.xr_base.specs.Image.{part}
use Rattle.xr_base.specs.ImageLaws.{part-front}
use Rattle.xr_base.specs.declared.geometry.TheConstants.{BLOCK_BYTES, SECTOR_BYTES, FIRST_LOG_BLOCK, FIRST_FILE_BLOCK, FILE_BLOCKS, FIRST_GROUP_BLOCK, GROUP_BLOCKS, UUID_BYTES}
use Rattle.xr_headers.specs.declared.layout.TheConstants.{UUID_PLACE, BLOCK_CRC}
use Rattle.xr_base.specs.declared.layout.TheConstants.{RECORD_CRC_PLACE, RECORD_MAGIC}
use Rattle.xr_headers.specs.FreshImage.{fresh_block_of, fresh_front_block, fresh_file_block, fresh_group_block, fresh_log_block, unmount_fields}
use Rattle.xr_headers.specs.Padded.{zero_padded}
use Rattle.xr_headers.specs.PaddedLaws.{length-with_crc_padded, zero_padded_is}
use Rattle.xr_headers.specs.Headers.{super_block, super_fields, super_opening, super_geometry}
use Rattle.xr_headers.specs.ReadBackLaws.{read_back}
use Rattle.xr_base.specs.Checksum.{with_crc}

-- the first block is the superblock
pub fresh_block_of-super : (uuid : List ℕ) (cycle : ℕ) → fresh_block_of uuid cycle 0 ≡ super_block (record { uuid = uuid })
unfolding fresh_block_of
fresh_block_of-super uuid cycle = refl

-- all blocks but the log's first are the same with any cycle
front_block-cycle : (uuid : List ℕ) (c d n : ℕ) → n ≢ FIRST_LOG_BLOCK → fresh_front_block uuid c n ≡ fresh_front_block uuid d n
front_block-cycle uuid c d n elsewhere =
    let test = ne_eqb n FIRST_LOG_BLOCK elsewhere in
    ap (λ (rest : List ℕ). if n == 0 then super_block (record { uuid = uuid }) else rest) (cond-false _ _ _ test ∙ sym (cond-false _ _ _ test))

pub fresh_block_of-cycle : (uuid : List ℕ) (c d n : ℕ) → n ≢ FIRST_LOG_BLOCK → fresh_block_of uuid c n ≡ fresh_block_of uuid d n
unfolding fresh_block_of
fresh_block_of-cycle uuid c d n elsewhere =
    ap (λ (front : List ℕ).
    if nat_lt n FIRST_FILE_BLOCK then front
    else if nat_lt n FIRST_GROUP_BLOCK then fresh_file_block uuid ((n - FIRST_FILE_BLOCK) / FILE_BLOCKS) ((n - FIRST_FILE_BLOCK) % FILE_BLOCKS)
    else fresh_group_block uuid ((n - FIRST_GROUP_BLOCK) / GROUP_BLOCKS) ((n - FIRST_GROUP_BLOCK) % GROUP_BLOCKS))
    (front_block-cycle uuid c d n elsewhere)

-- the log's first block names the cycle
cycle_in-record : (uuid : List ℕ) (cycle : ℕ) → part 4 4 (with_crc RECORD_CRC_PLACE (zero_padded (2 * SECTOR_BYTES) (unmount_fields uuid cycle))) ≡ big_bytes 4 cycle
unfolding unmount_fields
cycle_in-record uuid cycle =
    read_back RECORD_CRC_PLACE (2 * SECTOR_BYTES) 4 4 (unmount_fields uuid cycle) (big_bytes 4 RECORD_MAGIC) (big_bytes 4 cycle) (drop 8 (unmount_fields uuid cycle))
    refl refl refl (omega arith) (omega arith)

cycle_in-log : (uuid : List ℕ) (cycle : ℕ) → part 4 4 (fresh_log_block uuid cycle) ≡ big_bytes 4 cycle
cycle_in-log uuid cycle =
    let record_bytes : List ℕ = with_crc RECORD_CRC_PLACE (zero_padded (2 * SECTOR_BYTES) (unmount_fields uuid cycle)) in
    let long : length record_bytes ≡ 2 * SECTOR_BYTES = length-with_crc_padded RECORD_CRC_PLACE (2 * SECTOR_BYTES) (unmount_fields uuid cycle) (omega arith) in
    ap (part 4 4) (zero_padded_is BLOCK_BYTES 3072 record_bytes (omega arith)) ∙ part-front 4 4 record_bytes (replicate 3072 0) (omega arith) ∙ cycle_in-record uuid cycle

pub cycle_in-fresh : (uuid : List ℕ) (cycle : ℕ) → cycle < 2 ^ 32 → big_number 4 (drop 4 (fresh_block_of uuid cycle FIRST_LOG_BLOCK)) ≡ cycle
unfolding fresh_block_of
cycle_in-fresh uuid cycle small =
    let rest : List ℕ = drop 4 (fresh_log_block uuid cycle) in
    ap (big_number 4) (sym (take-append-drop 4 rest) ∙ ap (λ (xs : List ℕ). xs ++ drop 4 rest) (cycle_in-log uuid cycle))
    ∙ big_number-reads_back 4 cycle (drop 4 rest) small

-- the superblock holds the identifier
uuid_in-super : (uuid : List ℕ) → length uuid ≡ UUID_BYTES → part UUID_PLACE UUID_BYTES (super_block (record { uuid = uuid })) ≡ uuid
unfolding super_fields
uuid_in-super uuid long =
    read_back BLOCK_CRC BLOCK_BYTES UUID_PLACE UUID_BYTES (super_fields (record { uuid = uuid })) super_opening uuid super_geometry refl refl long (omega arith) (omega arith)

pub super_block-uuid : (u v : List ℕ) → length u ≡ UUID_BYTES → length v ≡ UUID_BYTES → super_block (record { uuid = u }) ≡ super_block (record { uuid = v }) → u ≡ v
super_block-uuid u v long long' same = sym (uuid_in-super u long) ∙ ap (part UUID_PLACE UUID_BYTES) same ∙ uuid_in-super v long'
