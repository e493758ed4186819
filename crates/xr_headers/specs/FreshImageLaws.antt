-- How long a fresh image and its blocks are, and that these are its blocks.
use Rattle.std.proofs.Common.{◌≡◌, ◌<◌, ◌+◌, ◌*◌, ◌-◌, ◌/◌, ◌%◌, ◌∙◌, ℕ, zero, suc, eqb, ltb, cond, Bool, true, false, List, [], length, take, drop, ap, inl, inr, arith}
use Rattle.std.proofs.lemmas.Bool.{cases_lt}
use Rattle.std.proofs.lemmas.List.{drop-append-le, drop_at, length-append, length-drop, take-append-le, take_all}
use Rattle.xr_base.specs.Image.{block_of, blocks_below}
use Rattle.xr_base.specs.declared.geometry.TheConstants.{BLOCK_BYTES, BLOCKS, FILE_BLOCKS, FIRST_FILE_BLOCK, FIRST_GROUP_BLOCK, FIRST_LOG_BLOCK, GROUP_BLOCKS}
use Rattle.xr_base.specs.declared.layout.TheConstants.{LONG_BB_CRC, SHORT_BB_CRC, REFERENCE_MAGIC, REVERSE_MAGIC, BY_SIZE_MAGIC, BY_BLOCK_MAGIC}
use Rattle.xr_headers.specs.FreshImage.{fresh_block_of, fresh_core, fresh_file_block, fresh_front_block, fresh_group_block, fresh_head, fresh_image, fresh_leaf, short_leaf_fields, whole_data, zero_block}
use Rattle.xr_headers.specs.HeaderLaws.{length-super_block, length-group_block, length-core_block}
use Rattle.xr_headers.specs.PaddedLaws.{length-zero_padded, length-with_crc_padded}

-- either list is as long
length-cond : (test : Bool) (xs ys : List ℕ) (n : ℕ) → length xs ≡ n → length ys ≡ n → length (cond test xs ys) ≡ n
length-cond true xs ys n one two = one
length-cond false xs ys n one two = two

length-zero_block : length zero_block ≡ BLOCK_BYTES
length-zero_block = length-zero_padded BLOCK_BYTES []

length-fresh_leaf : (uuid : List ℕ) (group place magic : ℕ) (numbers : List ℕ) → length (fresh_leaf uuid group place magic numbers) ≡ BLOCK_BYTES
length-fresh_leaf uuid group place magic numbers =
    length-with_crc_padded SHORT_BB_CRC BLOCK_BYTES (short_leaf_fields magic numbers uuid (FIRST_GROUP_BLOCK + group * GROUP_BLOCKS + place) group) (omega arith)

length-front : (uuid : List ℕ) (cycle n : ℕ) → length (fresh_front_block uuid cycle n) ≡ BLOCK_BYTES
length-front uuid cycle n =
    length-cond (eqb n 0) _ _ _ (length-super_block (record { uuid = uuid }))
    (length-cond (eqb n FIRST_LOG_BLOCK) _ _ _ (length-zero_padded BLOCK_BYTES _) length-zero_block)

length-file : (uuid : List ℕ) (file place : ℕ) → length (fresh_file_block uuid file place) ≡ BLOCK_BYTES
length-file uuid file place =
    length-cond (eqb place 0) _ _ _ (length-core_block (fresh_core uuid file))
    (length-cond (eqb place 1) _ _ _ (length-with_crc_padded LONG_BB_CRC BLOCK_BYTES _ (omega arith)) length-zero_block)

length-group : (uuid : List ℕ) (group place : ℕ) → length (fresh_group_block uuid group place) ≡ BLOCK_BYTES
length-group uuid group place =
    length-cond (eqb place 0) _ _ _ (length-group_block (fresh_head uuid group))
    (length-cond (eqb place 1) _ _ _ (length-fresh_leaf uuid group place BY_BLOCK_MAGIC whole_data)
    (length-cond (eqb place 2) _ _ _ (length-fresh_leaf uuid group place BY_SIZE_MAGIC whole_data)
    (length-cond (eqb place 3) _ _ _ (length-fresh_leaf uuid group place REVERSE_MAGIC [])
    (length-cond (eqb place 4) _ _ _ (length-fresh_leaf uuid group place REFERENCE_MAGIC []) length-zero_block))))

pub length-fresh_block_of : (uuid : List ℕ) (cycle n : ℕ) → length (fresh_block_of uuid cycle n) ≡ BLOCK_BYTES
unfolding fresh_block_of
length-fresh_block_of uuid cycle n =
    length-cond (ltb n FIRST_FILE_BLOCK) _ _ _ (length-front uuid cycle n)
    (length-cond (ltb n FIRST_GROUP_BLOCK) _ _ _ (length-file uuid ((n - FIRST_FILE_BLOCK) / FILE_BLOCKS) ((n - FIRST_FILE_BLOCK) % FILE_BLOCKS))
    (length-group uuid ((n - FIRST_GROUP_BLOCK) / GROUP_BLOCKS) ((n - FIRST_GROUP_BLOCK) % GROUP_BLOCKS)))

length-blocks_below : (block : ℕ → List ℕ) (size n : ℕ) → ((k : ℕ) → length (block k) ≡ size) → length (blocks_below block n) ≡ size * n
unfolding blocks_below
length-blocks_below block size zero all = omega arith
length-blocks_below block size (suc n) all =
    length-append (blocks_below block n) (block n) ∙ omega (arith, length-blocks_below block size n all, all n)

pub length-fresh_image : (uuid : List ℕ) (cycle : ℕ) → length (fresh_image uuid cycle) ≡ BLOCK_BYTES * BLOCKS
unfolding fresh_image
length-fresh_image uuid cycle = length-blocks_below (fresh_block_of uuid cycle) BLOCK_BYTES BLOCKS (length-fresh_block_of uuid cycle)

block_among : (block : ℕ → List ℕ) (count n : ℕ) → ((k : ℕ) → length (block k) ≡ BLOCK_BYTES) → n < count
    → block_of (blocks_below block count) n ≡ block n
unfolding blocks_below
block_among block zero n all within = absurd (omega arith)
block_among block (suc count) n all within =
    let before : List ℕ = blocks_below block count in
    let long = length-blocks_below block BLOCK_BYTES count all in
    elim (cases_lt n count) [
      | inl below ↦
          ap (take BLOCK_BYTES) (drop-append-le (BLOCK_BYTES * n) before (block count) (omega arith))
          ∙ take-append-le BLOCK_BYTES (drop (BLOCK_BYTES * n) before) (block count) (omega (arith, length-drop (BLOCK_BYTES * n) before))
          ∙ block_among block count n all below
      | inr last ↦
          let same : count ≡ n = omega arith in
          ap (take BLOCK_BYTES) (drop_at before (block count) (BLOCK_BYTES * n) (omega arith))
          ∙ take_all BLOCK_BYTES (block count) (omega (arith, all count)) ∙ ap block same
    ]

pub block_of-fresh_image : (uuid : List ℕ) (cycle n : ℕ) → n < BLOCKS → block_of (fresh_image uuid cycle) n ≡ fresh_block_of uuid cycle n
unfolding fresh_image
block_of-fresh_image uuid cycle n within = block_among (fresh_block_of uuid cycle) BLOCKS n (length-fresh_block_of uuid cycle) within
