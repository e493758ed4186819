-- The leaves that formatting writes into a group are roots of its trees.
use Rattle.std.proofs.Common.{◌≡◌, ℕ, ◌+◌, ◌/◌, ◌≤◌, List, [], ◌∷◌, ◌++◌, length, replicate, refl, sym, ap, ◌∙◌, arith}
use Rattle.std.proofs.lemmas.List.{length-append}
use Rattle.std.specs.List.{flat_map}
use Rattle.byteorder.specs.Endian.{big_bytes}
use Rattle.xr_base.specs.declared.geometry.TheConstants.{BLOCK_BYTES, UUID_BYTES}
use Rattle.xr_base.specs.declared.layout.TheConstants.{BY_BLOCK_MAGIC, BY_SIZE_MAGIC, REFERENCE_MAGIC, REVERSE_MAGIC, SHORT_BB_CRC}
use Rattle.xr_block.specs.TreeBlock.{Site, crc_place, header, leaf_bytes, tree_block}
use Rattle.xr_block.specs.TreeBlock as tree
use Rattle.xr_headers.specs.FreshImage.{first_sector_of, short_leaf, short_leaf_fields, whole_data}
use Rattle.xr_headers.specs.Padded.{words}
use Rattle.xr_headers.specs.declared.layout.TheConstants.{MISSING}
use Rattle.xr_kinds.specs.Form.{Form}
use Rattle.xr_kinds.specs.FreeRuns.{block_form, by_block, by_size, size_form}
use Rattle.xr_kinds.specs.Reference.{reference_form}
use Rattle.xr_kinds.specs.Reverse.{reverse_form}
use Rattle.xr_kinds.specs.Spans.{span}
use Rattle.xr_kinds.specs.declared.span.Span.{Span}
use Rattle.xr_open.specs.LeafTreeLaws.{same_padding}
use Rattle.xr_open.specs.LeafTrees.{lone_place}
use Rattle.xr_base.specs.Checksum.{with_crc}

-- the run of all data blocks of a group
abbrev pub whole_run : Span
whole_run = span 512 1536

-- a header with some count
abbrev head_with : ℕ → ℕ → List ℕ → ℕ → ℕ → List ℕ
head_with magic count uuid block owner =
    words (magic ∷ []) ++ replicate 2 0 ++ big_bytes 2 count ++ words (MISSING ∷ MISSING ∷ []) ++ big_bytes 8 (first_sector_of block) ++ replicate 8 0
    ++ uuid ++ words (owner ∷ []) ++ replicate 4 0

fields_are : (magic : ℕ) (numbers uuid : List ℕ) (block owner : ℕ)
    → short_leaf_fields magic numbers uuid block owner ≡ head_with magic (length numbers / 2) uuid block owner ++ words numbers
unfolding short_leaf_fields
fields_are magic numbers uuid block owner = refl

leaf_is : {X : Type 0} (form : Form X) (site : Site) (n : ℕ) (records : List X) (numbers : List ℕ) → crc_place form ≡ SHORT_BB_CRC
    → header form site (lone_place n) (length records) ≡ head_with form.magic (length numbers / 2) site.uuid (site.first + n) site.owner
    → flat_map form.bytes_of records ≡ words numbers
    → length (short_leaf_fields form.magic numbers site.uuid (site.first + n) site.owner) ≤ BLOCK_BYTES
    → short_leaf form.magic numbers site.uuid (site.first + n) site.owner ≡ leaf_bytes form site (lone_place n) records
unfolding tree_block
leaf_is form site n records numbers place head items fits =
    let fields : List ℕ = short_leaf_fields form.magic numbers site.uuid (site.first + n) site.owner in
    let same : fields ≡ header form site (lone_place n) (length records) ++ flat_map form.bytes_of records =
    fields_are form.magic numbers site.uuid (site.first + n) site.owner
    ∙ ap (λ (front : List ℕ). front ++ words numbers) (sym head)
    ∙ ap (λ (rest : List ℕ). header form site (lone_place n) (length records) ++ rest) (sym items) in
    ap (with_crc SHORT_BB_CRC) (same_padding BLOCK_BYTES fields fits ∙ ap (tree.zero_filled BLOCK_BYTES) same)
    ∙ ap (λ (at : ℕ). with_crc at (tree.zero_filled BLOCK_BYTES (header form site (lone_place n) (length records) ++ flat_map form.bytes_of records))) (sym place)

module _ (site : Site) (n : ℕ) (long : length site.uuid ≡ UUID_BYTES) where
  fits_with : (magic : ℕ) → length (short_leaf_fields magic whole_data site.uuid (site.first + n) site.owner) ≤ BLOCK_BYTES
  unfolding short_leaf_fields
  fits_with magic = simp length-append (omega (arith, long))

  fits_bare : (magic : ℕ) → length (short_leaf_fields magic [] site.uuid (site.first + n) site.owner) ≤ BLOCK_BYTES
  unfolding short_leaf_fields
  fits_bare magic = simp length-append (omega (arith, long))

  pub block_leaf : short_leaf BY_BLOCK_MAGIC whole_data site.uuid (site.first + n) site.owner ≡ leaf_bytes block_form site (lone_place n) (by_block whole_run ∷ [])
  unfolding header
  block_leaf = leaf_is block_form site n (by_block whole_run ∷ []) whole_data refl refl refl (fits_with BY_BLOCK_MAGIC)

  pub size_leaf : short_leaf BY_SIZE_MAGIC whole_data site.uuid (site.first + n) site.owner ≡ leaf_bytes size_form site (lone_place n) (by_size whole_run ∷ [])
  unfolding header
  size_leaf = leaf_is size_form site n (by_size whole_run ∷ []) whole_data refl refl refl (fits_with BY_SIZE_MAGIC)

  pub reverse_leaf : short_leaf REVERSE_MAGIC [] site.uuid (site.first + n) site.owner ≡ leaf_bytes reverse_form site (lone_place n) []
  unfolding header
  reverse_leaf = leaf_is reverse_form site n [] [] refl refl refl (fits_bare REVERSE_MAGIC)

  pub reference_leaf : short_leaf REFERENCE_MAGIC [] site.uuid (site.first + n) site.owner ≡ leaf_bytes reference_form site (lone_place n) []
  unfolding header
  reference_leaf = leaf_is reference_form site n [] [] refl refl refl (fits_bare REFERENCE_MAGIC)
