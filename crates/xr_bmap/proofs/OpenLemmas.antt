-- The overlay of a file's blocks is where they stand, has their identifier, and is refused for what the blocks are refused for.
use Rattle.std.proofs.Common.{◌≡◌, ℕ, ◌+◌, ◌*◌, ◌/◌, ◌<◌, List, [], ◌∷◌, ◌++◌, length, take, get_or, refl, sym, ap, subst, ◌∙◌, inl, inr, arith}
use Rattle.std.proofs.lemmas.Bool.Decides.{nat_tests}
use Rattle.byteorder.specs.Endian.{big_bytes}
use Rattle.xr_base.specs.Image.{block_of, part}
use Rattle.xr_base.specs.declared.geometry.TheConstants.{BLOCK_BYTES, FILES, FILE_BLOCKS, FIRST_INODE, UUID_BYTES}
use Rattle.xr_block.specs.Trees.{IsTree, Marks, blocks_of_tree}
use Rattle.xr_block.specs.declared.root.Root.{Root}
use Rattle.xr_bmap.specs.File.{HasCore, IsFile, core_of_blocks, first_of_file, pool_of_blocks, root_of_blocks, root_of_core}
use Rattle.xr_bmap.specs.OpenFile.{RefusesFile, opened_file}
use Rattle.xr_bmap.specs.Opening.{IsOpened, RefusesOpened}
use Rattle.xr_bmap.specs.Parts.{AreFileParts, HasFile, file_state_of}
use Rattle.xr_headers.specs.FirstWrong.{NamesCoreBlockField}
use Rattle.xr_headers.specs.HeaderValueLaws.{core_in-core_block, take-core_block}
use Rattle.xr_headers.specs.Headers.{IsCore, core_block, core_bytes, core_fields, core_in, core_numbers}
use Rattle.xr_headers.specs.Padded.{words}
use Rattle.xr_headers.specs.ReadBackLaws.{read_back}
use Rattle.xr_headers.specs.declared.codec.HeaderFault.{HeaderFault}
use Rattle.xr_headers.specs.declared.file_core.Core.{Core}
use Rattle.xr_headers.specs.declared.layout.TheConstants.{CORE_BYTES, CORE_CRC, CORE_MAGIC, UUID_PLACE, VERSION}
use Rattle.xr_kinds.specs.Mapping.{mapping_form}
use Rattle.xr_open.specs.PoolStateLaws.{first_block_is_front, parts_of_front_stay, pool_same}
use Rattle.xr_open.specs.Marked.{AreAllMarked}
use Rattle.xr_open.specs.MarkedLaws.{marks_add_up, marks_are_used, zeros_mark_none}
use Rattle.xr_open.specs.declared.fault.OpenFault.{OpenFault}
use Rattle.xr_open.specs.declared.fault.OpenFault.TheVariants.{Header, NoMemory, Tree}
use Rattle.xr_pool.specs.Overlay.{AreWhole, Blocks, blocks_in, opened, owner_of, pool_size}
use Rattle.xr_pool.specs.OverlayLaws.{length-blocks_in, none_changed}
use Rattle.xr_tree.specs.Room.{IsFileTree}

pub owner_is : (file : ℕ) → file < FILES → owner_of (first_of_file file) ≡ FIRST_INODE + file
owner_is file known = grind (arith, nat_tests)

-- the identifier stands in the core's own bytes
core_front : Core → List ℕ
core_front core = words (CORE_MAGIC ∷ VERSION ∷ []) ++ big_bytes 8 core.ino

core_uuid : (core : Core) → length core.uuid ≡ UUID_BYTES → part UUID_PLACE UUID_BYTES (core_bytes core) ≡ core.uuid
unfolding core_fields core_front
core_uuid core whole =
    read_back CORE_CRC CORE_BYTES UUID_PLACE UUID_BYTES (core_fields core) (core_front core) core.uuid (words (core_numbers core))
    refl refl whole (omega arith) (omega arith)

pub uuid_is : (bytes : List ℕ) (core : Core) → length core.uuid ≡ UUID_BYTES → block_of bytes 0 ≡ core_block core → part UUID_PLACE UUID_BYTES bytes ≡ core.uuid
uuid_is bytes core whole is =
    sym (parts_of_front_stay BLOCK_BYTES UUID_PLACE UUID_BYTES bytes (omega arith))
    ∙ ap (part UUID_PLACE UUID_BYTES) is
    ∙ sym (parts_of_front_stay CORE_BYTES UUID_PLACE UUID_BYTES (core_block core) (omega arith))
    ∙ ap (part UUID_PLACE UUID_BYTES) (take-core_block core)
    ∙ core_uuid core whole

-- the core's own block is no core of this file
pub core_refused : (file : ℕ) (uuid bytes front : List ℕ) (fault : HeaderFault) → front ≡ take BLOCK_BYTES bytes → fault.block ≡ first_of_file file
    → NamesCoreBlockField front (core_in (take CORE_BYTES front) file uuid) fault.field
    → ((v : Core) → IsCore v → v.ino ≡ FIRST_INODE + file → v.uuid ≡ uuid → front ≡ core_block v → ⊥)
    → RefusesFile file uuid (blocks_in FILE_BLOCKS bytes) (Header fault)
core_refused file uuid bytes front fault is_front place named never =
    let zero : front ≡ get_or (blocks_in FILE_BLOCKS bytes) 0 [] = is_front ∙ sym (first_block_is_front 7 bytes) in (
      place,
      inl (record {
        none = λ has. never (core_of_blocks file uuid (blocks_in FILE_BLOCKS bytes)) has.valid refl refl (zero ∙ has.core);
        named = subst (λ (bs : List ℕ). NamesCoreBlockField bs (core_in (take CORE_BYTES bs) file uuid) fault.field) zero named;
      }),
    )

-- it is one: the overlay is the pool that the blocks are
module _ (file : ℕ) (uuid bytes front : List ℕ) (core : Core) (known : file < FILES) (long : length uuid ≡ UUID_BYTES)
    (room : length bytes ≡ FILE_BLOCKS * BLOCK_BYTES) (is_front : front ≡ take BLOCK_BYTES bytes)
    (right : IsCore core × (core.ino ≡ FIRST_INODE + file) × (core.uuid ≡ uuid) × (front ≡ core_block core)) where
  abbrev blocks : List (List ℕ)
  blocks = blocks_in FILE_BLOCKS bytes

  zero_read : get_or blocks 0 [] ≡ core_block core
  zero_read = first_block_is_front 7 bytes ∙ sym is_front ∙ right.3

  whole_uuid : length core.uuid ≡ UUID_BYTES
  whole_uuid = ap length right.2 ∙ long

  core_read : core_of_blocks file uuid blocks ≡ core
  core_read =
      ap (λ (bs : List ℕ). core_in (take CORE_BYTES bs) file uuid) zero_read
      ∙ ap (core_in (take CORE_BYTES (core_block core)) file) (sym right.2)
      ∙ core_in-core_block core file right.0 whole_uuid right.1

  pub is_opened : (b : Blocks) (free : ℕ) → free ≡ core.free → b ≡ opened (first_of_file file) bytes (free ∷ []) → IsOpened file uuid bytes b core
  is_opened b free same over =
      let count : length bytes / BLOCK_BYTES ≡ FILE_BLOCKS = omega (arith, room) in
      record {
        over = over
            ∙ pool_same (blocks_in (length bytes / BLOCK_BYTES) bytes) blocks _ _ _ _ _ _ _ _ (ap (λ (n : ℕ). blocks_in n bytes) count)
            (ap (λ (n : ℕ). n ∷ []) (same ∙ ap (λ (c : Core). c.free) (sym core_read))) refl (owner_is file known)
            (uuid_is bytes core whole_uuid (sym is_front ∙ right.3) ∙ right.2);
        core_is = sym core_read;
        has_core = record { valid = subst IsCore (sym core_read) right.0; core = zero_read ∙ ap core_block (sym core_read) };
        long = long;
      }

-- a refusal of the overlay and its core is one of the blocks
pub refuses_file : (file : ℕ) (uuid bytes : List ℕ) (b : Blocks) (core : Core) (fault : OpenFault) → IsOpened file uuid bytes b core
    → RefusesOpened b core fault → RefusesFile file uuid (blocks_in FILE_BLOCKS bytes) fault
refuses_file file uuid bytes b core NoMemory made refused = tt
refuses_file file uuid bytes b core (Tree fault) made refused =
    let is : RefusesOpened (pool_of_blocks file uuid (blocks_in FILE_BLOCKS bytes)) (core_of_blocks file uuid (blocks_in FILE_BLOCKS bytes)) (Tree fault) =
    subst (λ (c : Core). RefusesOpened (pool_of_blocks file uuid (blocks_in FILE_BLOCKS bytes)) c (Tree fault)) made.core_is
    (subst (λ (a : Blocks). RefusesOpened a core (Tree fault)) made.over refused) in
    record { core = made.has_core; none = is.0; named = is.1 }
refuses_file file uuid bytes b core (Header fault) made refused =
    let is : RefusesOpened (pool_of_blocks file uuid (blocks_in FILE_BLOCKS bytes)) (core_of_blocks file uuid (blocks_in FILE_BLOCKS bytes)) (Header fault) =
    subst (λ (c : Core). RefusesOpened (pool_of_blocks file uuid (blocks_in FILE_BLOCKS bytes)) c (Header fault)) made.core_is
    (subst (λ (a : Blocks). RefusesOpened a core (Header fault)) made.over refused) in
    (is.0, inr (record { core = made.has_core; tree = is.1; none = is.2; named = is.3 }))

-- an overlay that was opened is a file's, as it is now and as it is kept
pool_file : (file : ℕ) (uuid : List ℕ) (blocks : List (List ℕ)) → HasCore file uuid blocks → length uuid ≡ UUID_BYTES
    → IsFileTree (pool_of_blocks file uuid blocks) (root_of_blocks file uuid blocks) → HasFile file uuid (pool_of_blocks file uuid blocks) (root_of_blocks file uuid blocks)
pool_file file uuid bs has long tree = record {
  place = record { first = refl; owner = refl; uuid_kept = refl; long = long; map = refl; kept_map = refl };
  tree = tree;
  valid = has.valid;
  core = has.core;
}

module _ (file : ℕ) (uuid bytes : List ℕ) (b : Blocks) (core : Core) (t : Root) (made : IsOpened file uuid bytes b core) (root : t ≡ root_of_core core)
    (tree : IsFileTree b t) where
  abbrev pool : Blocks
  pool = pool_of_blocks file uuid (blocks_in FILE_BLOCKS bytes)

  abbrev top : Root
  top = root_of_blocks file uuid (blocks_in FILE_BLOCKS bytes)

  same_root : t ≡ top
  same_root = root ∙ ap root_of_core made.core_is

  pool_tree : IsFileTree pool top
  pool_tree = subst (λ (r : Root). IsFileTree pool r) same_root (subst (λ (a : Blocks). IsFileTree a t) made.over tree)

  pub opened_parts : AreWhole b.current → AreFileParts file uuid b t t
  opened_parts whole =
      let file_now = pool_file file uuid (blocks_in FILE_BLOCKS bytes) made.has_core made.long pool_tree in
      let whole_pool = subst (λ (a : Blocks). AreWhole a.current) made.over whole in
      let parts : AreFileParts file uuid pool top top = record { now_file = file_now; kept_file = file_now; kept_whole = whole_pool } in
      subst (λ (a : Blocks). AreFileParts file uuid a t t) (sym made.over) (subst (λ (r : Root). AreFileParts file uuid pool r r) (sym same_root) parts)

  pub opened_right : AreWhole b.current → IsFile file uuid (blocks_in FILE_BLOCKS bytes)
  opened_right whole = record { whole = subst (λ (a : Blocks). AreWhole a.current) made.over whole; core = made.has_core; tree = pool_tree }

  pub opened_view : file_state_of file uuid b ≡ opened_file file uuid bytes
  opened_view = ap (file_state_of file uuid) made.over ∙ ap (λ (ns : List ℕ). record (opened_file file uuid bytes) { changed = ns }) (none_changed (blocks_in FILE_BLOCKS bytes))

pub opened_size : (file : ℕ) (uuid bytes : List ℕ) (b : Blocks) (core : Core) → IsOpened file uuid bytes b core → pool_size b ≡ FILE_BLOCKS
opened_size file uuid bytes b core made = ap (λ (a : Blocks). pool_size a) made.over ∙ length-blocks_in FILE_BLOCKS bytes

-- what isn't free is marked, and just the tree's blocks are
pub marked_tree : (b : Blocks) (t : Root) (marks : List ℕ) → pool_size b ≡ FILE_BLOCKS → IsTree mapping_form b t
    → Marks (0 ∷ []) (blocks_of_tree mapping_form b t) marks → AreAllMarked b marks → IsFileTree b t
marked_tree b t marks size tree own all =
    let blocks : List ℕ = blocks_of_tree mapping_form b t in
    let just = marks_add_up (0 ∷ []) [] blocks marks (zeros_mark_none 1) own in
    record { mapping = tree; pool = size; used = (marks_are_used b blocks marks just).0 all }
