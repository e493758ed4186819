-- Items as bytes.
use Rattle.std.specs.Prelude.{ℕ, ◌+◌, List, [], ◌∷◌}
use Rattle.xr_base.specs.declared.address.Run.{Run}
use Rattle.xr_base.specs.declared.geometry.TheConstants.{BLOCK_BYTES, FIRST_INODE, BLOCK_SECTORS}
use Rattle.xr_headers.specs.declared.layout.TheConstants.{CORE_BYTES}
use Rattle.xr_items.specs.declared.fields.Field.{Field}
use Rattle.xr_items.specs.declared.fields.Field.TheVariants.{Half, Word, Long}
use Rattle.xr_items.specs.declared.layout.TheConstants.{BUF_TYPE, INODE_TYPE, EFI_TYPE, EFD_TYPE, RUI_TYPE, RUD_TYPE, CUI_TYPE, CUD_TYPE, BUI_TYPE, BUD_TYPE, XMI_TYPE, XMD_TYPE, WHOLE_BLOCK, BUF_BYTES, MAP_BYTES, RUN_BYTES, SHORT_BYTES, SWAP_BYTES, EXTENTS_PLACE}
use Rattle.xr_items.specs.declared.work.OwnKind.{OwnKind}
use Rattle.xr_items.specs.declared.work.OwnKind.TheVariants as own_kind
use Rattle.xr_items.specs.declared.work.CountKind.{CountKind}
use Rattle.xr_items.specs.declared.work.CountKind.TheVariants.{Increase, Decrease, AllocCow, FreeCow}
use Rattle.xr_items.specs.declared.work.MapKind.{MapKind}
use Rattle.xr_items.specs.declared.work.MapKind.TheVariants as map_kind
use Rattle.xr_items.specs.declared.work.Work.{Work}
use Rattle.xr_items.specs.declared.work.Work.TheVariants.{Free, Own, Count, Map, Swap}
use Rattle.xr_items.specs.declared.item.Item.{Item}
use Rattle.xr_items.specs.declared.item.Item.TheVariants.{Buf, Inode, Begin, Done}
use Rattle.xr_items.specs.declared.item.DoneOf.{DoneOf}
use Rattle.xr_items.specs.declared.item.DoneOf.TheVariants.{Efd, Rud, Cud, Bud, Xmd}
use Rattle.xr_items.specs.declared.item.ItemKind.{ItemKind}
use Rattle.xr_items.specs.declared.item.ItemKind.TheVariants as item_kind
use Rattle.xr_items.specs.Fields.{AreFields, bytes_of_fields}

-- the numbers of the kinds of work
abbrev pub own_code : OwnKind → ℕ
own_code own_kind.MapShared = 2
own_code own_kind.UnmapShared = 4
own_code own_kind.Alloc = 7
own_code own_kind.Free = 8

abbrev pub count_code : CountKind → ℕ
count_code Increase = 1
count_code Decrease = 2
count_code AllocCow = 3
count_code FreeCow = 4

abbrev pub map_code : MapKind → ℕ
map_code map_kind.Map = 1
map_code map_kind.Unmap = 2

-- the kind of an item
abbrev pub kind_of_work : Work → ItemKind
kind_of_work (Free run) = item_kind.Efi
kind_of_work (Own kind owner off run) = item_kind.Rui
kind_of_work (Count kind run) = item_kind.Cui
kind_of_work (Map kind file off run) = item_kind.Bui
kind_of_work (Swap file off other other_off len) = item_kind.Xmi

abbrev pub kind_of_done : DoneOf → ItemKind
kind_of_done (Efd run) = item_kind.Efd
kind_of_done Rud = item_kind.Rud
kind_of_done Cud = item_kind.Cud
kind_of_done Bud = item_kind.Bud
kind_of_done Xmd = item_kind.Xmd

abbrev pub kind_of : Item → ItemKind
kind_of (Buf sector) = item_kind.Buf
kind_of (Inode ino) = item_kind.Inode
kind_of (Begin id work) = kind_of_work work
kind_of (Done id done) = kind_of_done done

-- the type of a kind of item, how many regions it has, and how long its format region is
abbrev pub type_code : ItemKind → ℕ
type_code item_kind.Buf = BUF_TYPE
type_code item_kind.Inode = INODE_TYPE
type_code item_kind.Efi = EFI_TYPE
type_code item_kind.Efd = EFD_TYPE
type_code item_kind.Rui = RUI_TYPE
type_code item_kind.Rud = RUD_TYPE
type_code item_kind.Cui = CUI_TYPE
type_code item_kind.Cud = CUD_TYPE
type_code item_kind.Bui = BUI_TYPE
type_code item_kind.Bud = BUD_TYPE
type_code item_kind.Xmi = XMI_TYPE
type_code item_kind.Xmd = XMD_TYPE

abbrev pub regions_of : ItemKind → ℕ
regions_of item_kind.Buf = 2
regions_of item_kind.Inode = 2
regions_of _ = 1

abbrev pub length_of : ItemKind → ℕ
length_of item_kind.Buf = BUF_BYTES
length_of item_kind.Efi = RUN_BYTES
length_of item_kind.Efd = RUN_BYTES
length_of item_kind.Cui = RUN_BYTES
length_of item_kind.Rui = MAP_BYTES
length_of item_kind.Bui = MAP_BYTES
length_of item_kind.Xmi = SWAP_BYTES
length_of _ = SHORT_BYTES

-- what stands after type and regions: zeros and a number; or one extent, of a run; or one extent, of a mapped run
abbrev pub short_body : ℕ → List Field
short_body n = Word 0 ∷ Long n ∷ []

abbrev pub run_body : ℕ → Run → ℕ → List Field
run_body id run flags = Word 1 ∷ Long id ∷ Long run.start.0 ∷ Word run.len ∷ Word flags ∷ []

abbrev pub mapping_body : ℕ → ℕ → ℕ → Run → ℕ → List Field
mapping_body id owner off run flags =
    Word 1 ∷ Long id ∷ Long owner ∷ Long run.start.0 ∷ Long off ∷ Word run.len ∷ Word flags ∷ []

abbrev pub work_body : ℕ → Work → List Field
work_body id (Free run) = run_body id run 0
work_body id (Own kind owner off run) = mapping_body id owner off run (own_code kind)
work_body id (Count kind run) = run_body id run (count_code kind)
work_body id (Map kind file off run) = mapping_body id (FIRST_INODE + file.0) off run (map_code kind)
work_body id (Swap file off other other_off len) =
    Word 0 ∷ Long id ∷ Long (FIRST_INODE + file.0) ∷ Long (FIRST_INODE + other.0) ∷ Long off ∷ Long other_off ∷ Long len ∷ []

abbrev pub done_body : ℕ → DoneOf → List Field
done_body id (Efd run) = run_body id run 0
done_body id _ = short_body id

abbrev pub item_body : Item → List Field
item_body (Buf sector) = Half 0 ∷ Half BLOCK_SECTORS ∷ Long sector ∷ Word 1 ∷ Word WHOLE_BLOCK ∷ []
item_body (Inode ino) = short_body ino
item_body (Begin id work) = work_body id work
item_body (Done id done) = done_body id done

-- these fields stand after type and number of regions
abbrev pub HoldsBody : List Field → List ℕ → Type 0
HoldsBody fields bytes = AreFields fields EXTENTS_PLACE bytes

-- an item's format region
abbrev pub item_fields : Item → List Field
item_fields item = Half (type_code (kind_of item)) ∷ Half (regions_of (kind_of item)) ∷ item_body item

abbrev pub item_bytes : Item → List ℕ
item_bytes item = bytes_of_fields (item_fields item)

-- the length of the region that follows
abbrev pub following : Item → ℕ
following (Buf sector) = BLOCK_BYTES
following (Inode ino) = CORE_BYTES
following _ = 0
