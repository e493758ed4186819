-- The printed text of a log: a line for each live record, then each entry with its items, then how many intents are
-- pending.
use Rattle.std.specs.Prelude.{ℕ, ◌+◌, List, [], ◌∷◌, ◌++◌, codes, length}
use Rattle.std.specs.Fmt.{decimal}
use Rattle.std.specs.List.{flat_map}
use Rattle.xr_base.specs.declared.address.FileNo.{FileNo}
use Rattle.xr_base.specs.declared.address.Run.{Run}
use Rattle.xr_base.specs.declared.geometry.TheConstants.{FIRST_INODE}
use Rattle.xr_items.specs.declared.item.DoneOf.{DoneOf}
use Rattle.xr_items.specs.declared.item.DoneOf.TheVariants.{Efd, Rud, Cud, Bud, Xmd}
use Rattle.xr_items.specs.declared.item.Item.{Item}
use Rattle.xr_items.specs.declared.item.Item.TheVariants.{Buf, Inode, Begin, Done}
use Rattle.xr_items.specs.declared.work.Work.{Work}
use Rattle.xr_items.specs.declared.work.Work.TheVariants.{Free, Own, Count, Map, Swap}
use Rattle.xr_items.specs.Items.{count_code, map_code, own_code}
use Rattle.xr_record.specs.declared.entry.Entry.{Entry}
use Rattle.xr_record.specs.declared.entry.Entry.TheVariants.{Trans, Unmount}
use Rattle.xr_record.specs.declared.head.Head.{Head}
use Rattle.xr_record.specs.declared.head.Lsn.{Lsn}
use Rattle.xr_text.specs.Text.{line_of}

-- a place in the log, with the cycle before the sector
abbrev pub place_word : Lsn → List ℕ
place_word lsn = decimal lsn.cycle ++ 58 ∷ decimal lsn.sector

-- a record: its place, that of its tail, the bytes of its body, and how many operations it has
abbrev pub head_line : Head → List ℕ
head_line h = line_of (codes "record") (place_word h.lsn ∷ place_word h.tail ∷ decimal h.len ∷ decimal h.ops ∷ [])

-- the inode number of a file
abbrev pub ino_of : FileNo → ℕ
ino_of file = FIRST_INODE + file.0

-- an intent on the blocks that an owner has from an offset on
abbrev pub mapping_line : List ℕ → ℕ → ℕ → ℕ → ℕ → Run → List ℕ
mapping_line name id kind owner off run =
    line_of name (decimal id ∷ decimal kind ∷ decimal owner ∷ decimal run.start.0 ∷ decimal off ∷ decimal run.len ∷ [])

-- an intent, by its name in XFS, where a kind of work stands as its number
abbrev pub work_line : ℕ → Work → List ℕ
work_line id (Free run) = line_of (codes "efi") (decimal id ∷ decimal run.start.0 ∷ decimal run.len ∷ [])
work_line id (Own kind owner off run) = mapping_line (codes "rui") id (own_code kind) owner off run
work_line id (Count kind run) = line_of (codes "cui") (decimal id ∷ decimal (count_code kind) ∷ decimal run.start.0 ∷ decimal run.len ∷ [])
work_line id (Map kind file off run) = mapping_line (codes "bui") id (map_code kind) (ino_of file) off run
work_line id (Swap file off other other_off len) =
    line_of (codes "xmi") (decimal id ∷ decimal (ino_of file) ∷ decimal off ∷ decimal (ino_of other) ∷ decimal other_off ∷ decimal len ∷ [])

-- an item that says that an intent is done
abbrev pub done_line : ℕ → DoneOf → List ℕ
done_line id (Efd run) = line_of (codes "efd") (decimal id ∷ [])
done_line id Rud = line_of (codes "rud") (decimal id ∷ [])
done_line id Cud = line_of (codes "cud") (decimal id ∷ [])
done_line id Bud = line_of (codes "bud") (decimal id ∷ [])
done_line id Xmd = line_of (codes "xmd") (decimal id ∷ [])

abbrev pub item_line : Item → List ℕ
item_line (Buf sector) = line_of (codes "buf") (decimal sector ∷ [])
item_line (Inode ino) = line_of (codes "inode") (decimal ino ∷ [])
item_line (Begin id work) = work_line id work
item_line (Done id done) = done_line id done

abbrev pub items_text : List Item → List ℕ
items_text items = flat_map item_line items

-- a transaction, with how many items it has
abbrev pub trans_line : ℕ → ℕ → List ℕ
trans_line tid items = line_of (codes "trans") (decimal tid ∷ decimal items ∷ [])

-- the mark of a clean unmount
abbrev pub unmount_line : List ℕ
unmount_line = line_of (codes "unmount") []

-- how many intents are pending
abbrev pub pending_line : ℕ → List ℕ
pending_line n = line_of (codes "pending") (decimal n ∷ [])

-- an entry, with its items
abbrev pub entry_text : Entry → List Item → List ℕ
entry_text (Trans tid regions) items = trans_line tid (length items) ++ items_text items
entry_text Unmount items = unmount_line

-- the entries, each with its own items
abbrev pub entries_text : List Entry → List (List Item) → List ℕ
entries_text [] items = []
entries_text (entry ∷ entries) [] = []
entries_text (entry ∷ entries) (items ∷ more) = entry_text entry items ++ entries_text entries more

abbrev pub heads_text : List Head → List ℕ
heads_text heads = flat_map head_line heads

-- the whole, where each entry has a list of items
abbrev pub log_text : List Head → List Entry → List (List Item) → ℕ → List ℕ
log_text heads entries items pending = heads_text heads ++ (entries_text entries items ++ pending_line pending)
