-- The lines that say how a command ended.
use Rattle.std.specs.Prelude.{ℕ, List, [], ◌∷◌, codes}
use Rattle.std.specs.Fmt.{decimal}
use Rattle.uuid.specs.Text.{hyphenated_text, lower}
use Rattle.xr_base.specs.declared.address.Addr.{Addr}
use Rattle.xr_base.specs.declared.address.GroupNo.{GroupNo}
use Rattle.xr_check.specs.declared.fault.Broken.{Broken}
use Rattle.xr_check.specs.declared.fault.Broken.TheVariants as broken
use Rattle.xr_check.specs.declared.verdict.TreeName.{TreeName}
use Rattle.xr_check.specs.declared.verdict.TreeName.TheVariants as named
use Rattle.xr_record.specs.declared.head.Lsn.{Lsn}
use Rattle.xr_text.specs.LogText.{place_word}
use Rattle.xr_text.specs.Text.{line_of}

-- the words of the command line are no command's
abbrev pub words_text : List ℕ
words_text = line_of (codes "words") []

-- the first bad line of a script has this number
abbrev pub bad_line_text : ℕ → List ℕ
bad_line_text n = line_of (codes "line") (decimal n ∷ [])

-- the source failed
abbrev pub source_text : List ℕ
source_text = line_of (codes "source") []

-- the disk failed
abbrev pub disk_text : List ℕ
disk_text = line_of (codes "disk") []

-- a block breaks the rule with this number
abbrev pub foreign_text : ℕ → ℕ → List ℕ
foreign_text block why = line_of (codes "foreign") (decimal block ∷ decimal why ∷ [])

-- the number of each rule
abbrev pub number_of_rule : Broken → ℕ
number_of_rule broken.Magic = 3
number_of_rule broken.Version = 4
number_of_rule broken.Length = 5
number_of_rule broken.Checksum = 6
number_of_rule broken.Place = 7
number_of_rule broken.Operation = 8
number_of_rule broken.ItemType = 9
number_of_rule broken.Size = 10
number_of_rule broken.Field = 11
number_of_rule broken.Header = 12
number_of_rule broken.Tree = 13
number_of_rule broken.Debt = 23

-- an image was made with this identifier
abbrev pub made_text : List ℕ → List ℕ
made_text uuid = line_of (codes "made") (hyphenated_text lower uuid ∷ [])

-- each tree holds what is defined
abbrev pub sound_text : List ℕ
sound_text = line_of (codes "sound") []

abbrev pub name_of_tree : TreeName → List ℕ
name_of_tree named.Owners = codes "owners"
name_of_tree named.Shared = codes "shared"
name_of_tree named.Free = codes "free"
name_of_tree named.Sizes = codes "sizes"

-- this tree is the first that doesn't
abbrev pub differs_text : TreeName → GroupNo → Addr → List ℕ
differs_text name group key = line_of (codes "differs") (name_of_tree name ∷ codes "group" ∷ decimal group.0 ∷ codes "key" ∷ decimal key.0 ∷ [])

-- the newest record is no unmount
abbrev pub dirty_text : Lsn → List ℕ
dirty_text lsn = line_of (codes "dirty") (place_word lsn ∷ [])

-- want of memory
abbrev pub memory_text : List ℕ
memory_text = line_of (codes "memory") []
