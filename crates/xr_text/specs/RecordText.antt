-- The printed text of records, a line each.
use Rattle.std.specs.Prelude.{ℕ, ◌-◌, ◌==◌, if◌then◌else◌, List, [], ◌∷◌, codes}
use Rattle.std.specs.Fmt.{decimal}
use Rattle.std.specs.List.{flat_map}
use Rattle.xr_base.specs.declared.address.Run.{Run}
use Rattle.xr_base.specs.declared.geometry.TheConstants.{FIRST_INODE, OWN_COW}
use Rattle.xr_maps.specs.declared.records.Extent.{Extent}
use Rattle.xr_maps.specs.declared.records.Rev.{Rev}
use Rattle.xr_maps.specs.declared.records.Counted.{Counted}
use Rattle.xr_text.specs.Text.{line_of}

-- an extent of a file
abbrev pub extent_line : ℕ → Extent → List ℕ
extent_line file e = line_of (codes "file") (decimal file ∷ decimal e.off ∷ decimal e.len ∷ decimal e.at.0 ∷ [])

-- a reverse mapping record of a file: its run, the number of the file, and the offset there
abbrev pub owned_line : Rev → List ℕ
owned_line r = line_of (codes "owner") (decimal r.run.start.0 ∷ decimal r.run.len ∷ decimal (r.owner - FIRST_INODE) ∷ decimal r.off ∷ [])

-- one of staged blocks, which no file owns yet
abbrev pub staged_owner_line : Rev → List ℕ
staged_owner_line r = line_of (codes "owner") (decimal r.run.start.0 ∷ decimal r.run.len ∷ codes "staging" ∷ [])

-- a reverse mapping record
abbrev pub owner_line : Rev → List ℕ
owner_line r = if r.owner == OWN_COW then staged_owner_line r else owned_line r

-- a reference count record of shared blocks: its run, and how many owners each block has
abbrev pub counted_line : Counted → List ℕ
counted_line r = line_of (codes "shared") (decimal r.run.start.0 ∷ decimal r.run.len ∷ decimal r.count ∷ [])

-- one of staged blocks
abbrev pub staged_line : Counted → List ℕ
staged_line r = line_of (codes "staging") (decimal r.run.start.0 ∷ decimal r.run.len ∷ [])

-- a reference count record
abbrev pub shared_line : Counted → List ℕ
shared_line r = if r.staged then staged_line r else counted_line r

-- a run of free blocks
abbrev pub free_line : Run → List ℕ
free_line r = line_of (codes "free") (decimal r.start.0 ∷ decimal r.len ∷ [])

-- a line each
abbrev pub extents_text : ℕ → List Extent → List ℕ
extents_text file extents = flat_map (extent_line file) extents

abbrev pub owners_text : List Rev → List ℕ
owners_text records = flat_map owner_line records

abbrev pub shared_text : List Counted → List ℕ
shared_text records = flat_map shared_line records

abbrev pub free_text : List Run → List ℕ
free_text runs = flat_map free_line runs
