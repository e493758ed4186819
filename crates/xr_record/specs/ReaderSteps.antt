-- What an operation makes of what is open, and what a piece adds to what was read; of no public contract.
use Rattle.std.specs.Prelude.{ℕ, List, [], ◌∷◌, ◌++◌, drop}
use Rattle.byteorder.specs.Endian.{little_number}
use Rattle.xr_record.specs.declared.entry.Entry.{Entry}
use Rattle.xr_record.specs.declared.entry.Entry.TheVariants as seen
use Rattle.xr_record.specs.declared.fault.FeedFault.{FeedFault}
use Rattle.xr_record.specs.declared.layout.TheConstants.{TRANSACTION_COUNT_PLACE}
use Rattle.xr_record.specs.declared.operation.Sort.{Sort}
use Rattle.xr_record.specs.declared.operation.Sort.TheVariants.{First, Last, Commit, Unmount}
use Rattle.xr_record.specs.Reading.{IsFaultOf}
use Rattle.xr_record.specs.Rules.{AtEntry, AtHeader, AtPart, AtRegion, ReaderState, ReadsTo, Phase}

-- what an operation with a right header and body makes of what is open
abbrev pub goes_on : Phase → Sort → ℕ → List ℕ → List Entry × Phase
goes_on AtEntry Unmount tid body = (seen.Unmount ∷ [], AtEntry)
goes_on AtEntry sort tid body = ([], AtHeader tid)
goes_on (AtHeader own) sort tid body = ([], AtRegion own (little_number 4 (drop TRANSACTION_COUNT_PLACE body)) [])
goes_on (AtRegion own count regions) Commit tid body = (seen.Trans own regions ∷ [], AtEntry)
goes_on (AtRegion own count regions) First tid body = ([], AtPart own count regions body)
goes_on (AtRegion own count regions) sort tid body = ([], AtRegion own count (regions ++ body ∷ []))
goes_on (AtPart own count regions part) Last tid body = ([], AtRegion own count (regions ++ (part ++ body) ∷ []))
goes_on (AtPart own count regions part) sort tid body = ([], AtPart own count regions (part ++ body))

-- whatever the bytes and the entries so far, these bytes add these entries
abbrev pub TakesOn : ReaderState → ReaderState → List ℕ → List Entry → Type 0
TakesOn old new taken entries =
    (before : List ℕ) (es : List Entry) → ReadsTo before es old → ReadsTo (before ++ taken) (es ++ entries) new

-- whatever the bytes so far, with these they are bad in this way
abbrev pub FailsOn : ReaderState → List ℕ → FeedFault → Type 0
FailsOn old taken fault = (before : List ℕ) (es : List Entry) → ReadsTo before es old → IsFaultOf (before ++ taken) fault
