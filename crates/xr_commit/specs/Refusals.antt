-- Why an image has no live stream, and the block that is named. A later layer is looked at only where the earlier ones
-- hold for the whole live stream: the superblock, the head, the chain back to the tail, the reserve after the head, the
-- unmounts, the operations, the items.
use Rattle.std.specs.Prelude.{◌≡◌, ◌⊎◌, ℕ, List, ◌∷◌, ◌++◌, All}
use Rattle.xr_base.specs.Fields.{AreBytes}
use Rattle.xr_base.specs.declared.geometry.TheConstants.{FIRST_LOG_BLOCK}
use Rattle.xr_record.specs.declared.head.Head.{Head}
use Rattle.xr_record.specs.declared.rules.OpKind.{OpKind}
use Rattle.xr_record.specs.declared.unsealing.SealFault.{SealFault}
use Rattle.xr_record.specs.declared.unsealing.SealFault.TheVariants as seal
use Rattle.xr_record.specs.Rules.{IsBad, IsStream}
use Rattle.xr_record.specs.Stream.{Piece, Open}
use Rattle.xr_commit.specs.declared.fault.ScanFault.{ScanFault}
use Rattle.xr_commit.specs.declared.fault.ScanFault.TheVariants.{Magic, Version, Length, Checksum, Place, Operation, Header, DiskFault, NoMemory}
use Rattle.xr_commit.specs.Chain.{IsLiveTrail, IsLost, NamesAstray, NamesNoRecord, NamesNoSector, HasReserve}
use Rattle.xr_commit.specs.Entries.{joined_bodies}
use Rattle.xr_commit.specs.BadItems.{BreaksItems}
use Rattle.xr_commit.specs.LogRecords.{HasNoRecord, HasSuper, IsHead, LogRecord, heads_of, home_of, log_of, log_block_of}
use Rattle.xr_commit.specs.Operations.{HoldsOperations, KeepsUnmounts}

-- what isn't a record, with the block where it would begin
abbrev pub fault_of : SealFault → ScanFault
fault_of (seal.Magic sector) = Magic (log_block_of sector)
fault_of (seal.Version sector) = Version (log_block_of sector)
fault_of (seal.Length sector) = Length (log_block_of sector)
fault_of (seal.Checksum sector) = Checksum (log_block_of sector)
fault_of (seal.Place sector) = Place (log_block_of sector)

-- the last record of the trail names none that may be followed
abbrev pub LeadsNowhere : List ℕ → List ℕ → Head → Head → ScanFault → Type 0
LeadsNowhere uuid log head last fault =
    (NamesNoSector last × (fault ≡ Place (home_of last)))
    ⊎ ((broken : SealFault) × NamesNoRecord log last broken × (fault ≡ fault_of broken))
    ⊎ (NamesAstray uuid log head.tail last × (fault ≡ Place (log_block_of last.prev)))

pub record BreaksChain (uuid log : List ℕ) (head : LogRecord) (fault : ScanFault) : Type 0 where
  pub last : LogRecord
  pub lost : IsLost uuid log head last
  pub nowhere : LeadsNowhere uuid log head.head last.head fault

-- the first record in log order that doesn't have P, where those before it do
pub record IsFirstWithout (P : LogRecord → Type 0) (records : List LogRecord) (r : LogRecord) : Type 0 where
  pub before : List LogRecord
  pub after : List LogRecord
  pub records_are : records ≡ before ++ r ∷ after
  pub each : All P before
  pub lacks : P r → ⊥

pub record BreaksUnmounts (records : List LogRecord) (fault : ScanFault) : Type 0 where
  pub r : LogRecord
  pub first : IsFirstWithout KeepsUnmounts records r
  pub named : fault ≡ Place (home_of r.head)

-- with this record's body the stream is no longer right: it isn't whole operations, as many as its header says, or one
-- of them breaks a rule
abbrev pub IsWrongAfter : List LogRecord → LogRecord → Type 0
IsWrongAfter before r = (HoldsOperations r → ⊥) ⊎ ((place : ℕ) × (kind : OpKind) × IsBad (joined_bodies before ++ r.body) place kind)

-- the first record in log order whose operations break a rule
pub record BreaksOperations (records : List LogRecord) (fault : ScanFault) : Type 0 where
  pub before : List LogRecord
  pub r : LogRecord
  pub after : List LogRecord
  pub records_are : records ≡ before ++ r ∷ after
  pub each : All HoldsOperations before
  pub pieces : List Piece
  pub o : Open
  pub rest : List ℕ
  pub stream : IsStream (joined_bodies before) pieces o rest
  pub wrong : IsWrongAfter before r
  pub named : fault ≡ Operation (home_of r.head)

-- the layers, from the last to the first
abbrev pub RefusesBodies : List ℕ → List LogRecord → ScanFault → Type 0
RefusesBodies uuid records fault =
    BreaksUnmounts records fault ⊎ (All KeepsUnmounts records × (BreaksOperations records fault ⊎ BreaksItems uuid records fault))

abbrev pub RefusesLiveRecords : List ℕ → Head → List LogRecord → ScanFault → Type 0
RefusesLiveRecords uuid head records fault =
    ((HasReserve head (heads_of records) → ⊥) × (fault ≡ Length (home_of head))) ⊎ (HasReserve head (heads_of records) × RefusesBodies uuid records fault)

abbrev pub RefusesHead : List ℕ → List ℕ → LogRecord → ScanFault → Type 0
RefusesHead uuid log head fault =
    BreaksChain uuid log head fault ⊎ ((records : List LogRecord) × IsLiveTrail uuid log head records × RefusesLiveRecords uuid head.head records fault)

abbrev pub RefusesLog : List ℕ → List ℕ → ScanFault → Type 0
RefusesLog uuid log fault =
    (HasNoRecord uuid log × (fault ≡ Magic FIRST_LOG_BLOCK)) ⊎ ((head : LogRecord) × IsHead uuid log head × RefusesHead uuid log head fault)

abbrev pub HasNoSuper : List ℕ → Type 0
HasNoSuper image = (uuid : List ℕ) → HasSuper image uuid → ⊥

-- an image without a superblock, or one whose log is bytes: such an image has one refusal at most, and none with a live stream
abbrev pub IsReadable : List ℕ → Type 0
IsReadable image = HasNoSuper image ⊎ AreBytes (log_of image)

abbrev pub RefusesImage : List ℕ → ScanFault → Type 0
RefusesImage image fault =
    (HasNoSuper image × (fault ≡ Header 0)) ⊎ ((uuid : List ℕ) × HasSuper image uuid × RefusesLog uuid (log_of image) fault)

-- a refusal has its cause, but for want of memory
abbrev pub OrNoMemory : (ScanFault → Type 0) → ScanFault → Type 0
OrNoMemory P NoMemory = Unit {0}
OrNoMemory P fault = P fault

-- and for a fault of the disk
abbrev pub OrOutside : (ScanFault → Type 0) → ScanFault → Type 0
OrOutside P NoMemory = Unit {0}
OrOutside P (DiskFault faults) = Unit {0}
OrOutside P fault = P fault
