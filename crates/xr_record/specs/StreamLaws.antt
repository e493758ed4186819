-- That a stream is read in one way.
use Rattle.std.specs.Prelude.{◌≡◌, ℕ, List}
use Rattle.xr_record.specs.declared.rules.OpKind.{OpKind}
use Rattle.xr_record.specs.Rules.{IsBad, IsStream}
use Rattle.xr_record.specs.Stream.{Open, Piece}

-- two readings of one stream are one
abbrev pub IsOneReading : Type 0
IsOneReading = (bytes : List ℕ) (pieces others : List Piece) (o p : Open) (rest tail : List ℕ) → IsStream bytes pieces o rest → IsStream bytes others p tail
    → (pieces ≡ others) × (o ≡ p) × (rest ≡ tail)

-- no stream is both right and bad
abbrev pub IsGoodOrBad : Type 0
IsGoodOrBad = (bytes : List ℕ) (pieces : List Piece) (o : Open) (rest : List ℕ) (place : ℕ) (kind : OpKind) → IsStream bytes pieces o rest → IsBad bytes place kind → ⊥

-- and a bad one is bad at one place in one way
abbrev pub IsBadInOneWay : Type 0
IsBadInOneWay = (bytes : List ℕ) (place other : ℕ) (kind another : OpKind) → IsBad bytes place kind → IsBad bytes other another → (place ≡ other) × (kind ≡ another)
