-- What lookups answer: the greatest or the least of the records that are wanted.
use Rattle.std.specs.Prelude.{◌≡◌, ◌&&◌, Bool, true, false, not, Option, Some, None, List}
use Rattle.std.specs.List.{All, Contains}
use Rattle.std.specs.Option.{MatchOption}
use Rattle.std.specs.Ordering.{is_gt, is_le, is_lt}
use Rattle.xr_block.specs.declared.bound.Bound.{Bound}
use Rattle.xr_block.specs.declared.bound.Bound.TheVariants.{After, Start}
use Rattle.xr_lookup.specs.declared.lookup.Wanted.{Wanted}
use Rattle.xr_block.specs.Bounds.{is_before}
use Rattle.xr_kinds.specs.Form.{Form}

-- which records aren't above one, and which aren't below it
abbrev pub up_to : {X : Type 0} → Form X → X → X → Bool
up_to form r x = is_le (form.order x r)

abbrev pub from : {X : Type 0} → Form X → X → X → Bool
from form r x = not (is_lt (form.order x r))

-- which records meet one, and are above another if that is given
abbrev pub is_after : {X : Type 0} → Form X → Option X → X → Bool
is_after form None x = true
is_after form (Some r) x = not (is_le (form.order x r))

abbrev pub overlaps : {X : Type 0} → Form X → X → Option X → X → Bool
overlaps form r after x = form.meet x r && is_after form after x

-- of the records that are wanted this is one, and none is above it, or below it
pub record IsGreatest {X : Type 0} (form : Form X) (records : List X) (wanted : X → Bool) (x : X) : Type 0 where
  pub held : Contains records x
  pub fits : wanted x ≡ true
  pub greatest : All (λ (y : X). wanted y ≡ true → is_gt (form.order y x) ≡ false) records

pub record IsLeast {X : Type 0} (form : Form X) (records : List X) (wanted : X → Bool) (x : X) : Type 0 where
  pub held : Contains records x
  pub fits : wanted x ≡ true
  pub least : All (λ (y : X). wanted y ≡ true → is_lt (form.order y x) ≡ false) records

abbrev pub AreUnwanted : {X : Type 0} → (X → Bool) → List X → Type 0
AreUnwanted wanted records = All (λ x. wanted x ≡ false) records

-- the greatest or the least record that is wanted, and none exactly where there is none
abbrev pub FindsGreatest : {X : Type 0} → Form X → List X → (X → Bool) → Option X → Type 0
FindsGreatest form records wanted result = MatchOption result (AreUnwanted wanted records) (λ x. IsGreatest form records wanted x)

abbrev pub FindsLeast : {X : Type 0} → Form X → List X → (X → Bool) → Option X → Type 0
FindsLeast form records wanted result = MatchOption result (AreUnwanted wanted records) (λ x. IsLeast form records wanted x)

-- what a search from a place on takes
abbrev pub meets_given : {X : Type 0} → Form X → Option X → X → Bool
meets_given form None x = true
meets_given form (Some r) x = form.meet x r

abbrev pub is_wanted : {X : Type 0} → Form X → Wanted X → X → Bool
is_wanted form wanted x = meets_given form wanted.meeting x && not (is_before form wanted.from x)

-- the place after a record that is given
abbrev pub bound_after : {X : Type 0} → Option X → Bound X
bound_after None = Start
bound_after (Some r) = After r
