-- A fault has a cause: the object that failed counted it.
use Rattle.std.specs.Prelude.{◌≡◌, ℕ, ◌+◌, ◌-◌, ◌^◌, ◌≤◌, min, Result, OnOk, OnErr}

-- the count rose, or stands at its last value
abbrev pub Rose : ℕ → ℕ → Type 0
Rose before after = min (before + 1) (2 ^ 64 - 1) ≤ after

-- the count never falls, after a fault it rose, and after Ok it is the same
pub record HasCause {T E : Type 0} (r : Result T E) (before after : ℕ) : Type 0 where
  pub kept : before ≤ after
  pub cause : OnErr r (Rose before after)
  pub uncounted : OnOk r (after ≡ before)
