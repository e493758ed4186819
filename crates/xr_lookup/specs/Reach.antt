-- What the keys of a node say of the records under its children: a run that holds the blocks or offsets of each.
use Rattle.std.specs.Prelude.{◌≡◌, ◌-◌, ◌≤◌, ℕ, true, false, Option, Some, None, List, IfSome, min}
use Rattle.std.specs.Borrow.{Bor}
use Rattle.std.specs.Cmp.Lexicographic.{slice_cmp}
use Rattle.std.specs.Ordering.{is_gt, is_lt, nat_cmp}
use Rattle.std.specs.declared.cmp.Ordering.TheVariants.{Less}
use Rattle.xr_kinds.specs.declared.span.Span.{Span}
use Rattle.byteorder.specs.Endian.{big_number}
use Rattle.xr_base.specs.declared.geometry.TheConstants.{OFFSETS}
use Rattle.xr_kinds.specs.Form.{Form}
use Rattle.xr_kinds.specs.Spans.{span, end_of}

-- a valid record with a low key comes after this one, and the two may stand in one tree
pub record IsBeforeKey {X : Type 0} (form : Form X) (x : X) (key : List ℕ) : Type 0 where
  pub next : X
  pub valid : form.is_valid next ≡ true
  pub low : form.low_of next ≡ key
  pub less : form.order x next ≡ Less
  pub agrees : form.agree x next ≡ true

abbrev pub next_key : Option (Bor (List ℕ)) → Option (List ℕ)
next_key None = None
next_key (Some key) = Some key.now

-- a record that may stand under a child with this low and this high key, where the next child has that low key
pub record IsUnderKeys {X : Type 0} (form : Form X) (low high : List ℕ) (next : Option (List ℕ)) (x : X) : Type 0 where
  pub valid : form.is_valid x ≡ true
  pub from : is_lt (form.key_order x low) ≡ false
  pub up_to : is_gt (slice_cmp nat_cmp (form.high_of x) high) ≡ false
  pub before : IfSome next (λ key. IsBeforeKey form x key)

pub record IsInside (inner outer : Span) : Type 0 where
  pub from : outer.start ≤ inner.start
  pub below : end_of inner ≤ end_of outer

-- the numbers from one up to another
abbrev pub between : ℕ → ℕ → Span
between start end = span start (end - start)

-- the number that the next key begins with
abbrev pub next_start : Option (List ℕ) → ℕ → ℕ
next_start None end = end
next_start (Some key) end = big_number 4 key

abbrev pub offset_in : List ℕ → ℕ
offset_in key = min (big_number 8 key) OFFSETS

abbrev pub next_offset : Option (List ℕ) → ℕ
next_offset None = OFFSETS
next_offset (Some key) = offset_in key
