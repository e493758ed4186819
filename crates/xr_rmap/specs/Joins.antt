-- Of no public contract.
-- How records of owners become one, and what is left of one.
use Rattle.std.specs.Prelude.{◌≡◌, ◌≢◌, ◌⊎◌, ◌↔◌, ℕ, ◌+◌, ◌-◌, ◌<◌, ◌≤◌, true, if◌then◌else◌, ◌==◌, IfSome, Option, Some, None}
use Rattle.xr_base.specs.declared.geometry.TheConstants.{OWN_COW}
use Rattle.xr_kinds.specs.Reverse.{is_reverse, reverse_form, reverse_span}
use Rattle.xr_kinds.specs.Spans.{end_of}
use Rattle.xr_kinds.specs.declared.reverse.Reverse.{Reverse}
use Rattle.xr_rmap.specs.Pairs.{leads_to, offset_after}

-- a record that may come into a tree, alone or as one with another that leads to it
pub record MayJoin (records : Reverse → Type 0) (r : Reverse) (beside : Option Reverse) : Type 0 where
  pub good : is_reverse r ≡ true
  pub held : IfSome beside (λ x. records x × (leads_to x r ≡ true))
  pub alone : (x : Reverse) → records x → (beside ≡ Some x) ⊎ (reverse_form.agree x r ≡ true)

-- the offset of the block in front of a record that would lead to it, if there is one
abbrev pub offset_in_front : Reverse → Option ℕ
offset_in_front r = if r.owner == OWN_COW then Some 0 else (if r.off == 0 then None else Some (r.off - 1))

-- all pairs of a record are those of another, and it has one
pub record IsPartOf (part whole : Reverse) : Type 0 where
  pub some : 0 < part.len
  pub same_owner : part.owner ≡ whole.owner
  pub from : whole.start ≤ part.start
  pub up_to : end_of (reverse_span part) ≤ end_of (reverse_span whole)
  pub at : (if whole.owner == OWN_COW then part.off == 0 else part.off + whole.start == whole.off + part.start) ≡ true

-- the first blocks of a record, and those behind a part of it
abbrev pub record_front : Reverse → ℕ → Reverse
record_front r len = record { start = r.start; len = len; owner = r.owner; off = r.off }

abbrev pub rest_after : Reverse → Reverse → Reverse
rest_after whole part = record {
  start = part.start + part.len;
  len = whole.start + whole.len - (part.start + part.len);
  owner = part.owner;
  off = offset_after part;
}

-- only the first blocks of a record are left, or it is gone if there are none
abbrev pub Shortens : (Reverse → Type 0) → Reverse → ℕ → (Reverse → Type 0) → Type 0
Shortens before whole len after = (x : Reverse) → after x ↔ (((0 < len) × (x ≡ record_front whole len)) ⊎ ((x ≢ whole) × before x))
