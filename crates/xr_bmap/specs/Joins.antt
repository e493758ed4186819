-- Of no public contract.
-- How extents become one, and what is left of one.
use Rattle.std.specs.Prelude.{◌≡◌, ◌≢◌, ◌⊎◌, ◌↔◌, ℕ, ◌+◌, ◌-◌, ◌<◌, ◌≤◌, true, IfSome, Option, Some}
use Rattle.xr_kinds.specs.Mapping.{is_mapping, mapping_form, runs_on}
use Rattle.xr_kinds.specs.declared.mapping.Mapping.{Mapping}

-- an extent that may come into a tree, alone or as one with another that it goes on
pub record MayJoinExtent (extents : Mapping → Type 0) (r : Mapping) (beside : Option Mapping) : Type 0 where
  pub good : is_mapping r ≡ true
  pub held : IfSome beside (λ x. extents x × (runs_on x r ≡ true))
  pub alone : (x : Mapping) → extents x → (beside ≡ Some x) ⊎ (mapping_form.agree x r ≡ true)

-- an extent with one that goes it on
abbrev pub joined_extents : Mapping → Mapping → Mapping
joined_extents x r = record { off = x.off; at = x.at; len = x.len + r.len }

-- so many offsets from one on are a part of an extent
pub record IsPartOfExtent (off len : ℕ) (whole : Mapping) : Type 0 where
  pub some : 0 < len
  pub from : whole.off ≤ off
  pub up_to : off + len ≤ whole.off + whole.len

-- the first offsets of an extent, and those behind a part of it
abbrev pub front_of_extent : Mapping → ℕ → Mapping
front_of_extent r len = record { off = r.off; at = r.at; len = len }

abbrev pub rest_of_extent : Mapping → ℕ → Mapping
rest_of_extent whole end = record { off = end; at = whole.at + (end - whole.off); len = whole.off + whole.len - end }

-- only the first offsets of an extent are left, or it is gone if there are none
abbrev pub ShortensExtent : (Mapping → Type 0) → Mapping → ℕ → (Mapping → Type 0) → Type 0
ShortensExtent before whole len after = (x : Mapping) → after x ↔ (((0 < len) × (x ≡ front_of_extent whole len)) ⊎ ((x ≢ whole) × before x))
