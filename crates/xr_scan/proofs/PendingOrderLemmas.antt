-- Pending works stand in the order of their ids.
use Rattle.std.proofs.Common.{ℕ, ◌<◌, ◌≤◌, Bool, true, false, if◌then◌else◌, List, [], ◌∷◌, All, arith}
use Rattle.std.specs.Prelude.{AllPairs}
use Rattle.std.proofs.lemmas.List.Elements.{All-cons, All-nil}
use Rattle.std.proofs.lemmas.List.Kept.{AllPairs-cons}
use Rattle.xr_items.specs.declared.item.Item.{Item}
use Rattle.xr_items.specs.declared.item.Item.TheVariants.{Buf, Inode, Begin, Done}
use Rattle.xr_commit.specs.declared.pending.Pending.{Pending}
use Rattle.xr_commit.specs.GoodItems.{ItemsAreGood, Rises, last_after}
use Rattle.xr_commit.specs.LoggedItems.{Logged}
use Rattle.xr_commit.specs.Pending.{is_done, pending}
use Rattle.xr_scan.specs.LoggedEntries.{logged_items}
use Rattle.xr_scan.specs.LoggedLaws.{PendingRise}

abbrev Above : ℕ → Pending → Type 0
Above last p = last < p.id

abbrev Below : Pending → Pending → Type 0
Below one two = one.id < two.id

record RiseFrom (last : ℕ) (works : List Pending) : Type 0 where
  pub above : All (Above last) works
  pub pairs : AllPairs Below works

weaker : (m n : ℕ) (works : List Pending) → m ≤ n → All (Above n) works → All (Above m) works
weaker m n works le all = λ k d below. let h = all k d below in omega (arith, h, le)

rise_step : (last : ℕ) (item : Item) (items : List Item) → Rises last item → RiseFrom (last_after last item) (pending items) → RiseFrom last (pending (item ∷ items))
rise_step last (Buf sector) items rises rest = record { above = rest.above; pairs = rest.pairs }
rise_step last (Inode ino) items rises rest = record { above = rest.above; pairs = rest.pairs }
rise_step last (Done id of) items rises rest = record { above = rest.above; pairs = rest.pairs }
rise_step last (Begin id work) items rises rest = step (is_done id work items) where
  all : All (Above last) (pending items)
  all = weaker last id (pending items) (omega (arith, rises)) rest.above

  step : (b : Bool) → RiseFrom last (if b then pending items else (record { id = id; work = work } ∷ pending items))
  step true = record { above = all; pairs = rest.pairs }
  step false = record { above = All-cons (Above last) _ _ rises all; pairs = AllPairs-cons Below _ _ rest.above rest.pairs }

rise_from : (uuid : List ℕ) (last : ℕ) (ls : List Logged) → ItemsAreGood uuid last ls → RiseFrom last (pending (logged_items ls))
rise_from uuid last [] good = record { above = All-nil (Above last); pairs = λ i j d less below. absurd (omega (arith, below)) }
rise_from uuid last (l ∷ ls) good = rise_step last l.item (logged_items ls) good.0.rises (rise_from uuid (last_after last l.item) ls good.1)

pub pending_rise : PendingRise
pending_rise uuid ls good = (rise_from uuid 0 ls good).pairs
