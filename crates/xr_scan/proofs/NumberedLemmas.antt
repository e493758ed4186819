-- The next id is above all that are named.
use Rattle.std.proofs.Common.{ℕ, ◌+◌, ◌<◌, ◌≤◌, max, Bool, true, false, if◌then◌else◌, List, [], ◌∷◌, All, arith}
use Rattle.std.specs.List.{AllByRecursion}
use Rattle.std.proofs.lemmas.List.Elements.{All-cons, All-nil}
use Rattle.xr_items.specs.declared.item.Item.{Item}
use Rattle.xr_items.specs.declared.item.Item.TheVariants.{Buf, Inode, Begin, Done}
use Rattle.xr_items.specs.declared.layout.TheConstants.{IDS}
use Rattle.xr_items.specs.Valid.{IsItem}
use Rattle.xr_commit.specs.declared.pending.Pending.{Pending}
use Rattle.xr_commit.specs.GoodItems.{ItemsAreGood, last_after}
use Rattle.xr_commit.specs.LoggedItems.{Logged}
use Rattle.xr_commit.specs.Pending.{is_done, pending}
use Rattle.xr_scan.specs.LoggedEntries.{logged_items}
use Rattle.xr_scan.specs.NextId.{next_id}
use Rattle.xr_scan.specs.Numbered.{IsLoggable}
use Rattle.xr_scan.specs.NumberedLaws.{NextIsAbove}
use Rattle.xr_scan.proofs.PendingOrderLemmas.{pending_rise}

abbrev IsBelow : ℕ → Pending → Type 0
IsBelow next p = p.id < next

-- the same without the order, which rests on the items before
record AreBelow (next : ℕ) (works : List Pending) : Type 0 where
  pub from : 1 ≤ next
  pub to : next ≤ IDS
  pub loggable : All IsLoggable works
  pub below : All (IsBelow next) works

higher : (m n : ℕ) (works : List Pending) → m ≤ n → n ≤ IDS → AreBelow m works → AreBelow n works
higher m n works le most are = let f = are.from in record {
  from = omega (arith, f, le);
  to = most;
  loggable = are.loggable;
  below = λ k d here. let h = are.below k d here in omega (arith, h, le);
}

one_more : (id next : ℕ) (works : List Pending) → 1 ≤ id → id < IDS → AreBelow next works → AreBelow (max (id + 1) next) works
one_more id next works some small are = let t = are.to in higher next (max (id + 1) next) works (omega arith) (omega (arith, small, t)) are

are_below : (items : List Item) → AllByRecursion IsItem items → AreBelow (next_id items) (pending items)
are_below [] valid = record { from = omega arith; to = omega arith; loggable = All-nil IsLoggable; below = All-nil (IsBelow 1) }
are_below (Buf sector ∷ items) valid = are_below items valid.1
are_below (Inode ino ∷ items) valid = are_below items valid.1
are_below (Done id of ∷ items) valid = one_more id (next_id items) (pending items) valid.0.0.0 valid.0.0.1 (are_below items valid.1)
are_below (Begin id work ∷ items) valid = step (is_done id work items) (one_more id (next_id items) (pending items) valid.0.0.0 valid.0.0.1 (are_below items valid.1)) where
  step : (b : Bool) → AreBelow (max (id + 1) (next_id items)) (pending items)
      → AreBelow (max (id + 1) (next_id items)) (if b then pending items else (record { id = id; work = work } ∷ pending items))
  step true are = are
  step false are = record {
    from = are.from;
    to = are.to;
    loggable = All-cons IsLoggable _ _ valid.0 are.loggable;
    below = All-cons (IsBelow (max (id + 1) (next_id items))) _ _ (omega arith) are.below;
  }

pub all_valid : (uuid : List ℕ) (last : ℕ) (ls : List Logged) → ItemsAreGood uuid last ls → AllByRecursion IsItem (logged_items ls)
all_valid uuid last [] good = tt
all_valid uuid last (l ∷ ls) good = (good.0.valid, all_valid uuid (last_after last l.item) ls good.1)

pub next_is_above : NextIsAbove
next_is_above uuid ls good =
    let are = are_below (logged_items ls) (all_valid uuid 0 ls good) in
    record { from = are.from; to = are.to; loggable = are.loggable; rise = pending_rise uuid ls good; below = are.below }
