-- The next id is above all that a live stream's items name. And that works are numbered has one proof at most, so that a scan may keep it.
use Rattle.std.specs.Prelude.{◌⊎◌, ℕ, ◌+◌, ◌≤◌, List}
use Rattle.std.specs.Coded.{le_prop}
use Rattle.std.proofs.Common.{inl, inr, ap, arith}
use Rattle.std.proofs.Props.{props}
use Rattle.xr_base.specs.Address.{IsData, IsGoodRun}
use Rattle.xr_base.specs.declared.address.Addr.{Addr}
use Rattle.xr_base.specs.declared.address.FileNo.{FileNo}
use Rattle.xr_base.specs.declared.address.Run.{Run}
use Rattle.xr_items.specs.declared.work.OwnKind.{OwnKind}
use Rattle.xr_items.specs.declared.work.OwnKind.TheVariants as own_kind
use Rattle.xr_items.specs.declared.work.Work.{Work}
use Rattle.xr_items.specs.declared.work.Work.TheVariants.{Free, Own, Count, Map, Swap}
use Rattle.xr_items.specs.Valid.{IsSwap, IsWork, SuitsOwner}
use Rattle.xr_commit.specs.declared.pending.Pending.{Pending}
use Rattle.xr_commit.specs.GoodItems.{ItemsAreGood}
use Rattle.xr_commit.specs.LoggedItems.{Logged}
use Rattle.xr_commit.specs.Pending.{pending}
use Rattle.xr_scan.specs.LoggedEntries.{logged_items}
use Rattle.xr_scan.specs.Numbered.{AreNumbered, IsLoggable}
use Rattle.xr_scan.specs.NextId.{next_id}

abbrev pub NextIsAbove : Type 0
NextIsAbove = (uuid : List ℕ) (logged : List Logged) → ItemsAreGood uuid 0 logged → AreNumbered (next_id (logged_items logged)) (pending (logged_items logged))

Data-prop : (a : Addr) → IsProp (IsData a)
Data-prop a = λ x y. λ i. record { group = le_prop x.group y.group i; block = le_prop x.block y.block i }

GoodRun-prop : (r : Run) → IsProp (IsGoodRun r)
GoodRun-prop r = Prim.hlevel (props, Data-prop)

Suits-prop : (kind : OwnKind) (owner : ℕ) → IsProp (SuitsOwner kind owner)
Suits-prop own_kind.MapShared owner = Prim.hlevel props
Suits-prop own_kind.UnmapShared owner = Prim.hlevel props
Suits-prop own_kind.Alloc owner = Prim.hlevel props
Suits-prop own_kind.Free owner = Prim.hlevel props

-- one of two ranges of some blocks is before the other
before-prop : (a b len : ℕ) → 1 ≤ len → IsProp ((a + len ≤ b) ⊎ (b + len ≤ a))
before-prop a b len some (inl p) (inl q) = ap inl (le_prop p q)
before-prop a b len some (inl p) (inr q) = absurd (omega (arith, some, p, q))
before-prop a b len some (inr p) (inl q) = absurd (omega (arith, some, p, q))
before-prop a b len some (inr p) (inr q) = ap inr (le_prop p q)

Swap-prop : (file : FileNo) (off : ℕ) (other : FileNo) (other_off len : ℕ) → IsProp (IsSwap file off other other_off len)
Swap-prop file off other other_off len x y = λ i. record {
  first_file = le_prop x.first_file y.first_file i;
  second_file = le_prop x.second_file y.second_file i;
  some = le_prop x.some y.some i;
  first_range = le_prop x.first_range y.first_range i;
  second_range = le_prop x.second_range y.second_range i;
  apart = λ same. before-prop off other_off len x.some (x.apart same) (y.apart same) i;
}

Work-prop : (work : Work) → IsProp (IsWork work)
Work-prop (Free run) = GoodRun-prop run
Work-prop (Own kind owner off run) = Prim.hlevel (props, GoodRun-prop, Suits-prop)
Work-prop (Count kind run) = GoodRun-prop run
Work-prop (Map kind file off run) = Prim.hlevel (props, GoodRun-prop)
Work-prop (Swap file off other other_off len) = Swap-prop file off other other_off len

Loggable-prop : (p : Pending) → IsProp (IsLoggable p)
Loggable-prop p = Prim.hlevel (props, Work-prop)

pub AreNumbered-prop : (next : ℕ) (works : List Pending) → IsProp (AreNumbered next works)
AreNumbered-prop next works = Prim.hlevel (props, Loggable-prop)
