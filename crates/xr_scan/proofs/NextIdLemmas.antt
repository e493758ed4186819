-- The items of lists, one list after another, and the next id after them.
use Rattle.std.proofs.Common.{◌≡◌, ◌≤◌, ◌<◌, ℕ, zero, suc, List, [], ◌∷◌, ◌++◌, length, get_or, sym, subst, arith}
use Rattle.std.specs.Global.{Vec}
use Rattle.std.specs.List.{AllByRecursion}
use Rattle.xr_items.specs.declared.item.Item.{Item}
use Rattle.xr_items.specs.declared.item.Item.TheVariants.{Buf, Inode, Begin, Done}
use Rattle.xr_items.specs.Valid.{IsItem}
use Rattle.xr_commit.specs.Pending.{joined_items}
use Rattle.xr_scan.specs.NextId.{next_id}

pub next_some : (items : List Item) → 1 ≤ next_id items
next_some [] = omega arith
next_some (Begin id work ∷ items) = omega arith
next_some (Done id of ∷ items) = omega arith
next_some (Buf sector ∷ items) = next_some items
next_some (Inode ino ∷ items) = next_some items

valid_front : (xs ys : List Item) → AllByRecursion IsItem (xs ++ ys) → AllByRecursion IsItem xs × AllByRecursion IsItem ys
valid_front [] ys all = (tt, all)
valid_front (x ∷ xs) ys all = let rest = valid_front xs ys all.1 in ((all.0, rest.0), rest.1)

pub valid_at : (lists : List (Vec Item)) (i : ℕ) (list : Vec Item) (items : List Item) → AllByRecursion IsItem (joined_items lists) → i < length lists → list ≡ get_or lists i list → items ≡ list.items
    → AllByRecursion IsItem items
valid_at [] i list items all below is same = absurd (omega (arith, below))
valid_at (first ∷ lists) zero list items all below is same =
    subst (AllByRecursion IsItem) (sym same) (subst (λ (v : Vec Item). AllByRecursion IsItem v.items) (sym is) (valid_front first.items (joined_items lists) all).0)
valid_at (first ∷ lists) (suc i) list items all below is same =
    valid_at lists i list items (valid_front first.items (joined_items lists) all).1 (omega (arith, below)) is same
