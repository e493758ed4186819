-- The items of a transaction are right: each by itself, their regions, and what they leave pending.
use Rattle.std.proofs.Common.{◌≡◌, ℕ, ◌∙◌, Bool, true, false, ◌||◌, List, [], ◌∷◌, ◌++◌, refl, sym, ap}
use Rattle.std.specs.Prelude.{if◌then◌else◌}
use Rattle.xr_items.specs.declared.item.Item.{Item}
use Rattle.xr_items.specs.declared.item.Item.TheVariants.{Buf, Inode, Begin, Done}
use Rattle.xr_items.specs.declared.work.Work.{Work}
use Rattle.xr_commit.specs.declared.pending.Pending.{Pending}
use Rattle.xr_commit.specs.Pending.{ends, is_done, pending}
use Rattle.xr_log.specs.PendingAfter.{PendingGoesOn, still}

or_assoc : (a b c : Bool) → ((a || b) || c) ≡ (a || (b || c))
or_assoc true b c = refl
or_assoc false b c = refl

pub is_done-append : (id : ℕ) (work : Work) (xs ys : List Item) → is_done id work (xs ++ ys) ≡ (is_done id work xs || is_done id work ys)
is_done-append id work [] ys = refl
is_done-append id work (x ∷ xs) ys =
    ap (λ (b : Bool). ends id work x || b) (is_done-append id work xs ys) ∙ sym (or_assoc (ends id work x) (is_done id work xs) (is_done id work ys))

-- what is pending after more items: the works that they don't end, and those that they begin
pub pending_goes_on : PendingGoesOn
pending_goes_on [] more = refl
pending_goes_on (Buf sector ∷ items) more = pending_goes_on items more
pending_goes_on (Inode ino ∷ items) more = pending_goes_on items more
pending_goes_on (Done id of ∷ items) more = pending_goes_on items more
pending_goes_on (Begin id work ∷ items) more =
    ap (λ (b : Bool). if b then pending (items ++ more) else ((record { id = id; work = work }) ∷ pending (items ++ more))) (is_done-append id work items more)
    ∙ by_both (is_done id work items) (is_done id work more) refl (pending_goes_on items more) where
      by_both : (b c : Bool) → is_done id work more ≡ c → pending (items ++ more) ≡ still more (pending items) ++ pending more
          → (if (b || c) then pending (items ++ more) else ((record { id = id; work = work }) ∷ pending (items ++ more)))
          ≡ still more (if b then pending items else ((record { id = id; work = work }) ∷ pending items)) ++ pending more
      by_both true c e rest = rest
      by_both false true e rest =
          rest ∙ ap (λ (d : Bool). (if d then still more (pending items) else ((record { id = id; work = work }) ∷ still more (pending items))) ++ pending more) (sym e)
      by_both false false e rest =
          ap (λ (ps : List Pending). (record { id = id; work = work }) ∷ ps) rest
          ∙ ap (λ (d : Bool). (if d then still more (pending items) else ((record { id = id; work = work }) ∷ still more (pending items))) ++ pending more) (sym e)
