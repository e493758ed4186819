-- Entries whose items were tested have items.
use Rattle.std.proofs.Common.{ℕ, Ok, Err, List, [], ◌∷◌, map, refl}
use Rattle.std.specs.List.{AllByRecursion}
use Rattle.std.specs.Prelude.{IfOk, Result}
use Rattle.xr_items.specs.Valid.{IsItem}
use Rattle.xr_record.specs.declared.entry.Entry.{Entry}
use Rattle.xr_record.specs.declared.entry.Entry.TheVariants.{Trans, Unmount}
use Rattle.xr_commit.specs.declared.fault.ScanFault.{ScanFault}
use Rattle.xr_commit.specs.declared.live_stream.Live.{Live}
use Rattle.xr_commit.specs.ItemsOf.{EntriesHaveItems}
use Rattle.xr_commit.specs.GoodItems.{ItemsAreGood, EntriesAreGood, last_after}
use Rattle.xr_commit.specs.LiveStream.{IsLiveIn}
use Rattle.xr_commit.specs.LoggedItems.{Logged}

each_valid : (uuid : List ℕ) (last : ℕ) (logged : List Logged) → ItemsAreGood uuid last logged → AllByRecursion (λ (l : Logged). IsItem l.item) logged
each_valid uuid last [] good = tt
each_valid uuid last (l ∷ ls) good = (good.0.valid, each_valid uuid (last_after last l.item) ls good.1)

have_items : (uuid : List ℕ) (last : ℕ) (entries : List Entry) (last' : ℕ) → EntriesAreGood uuid last entries last' → EntriesHaveItems entries
have_items uuid last [] last' good = ([], tt)
have_items uuid last (Unmount ∷ entries) last' good = let rest = have_items uuid last entries last' good in ([] ∷ rest.0, (refl, rest.1))
have_items uuid last (Trans tid regions ∷ entries) last' good =
    let own = good.1 in
    let rest = have_items uuid good.0 entries last' good.2 in (
      map (λ (l : Logged). l.item) own.logged ∷ rest.0,
      (
        record {
          logged = own.logged;
          items_are = refl;
          valid = each_valid uuid last own.logged own.good;
          regions_are = own.regions_are;
        },
        rest.1,
      ),
    )

pub live_items : (uuid log : List ℕ) (result : Result Live ScanFault) → IfOk result (λ live. IsLiveIn uuid log live.heads.items live.entries.items)
    → IfOk result (λ live. EntriesHaveItems live.entries.items)
live_items uuid log (Err fault) is = tt
live_items uuid log (Ok live) is = have_items uuid 0 live.entries.items is.last is.items
