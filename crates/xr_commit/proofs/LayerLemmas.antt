-- The layers of refusals, put together: a later one is looked at where the earlier ones hold.
use Rattle.std.proofs.Common.{◌≡◌, ◌∙◌, ℕ, List, All, refl, sym, subst, inl, inr}
use Rattle.xr_record.specs.declared.entry.Entry.{Entry}
use Rattle.xr_record.specs.declared.head.Head.{Head}
use Rattle.xr_commit.specs.declared.fault.ScanFault.{ScanFault}
use Rattle.xr_commit.specs.declared.fault.ScanFault.TheVariants.{Length}
use Rattle.xr_commit.specs.Chain.{HasReserve}
use Rattle.xr_commit.specs.GoodItems.{EntriesAreGood}
use Rattle.xr_commit.specs.ChainHeaders.{AreOfChain}
use Rattle.xr_commit.specs.Entries.{HasEntries}
use Rattle.xr_commit.specs.LiveStream.{IsLiveIn}
use Rattle.xr_commit.specs.LogRecords.{IsNewest, LogRecord, home_of}
use Rattle.xr_commit.specs.Operations.{KeepsUnmounts}
use Rattle.xr_commit.specs.Refusals.{BreaksChain, RefusesBodies, RefusesLog, RefusesLiveRecords}

-- the newest record, with its body
abbrev pub top : (uuid log : List ℕ) (head : Head) → IsNewest uuid log head → LogRecord
top uuid log head n = record { head = head; body = n.body }

pub chain_refused : (uuid log : List ℕ) (head : Head) (fault : ScanFault) → (n : IsNewest uuid log head) → BreaksChain uuid log (top uuid log head n) fault
    → RefusesLog uuid log fault
chain_refused uuid log head fault n broken = inr (top uuid log head n, n.newest, inl broken)

pub records_refused : (uuid log : List ℕ) (head : Head) (heads : List Head) (fault : ScanFault) → (n : IsNewest uuid log head)
    → (c : AreOfChain uuid log (top uuid log head n) heads) → RefusesLiveRecords uuid head c.records fault → RefusesLog uuid log fault
records_refused uuid log head heads fault n c refused = inr (top uuid log head n, n.newest, inr (c.records, c.chain, refused))

pub no_reserve : (uuid log : List ℕ) (head : Head) (heads hs : List Head) (n : IsNewest uuid log head) → (c : AreOfChain uuid log (top uuid log head n) heads) → hs ≡ heads
    → (HasReserve head hs → ⊥) → RefusesLog uuid log (Length (home_of head))
no_reserve uuid log head heads hs n c same none =
    records_refused uuid log head heads (Length (home_of head)) n c (inl ((λ reserve. none (subst (HasReserve head) (sym (same ∙ c.heads_are)) reserve)), refl))

pub bodies_refused : (uuid log : List ℕ) (head : Head) (heads hs : List Head) (fault : ScanFault) (n : IsNewest uuid log head) → (c : AreOfChain uuid log (top uuid log head n) heads)
    → hs ≡ heads → HasReserve head hs → RefusesBodies uuid c.records fault → RefusesLog uuid log fault
bodies_refused uuid log head heads hs fault n c same reserve refused =
    records_refused uuid log head heads fault n c (inr (subst (HasReserve head) (same ∙ c.heads_are) reserve, refused))

pub is_live : (uuid log : List ℕ) (head : Head) (heads hs : List Head) (entries : List Entry) (n : IsNewest uuid log head) → (c : AreOfChain uuid log (top uuid log head n) heads)
    → hs ≡ heads → HasReserve head hs → All KeepsUnmounts c.records → HasEntries c.records entries → (last : ℕ) → EntriesAreGood uuid 0 entries last → IsLiveIn uuid log heads entries
is_live uuid log head heads hs entries n c same reserve unmounts said last items = record {
  head = top uuid log head n;
  newest = n.newest;
  records = c.records;
  chain = c.chain;
  reserve = subst (HasReserve head) (same ∙ c.heads_are) reserve;
  unmounts = unmounts;
  heads_are = c.heads_are;
  entries_are = said;
  last = last;
  items = items;
}
