-- An image holds one state at most.
use Rattle.std.proofs.Common.{◌≡◌, ℕ, ◌∙◌, List, sym, ap, subst}
use Rattle.xr_base.specs.Image.{block_of}
use Rattle.xr_headers.specs.FreshLaws.{super_block-uuid}
use Rattle.xr_record.specs.declared.entry.Entry.{Entry}
use Rattle.xr_record.specs.declared.head.Head.{Head}
use Rattle.xr_commit.specs.Chain.{IsLiveTrail}
use Rattle.xr_commit.specs.Entries.{HasEntries, joined_bodies}
use Rattle.xr_record.specs.Stream.{Piece, entry}
use Rattle.std.proofs.Common.{map}
use Rattle.xr_record.specs.OneWayLaws.{one_reading}
use Rattle.xr_commit.specs.LiveStream.{IsLiveIn}
use Rattle.xr_commit.specs.LoggedItems.{Logged}
use Rattle.xr_commit.specs.LogRecords.{HasSuper, LogRecord, log_of}
use Rattle.xr_commit.specs.Pending.{pending}
use Rattle.xr_commit.specs.OneRecordLaws.{one_chain, one_head}
use Rattle.xr_scan.specs.LoggedEntries.{LogAll, logged_items}
use Rattle.xr_scan.specs.Replayed.{replayed}
use Rattle.xr_scan.specs.State.{works_of}
use Rattle.xr_scan.specs.StateLaws.{IsOneState, SameIsHeld}
use Rattle.xr_scan.specs.LoggedItemLaws.{one_logging}

pub one_super : (image u v : List ℕ) → HasSuper image u → HasSuper image v → u ≡ v
one_super image u v one two = super_block-uuid u v one.whole two.whole (sym one.block ∙ two.block)

pub one_said : (records : List LogRecord) (es fs : List Entry) → HasEntries records es → HasEntries records fs → es ≡ fs
one_said records es fs one two =
    one.entries_are ∙ ap (λ (ps : List Piece). map entry ps) (one_reading (joined_bodies records) one.pieces two.pieces one.o two.o one.rest two.rest one.stream two.stream).0 ∙ sym two.entries_are

-- an image's live streams log the same
pub one_logged : (image uuid : List ℕ) (heads also : List Head) (entries others : List Entry) (ls ms : List Logged) → IsLiveIn uuid (log_of image) heads entries
    → IsLiveIn uuid (log_of image) also others → LogAll entries ls → LogAll others ms → ls ≡ ms
one_logged image uuid heads also entries others ls ms x y a b =
    let log : List ℕ = log_of image in
    let head : x.head ≡ y.head = one_head uuid log x.head y.head x.newest y.newest in
    let records : x.records ≡ y.records = one_chain uuid log y.head x.records y.records (subst (λ (r : LogRecord). IsLiveTrail uuid log r x.records) head x.chain) y.chain in
    let same : entries ≡ others = one_said y.records entries others (subst (λ (rs : List LogRecord). HasEntries rs entries) records x.entries_are) y.entries_are in
    one_logging others ls ms (subst (λ (es : List Entry). LogAll es ls) same a) b

pub one_state : IsOneState
one_state image one two a b =
    let uuid : one.uuid ≡ two.uuid = one_super image one.uuid two.uuid a.superblock b.superblock in
    let logged : a.logged ≡ b.logged = one_logged image two.uuid a.heads b.heads a.entries b.entries a.logged b.logged
    (subst (λ (u : List ℕ). IsLiveIn u (log_of image) a.heads a.entries) uuid a.live_in) b.live_in a.log_all b.log_all in
    record {
      uuid = uuid;
      blocks = λ block has. a.blocks block has ∙ ap (replayed block (block_of image block)) logged ∙ sym (b.blocks block has);
      works = a.works ∙ ap (λ (ls : List Logged). works_of (pending (logged_items ls))) logged ∙ sym b.works;
    }

pub same_is_held : SameIsHeld
same_is_held image one two holds same = record {
  superblock = subst (HasSuper image) same.uuid holds.superblock;
  heads = holds.heads;
  entries = holds.entries;
  live_in = subst (λ (u : List ℕ). IsLiveIn u (log_of image) holds.heads holds.entries) same.uuid holds.live_in;
  logged = holds.logged;
  log_all = holds.log_all;
  blocks = λ block has. sym (same.blocks block has) ∙ holds.blocks block has;
  works = sym same.works ∙ holds.works;
}
