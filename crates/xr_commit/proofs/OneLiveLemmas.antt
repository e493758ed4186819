-- An image has one live stream.
use Rattle.std.proofs.Common.{◌≡◌, ℕ, ◌∙◌, List, map, sym, ap, subst}
use Rattle.xr_headers.specs.FreshLaws.{super_block-uuid}
use Rattle.xr_record.specs.declared.entry.Entry.{Entry}
use Rattle.xr_record.specs.Stream.{Piece, entry}
use Rattle.xr_record.specs.OneWayLaws.{one_reading}
use Rattle.xr_commit.specs.Chain.{IsLiveTrail}
use Rattle.xr_commit.specs.Entries.{HasEntries, joined_bodies}
use Rattle.xr_commit.specs.LiveLaws.{IsOneLive}
use Rattle.xr_commit.specs.LiveStream.{IsLiveIn}
use Rattle.xr_commit.specs.LogRecords.{HasSuper, LogRecord, log_of}
use Rattle.xr_commit.specs.OneRecordLaws.{one_chain, one_head}

one_super : (image u v : List ℕ) → HasSuper image u → HasSuper image v → u ≡ v
one_super image u v one two = super_block-uuid u v one.whole two.whole (sym one.block ∙ two.block)

one_said : (records : List LogRecord) (es fs : List Entry) → HasEntries records es → HasEntries records fs → es ≡ fs
one_said records es fs one two =
    one.entries_are ∙ ap (λ (ps : List Piece). map entry ps) (one_reading (joined_bodies records) one.pieces two.pieces one.o two.o one.rest two.rest one.stream two.stream).0 ∙ sym two.entries_are

pub one_live : IsOneLive
one_live image one two a b =
    let uuid : one.uuid ≡ two.uuid = one_super image one.uuid two.uuid a.superblock b.superblock in
    let log = log_of image in
    let x = subst (λ (u : List ℕ). IsLiveIn u log one.heads.items one.entries.items) uuid a.live_in in
    let y = b.live_in in
    let head : x.head ≡ y.head = one_head two.uuid log x.head y.head x.newest y.newest in
    let records : x.records ≡ y.records = one_chain two.uuid log y.head x.records y.records (subst (λ (r : LogRecord). IsLiveTrail two.uuid log r x.records) head x.chain) y.chain in
    record {
      uuid = uuid;
      heads = x.heads_are ∙ ap (λ (rs : List LogRecord). map (λ (r : LogRecord). r.head) rs) records ∙ sym y.heads_are;
      entries = one_said y.records one.entries.items two.entries.items (subst (λ (rs : List LogRecord). HasEntries rs one.entries.items) records x.entries_are) y.entries_are;
    }
