-- That the packed record is due after the last one, and what is kept once it is written.
use Rattle.std.proofs.Common.{◌≡◌, ℕ, ◌+◌, ◌*◌, ◌<◌, ◌≤◌, ◌^◌, ◌∙◌, Bool, true, false, List, [], ◌∷◌, ◌++◌, length, refl, sym, ap, subst, arith, inl, inr}
use Rattle.std.specs.Prelude.{if◌then◌else◌}
use Rattle.std.proofs.lemmas.Grind.{flat_map-append}
use Rattle.std.proofs.lemmas.List.{append-nil}
use Rattle.xr_base.specs.Image.{overlaid}
use Rattle.xr_base.specs.declared.geometry.TheConstants.{CYCLES, LOG_SECTORS, SECTOR_BYTES}
use Rattle.xr_disk.specs.Disk.{DiskView, IsAtRest}
use Rattle.xr_record.specs.declared.head.Head.{Head}
use Rattle.xr_record.specs.declared.head.Lsn.{Lsn}
use Rattle.xr_record.specs.Lsn.{lsn_number}
use Rattle.xr_record.specs.Packing.{Packed}
use Rattle.xr_record.specs.Record.{IsGoodHead, IsStored}
use Rattle.xr_record.specs.Rules.{IsStream}
use Rattle.xr_record.specs.Stream.{entry}
use Rattle.std.specs.Prelude.{map}
use Rattle.xr_commit.specs.Entries.{joined_bodies}
use Rattle.xr_commit.specs.GoodItems.{EntriesAreGood}
use Rattle.xr_commit.specs.LogRecords.{LogRecord, log_of, record_end}
use Rattle.xr_commit.specs.Operations.{HoldsOperations}
use Rattle.xr_commit.specs.WholeRecordLaws.{ends_within}
use Rattle.xr_scan.specs.LoggedEntries.{logged_items}
use Rattle.xr_scan.specs.NextId.{next_id}
use Rattle.xr_scan.specs.Replayed.{replayed}
use Rattle.xr_scan.specs.State.{Holds, State}
use Rattle.xr_log.specs.Appending.{GoesOnFrom, IsAppended, IsPlacedNext}
use Rattle.xr_log.specs.Gathered.{HasGathered, Said, needed, nothing_packed}
use Rattle.xr_log.specs.KeepsNow.{KeepsUnder}
use Rattle.xr_log.specs.Positions.{HasRoomToGrow, LeavesReserve, end_position, log_position}
use Rattle.xr_log.specs.TornWrites.{bytes_of}
use Rattle.xr_log.specs.Writing.{ComesNext, HasLaidNext, IsWrittenAt, MayWrite, RunsOver}
use Rattle.xr_log.proofs.LayingLemmas.{written_at}
use Rattle.xr_scan.specs.FalseRecords.{record_len}
use Rattle.std.specs.Prelude.{Contains, take}
use Rattle.xr_log.proofs.NextHeadLemmas.{comes_later, placed_next}
use Rattle.xr_log.proofs.AppendingLemmas.{all_needed, block_stays}
use Rattle.xr_log.proofs.StandingLemmas.{length-log}
use Rattle.xr_log.proofs.StreamPushLemmas.{body_is_right}
use Rattle.xr_log.proofs.WritingLemmas.{done_crash, done_holds, done_image, done_is_torn}

-- the record with this header of what is packed
abbrev pub record_of : Head → Packed → LogRecord
record_of head packed = record { head = head; body = packed.body }

joined_one : (records : List LogRecord) (r : LogRecord) → joined_bodies (records ++ r ∷ []) ≡ joined_bodies records ++ r.body
joined_one records r =
    flat_map-append (λ (q : LogRecord). q.body) records (r ∷ []) ∙ ap (λ (xs : List ℕ). joined_bodies records ++ xs) (append-nil r.body)

gathered_adds : (image : List ℕ) (state : State) (holds : Holds image state) (records : List LogRecord) (packed : Packed) (now : State) (said : Said) (head : Head)
    → HasGathered image state holds records packed now said → IsPlacedNext holds.live_in.head holds.live_in.records records head → head.ops ≡ packed.ops
    → IsAppended image state holds (record_of head packed) now said.logged
gathered_adds image state holds records packed now said head g place ops =
    let r : LogRecord = record_of head packed in
    let right = body_is_right r g.ops g.each g.body (ops ∙ g.number) in
    record {
      needed = records;
      place = place;
      unmounts = right.1;
      entries = map entry said.pieces;
      stream = record {
        each = all_needed HoldsOperations holds.live_in.head r holds.live_in.records records place.goes_on holds.live_in.entries_are.each right.0;
        pieces = said.pieces;
        o = said.o;
        rest = [];
        stream = subst (λ (xs : List ℕ). IsStream xs said.pieces said.o []) (sym (joined_one records r)) g.stream;
        entries_are = refl;
      };
      last = said.last;
      items = g.items;
      log_all = g.log_all;
      uuid = g.uuid;
      blocks = g.blocks;
      works = g.works;
    }

-- and its tail is its own, or that of the last one
goes_on : (anew : Bool) (newest : LogRecord) (records : List LogRecord) (head : Head) → head.tail ≡ (if anew then head.lsn else newest.head.tail)
    → GoesOnFrom newest records head (needed anew records)
goes_on true newest records head tail = inr (refl, tail)
goes_on false newest records head tail = inl (refl, tail)

reserve_after : (anew : Bool) (last head : Head) → end_position head ≤ end_position last + 129 → end_position last + 219 ≤ log_position last.tail + LOG_SECTORS
    → record_end head ≤ head.lsn.sector + 65 → head.tail ≡ (if anew then head.lsn else last.tail) → LeavesReserve head
reserve_after true last head near room short tail = let e = ap log_position tail in omega (arith, e, short)
reserve_after false last head near room short tail = let e = ap log_position tail in omega (arith, e, near, room)

tail_stored : (anew : Bool) (last head : Head) → IsStored last → head.lsn.cycle < CYCLES → head.lsn.sector < LOG_SECTORS
    → head.tail ≡ (if anew then head.lsn else last.tail) → (head.tail.cycle < 2 ^ 32) × (head.tail.sector < 2 ^ 32)
tail_stored true last head stored cycle sector tail =
    let c = ap (λ (l : Lsn). l.cycle) tail in
    let s = ap (λ (l : Lsn). l.sector) tail in
    (omega (arith, c, cycle), omega (arith, s, sector))
tail_stored false last head stored cycle sector tail =
    let c = ap (λ (l : Lsn). l.cycle) tail in
    let s = ap (λ (l : Lsn). l.sector) tail in
    let a = stored.round in let b = stored.sector in
    (omega (arith, c, a), omega (arith, s, b))

-- what may be written after a header, as a function of it
pub due : (disk : DiskView) (last : Head) (anew : Bool) (packed : Packed) (now : State) (said : Said) (next : ℕ) (states : List State)
    → KeepsUnder disk last anew packed now said next states → (uuid : List ℕ) (head : Head) → now.uuid ≡ uuid → ComesNext last anew uuid packed.ops (length packed.body) head
    → 0 < length packed.body → length packed.body ≤ 32768 → packed.ops < 2 ^ 32 → head.lsn.cycle < CYCLES → HasRoomToGrow last packed
    → MayWrite disk (record_of head packed) now said next states
due disk last anew packed now said next states k uuid head own comes some most ops cycle room =
    let x = k.holds.live_in in
    let stands = x.newest.at.stands in
    let good : IsGoodHead last = subst IsGoodHead k.last_is stands.sealed.good in
    let stored : IsStored last = subst IsStored k.last_is stands.sealed.stored in
    let whole : record_end last ≤ LOG_SECTORS = subst (λ (h : Head). record_end h ≤ LOG_SECTORS) k.last_is (ends_within (log_of k.image) x.head (length-log k.image k.long) stands) in
    let sector = good.sector in
    let placed = comes.placed in
    let later = comes_later last head (length packed.body) sector whole most placed in
    let len = placed.len_is in
    let within = later.within in
    let begins : head.lsn.sector < LOG_SECTORS = omega (arith, within) in
    let tail = tail_stored anew last head stored cycle begins comes.tail_is in
    let prev = comes.prev in
    let number = comes.ops_are in
    let free = room some in
    let near = later.near in
    let durable : uuid ≡ k.durable.uuid = sym own ∙ k.gathered.uuid in
    let same_tail : head.tail ≡ (if anew then head.lsn else x.head.head.tail) = subst (λ (h : Head). head.tail ≡ (if anew then head.lsn else h.tail)) (sym k.last_is) comes.tail_is in
    let place : IsPlacedNext x.head x.records (needed anew x.records) head = record {
      goes_on = goes_on anew x.head x.records head same_tail;
      prev = comes.prev ∙ ap (λ (h : Head). h.lsn.sector) (sym k.last_is);
      after = subst (λ (h : Head). end_position h ≤ log_position head.lsn) (sym k.last_is) later.after;
      fits = inl (subst (λ (h : Head). end_position head ≤ log_position h.tail + LOG_SECTORS) (sym k.last_is) (omega (arith, near, free)));
      leaves = reserve_after anew last head near free (omega (arith, len, most)) comes.tail_is;
    } in
    record {
      image = k.image;
      rest = k.rest;
      long = k.long;
      durable = k.durable;
      among = k.among;
      holds = k.holds;
      next_is = record {
        good = (placed_next anew last head uuid packed.ops (length packed.body) record { good = good; within = whole } comes some most cycle).good;
        stored = record {
          prev = omega (arith, sector, prev);
          ops = omega (arith, ops, number);
          round = tail.0;
          sector = tail.1;
          uuid = ap length (comes.own ∙ durable) ∙ k.holds.superblock.whole;
        };
        long = sym len;
        own = comes.own ∙ durable;
        within = within;
        newer = subst (λ (h : Head). lsn_number h.lsn < lsn_number head.lsn) (sym k.last_is) later.newer;
      };
      adds = gathered_adds k.image k.durable k.holds (needed anew x.records) packed now said head k.gathered place comes.ops_are;
      durable_ids = k.durable_ids;
      ids = k.ids;
    }

-- the disk rests with the record, and nothing is packed: what was gathered stands in the image
pub keeps_written : (disk new : DiskView) (last : Head) (anew : Bool) (packed : Packed) (now : State) (said : Said) (next : ℕ) (states : List State)
    → (k : KeepsUnder disk last anew packed now said next states) (uuid : List ℕ) (head : Head) → now.uuid ≡ uuid → ComesNext last anew uuid packed.ops (length packed.body) head
    → 0 < length packed.body → length packed.body ≤ 32768 → packed.ops < 2 ^ 32 → head.lsn.cycle < CYCLES → HasRoomToGrow last packed
    → ((image : List ℕ) → IsAtRest image disk → IsAtRest (overlaid (SECTOR_BYTES * (64 + head.lsn.sector)) (bytes_of (record_of head packed)) image) new)
    → KeepsUnder new head false nothing_packed now said next (now ∷ [])
unfolding due gathered_adds done_image done_crash
keeps_written disk new last anew packed now said next states k uuid head own comes some most ops cycle room rests =
    let r : LogRecord = record_of head packed in
    let m : MayWrite disk r now said next states = due disk last anew packed now said next states k uuid head own comes some most ops cycle room in
    let h = done_holds disk r now said next states m in
    let g = k.gathered in
    let needed_are : List LogRecord = needed anew k.holds.live_in.records in
    record {
      image = done_image m;
      rest = subst (λ (n : ℕ). IsAtRest (overlaid n (bytes_of r) k.image) new) (omega arith) (rests k.image k.rest);
      long = (done_is_torn disk r now said next states m).torn.outside.long ∙ k.long;
      durable = now;
      among = (0, omega arith, refl);
      holds = h.holds;
      last_is = ap (λ (q : LogRecord). q.head) h.head_is;
      gathered = record {
        ops = [];
        each = tt;
        body = refl;
        number = refl;
        stream = subst (λ (xs : List ℕ). IsStream xs said.pieces said.o [])
            (sym (append-nil (joined_bodies h.holds.live_in.records) ∙ ap joined_bodies h.records_are ∙ joined_one needed_are r)) g.stream;
        items = subst (λ (u : List ℕ). EntriesAreGood u 0 (map entry said.pieces) said.last) (sym g.uuid) g.items;
        log_all = g.log_all;
        uuid = refl;
        blocks = λ block has. g.blocks block has
            ∙ ap (λ (xs : List ℕ). replayed block xs said.logged) (sym (block_stays k.durable.uuid k.image k.holds.live_in.head r (done_crash m) now block (done_is_torn disk r now said next states m) has));
        works = g.works;
      };
      durable_ids = subst (λ (ls : _). next_id (logged_items ls) ≤ next) (sym h.logged_is) k.ids;
      ids = k.ids;
    }

-- as the code has it
pub written_keeps : (disk new : DiskView) (last : Head) (anew anew' : Bool) (packed packed' : Packed) (now : State) (said : Said) (next : ℕ) (states : List State)
    → (k : KeepsUnder disk last anew packed now said next states) (uuid : List ℕ) (head : Head) → now.uuid ≡ uuid → ComesNext last anew uuid packed.ops (length packed.body) head
    → 0 < length packed.body → length packed.body ≤ 32768 → packed.ops < 2 ^ 32 → head.lsn.cycle < CYCLES → HasRoomToGrow last packed → anew' ≡ false → packed' ≡ nothing_packed
    → (at : ℕ) (bytes : List ℕ) → at ≡ 64 + head.lsn.sector → IsWrittenAt at bytes (record_of head packed)
    → ((image : List ℕ) → IsAtRest image disk → IsAtRest (overlaid (SECTOR_BYTES * at) bytes image) new)
    → KeepsUnder new head anew' packed' now said next (now ∷ [])
written_keeps disk new last anew anew' packed packed' now said next states k uuid head own comes some most ops cycle room goes empty at bytes here w rests =
    let kept = keeps_written disk new last anew packed now said next states k uuid head own comes some most ops cycle room
    (λ image rest. subst (λ (n : ℕ). IsAtRest (overlaid (SECTOR_BYTES * n) (bytes_of (record_of head packed)) image) new) here
    (subst (λ (xs : List ℕ). IsAtRest (overlaid (SECTOR_BYTES * at) xs image) new) w.bytes_are (rests image rest))) in
    subst (λ (b : Bool). KeepsUnder new head b packed' now said next (now ∷ [])) (sym goes)
    (subst (λ (p : Packed). KeepsUnder new head false p now said next (now ∷ [])) (sym empty) kept)

pub written_runs : (disk new : DiskView) (last : Head) (anew : Bool) (packed : Packed) (now : State) (said : Said) (next : ℕ) (states : List State)
    → KeepsUnder disk last anew packed now said next states → (uuid : List ℕ) (head : Head) → now.uuid ≡ uuid → 0 < length packed.body → HasRoomToGrow last packed
    → Contains states now → (size sector : ℕ) (bytes sectors : List ℕ) → HasLaidNext last anew uuid packed head sectors → size ≡ record_len head
    → bytes ≡ take size sectors → sector ≡ 64 + head.lsn.sector
    → ((r : LogRecord) (now : State) (said : Said) (next : ℕ) (states : List State) → MayWrite disk r now said next states → IsWrittenAt sector bytes r
    → Contains states now → RunsOver disk new states r.head.lsn.cycle next) → RunsOver disk new states head.lsn.cycle next
written_runs disk new last anew packed now said next states k uuid head own some room among size sector bytes sectors laid long taken here runs =
    runs (record_of head packed) now said next states
    (due disk last anew packed now said next states k uuid head own laid.comes some laid.most laid.ops laid.cycle room)
    (written_at sector size head packed.body bytes sectors here long taken laid.laid) among
