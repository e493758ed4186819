-- What a live stream with its items makes of the blocks at home is what a scan finds.
use Rattle.std.proofs.Common.{◌≡◌, ◌≢◌, ◌↔◌, ◌∙◌, ℕ, ◌-◌, ◌<◌, Bool, true, false, List, [], ◌∷◌, ◌++◌, All, length, get_or, map, drop, sum_by, refl, sym, ap, subst, lit<, arith}
use Rattle.std.specs.Global.{Vec}
use Rattle.std.specs.List.{AllByRecursion, list_any}
use Rattle.std.proofs.lemmas.Bool.{cond-false, false≢true, le-ltb}
use Rattle.std.proofs.lemmas.List.{append-nil, length-map, nil_from_length}
use Rattle.xr_items.specs.declared.item.Item.{Item}
use Rattle.xr_items.specs.Valid.{IsItem}
use Rattle.xr_record.specs.declared.entry.Entry.{Entry}
use Rattle.xr_record.specs.declared.entry.Entry.TheVariants.{Unmount}
use Rattle.xr_record.specs.declared.head.Head.{Head}
use Rattle.xr_record.specs.declared.head.Lsn.{Lsn}
use Rattle.xr_record.specs.declared.operation.Fields.{Fields}
use Rattle.xr_record.specs.Operations.{fields, raw_operation}
use Rattle.xr_record.specs.Reading.{is_open}
use Rattle.xr_record.specs.Rules.{phase_of}
use Rattle.xr_record.specs.Stream.{Begun, Between, Cut, Inside, Open, Piece, Transaction, Unmounting, all_bytes, begun, entry, stream_of}
use Rattle.xr_commit.specs.Chain.{IsTrail}
use Rattle.xr_commit.specs.Entries.{HasEntries}
use Rattle.xr_commit.specs.ItemsOf.{items_in}
use Rattle.xr_commit.specs.LogEnds.{IsCleanRecord}
use Rattle.xr_commit.specs.LiveStream.{IsLiveIn}
use Rattle.xr_commit.specs.LogRecords.{HasSuper, LogRecord, heads_of, log_of}
use Rattle.xr_commit.specs.LoggedItems.{Logged}
use Rattle.xr_commit.specs.Operations.{HoldsOperations, HoldsUnmount, KeepsUnmounts, headers_in, headers_of, is_unmount, operation_len}
use Rattle.xr_commit.specs.Pending.{joined_items, pending}
use Rattle.xr_commit.specs.GoodItems.{ItemsAreGood}
use Rattle.xr_scan.specs.Homes.{AreHomes}
use Rattle.xr_scan.specs.LoggedEntries.{LogAll, logged_items}
use Rattle.xr_scan.specs.LoggedLaws.{IsPlacedHead}
use Rattle.xr_scan.specs.NextId.{next_id}
use Rattle.xr_scan.specs.Numbered.{AreNumbered}
use Rattle.xr_scan.specs.Replayed.{is_logged, replayed}
use Rattle.xr_scan.specs.Replaying.{IsStateBlock, LogEach}
use Rattle.xr_scan.specs.Scanned.{IsScanned, copy_number, copy_of}
use Rattle.xr_scan.specs.Scanning.{HasItems, IsFoundIn, IsScannedIn}
use Rattle.xr_scan.specs.declared.scanned.Scanned.{Scanned}
use Rattle.xr_scan.specs.declared.scanning.LiveItems.{LiveItems}
use Rattle.xr_scan.specs.CleanStreamLaws.{unmounted}
use Rattle.xr_scan.specs.CleanStreamLaws.{unmount_body}
use Rattle.xr_scan.specs.LoggedItemLaws.{live_logs_items, logged_are_good}
use Rattle.xr_scan.proofs.NumberedLemmas.{all_valid, next_is_above}
use Rattle.xr_scan.proofs.PlacedLemmas.{live_is_placed}

-- The newest record's header is the last one.
last_head : (uuid log : List ℕ) (tail : Lsn) (newest oldest : LogRecord) (later : List LogRecord) → IsTrail uuid log tail newest oldest later → (d : Head)
    → get_or (heads_of (oldest ∷ later)) (length later) d ≡ newest.head
last_head uuid log tail newest oldest [] trail d = ap (λ (r : LogRecord). r.head) trail
last_head uuid log tail newest oldest (next ∷ later) trail d = last_head uuid log tail newest next later trail.1 d

pub newest_head : (uuid log : List ℕ) (heads : List Head) (entries : List Entry) (live : IsLiveIn uuid log heads entries) (d : Head)
    → get_or heads (length heads - 1) d ≡ live.head.head
newest_head uuid log heads entries live d =
    let chain = live.chain in
    let hs : List Head = heads_of (chain.oldest ∷ chain.later) in
    let e : heads ≡ hs = live.heads_are ∙ ap heads_of chain.records_are in
    let n : length heads - 1 ≡ length chain.later = omega (arith, ap length e, length-map chain.later (λ (r : LogRecord). r.head)) in
    ap (λ (xs : List Head). get_or xs (length heads - 1) d) e ∙ ap (λ (k : ℕ). get_or hs k d) n ∙ last_head uuid log live.head.head.tail live.head chain.oldest chain.later chain.trail d

-- Whether it is an unmount is told by the headers and entries.
one_left : (uuid log : List ℕ) (tail : Lsn) (newest oldest : LogRecord) (later : List LogRecord) → IsTrail uuid log tail newest oldest later → length later ≡ 0 → oldest ∷ later ≡ newest ∷ []
one_left uuid log tail newest oldest [] trail none = ap (λ (r : LogRecord). r ∷ []) trail
one_left uuid log tail newest oldest (next ∷ later) trail none = absurd (omega (arith, none))

one_unmount : (pieces : List Piece) → Unmount ∷ [] ≡ map entry pieces → pieces ≡ Unmounting ∷ []
one_unmount [] e = cc
one_unmount (Transaction t ∷ pieces) e = cc
one_unmount (Unmounting ∷ []) e = refl
one_unmount (Unmounting ∷ p ∷ pieces) e = cc

-- the headers of a body that begins with an unmount
first_header : (rest : List ℕ) → headers_of (unmount_body ++ rest) ≡ fields unmount_body ∷ headers_in (length (drop 1 (unmount_body ++ rest))) rest
unfolding unmount_body raw_operation
first_header rest = cond-false _ _ _ (le-ltb (length (unmount_body ++ rest)) 12 (omega arith))

holds_unmount : (rest : List ℕ) → HoldsUnmount (unmount_body ++ rest)
unfolding unmount_body raw_operation
holds_unmount rest = ap (list_any is_unmount) (first_header rest)

nothing_behind : (r : LogRecord) (rest : List ℕ) → r.body ≡ unmount_body ++ rest → HoldsOperations r → KeepsUnmounts r → rest ≡ []
unfolding unmount_body raw_operation
nothing_behind r rest is holds keeps =
    let more = headers_in (length (drop 1 (unmount_body ++ rest))) rest in
    let all : headers_of r.body ≡ fields unmount_body ∷ more = ap headers_of is ∙ first_header rest in
    let alone = (keeps (subst HoldsUnmount (sym is) (holds_unmount rest))).one in
    let none : more ≡ [] = nil_from_length more (omega (arith, alone, ap length all)) in
    let sum : sum_by operation_len (headers_of r.body) ≡ 20 = ap (sum_by operation_len) (all ∙ ap (λ (hs : List Fields). fields unmount_body ∷ hs) none) in
    nil_from_length rest (omega (arith, sum, holds.whole, ap length is))

body_of : (r : LogRecord) (entries : List Entry) → entries ≡ Unmount ∷ [] → HasEntries (r ∷ []) entries → KeepsUnmounts r → r.body ≡ unmount_body
unfolding unmount_body raw_operation
body_of r entries is said keeps =
    let pieces : said.pieces ≡ Unmounting ∷ [] = one_unmount said.pieces (sym is ∙ said.entries_are) in
    let rest : List ℕ = all_bytes (begun said.o) ++ said.rest in
    let whole : r.body ≡ unmount_body ++ rest =
    sym (append-nil r.body) ∙ said.stream.whole ∙ ap (λ (ps : List Piece). stream_of ps said.o said.rest) pieces ∙ ap (λ (xs : List ℕ). xs ++ rest) (append-nil unmount_body) in
    let none : rest ≡ [] = nothing_behind r rest whole (said.each 0 r (lit< tt)) keeps in
    whole ∙ ap (λ (xs : List ℕ). unmount_body ++ xs) none ∙ append-nil unmount_body

clean_from : (uuid log : List ℕ) (heads : List Head) (entries : List Entry) (live : IsLiveIn uuid log heads entries) → length heads ≡ 1 → entries ≡ Unmount ∷ []
    → IsCleanRecord live.head
unfolding unmount_body
clean_from uuid log heads entries live one is =
    let chain = live.chain in
    let few : length chain.later ≡ 0 = omega (arith, one, ap length live.heads_are, ap length (ap heads_of chain.records_are), length-map chain.later (λ (r : LogRecord). r.head)) in
    let only : live.records ≡ live.head ∷ [] = chain.records_are ∙ one_left uuid log live.head.head.tail live.head chain.oldest chain.later chain.trail few in
    body_of live.head entries is (subst (λ (rs : List LogRecord). HasEntries rs entries) only live.entries_are) (subst (All KeepsUnmounts) only live.unmounts 0 live.head (lit< tt))

pub tells_clean : (uuid log : List ℕ) (heads : List Head) (entries : List Entry) (live : IsLiveIn uuid log heads entries)
    → ((length heads ≡ 1) × (entries ≡ Unmount ∷ [])) ↔ IsCleanRecord live.head
tells_clean uuid log heads entries live = (
  λ told. clean_from uuid log heads entries live told.0 told.1,
  λ clean. let only = unmounted uuid log heads entries live clean in (ap length (live.heads_are ∙ ap heads_of only.alone), only.said),
)

pub tells_open : (b : Bool) (o : Open) → b ≡ is_open (phase_of o) → (b ≡ true) ↔ (o ≢ Between)
tells_open b Between e = (λ t. absurd (false≢true (sym e ∙ t)), λ not. absurd (not refl))
tells_open b (Begun tid) e = (λ t same. (cc), λ not. e)
tells_open b (Inside t) e = (λ u same. (cc), λ not. e)
tells_open b (Cut t part parts) e = (λ u same. (cc), λ not. e)

-- What is known of a live stream with its items, whatever the log is.
pub record IsKnown (found : LiveItems) : Type 0 where
  pub logged : List Logged
  pub log_all : LogAll found.live.entries.items logged
  pub good : ItemsAreGood found.live.uuid 0 logged

pub known : (log : List ℕ) (found : LiveItems) → IsFoundIn log found → IsKnown found
known log found in_log =
    let some = live_logs_items found.live.uuid log found.live.heads.items found.live.entries.items in_log.live_in in
    record { logged = some.0; log_all = some.1; good = logged_are_good found.live.uuid log found.live.heads.items found.live.entries.items some.0 in_log.live_in some.1 }

pub logs_some : (log : List ℕ) (found : LiveItems) (es : List Entry) (vs : List (Vec Item)) → IsFoundIn log found → es ≡ found.live.entries.items → vs ≡ found.items.items
    → (ls : List Logged) × LogEach es (items_in vs) ls
logs_some log found es vs in_log same also =
    let is = known log found in_log in (
      is.logged,
      subst (λ (xs : List Entry). LogEach xs (items_in vs) is.logged) (sym same)
          (subst (λ (xs : List (Vec Item)). LogEach found.live.entries.items (items_in xs) is.logged) (sym also) (in_log.has.each is.logged is.log_all)),
    )

pub items_valid : (log : List ℕ) (found : LiveItems) (vs : List (Vec Item)) → IsFoundIn log found → vs ≡ found.items.items → AllByRecursion IsItem (joined_items vs)
items_valid log found vs in_log also =
    let is = known log found in_log in
    subst (AllByRecursion IsItem) (sym (ap joined_items also ∙ in_log.has.joined is.logged is.log_all)) (all_valid found.live.uuid 0 is.logged is.good)

pub works_numbered : (log : List ℕ) (found : LiveItems) (next : ℕ) (vs : List (Vec Item)) → IsFoundIn log found → vs ≡ found.items.items → next ≡ next_id (joined_items vs)
    → AreNumbered next found.pending.items
works_numbered log found next vs in_log also next_is =
    let is = known log found in_log in
    let joined : joined_items found.items.items ≡ logged_items is.logged = in_log.has.joined is.logged is.log_all in
    subst (λ (n : ℕ). AreNumbered n found.pending.items) (sym (next_is ∙ ap (λ (xs : List (Vec Item)). next_id (joined_items xs)) also ∙ ap next_id joined))
    (subst (AreNumbered (next_id (logged_items is.logged))) (sym (in_log.has.pending_are ∙ ap pending joined)) (next_is_above found.live.uuid is.logged is.good))

pub last_placed : (log : List ℕ) (found : LiveItems) (hs : List Head) (last : Head) → IsFoundIn log found → hs ≡ found.live.heads.items
    → ((d : Head) → last ≡ get_or hs (length hs - 1) d) → IsPlacedHead last
last_placed log found hs last in_log same is =
    let heads : List Head = found.live.heads.items in
    let chain = in_log.live_in.chain in
    let some : length heads - 1 < length heads = omega (arith, ap length (in_log.live_in.heads_are ∙ ap heads_of chain.records_are)) in
    subst IsPlacedHead (sym (is last ∙ ap (λ (xs : List Head). get_or xs (length xs - 1) last) same))
    (live_is_placed found.live.uuid log heads found.live.entries.items in_log.long in_log.live_in (length heads - 1) last some)

-- what was replayed over the blocks at home
pub record IsReplayed (homes : List ℕ) (es : List Entry) (vs : List (Vec Item)) (blocks : List ℕ) (dirty : List Bool) : Type 0 where
  pub blocks_are : (ls : List Logged) → LogEach es (items_in vs) ls → (block : ℕ) → IsStateBlock block → copy_of blocks block ≡ replayed block (copy_of homes block) ls
  pub dirty_are : (ls : List Logged) → LogEach es (items_in vs) ls → (block : ℕ) → IsStateBlock block → get_or dirty (copy_number block) false ≡ is_logged block ls

-- the parts of an answer
pub record IsAnswer (homes : List ℕ) (found : LiveItems) (scanned : Scanned) : Type 0 where
  pub es : List Entry
  pub vs : List (Vec Item)
  pub hs : List Head
  pub same : es ≡ found.live.entries.items
  pub also : vs ≡ found.items.items
  pub heads : hs ≡ found.live.heads.items
  pub replay : IsReplayed homes es vs scanned.blocks.items scanned.dirty.items
  pub pending_are : scanned.pending.items ≡ found.pending.items
  pub place : scanned.head ≡ scanned.last.lsn
  pub last_is : (d : Head) → scanned.last ≡ get_or hs (length hs - 1) d
  pub clean : (scanned.clean ≡ true) ↔ ((length found.live.heads.items ≡ 1) × (found.live.entries.items ≡ Unmount ∷ []))
  pub next_is : scanned.next ≡ next_id (joined_items found.items.items)

pub scanned_in : (log homes : List ℕ) (found : LiveItems) (scanned : Scanned) (live : IsLiveIn scanned.uuid log found.live.heads.items found.live.entries.items)
    → scanned.ends_open ≡ is_open (phase_of live.entries_are.o) → HasItems found → (is : IsKnown found) → IsAnswer homes found scanned → IsScannedIn log homes scanned
scanned_in log homes found scanned live ends has is a =
    let heads : List Head = found.live.heads.items in
    let entries : List Entry = found.live.entries.items in
    let joined : joined_items found.items.items ≡ logged_items is.logged = has.joined is.logged is.log_all in
    let each : LogEach a.es (items_in a.vs) is.logged =
    subst (λ (xs : List Entry). LogEach xs (items_in a.vs) is.logged) (sym a.same)
    (subst (λ (xs : List (Vec Item)). LogEach entries (items_in xs) is.logged) (sym a.also) (has.each is.logged is.log_all)) in
    let last : scanned.last ≡ live.head.head =
    a.last_is live.head.head ∙ ap (λ (xs : List Head). get_or xs (length xs - 1) live.head.head) a.heads ∙ newest_head scanned.uuid log heads entries live live.head.head in
    let told = tells_clean scanned.uuid log heads entries live in
    record {
      heads = heads;
      entries = entries;
      live_in = live;
      logged = is.logged;
      log_all = is.log_all;
      blocks = a.replay.blocks_are is.logged each;
      pending_are = a.pending_are ∙ has.pending_are ∙ ap pending joined;
      few = let h = has.few in omega (arith, h, ap length a.pending_are);
      head = a.place ∙ ap (λ (h : Head). h.lsn) last;
      last = last;
      clean = (λ t. told.0 (a.clean.0 t), λ c. a.clean.1 (told.1 c));
      ends_open = tells_open scanned.ends_open live.entries_are.o ends;
      next = a.next_is ∙ ap next_id joined;
      dirty = a.replay.dirty_are is.logged each;
    }

-- from the bytes that were read to an image that has them
pub in_image : (image log homes : List ℕ) (scanned : Scanned) → HasSuper image scanned.uuid → log ≡ log_of image → AreHomes image homes → IsScannedIn log homes scanned → IsScanned image scanned
in_image image log homes scanned superblock is at_home s =
    let Of : List ℕ → Type 0 = λ (l : List ℕ). IsScannedIn l homes scanned in
    let t : IsScannedIn (log_of image) homes scanned = subst Of is s in
    record {
      superblock = superblock;
      heads = t.heads;
      entries = t.entries;
      live_in = t.live_in;
      logged = t.logged;
      log_all = t.log_all;
      blocks = λ block has. t.blocks block has ∙ ap (λ (xs : List ℕ). replayed block xs t.logged) (at_home block has);
      pending_are = t.pending_are;
      few = t.few;
      head = t.head;
      last = t.last;
      clean = t.clean;
      ends_open = t.ends_open;
      next = t.next;
      dirty = t.dirty;
    }
