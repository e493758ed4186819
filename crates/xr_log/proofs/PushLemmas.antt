-- That an operation within a transaction leaves what is said, and that its last one adds its items.
use Rattle.std.specs.Prelude.{if◌then◌else◌}
use Rattle.std.proofs.Common.{◌≡◌, ℕ, ◌+◌, ◌<◌, ◌^◌, ◌∙◌, List, [], ◌∷◌, ◌++◌, length, map, refl, sym, ap, subst, arith, lit<}
use Rattle.std.proofs.lemmas.Grind.{flat_map-append}
use Rattle.std.proofs.lemmas.List.{append-nil, append_assoc, length-append, map-append}
use Rattle.xr_base.specs.Image.{block_of}
use Rattle.xr_record.specs.declared.entry.Entry.{Entry}
use Rattle.xr_record.specs.declared.entry.Entry.TheVariants.{Trans, Unmount}
use Rattle.xr_record.specs.declared.operation.Sort.{Sort}
use Rattle.xr_record.specs.declared.operation.Sort.TheVariants as sort
use Rattle.xr_record.specs.OperationLaws.{all_push}
use Rattle.xr_record.specs.Operations.{Operation, operation_bytes}
use Rattle.xr_record.specs.Rules.{IsStream}
use Rattle.xr_record.specs.Stream.{Between, Open, Piece, Transaction, all_bytes, commit, entry, joined}
use Rattle.xr_commit.specs.GoodItems.{EntriesAreGood, RegionsAreGood, last_of}
use Rattle.xr_commit.specs.LoggedItems.{Logged}
use Rattle.xr_commit.specs.Entries.{joined_bodies}
use Rattle.xr_scan.specs.LoggedEntries.{LogAll, Logs}
use Rattle.xr_base.specs.declared.geometry.TheConstants.{BLOCK_BYTES}
use Rattle.xr_headers.specs.Padded.{zero_padded}
use Rattle.xr_scan.specs.Replayed.{logs_block, replayed}
use Rattle.xr_log.specs.Gathered.{IsPushed}
use Rattle.xr_log.specs.Pushes.{GathersAll, GathersOn}
use Rattle.xr_log.proofs.StreamPushLemmas.{stream_ends, stream_goes_on}

bytes_one : (body : List ℕ) (ops : List Operation) (op : Operation) → body ≡ all_bytes ops → body ++ operation_bytes op ≡ all_bytes (ops ++ op ∷ [])
bytes_one body ops op is =
    ap (λ (xs : List ℕ). xs ++ operation_bytes op) is
    ∙ sym (flat_map-append operation_bytes ops (op ∷ []) ∙ ap (λ (xs : List ℕ). all_bytes ops ++ xs) (append-nil (operation_bytes op)))

one_longer : (n : ℕ) (ops : List Operation) (op : Operation) → n ≡ length ops → n + 1 ≡ length (ops ++ op ∷ [])
one_longer n ops op is = let e = length-append ops (op ∷ []) in omega (arith, is, e)

pub gathers_on : GathersOn
gathers_on image state holds records packed now said op next g pushed is good = record {
  ops = g.ops ++ op ∷ [];
  each = all_push IsPushed g.ops op g.each pushed;
  body = bytes_one packed.body g.ops op g.body;
  number = one_longer packed.ops g.ops op g.number;
  stream = subst (λ (xs : List ℕ). IsStream xs said.pieces next []) (append_assoc (joined_bodies records) packed.body (operation_bytes op))
      (stream_goes_on (joined_bodies records ++ packed.body) said.pieces said.o next op g.stream is good);
  items = g.items;
  log_all = g.log_all;
  uuid = g.uuid;
  blocks = g.blocks;
  works = g.works;
}

good_on : (uuid : List ℕ) (begin last last' : ℕ) (es : List Entry) (tid : ℕ) (regions : List (List ℕ)) → EntriesAreGood uuid begin es last
    → RegionsAreGood uuid last regions last' → EntriesAreGood uuid begin (es ++ Trans tid regions ∷ []) last'
good_on uuid begin last last' [] tid regions good one = (last', subst (λ (n : ℕ). RegionsAreGood uuid n regions last') good one, refl)
good_on uuid begin last last' (Unmount ∷ es) tid regions good one = good_on uuid begin last last' es tid regions good one
good_on uuid begin last last' (Trans t rs ∷ es) tid regions (mid, first, others) one = (mid, first, good_on uuid mid last last' es tid regions others one)

all_on : (es : List Entry) (ls ms : List Logged) (tid : ℕ) (regions : List (List ℕ)) → LogAll es ls → Logs regions ms → LogAll (es ++ Trans tid regions ∷ []) (ls ++ ms)
all_on [] ls ms tid regions all one = (ms, [], ap (λ (xs : List Logged). xs ++ ms) all ∙ sym (append-nil ms), one, refl)
all_on (Unmount ∷ es) ls ms tid regions all one = all_on es ls ms tid regions all one
all_on (Trans t rs ∷ es) ls ms tid regions (f, o, are, logs, more) one =
    (f, o ++ ms, ap (λ (xs : List Logged). xs ++ ms) are ∙ append_assoc f o ms, logs, all_on es o ms tid regions more one)

replayed-append : (block : ℕ) (bytes : List ℕ) (ls ms : List Logged) → replayed block bytes (ls ++ ms) ≡ replayed block (replayed block bytes ls) ms
replayed-append block bytes [] ms = refl
replayed-append block bytes (l ∷ ls) ms = replayed-append block (if logs_block block l.item then zero_padded BLOCK_BYTES l.bytes else bytes) ls ms

commit_pushed : (tid : ℕ) → tid < 2 ^ 32 → IsPushed (commit tid)
commit_pushed tid small = record { tid = small; len = lit< tt; own = λ same. other same } where
  is_commit : Sort → Type 0
  is_commit sort.Commit = Unit {0}
  is_commit _ = ⊥

  other : sort.Commit ≡ sort.Unmount → ⊥
  other same = subst is_commit same tt

pub gathers_all : GathersAll
gathers_all image state holds records packed now said t logged g inside is regions good whole =
    let op : Operation = commit t.tid in
    let pieces : List Piece = said.pieces ++ Transaction t ∷ [] in
    let entries : map entry pieces ≡ map entry said.pieces ++ Trans t.tid (map joined t.regions) ∷ [] = map-append entry said.pieces (Transaction t ∷ []) in
    record {
      ops = g.ops ++ op ∷ [];
      each = all_push IsPushed g.ops op g.each (commit_pushed t.tid is.front_is.tid);
      body = bytes_one packed.body g.ops op g.body;
      number = one_longer packed.ops g.ops op g.number;
      stream = subst (λ (xs : List ℕ). IsStream xs pieces Between []) (append_assoc (joined_bodies records) packed.body (operation_bytes op))
          (stream_ends (joined_bodies records ++ packed.body) said.pieces t (subst (λ (o : Open). IsStream (joined_bodies records ++ packed.body) said.pieces o []) inside g.stream) is);
      items = subst (λ (es : List Entry). EntriesAreGood state.uuid 0 es (last_of said.last logged)) (sym entries)
          (good_on state.uuid 0 said.last (last_of said.last logged) (map entry said.pieces) t.tid (map joined t.regions) g.items
          record { logged = logged; good = good; regions_are = regions; last_is = refl });
      log_all = subst (λ (es : List Entry). LogAll es (said.logged ++ logged)) (sym entries)
          (all_on (map entry said.pieces) said.logged logged t.tid (map joined t.regions) g.log_all record { whole = whole; regions_are = regions });
      uuid = g.uuid;
      blocks = λ block k. ap (λ (xs : List ℕ). replayed block xs logged) (g.blocks block k) ∙ sym (replayed-append block (block_of image block) said.logged logged);
      works = refl;
    }
