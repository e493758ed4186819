-- What an operation makes of what stands open, where it is packed.
use Rattle.std.proofs.Common.{◌≡◌, ◌≢◌, ℕ, zero, suc, ◌≤◌, ◌+◌, ◌-◌, ◌<◌, ◌^◌, ◌==◌, Bool, true, cond, nat_le, nat_lt, ◌&&◌, List, [], ◌∷◌, ◌++◌, length, take, drop, map, None, Some, refl, sym, ap, subst, ◌∙◌, arith, lit<, eq-eqb}
use Rattle.std.specs.List.{flat_map}
use Rattle.std.proofs.lemmas.List.{get_or-drop, length-append, length-drop, length-take, take-append-drop, take_all}
use Rattle.std.proofs.lemmas.Bool.{le-leb, lt-ltb, ne_eqb}
use Rattle.xr_base.specs.Fields.{AreBytes}
use Rattle.xr_disk.specs.Disk.{DiskView}
use Rattle.xr_record.specs.declared.entry.Entry.{Entry}
use Rattle.xr_record.specs.declared.operation.Sort.{Sort}
use Rattle.xr_record.specs.declared.operation.Sort.TheVariants.{Start, Whole, First, Last, Unmount}
use Rattle.xr_record.specs.declared.layout.TheConstants.{CONTINUE, LAST_FLAGS, MIDDLE_FLAGS, TRANSACTION_CLIENT, TRANSACTION_MAGIC, TRANSACTION_TYPE}
use Rattle.xr_record.specs.HeaderRuleLaws.{IsRight}
use Rattle.xr_record.specs.HoldLaws.{small_append}
use Rattle.xr_record.specs.OneWayLaws.{length_op, op_fields}
use Rattle.xr_record.specs.OperationLaws.{Steps, step}
use Rattle.xr_record.specs.Operations.{Operation, client_of, flags_of, operation_bytes, raw_operation}
use Rattle.xr_record.specs.Packing.{Packed, Pushes, part_flags, room_in, stop_of}
use Rattle.xr_record.specs.ReaderSteps.{goes_on}
use Rattle.xr_record.specs.Rules.{AtEntry, AtHeader, AtPart, AtRegion, Phase, body_fault, is_header_body}
use Rattle.xr_record.specs.Stream.{IsOpenPiece, Open, Piece, begun, entry, header_body, operations, start, transaction_header}
use Rattle.xr_record.specs.declared.rules.OpKind.TheVariants.{Header}
use Rattle.byteorder.specs.Endian.{little_bytes, little_number}
use Rattle.byteorder.specs.Numbers.{little_number-reads_back}
use Rattle.xr_commit.specs.LogRecords.{LogRecord}
use Rattle.xr_scan.specs.State.{Holds, State}
use Rattle.xr_log.specs.declared.held.Held.{Held}
use Rattle.xr_log.specs.CommitSteps.{KeepsOpen, OnlyPushes}
use Rattle.xr_log.specs.Gathered.{HasGathered, Said, needed, with_operation}
use Rattle.xr_log.specs.Pushes.{opened}
use Rattle.xr_log.proofs.PushLemmas.{gathers_on}

-- what a push wrote is an operation
pub pushed_op : (old new : Packed) (op : Operation) (flags : ℕ) (region : List ℕ) (from stop : ℕ) → Pushes old new op.tid TRANSACTION_CLIENT flags region from stop
    → client_of op.sort ≡ TRANSACTION_CLIENT → part_flags flags from stop (length region) ≡ flags_of op.sort → op.body ≡ take (stop - from) (drop from region)
    → new ≡ with_operation old op
pushed_op old new op flags region from stop p client flags_are body =
    let bytes : new.body ≡ old.body ++ operation_bytes op =
    p.body ∙ ap (λ (xs : List ℕ). old.body ++ xs)
    (ap (λ (f : ℕ). raw_operation op.tid TRANSACTION_CLIENT f (take (stop - from) (drop from region))) flags_are
    ∙ ap (λ (xs : List ℕ). raw_operation op.tid TRANSACTION_CLIENT (flags_of op.sort) xs) (sym body)
    ∙ ap (λ (c : ℕ). raw_operation op.tid c (flags_of op.sort) op.body) (sym client)) in
    packed_is new (with_operation old op) bytes p.ops where
      packed_is : (a b : Packed) → a.body ≡ b.body → a.ops ≡ b.ops → a ≡ b
      packed_is a b e f = λ i. record { body = e i; ops = f i }

-- no piece has become whole
none_whole : (pieces : List Piece) → [] ≡ map entry pieces → pieces ≡ []
none_whole [] e = refl
none_whole (p ∷ pieces) e = absurd (let h = ap length e in omega (arith, h))

none_begun : (o next : Open) (op : Operation) (pieces : List Piece) → pieces ≡ [] → begun o ++ op ∷ [] ≡ flat_map operations pieces ++ begun next → begun next ≡ begun o ++ op ∷ []
none_begun o next op pieces none written = sym (written ∙ ap (λ (ps : List Piece). flat_map operations ps ++ begun next) none)

-- The record that grows has one operation more, and all else is as before.
pub record HasOneMore (old new : Held) (op : Operation) : Type 0 where
  pub packer : new.growing.packer ≡ with_operation old.growing.packer op
  pub last : new.growing.last ≡ old.growing.last
  pub anew : new.growing.anew ≡ old.growing.anew
  pub uuid : new.uuid ≡ old.uuid

-- and breaks no rule
pub record FollowsRules (phase : Phase) (op : Operation) (phase' : Phase) : Type 0 where
  pub right : IsRight phase (op_fields op) op.sort
  pub tid : op.tid < 2 ^ 32
  pub len : length op.body < 2 ^ 32
  pub small : AreBytes op.body
  pub body : body_fault phase op.sort op.body ≡ None
  pub goes : goes_on phase op.sort op.tid op.body ≡ ([], phase')
  pub own : op.sort ≢ Unmount

good_open : (image : List ℕ) (state : State) (holds : Holds image state) (records : List LogRecord) (packed : Packed) (now : State) (said : Said)
    → HasGathered image state holds records packed now said → IsOpenPiece said.o
good_open image state holds records packed now said g = g.stream.good

pub one_more_open : (disk : DiskView) (old new : Held) (now : State) (said : Said) (next : ℕ) (states : List State) (phase phase' : Phase) (op : Operation)
    → KeepsOpen disk old now said next states phase → HasOneMore old new op → FollowsRules phase op phase' → KeepsOpen disk new now said next states phase'
one_more_open disk old new now said next states phase phase' op k more f =
    let keeps = k.keeps in
    let s : Steps k.o op (goes_on phase op.sort op.tid op.body).0 (goes_on phase op.sort op.tid op.body).1 =
    subst (λ (p : Phase). Steps k.o op (goes_on p op.sort op.tid op.body).0 (goes_on p op.sort op.tid op.body).1) k.phase_is
    (step k.o (op_fields op) op.sort op.body keeps.gathered.stream.good (subst (λ (p : Phase). IsRight p (op_fields op) op.sort) (sym k.phase_is) f.right) f.tid refl f.small
    (subst (λ (p : Phase). body_fault p op.sort op.body ≡ None) (sym k.phase_is) f.body)) in
    let none : s.pieces ≡ [] = none_whole s.pieces (sym (ap (λ (g : List Entry × Phase). g.0) f.goes) ∙ s.entries_are) in
    let gathered = gathers_on keeps.image keeps.durable keeps.holds (needed old.growing.anew keeps.holds.live_in.records) old.growing.packer now (opened said k.o) op s.next
    keeps.gathered record { tid = f.tid; len = f.len; own = f.own } (none_begun k.o s.next op s.pieces none s.written) s.good in
    record {
      o = s.next;
      phase_is = sym s.phase_is ∙ ap (λ (g : List Entry × Phase). g.1) f.goes;
      keeps = record {
        image = keeps.image;
        rest = keeps.rest;
        long = keeps.long;
        durable = keeps.durable;
        among = keeps.among;
        holds = keeps.holds;
        last_is = keeps.last_is ∙ sym more.last;
        gathered = subst (λ (p : Packed). HasGathered keeps.image keeps.durable keeps.holds (needed new.growing.anew keeps.holds.live_in.records) p now (opened said s.next))
            (sym more.packer) (subst (λ (b : Bool). HasGathered keeps.image keeps.durable keeps.holds (needed b keeps.holds.live_in.records) (with_operation old.growing.packer op) now (opened said s.next)) (sym more.anew) gathered);
        durable_ids = keeps.durable_ids;
        ids = keeps.ids;
      };
      among = k.among;
      own = k.own ∙ sym more.uuid;
    }

-- what was pushed is one operation more, and so long
pub one_more : (old new : Held) (op : Operation) (flags : ℕ) (region : List ℕ) (from stop : ℕ)
    → Pushes old.growing.packer new.growing.packer op.tid TRANSACTION_CLIENT flags region from stop → OnlyPushes old new
    → client_of op.sort ≡ TRANSACTION_CLIENT → part_flags flags from stop (length region) ≡ flags_of op.sort → op.body ≡ take (stop - from) (drop from region)
    → HasOneMore old new op
one_more old new op flags region from stop p only client flags_are body = record {
  packer = pushed_op old.growing.packer new.growing.packer op flags region from stop p client flags_are body;
  last = only.last;
  anew = only.anew;
  uuid = only.same.uuid;
}

pub one_longer : (old new : Held) (op : Operation) → HasOneMore old new op → length new.growing.packer.body ≡ length old.growing.packer.body + (12 + length op.body)
one_longer old new op more =
    ap (λ (p : Packed). length p.body) more.packer ∙ length-append old.growing.packer.body (operation_bytes op)
    ∙ ap (λ (n : ℕ). length old.growing.packer.body + n) (length_op op)

abbrev is_start : Sort → Type 0
is_start Start = Unit {0}
is_start _ = ⊥

abbrev is_whole : Sort → Type 0
is_whole Whole = Unit {0}
is_whole _ = ⊥

-- operations that follow the rules: the first of a transaction,
pub starts : (tid : ℕ) → tid < 2 ^ 32 → FollowsRules AtEntry (start tid) (AtHeader tid)
starts tid small = record {
  right = record { client = refl; comes = refl; zeros = refl; tid = refl; len = refl };
  tid = small;
  len = lit< tt;
  small = λ i. lit< tt;
  body = refl;
  goes = refl;
  own = λ same. subst is_start same tt;
}

-- its header,
pub heads : (tid count : ℕ) → tid < 2 ^ 32 → count < 2 ^ 32 → AreBytes (header_body tid count) → FollowsRules (AtHeader tid) (transaction_header tid count) (AtRegion tid count [])
heads tid count small few bytes =
    let e : little_number 4 (drop 8 (header_body tid count)) ≡ tid = little_number-reads_back 4 tid (little_bytes 4 count) small in
    let held : is_header_body tid (header_body tid count) ≡ true = rw e (eq-eqb tid tid refl) in
    record {
      right = record { client = refl; comes = refl; zeros = refl; tid = eq-eqb tid tid refl; len = refl };
      tid = small;
      len = lit< tt;
      small = bytes;
      body = ap (λ (b : Bool). cond b None (Some Header)) held;
      goes = ap (λ (n : ℕ). ([], AtRegion tid n [])) (little_number-reads_back 4 count [] few);
      own = λ same. subst is_whole same tt;
    }

-- what a push of nothing wrote
pub nothing_more : (old new : Held) (op : Operation) (flags stop : ℕ) → Pushes old.growing.packer new.growing.packer op.tid TRANSACTION_CLIENT flags [] 0 stop
    → OnlyPushes old new → client_of op.sort ≡ TRANSACTION_CLIENT → flags ≡ flags_of op.sort → op.body ≡ [] → HasOneMore old new op
nothing_more old new op flags stop p only client flags_are none =
    let s = p.stop_is in
    let e : stop ≡ 0 = omega (arith, s) in
    let q = subst (λ (n : ℕ). Pushes old.growing.packer new.growing.packer op.tid TRANSACTION_CLIENT flags [] 0 n) e p in
    one_more old new op flags [] 0 0 q only client flags_are none

-- where a whole region fits, all of it is pushed,
whole_stop : (old : List ℕ) (n stop : ℕ) → stop ≡ stop_of (room_in old) 0 n → length old + (12 + n) ≤ 32768 → stop ≡ n
whole_stop old n stop is fits = omega (arith, is, fits)

pub whole_more : (old new : Held) (tid : ℕ) (region : List ℕ) (stop : ℕ) → Pushes old.growing.packer new.growing.packer tid TRANSACTION_CLIENT 0 region 0 stop
    → OnlyPushes old new → length old.growing.packer.body + (12 + length region) ≤ 32768 → HasOneMore old new (record { tid = tid; sort = Whole; body = region })
whole_more old new tid region stop p only fits =
    let n : ℕ = length region in
    let e : stop ≡ n = whole_stop old.growing.packer.body n stop p.stop_is fits in
    let q = subst (λ (s : ℕ). Pushes old.growing.packer new.growing.packer tid TRANSACTION_CLIENT 0 region 0 s) e p in
    one_more old new (record { tid = tid; sort = Whole; body = region }) 0 region 0 n q only refl
    (ap (λ (b : Bool). cond b 0 CONTINUE) (eq-eqb n n refl))
    (sym (take_all (n - 0) region (omega arith)))

little_small : (n : ℕ) → AreBytes (little_bytes 4 n)
little_small n zero = omega arith
little_small n (suc zero) = omega arith
little_small n (suc (suc zero)) = omega arith
little_small n (suc (suc (suc zero))) = omega arith
little_small n (suc (suc (suc (suc k)))) = lit< tt

pub header_small : (tid count : ℕ) → AreBytes (header_body tid count)
header_small tid count =
    small_append (little_bytes 4 TRANSACTION_MAGIC ++ little_bytes 4 TRANSACTION_TYPE ++ little_bytes 4 tid) (little_bytes 4 count)
    (small_append (little_bytes 4 TRANSACTION_MAGIC ++ little_bytes 4 TRANSACTION_TYPE) (little_bytes 4 tid)
    (small_append (little_bytes 4 TRANSACTION_MAGIC) (little_bytes 4 TRANSACTION_TYPE) (little_small TRANSACTION_MAGIC) (little_small TRANSACTION_TYPE)) (little_small tid))
    (little_small count)

pub header_more : (old new : Held) (tid count : ℕ) (bytes : List ℕ) (stop : ℕ) → bytes ≡ header_body tid count
    → Pushes old.growing.packer new.growing.packer tid TRANSACTION_CLIENT 0 bytes 0 stop → OnlyPushes old new → length old.growing.packer.body + 28 ≤ 32768
    → HasOneMore old new (transaction_header tid count)
header_more old new tid count bytes stop is p only fits =
    whole_more old new tid (header_body tid count) stop (subst (λ (xs : List ℕ). Pushes old.growing.packer new.growing.packer tid TRANSACTION_CLIENT 0 xs 0 stop) is p) only fits

-- regions and their parts follow the rules
small_take : (k : ℕ) (xs : List ℕ) → AreBytes xs → AreBytes (take k xs)
small_take zero xs f i = lit< tt
small_take (suc k) [] f i = lit< tt
small_take (suc k) (x ∷ xs) f zero = f 0
small_take (suc k) (x ∷ xs) f (suc i) = small_take k xs (λ n. f (suc n)) i

small_drop : (k : ℕ) (xs : List ℕ) → AreBytes xs → AreBytes (drop k xs)
small_drop k xs f i = rw (get_or-drop k xs i 0) (f (k + i))

room_for : (before len : ℕ) → 0 < len → before + len ≤ 4096 → (nat_lt 0 len && nat_le (before + len) 4096) ≡ true
room_for before len some most = rw (lt-ltb 0 len some, le-leb (before + len) 4096 most) refl

abbrev pub operation : ℕ → Sort → List ℕ → Operation
operation tid sort body = record { tid = tid; sort = sort; body = body }

pub whole_follows : (tid count : ℕ) (regions : List (List ℕ)) (body : List ℕ) → tid < 2 ^ 32 → 0 < length body → length body ≤ 4096 → AreBytes body
    → FollowsRules (AtRegion tid count regions) (operation tid Whole body) (AtRegion tid count (regions ++ body ∷ []))
whole_follows tid count regions body small some most bytes = record {
  right = record { client = refl; comes = refl; zeros = refl; tid = eq-eqb tid tid refl; len = room_for 0 (length body) some (omega (arith, most)) };
  tid = small;
  len = omega (arith, most);
  small = bytes;
  body = refl;
  goes = refl;
  own = λ same. subst is_whole same tt;
}

abbrev is_first : Sort → Type 0
is_first First = Unit {0}
is_first _ = ⊥

pub first_follows : (tid count : ℕ) (regions : List (List ℕ)) (region : List ℕ) (stop : ℕ) → tid < 2 ^ 32 → 0 < stop → stop ≤ length region → length region ≤ 4096 → AreBytes region
    → FollowsRules (AtRegion tid count regions) (operation tid First (take stop region)) (AtPart tid count regions (take stop region))
first_follows tid count regions region stop small some within most bytes =
    let long : length (take stop region) ≡ stop = (let e = length-take stop region in omega (arith, e, within)) in
    record {
      right = record { client = refl; comes = refl; zeros = refl; tid = eq-eqb tid tid refl; len = room_for 0 (length (take stop region)) (omega (arith, long, some)) (omega (arith, long, within, most)) };
      tid = small;
      len = omega (arith, long, within, most);
      small = small_take stop region bytes;
      body = refl;
      goes = refl;
      own = λ same. subst is_first same tt;
    }

abbrev is_last : Sort → Type 0
is_last Last = Unit {0}
is_last _ = ⊥

pub last_follows : (tid count : ℕ) (regions : List (List ℕ)) (region : List ℕ) (stop : ℕ) → tid < 2 ^ 32 → stop < length region → length region ≤ 4096 → AreBytes region
    → FollowsRules (AtPart tid count regions (take stop region)) (operation tid Last (drop stop region)) (AtRegion tid count (regions ++ region ∷ []))
last_follows tid count regions region stop small within most bytes =
    let front : length (take stop region) ≡ stop = (let e = length-take stop region in omega (arith, e, within)) in
    let rest = length-drop stop region in
    record {
      right = record {
        client = refl;
        comes = refl;
        zeros = refl;
        tid = eq-eqb tid tid refl;
        len = room_for (length (take stop region)) (length (drop stop region)) (omega (arith, rest, within)) (omega (arith, front, rest, within, most));
      };
      tid = small;
      len = omega (arith, rest, most);
      small = small_drop stop region bytes;
      body = refl;
      goes = ap (λ (xs : List ℕ). ([], AtRegion tid count (regions ++ xs ∷ []))) (take-append-drop stop region);
      own = λ same. subst is_last same tt;
    }

-- a part that isn't the whole region was pushed, up to the record's end,
pub first_more : (old new : Held) (tid : ℕ) (region : List ℕ) (stop : ℕ) → Pushes old.growing.packer new.growing.packer tid TRANSACTION_CLIENT 0 region 0 stop
    → OnlyPushes old new → stop < length region → HasOneMore old new (operation tid First (take stop region))
first_more old new tid region stop p only less =
    one_more old new (operation tid First (take stop region)) 0 region 0 stop p only refl
    (ap (λ (b : Bool). cond b 0 CONTINUE) (ne_eqb stop (length region) (λ e. omega (arith, e, less))))
    (ap (λ (n : ℕ). take n region) (omega arith))

-- and what was left of it
rest_stop : (old : List ℕ) (n from stop : ℕ) → stop ≡ stop_of (room_in old) from n → length old ≡ 0 → from < n → n ≤ 4096 → stop ≡ n
rest_stop old n from stop is none less most = omega (arith, is, none, less, most)

pub last_more : (old new : Held) (tid : ℕ) (region : List ℕ) (from stop : ℕ) → Pushes old.growing.packer new.growing.packer tid TRANSACTION_CLIENT 0 region from stop
    → OnlyPushes old new → length old.growing.packer.body ≡ 0 → 0 < from → from < length region → length region ≤ 4096
    → HasOneMore old new (operation tid Last (drop from region))
last_more old new tid region from stop p only none some less most =
    let n : ℕ = length region in
    let e : stop ≡ n = rest_stop old.growing.packer.body n from stop p.stop_is none less most in
    let q = subst (λ (s : ℕ). Pushes old.growing.packer new.growing.packer tid TRANSACTION_CLIENT 0 region from s) e p in
    one_more old new (operation tid Last (drop from region)) 0 region from n q only refl
    (ap (λ (b : Bool). cond b (cond (n == n) 0 CONTINUE) (cond (n == n) LAST_FLAGS MIDDLE_FLAGS)) (ne_eqb from 0 (λ z. omega (arith, z, some)))
    ∙ ap (λ (b : Bool). cond b LAST_FLAGS MIDDLE_FLAGS) (eq-eqb n n refl))
    (sym (take_all (n - from) (drop from region) (let l = length-drop from region in omega (arith, l))))
