-- That an operation that breaks no rule takes a stream on.
use Rattle.std.proofs.Common.{◌≡◌, ◌⊎◌, ℕ, Bool, true, false, cond, eqb, nat_le, nat_lt, ◌&&◌, ◌||◌, ◌/◌, ◌%◌, ◌+◌, ◌<◌, ◌≤◌, ◌^◌, List, [], ◌∷◌, ◌++◌, length, map, take, drop, Option, Some, None, refl, sym, ap, subst, ◌∙◌, arith, inl, inr}
use Rattle.std.specs.List.{AllByRecursion, flat_map}
use Rattle.std.specs.Str.{bytes_eq}
use Rattle.std.proofs.lemmas.Bool.{eqb-true, false≢true}
use Rattle.std.proofs.lemmas.Bool.Decides.{nat_tests}
use Rattle.std.proofs.lemmas.List.{append_assoc, append-nil, drop-drop, get_or-drop, length-append, length-drop, length-map, map-append, nil_from_length, take-append-drop, take_all}
use Rattle.std.proofs.lemmas.List.Concat.{flat_map-append}
use Rattle.std.proofs.lemmas.Slice.Eq.{bytes_eq-Decides}
use Rattle.byteorder.specs.Endian.{big_bytes, big_number, little_bytes, little_number}
use Rattle.byteorder.specs.Numbers.{little_from-lt}
use Rattle.xr_record.specs.declared.entry.Entry.{Entry}
use Rattle.xr_record.specs.declared.entry.Entry.TheVariants as seen
use Rattle.xr_record.specs.declared.layout.TheConstants.{TRANSACTION_MAGIC, TRANSACTION_TYPE}
use Rattle.xr_record.specs.declared.operation.Fields.{Fields}
use Rattle.xr_record.specs.declared.operation.Sort.{Sort}
use Rattle.xr_record.specs.declared.operation.Sort.TheVariants.{Start, Whole, First, Middle, Last, Commit, Unmount}
use Rattle.xr_record.specs.declared.rules.OpKind.{OpKind}
use Rattle.xr_record.specs.declared.rules.OpKind.TheVariants.{Header, Count}
use Rattle.xr_record.specs.Operations.{Operation, client_of, fields, flags_of, operation_bytes, sort_of, raw_operation}
use Rattle.xr_base.specs.Fields.{AreBytes}
use Rattle.xr_record.specs.Rules.{Phase, AtPart, AtRegion, body_fault, is_client, is_header_body, phase_of}
use Rattle.xr_record.specs.ReaderSteps.{goes_on}
use Rattle.xr_record.specs.Stream.{AreFirstParts, AreParts, Between, Begun, Cut, HasBytes, Inside, IsTransactionFront, IsOpenPiece, IsPiece, Open, Piece, Transaction, Unmounting, Written, are_items, begun, commit, entry, transaction_front, header_body, joined, later_parts, middle_part, operations, region, start, transaction_header, unmount_body}
use Rattle.xr_record.specs.HeaderRuleLaws.{IsRight}
use Rattle.xr_record.specs.StampLaws.{big_bytes-number}
use Rattle.xr_record.specs.UnsealLaws.{little_bytes-number}

-- Facts of all elements of a list

pub all_push : {X : Type 0} (P : X → Type 0) (xs : List X) (x : X) → AllByRecursion P xs → P x → AllByRecursion P (xs ++ x ∷ [])
all_push P [] x all p = (p, tt)
all_push P (y ∷ ys) x all p = (all.0, all_push P ys x all.1 p)

pub all_append : {X : Type 0} (P : X → Type 0) (xs ys : List X) → AllByRecursion P xs → AllByRecursion P ys → AllByRecursion P (xs ++ ys)
all_append P [] ys all more = more
all_append P (x ∷ xs) ys all more = (all.0, all_append P xs ys all.1 more)

-- Regions

pub joined_push : (parts : List (List ℕ)) (body : List ℕ) → joined (parts ++ body ∷ []) ≡ joined parts ++ body
joined_push parts body = flat_map-append (λ (part : List ℕ). part) parts (body ∷ []) ∙ ap (λ (xs : List ℕ). joined parts ++ xs) (append-nil body)

pub map_push : (regions : List (List (List ℕ))) (parts : List (List ℕ)) → map joined (regions ++ parts ∷ []) ≡ map joined regions ++ joined parts ∷ []
map_push regions parts = map-append joined regions (parts ∷ [])

later_push : (tid : ℕ) (part : List ℕ) (parts : List (List ℕ)) (body : List ℕ)
    → later_parts tid part (parts ++ body ∷ []) ≡ map (middle_part tid) (part ∷ parts) ++ record { tid = tid; sort = Last; body = body } ∷ []
later_push tid part [] body = refl
later_push tid part (next ∷ parts) body = ap (λ (os : List Operation). middle_part tid part ∷ os) (later_push tid next parts body)

region_push : (tid : ℕ) (part : List ℕ) (parts : List (List ℕ)) (body : List ℕ)
    → region tid (part ∷ (parts ++ body ∷ [])) ≡ record { tid = tid; sort = First; body = part } ∷ map (middle_part tid) parts ++ record { tid = tid; sort = Last; body = body } ∷ []
region_push tid part [] body = refl
region_push tid part (next ∷ parts) body =
    let first : Operation = record { tid = tid; sort = First; body = part } in
    ap (λ (os : List Operation). first ∷ os) (later_push tid next parts body)

regions_push : (tid : ℕ) (regions : List (List (List ℕ))) (parts : List (List ℕ)) → flat_map (region tid) (regions ++ parts ∷ []) ≡ flat_map (region tid) regions ++ region tid parts
regions_push tid regions parts = flat_map-append (region tid) regions (parts ∷ []) ∙ ap (λ (os : List Operation). flat_map (region tid) regions ++ os) (append-nil (region tid parts))

front_push : (t : Written) (parts : List (List ℕ)) → transaction_front t ++ region t.tid parts ≡ transaction_front record t { regions = t.regions ++ parts ∷ [] }
front_push t parts = ap (λ (os : List Operation). start t.tid ∷ transaction_header t.tid t.count ∷ os) (sym (regions_push t.tid t.regions parts))

-- Headers of transactions

sixteen : (body a b c d : List ℕ) → take 4 body ≡ a → take 4 (drop 4 body) ≡ b → take 4 (drop 8 body) ≡ c → drop 12 body ≡ d → body ≡ a ++ b ++ c ++ d
sixteen body a b c d p q r s =
    sym (take-append-drop 4 body)
    ∙ ap (λ (xs : List ℕ). take 4 body ++ xs) (sym (take-append-drop 4 (drop 4 body)) ∙ ap (λ (xs : List ℕ). take 4 (drop 4 body) ++ xs)
    (drop-drop 4 4 body ∙ sym (take-append-drop 4 (drop 8 body)) ∙ ap (λ (xs : List ℕ). take 4 (drop 8 body) ++ xs) (drop-drop 4 8 body)))
    ∙ rw (p, q, r, s) (sym (append_assoc (a ++ b) c d ∙ append_assoc a b (c ++ d)))

pub header_body_is : (tid : ℕ) (body : List ℕ) → AreBytes body → is_header_body tid body ≡ true
    → (body ≡ header_body tid (little_number 4 (drop 12 body))) × (little_number 4 (drop 12 body) < 2 ^ 32) × (length body ≡ 16)
header_body_is tid body small e =
    let len : length body ≡ 16 = grind (arith, nat_tests, e) in
    let magic : little_number 4 body ≡ TRANSACTION_MAGIC = grind (arith, nat_tests, e) in
    let kind : little_number 4 (drop 4 body) ≡ TRANSACTION_TYPE = grind (arith, nat_tests, e) in
    let own : little_number 4 (drop 8 body) ≡ tid = grind (arith, nat_tests, e) in
    let a = sym (little_bytes-number body (omega arith) small) ∙ ap (little_bytes 4) magic in
    let b = sym (little_bytes-number (drop 4 body) (omega (arith, length-drop 4 body)) (λ k. rw (get_or-drop 4 body k 0) (small (4 + k)))) ∙ ap (little_bytes 4) kind in
    let c = sym (little_bytes-number (drop 8 body) (omega (arith, length-drop 8 body)) (λ k. rw (get_or-drop 8 body k 0) (small (8 + k)))) ∙ ap (little_bytes 4) own in
    let d = sym (little_bytes-number (drop 12 body) (omega (arith, length-drop 12 body)) (λ k. rw (get_or-drop 12 body k 0) (small (12 + k)))) in
    let last : take 4 (drop 12 body) ≡ drop 12 body = take_all 4 (drop 12 body) (omega (arith, length-drop 12 body)) in (
      sixteen body _ _ _ _ a b c (sym last ∙ d),
      little_from-lt 0 4 (drop 12 body) (λ k. rw (get_or-drop 12 body k 0) (small (12 + k))),
      len,
    )

-- Operations from their bytes

choose : (b : Bool) (x sort : Sort) (rest : Option Sort) → cond b (Some x) rest ≡ Some sort → ((b ≡ true) × (x ≡ sort)) ⊎ (rest ≡ Some sort)
choose true x sort rest h = inl (refl, cc)
choose false x sort rest h = inr h

none_left : {A : Type 0} (sort : Sort) → None ≡ Some sort → A
none_left sort h = absurd cc

-- the flags of a sort of operation of a transaction
transaction_sort : (flags : ℕ) (sort : Sort)
    → cond (eqb flags 1) (Some Start) (cond (eqb flags 0) (Some Whole) (cond (eqb flags 4) (Some First) (cond (eqb flags 12) (Some Middle) (cond (eqb flags 24) (Some Last) (cond (eqb flags 2) (Some Commit) None))))) ≡ Some sort
    → (105 ≡ client_of sort) × (flags ≡ flags_of sort)
transaction_sort flags sort h = elim (choose (eqb flags 1) Start sort _ h) [
  | inl w ↦ subst (λ (s : Sort). (105 ≡ client_of s) × (flags ≡ flags_of s)) w.1 (refl, eqb-true flags 1 w.0)
  | inr h ↦ elim (choose (eqb flags 0) Whole sort _ h) [
    | inl w ↦ subst (λ (s : Sort). (105 ≡ client_of s) × (flags ≡ flags_of s)) w.1 (refl, eqb-true flags 0 w.0)
    | inr h ↦ elim (choose (eqb flags 4) First sort _ h) [
      | inl w ↦ subst (λ (s : Sort). (105 ≡ client_of s) × (flags ≡ flags_of s)) w.1 (refl, eqb-true flags 4 w.0)
      | inr h ↦ elim (choose (eqb flags 12) Middle sort _ h) [
        | inl w ↦ subst (λ (s : Sort). (105 ≡ client_of s) × (flags ≡ flags_of s)) w.1 (refl, eqb-true flags 12 w.0)
        | inr h ↦ elim (choose (eqb flags 24) Last sort _ h) [
          | inl w ↦ subst (λ (s : Sort). (105 ≡ client_of s) × (flags ≡ flags_of s)) w.1 (refl, eqb-true flags 24 w.0)
          | inr h ↦ elim (choose (eqb flags 2) Commit sort _ h) [
            | inl w ↦ subst (λ (s : Sort). (105 ≡ client_of s) × (flags ≡ flags_of s)) w.1 (refl, eqb-true flags 2 w.0)
            | inr h ↦ none_left sort h
          ]
        ]
      ]
    ]
  ]
]

log_sort : (flags : ℕ) (sort : Sort) → cond (eqb flags 32) (Some Unmount) None ≡ Some sort → (170 ≡ client_of sort) × (flags ≡ flags_of sort)
log_sort flags sort h = elim (choose (eqb flags 32) Unmount sort None h) [
  | inl w ↦ subst (λ (s : Sort). (170 ≡ client_of s) × (flags ≡ flags_of s)) w.1 (refl, eqb-true flags 32 w.0)
  | inr h ↦ none_left sort h
]

two_clients : (client flags : ℕ) (b : Bool) → (eqb client 105 || (eqb client 170 && b)) ≡ true → (client ≡ 105) ⊎ (client ≡ 170)
two_clients client flags b h = grind (arith, nat_tests)

-- the sort tells the client and the flags
pub sort_tells_flags : (f : Fields) (sort : Sort) → is_client f ≡ true → sort_of f.client f.flags ≡ Some sort → (f.client ≡ client_of sort) × (f.flags ≡ flags_of sort)
sort_tells_flags f sort c h = elim (two_clients f.client f.flags (eqb ((f.flags / 32) % 2) 1) c) [
  | inl e ↦
      let none : eqb f.client 170 ≡ false = grind (arith, nat_tests) in
      let k = transaction_sort f.flags sort (rw none at h) in
      (e ∙ k.0, k.1)
  | inr e ↦
      let some : eqb f.client 170 ≡ true = grind (arith, nat_tests) in
      let k = log_sort f.flags sort (rw some at h) in
      (e ∙ k.0, k.1)
]

-- bytes whose header breaks no rule are those of an operation
pub operation_of : (phase : Phase) (bytes : List ℕ) (sort : Sort) → AreBytes bytes → length bytes ≡ 12 + (fields bytes).len → 12 ≤ length bytes
    → is_client (fields bytes) ≡ true → (fields bytes).zeros ≡ 0 → sort_of (fields bytes).client (fields bytes).flags ≡ Some sort
    → bytes ≡ operation_bytes record { tid = (fields bytes).tid; sort = sort; body = drop 12 bytes }
unfolding raw_operation
operation_of phase (a ∷ b ∷ c ∷ d ∷ e ∷ f ∷ g ∷ h ∷ i ∷ j ∷ k ∷ l ∷ body) sort small whole long client zeros is =
    let bytes = a ∷ b ∷ c ∷ d ∷ e ∷ f ∷ g ∷ h ∷ i ∷ j ∷ k ∷ l ∷ body in
    let first : big_bytes 4 (big_number 4 bytes) ≡ a ∷ b ∷ c ∷ d ∷ [] = big_bytes-number bytes (omega arith) small in
    let second : big_bytes 4 (big_number 4 (drop 4 bytes)) ≡ e ∷ f ∷ g ∷ h ∷ [] = big_bytes-number (drop 4 bytes) (omega arith) (λ n. rw (get_or-drop 4 bytes n 0) (small (4 + n))) in
    let len : length body ≡ big_number 4 (drop 4 bytes) = omega arith in
    let tells = sort_tells_flags (fields bytes) sort client is in
    let k0 : k ≡ 0 = omega arith in
    let l0 : l ≡ 0 = omega arith in
    let back : big_bytes 4 (big_number 4 bytes) ++ (big_bytes 4 (length body) ++ (client_of sort ∷ flags_of sort ∷ 0 ∷ 0 ∷ body)) ≡ bytes =
    ap (λ (xs : List ℕ). xs ++ (big_bytes 4 (length body) ++ (client_of sort ∷ flags_of sort ∷ 0 ∷ 0 ∷ body))) first
    ∙ ap (λ (n : ℕ). a ∷ b ∷ c ∷ d ∷ (big_bytes 4 n ++ (client_of sort ∷ flags_of sort ∷ 0 ∷ 0 ∷ body))) len
    ∙ ap (λ (xs : List ℕ). a ∷ b ∷ c ∷ d ∷ (xs ++ (client_of sort ∷ flags_of sort ∷ 0 ∷ 0 ∷ body))) second
    ∙ rw (← tells.0, ← tells.1, k0, l0) refl in
    sym back
operation_of phase bytes sort small whole long client zeros is = absurd (omega arith)

-- What an operation makes of what is open

-- the pieces that became whole, and what is open then
pub record Steps (o : Open) (op : Operation) (entries : List Entry) (phase : Phase) : Type 0 where
  pub pieces : List Piece
  pub next : Open
  pub written : begun o ++ op ∷ [] ≡ flat_map operations pieces ++ begun next
  pub each : AllByRecursion IsPiece pieces
  pub good : IsOpenPiece next
  pub entries_are : entries ≡ map entry pieces
  pub phase_is : phase ≡ phase_of next

region_room : (before len : ℕ) → (nat_lt 0 len && nat_le (before + len) 4096) ≡ true → (0 < len) × (before + len ≤ 4096)
region_room before len h = grind (arith, nat_tests, h)

abbrev fault_unless : Bool → OpKind → Option OpKind
fault_unless b kind = cond b None (Some kind)

two_hold : (a b : Bool) → (a && b) ≡ true → (a ≡ true) × (b ≡ true)
two_hold true b h = (refl, h)
two_hold false b h = absurd (false≢true h)

abbrev cut_first : ℕ → List ℕ → Operation
cut_first tid part = record { tid = tid; sort = First; body = part }

-- a test that must hold where there is no fault
must_hold : (b : Bool) (kind : OpKind) → fault_unless b kind ≡ None → b ≡ true
must_hold true kind h = refl
must_hold false kind h = absurd cc

step_start : (tid : ℕ) (body : List ℕ) → tid < 2 ^ 32 → length body ≡ 0 → Steps Between record { tid = tid; sort = Start; body = body } [] (phase_of (Begun tid))
step_start tid body fits len = record {
  pieces = [];
  next = Begun tid;
  written = ap (λ (xs : List ℕ). (let o : Operation = record { tid = tid; sort = Start; body = xs } in o) ∷ []) (nil_from_length body len);
  each = tt;
  good = fits;
  entries_are = refl;
  phase_is = refl;
}

step_unmount : (tid : ℕ) (body : List ℕ) → tid ≡ 0 → body ≡ unmount_body
    → Steps Between record { tid = tid; sort = Unmount; body = body } (seen.Unmount ∷ []) (phase_of Between)
step_unmount tid body t b = record {
  pieces = Unmounting ∷ [];
  next = Between;
  written = rw (t, b) refl;
  each = (tt, tt);
  good = tt;
  entries_are = refl;
  phase_is = refl;
}

step_header : (own tid : ℕ) (body : List ℕ) → own < 2 ^ 32 → tid ≡ own → AreBytes body → is_header_body own body ≡ true
    → Steps (Begun own) record { tid = tid; sort = Whole; body = body } [] (phase_of (Inside record { tid = own; count = little_number 4 (drop 12 body); regions = [] }))
step_header own tid body fits t small e =
    let is = header_body_is own body small e in
    let op : List ℕ → Operation = λ xs. record { tid = own; sort = Whole; body = xs } in
    record {
      pieces = [];
      next = Inside record { tid = own; count = little_number 4 (drop 12 body); regions = [] };
      written = rw t (ap (λ (xs : List ℕ). start own ∷ op xs ∷ []) is.0);
      each = tt;
      good = record { tid = fits; count = is.1; regions = tt };
      entries_are = refl;
      phase_is = refl;
    }

step_whole : (t : Written) (tid : ℕ) (body : List ℕ) → IsTransactionFront t → tid ≡ t.tid → 0 < length body → length body ≤ 4096
    → Steps (Inside t) record { tid = tid; sort = Whole; body = body } [] (AtRegion t.tid t.count (map joined t.regions ++ body ∷ []))
step_whole t tid body f e some most =
    let alone : joined (body ∷ []) ≡ body = append-nil body in
    record {
      pieces = [];
      next = Inside record t { regions = t.regions ++ (body ∷ []) ∷ [] };
      written = rw e (front_push t (body ∷ []));
      each = tt;
      good = record {
        tid = f.tid;
        count = f.count;
        regions = all_push AreParts t.regions (body ∷ []) f.regions record { some = omega arith; each = (some, tt); most = rw alone most };
      };
      entries_are = refl;
      phase_is = ap (AtRegion t.tid t.count) (sym (map_push t.regions (body ∷ []) ∙ ap (λ (xs : List ℕ). map joined t.regions ++ xs ∷ []) alone));
    }

step_first : (t : Written) (tid : ℕ) (body : List ℕ) → IsTransactionFront t → tid ≡ t.tid → 0 < length body → length body ≤ 4096
    → Steps (Inside t) record { tid = tid; sort = First; body = body } [] (AtPart t.tid t.count (map joined t.regions) body)
step_first t tid body f e some most =
    let alone : joined (body ∷ []) ≡ body = append-nil body in
    record {
      pieces = [];
      next = Cut t body [];
      written = rw e refl;
      each = tt;
      good = (f, record { each = (some, tt); most = rw alone most });
      entries_are = refl;
      phase_is = ap (AtPart t.tid t.count (map joined t.regions)) (sym alone);
    }

step_commit : (t : Written) (tid : ℕ) (body : List ℕ) → IsTransactionFront t → tid ≡ t.tid → length body ≡ 0 → t.count ≡ length t.regions → are_items (map joined t.regions) ≡ true
    → Steps (Inside t) record { tid = tid; sort = Commit; body = body } (seen.Trans t.tid (map joined t.regions) ∷ []) (phase_of Between)
step_commit t tid body f e len number items = record {
  pieces = Transaction t ∷ [];
  next = Between;
  written = rw (e, nil_from_length body len) (sym (append-nil (transaction_front t ++ commit t.tid ∷ [] ++ []) ∙ append-nil (transaction_front t ++ commit t.tid ∷ [])));
  each = (record { front_is = f; number = number; items = items }, tt);
  good = tt;
  entries_are = refl;
  phase_is = refl;
}

step_middle : (t : Written) (part : List ℕ) (parts : List (List ℕ)) (tid : ℕ) (body : List ℕ) → IsTransactionFront t → AreFirstParts part parts → tid ≡ t.tid
    → 0 < length body → length (joined (part ∷ parts)) + length body ≤ 4096
    → Steps (Cut t part parts) record { tid = tid; sort = Middle; body = body } [] (AtPart t.tid t.count (map joined t.regions) (joined (part ∷ parts) ++ body))
step_middle t part parts tid body f p e some most =
    let more : joined (part ∷ (parts ++ body ∷ [])) ≡ joined (part ∷ parts) ++ body = joined_push (part ∷ parts) body in
    record {
      pieces = [];
      next = Cut t part (parts ++ body ∷ []);
      written = rw (e, map-append (middle_part t.tid) parts (body ∷ [])) (append_assoc (transaction_front t) (cut_first t.tid part ∷ map (middle_part t.tid) parts) (middle_part t.tid body ∷ []));
      each = tt;
      good = (f, record { each = all_push HasBytes (part ∷ parts) body p.each some; most = rw (more, length-append (joined (part ∷ parts)) body) most });
      entries_are = refl;
      phase_is = ap (AtPart t.tid t.count (map joined t.regions)) (sym more);
    }

step_last : (t : Written) (part : List ℕ) (parts : List (List ℕ)) (tid : ℕ) (body : List ℕ) → IsTransactionFront t → AreFirstParts part parts → tid ≡ t.tid
    → 0 < length body → length (joined (part ∷ parts)) + length body ≤ 4096
    → Steps (Cut t part parts) record { tid = tid; sort = Last; body = body } [] (AtRegion t.tid t.count (map joined t.regions ++ (joined (part ∷ parts) ++ body) ∷ []))
step_last t part parts tid body f p e some most =
    let all = part ∷ (parts ++ body ∷ []) in
    let more : joined all ≡ joined (part ∷ parts) ++ body = joined_push (part ∷ parts) body in
    let last : Operation = record { tid = t.tid; sort = Last; body = body } in
    record {
      pieces = [];
      next = Inside record t { regions = t.regions ++ all ∷ [] };
      written = rw e (append_assoc (transaction_front t) (cut_first t.tid part ∷ map (middle_part t.tid) parts) (last ∷ []) ∙ ap (λ (os : List Operation). transaction_front t ++ os) (sym (region_push t.tid part parts body)) ∙ front_push t all);
      each = tt;
      good = record {
        tid = f.tid;
        count = f.count;
        regions = all_push AreParts t.regions all f.regions record {
          some = omega arith;
          each = all_push HasBytes (part ∷ parts) body p.each some;
          most = rw (more, length-append (joined (part ∷ parts)) body) most;
        };
      };
      entries_are = refl;
      phase_is = ap (AtRegion t.tid t.count) (sym (map_push t.regions all ∙ ap (λ (xs : List ℕ). map joined t.regions ++ xs ∷ []) more));
    }

-- an operation that breaks no rule
pub step : (o : Open) (f : Fields) (sort : Sort) (body : List ℕ) → IsOpenPiece o → IsRight (phase_of o) f sort → f.tid < 2 ^ 32 → f.len ≡ length body → AreBytes body
    → body_fault (phase_of o) sort body ≡ None
    → Steps o record { tid = f.tid; sort = sort; body = body } (goes_on (phase_of o) sort f.tid body).0 (goes_on (phase_of o) sort f.tid body).1
step Between f Start body good r fits len small fault = step_start f.tid body fits (sym len ∙ eqb-true f.len 0 r.len)
step Between f Unmount body good r fits len small fault =
    step_unmount f.tid body (eqb-true f.tid 0 r.tid) ((bytes_eq-Decides body unmount_body).0 (must_hold (bytes_eq body unmount_body) Header fault))
step Between f sort body good r fits len small fault = absurd (false≢true r.comes)
step (Begun own) f Whole body good r fits len small fault =
    step_header own f.tid body good (eqb-true f.tid own r.tid) small (must_hold (is_header_body own body) Header fault)
step (Begun own) f sort body good r fits len small fault = absurd (false≢true r.comes)
step (Inside t) f Whole body good r fits len small fault =
    let room = region_room 0 f.len r.len in
    step_whole t f.tid body good (eqb-true f.tid t.tid r.tid) (omega arith) (omega arith)
step (Inside t) f First body good r fits len small fault =
    let room = region_room 0 f.len r.len in
    step_first t f.tid body good (eqb-true f.tid t.tid r.tid) (omega arith) (omega arith)
step (Inside t) f Commit body good r fits len small fault =
    let holds = must_hold (eqb t.count (length (map joined t.regions)) && are_items (map joined t.regions)) Count fault in
    let both = two_hold (eqb t.count (length (map joined t.regions))) (are_items (map joined t.regions)) holds in
    step_commit t f.tid body good (eqb-true f.tid t.tid r.tid) (sym len ∙ eqb-true f.len 0 r.len) (eqb-true t.count (length (map joined t.regions)) both.0 ∙ length-map t.regions joined) both.1
step (Inside t) f sort body good r fits len small fault = absurd (false≢true r.comes)
step (Cut t part parts) f Middle body good r fits len small fault =
    let room = region_room (length (joined (part ∷ parts))) f.len r.len in
    step_middle t part parts f.tid body good.0 good.1 (eqb-true f.tid t.tid r.tid) (omega arith) (omega arith)
step (Cut t part parts) f Last body good r fits len small fault =
    let room = region_room (length (joined (part ∷ parts))) f.len r.len in
    step_last t part parts f.tid body good.0 good.1 (eqb-true f.tid t.tid r.tid) (omega arith) (omega arith)
step (Cut t part parts) f sort body good r fits len small fault = absurd (false≢true r.comes)
