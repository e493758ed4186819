-- What the bytes of an operation, as a reader holds them, come to.
use Rattle.std.proofs.Common.{◌≡◌, ℕ, zero, suc, Bool, ◌+◌, ◌-◌, ◌^◌, ◌<◌, ◌≤◌, List, [], ◌∷◌, ◌++◌, length, get_or, drop, Option, Some, None, refl, sym, ap, ◌∙◌, arith, inl, inr, option_to_list}
use Rattle.std.specs.Global.{Vec}
use Rattle.std.proofs.lemmas.List.{at_drop_more, drop-append-le, drop_at, get_or_append_left, length-append, length-drop, take_all}
use Rattle.byteorder.specs.Numbers.{big_from-append}
use Rattle.xr_record.specs.declared.entry.Entry.{Entry}
use Rattle.xr_record.specs.declared.reader_fields.ReaderFields.{ReaderFields}
use Rattle.xr_record.specs.declared.operation.Fields.{Fields}
use Rattle.xr_record.specs.declared.operation.Sort.{Sort}
use Rattle.xr_record.specs.declared.rules.OpKind.{OpKind}
use Rattle.xr_record.specs.ReaderFields.{Completes, IsGrowing, front_of, reader_state, region_items, IsWholeOperation}
use Rattle.xr_record.specs.Operations.{fields, sort_of}
use Rattle.xr_base.specs.Fields.{AreBytes}
use Rattle.xr_record.specs.Rules.{Breaks, IsPartial, body_fault, header_fault, whole_fault, ReaderState, operation_body}
use Rattle.xr_record.specs.ReaderSteps.{goes_on}
use Rattle.xr_record.specs.Stream.{items_from}

-- one region more is walked over
pub items_more : (left next : ℕ) (regions : List (Vec ℕ)) (i : ℕ) (region : Vec ℕ) (all : Bool) → i < length regions → region ≡ get_or regions i region
    → ((rest : List (List ℕ)) → items_from left (region.items ∷ rest) ≡ items_from next rest)
    → items_from left (region_items (drop i regions)) ≡ all → items_from next (region_items (drop (i + 1) regions)) ≡ all
items_more left next regions i region all lt is step before =
    sym (step (region_items (drop (i + 1) regions)))
    ∙ ap (λ (r : Vec ℕ). items_from left (r.items ∷ region_items (drop (i + 1) regions))) is
    ∙ sym (at_drop_more (λ (rs : List (Vec ℕ)). items_from left (region_items rs)) regions i region lt) ∙ before

same_fields : (a b : ℕ) (c d e a' b' : ℕ) (c' d' e' : ℕ) → a ≡ a' → b ≡ b' → c ≡ c' → d ≡ d' → e ≡ e'
    → (let f : Fields = record { tid = a; len = b; client = c; flags = d; zeros = e } in let g : Fields = record { tid = a'; len = b'; client = c'; flags = d'; zeros = e' } in f ≡ g)
same_fields a b c d e a' b' c' d' e' p q r s t = rw (p, q, r, s, t) refl

-- a header's fields are those of all bytes that begin with it
pub fields-append : (xs ys : List ℕ) → 12 ≤ length xs → fields (xs ++ ys) ≡ fields xs
fields-append xs ys h =
    same_fields _ _ _ _ _ _ _ _ _ _ (big_from-append 4 xs ys (omega arith))
    (rw (drop-append-le 4 xs ys (omega arith)) (big_from-append 4 (drop 4 xs) ys (omega (arith, length-drop 4 xs))))
    (get_or_append_left xs ys 0 8 (omega arith)) (get_or_append_left xs ys 0 9 (omega arith))
    (rw (drop-append-le 10 xs ys (omega arith)) (big_from-append 2 (drop 10 xs) ys (omega (arith, length-drop 10 xs))))

held_length : (k : ReaderFields) → IsGrowing k → length (reader_state k).rest ≡ length k.header.items + (length k.body.items - front_of k.stage)
held_length k g = length-append k.header.items (drop (front_of k.stage) k.body.items) ∙ ap (λ (n : ℕ). length k.header.items + n) (length-drop (front_of k.stage) k.body.items)

held_fields : (k : ReaderFields) → 12 ≤ length k.header.items → fields (reader_state k).rest ≡ fields k.header.items
held_fields k h = fields-append k.header.items (drop (front_of k.stage) k.body.items) h

held_body : (k : ReaderFields) → length k.header.items ≡ 12 → drop 12 (reader_state k).rest ≡ drop (front_of k.stage) k.body.items
held_body k h = drop_at k.header.items (drop (front_of k.stage) k.body.items) 12 h

-- nothing is whole before the header is
pub short_partial : (k : ReaderFields) → IsGrowing k → length k.header.items < 12 → IsPartial (reader_state k).phase (reader_state k).rest
short_partial k g h =
    let l = held_length k g in
    let bare = g.bare h in
    record { less = λ body. absurd (omega (arith, body.header)); right = λ long. absurd (omega arith) }

pub header_breaks : (k : ReaderFields) (kind : OpKind) → IsGrowing k → 12 ≤ length k.header.items → header_fault (reader_state k).phase (fields k.header.items) ≡ Some kind
    → Breaks (reader_state k).phase (reader_state k).rest kind
header_breaks k kind g h e =
    let l = held_length k g in
    inl (omega arith, ap (header_fault (reader_state k).phase) (held_fields k h) ∙ e)

pub body_partial : (k : ReaderFields) → IsGrowing k → 12 ≤ length k.header.items → header_fault (reader_state k).phase (fields k.header.items) ≡ None
    → length k.body.items < front_of k.stage + (fields k.header.items).len → IsPartial (reader_state k).phase (reader_state k).rest
body_partial k g h e less =
    let l = held_length k g in
    let len : (fields (reader_state k).rest).len ≡ (fields k.header.items).len = ap (λ (f : Fields). f.len) (held_fields k h) in
    let most = g.header in
    let front = g.front in
    record {
      less = λ body. absurd (omega (arith, body.body));
      right = λ long. ap (header_fault (reader_state k).phase) (held_fields k h) ∙ e;
    }

held_whole : (k : ReaderFields) (f : Fields) (sort : Sort) → IsGrowing k → IsWholeOperation k f sort → length (reader_state k).rest ≡ 12 + (fields (reader_state k).rest).len
held_whole k f sort g w =
    let l = held_length k g in
    let len : (fields (reader_state k).rest).len ≡ f.len = ap (λ (f : Fields). f.len) (held_fields k (omega (arith, w.header)) ∙ sym w.fields_are) in
    omega (arith, w.whole, w.header)

pub held_total : (k : ReaderFields) (f : Fields) (sort : Sort) → IsGrowing k → IsWholeOperation k f sort → length (reader_state k).rest ≡ 12 + f.len
held_total k f sort g w =
    held_whole k f sort g w ∙ ap (λ (f : Fields). 12 + f.len) (held_fields k (omega (arith, w.header)) ∙ sym w.fields_are)

held_is : (k : ReaderFields) (f : Fields) (sort : Sort) → IsGrowing k → IsWholeOperation k f sort → fields (reader_state k).rest ≡ f
held_is k f sort g w = held_fields k (omega (arith, w.header)) ∙ sym w.fields_are

pub body_breaks : (k : ReaderFields) (f : Fields) (sort : Sort) (kind : OpKind) → IsGrowing k → IsWholeOperation k f sort
    → body_fault (reader_state k).phase sort (drop (front_of k.stage) k.body.items) ≡ Some kind → Breaks (reader_state k).phase (reader_state k).rest kind
body_breaks k f sort kind g w e =
    let rest = (reader_state k).rest in
    let all = held_whole k f sort g w in
    let is = held_is k f sort g w in
    let body : operation_body rest ≡ drop (front_of k.stage) k.body.items =
    take_all (fields rest).len (drop 12 rest) (omega (arith, length-drop 12 rest)) ∙ held_body k w.header in
    let sort_is : sort_of (fields rest).client (fields rest).flags ≡ Some sort = ap (λ (f : Fields). sort_of f.client f.flags) is ∙ w.sort_is in
    inr (
      record { header = omega arith; body = omega arith },
      ap (header_fault (reader_state k).phase) is ∙ w.right,
      ap (whole_fault (reader_state k).phase rest) sort_is ∙ ap (body_fault (reader_state k).phase sort) body ∙ e,
    )

pub small_append : (xs ys : List ℕ) → AreBytes xs → AreBytes ys → AreBytes (xs ++ ys)
small_append [] ys f g k = g k
small_append (x ∷ xs) ys f g zero = f 0
small_append (x ∷ xs) ys f g (suc k) = small_append xs ys (λ n. f (suc n)) g k

pub completes : (k : ReaderFields) (f : Fields) (sort : Sort) (new : ReaderState) (entry : Option Entry) → IsGrowing k → IsWholeOperation k f sort
    → body_fault (reader_state k).phase sort (drop (front_of k.stage) k.body.items) ≡ None
    → goes_on (reader_state k).phase sort f.tid (drop (front_of k.stage) k.body.items) ≡ (option_to_list entry, new.phase) → new.rest ≡ []
    → AreBytes (drop (front_of k.stage) k.body.items)
    → ((reader_state k).place + length (reader_state k).rest < 2 ^ 64 → new.place ≡ (reader_state k).place + length (reader_state k).rest) → Completes (reader_state k) new entry
completes k f sort new entry g w e goes none small place =
    let rest = (reader_state k).rest in
    let all = held_whole k f sort g w in
    let is = held_is k f sort g w in
    let body = held_body k w.header in
    record {
      sort = sort;
      header = omega arith;
      whole = all;
      right = ap (header_fault (reader_state k).phase) is ∙ w.right;
      sort_is = ap (λ (f : Fields). sort_of f.client f.flags) is ∙ w.sort_is;
      body = ap (body_fault (reader_state k).phase sort) body ∙ e;
      goes = ap (λ (f : Fields). goes_on (reader_state k).phase sort f.tid (drop 12 rest)) is ∙ ap (goes_on (reader_state k).phase sort f.tid) body ∙ goes;
      none_left = none;
      place = place;
      small = small_append k.header.items (drop (front_of k.stage) k.body.items) w.small small;
    }
