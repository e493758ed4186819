-- How what a stream is read to goes on by the bytes that are added.
use Rattle.std.proofs.Common.{◌≡◌, ℕ, ◌+◌, List, [], ◌∷◌, ◌++◌, length, map, drop, Option, Some, None, refl, sym, ap, subst, ◌∙◌, arith, inl, inr, option_to_list}
use Rattle.std.specs.List.{flat_map}
use Rattle.std.proofs.lemmas.List.{append_assoc, append-nil, drop-append-le, get_or-drop, length-append, length-drop, map-append, take-append-le}
use Rattle.std.proofs.lemmas.List.Concat.{flat_map-append}
use Rattle.xr_record.specs.declared.entry.Entry.{Entry}
use Rattle.xr_record.specs.declared.fault.FeedFault.{FeedFault}
use Rattle.xr_record.specs.declared.fault.FeedFault.TheVariants.{Op, NoMemory}
use Rattle.xr_record.specs.declared.operation.Fields.{Fields}
use Rattle.xr_record.specs.declared.operation.Sort.{Sort}
use Rattle.xr_record.specs.declared.rules.OpKind.{OpKind}
use Rattle.xr_record.specs.ReaderFields.{Completes, IsFault, Settles}
use Rattle.xr_record.specs.Operations.{Operation, fields, operation_bytes, sort_of}
use Rattle.xr_base.specs.Fields.{AreBytes}
use Rattle.xr_record.specs.Reading.{IsFaultOf, Reading, Reads}
use Rattle.xr_record.specs.ReaderSteps.{FailsOn, TakesOn}
use Rattle.xr_record.specs.Rules.{AtEntry, Breaks, IsPartial, ReadsTo, Phase, body_fault, header_fault, phase_of, whole_fault, ReaderState, operation_body}
use Rattle.xr_record.specs.ReaderSteps.{goes_on}
use Rattle.xr_record.specs.Stream.{Between, IsPiece, Open, Piece, all_bytes, begun, entry, operations, stream_of}
use Rattle.xr_record.specs.HeaderRuleLaws.{is_right}
use Rattle.xr_record.specs.HoldLaws.{fields-append}
use Rattle.xr_record.specs.OperationLaws.{all_append, operation_of, step}
use Rattle.xr_record.specs.UnsealLaws.{word_fits}

-- more bytes at the end are more bytes of the rest
pub stream_more : (pieces : List Piece) (o : Open) (rest taken : List ℕ) → stream_of pieces o rest ++ taken ≡ stream_of pieces o (rest ++ taken)
stream_more pieces o rest taken =
    append_assoc (all_bytes (flat_map operations pieces)) (all_bytes (begun o) ++ rest) taken
    ∙ ap (λ (xs : List ℕ). all_bytes (flat_map operations pieces) ++ xs) (append_assoc (all_bytes (begun o)) rest taken)

pub reads_grown : (before : List ℕ) (es : List Entry) (old new : ReaderState) (taken : List ℕ) → ReadsTo before es old → new.place ≡ old.place → new.phase ≡ old.phase
    → new.rest ≡ old.rest ++ taken
    → IsPartial new.phase new.rest → ReadsTo (before ++ taken) es new
reads_grown before es old new taken r at s e p =
    let phase : new.phase ≡ phase_of r.o = s ∙ r.phase_is in
    record {
      pieces = r.pieces;
      o = r.o;
      stream = record {
        whole = ap (λ (xs : List ℕ). xs ++ taken) r.stream.whole ∙ stream_more r.pieces r.o old.rest taken ∙ ap (stream_of r.pieces r.o) (sym e);
        each = r.stream.each;
        good = r.stream.good;
        partial = subst (λ (st : Phase). IsPartial st new.rest) phase p;
      };
      entries_are = r.entries_are;
      phase_is = phase;
      place_is = λ fits.
          let a = length-append before taken in
          let b = ap length e ∙ length-append old.rest taken in
          let was = r.place_is (omega (arith, a)) in
          omega arith;
    }

-- an operation that is whole goes into the pieces, or into what is open
stream_step : (pieces more : List Piece) (o next : Open) (op : Operation) → begun o ++ op ∷ [] ≡ flat_map operations more ++ begun next
    → stream_of pieces o (operation_bytes op) ≡ stream_of (pieces ++ more) next []
stream_step pieces more o next op e =
    let whole : all_bytes (begun o) ++ operation_bytes op ≡ all_bytes (flat_map operations more) ++ all_bytes (begun next) =
    ap (λ (xs : List ℕ). all_bytes (begun o) ++ xs) (sym (append-nil (operation_bytes op)))
    ∙ sym (flat_map-append operation_bytes (begun o) (op ∷ [])) ∙ ap all_bytes e ∙ flat_map-append operation_bytes (flat_map operations more) (begun next) in
    let front : all_bytes (flat_map operations (pieces ++ more)) ≡ all_bytes (flat_map operations pieces) ++ all_bytes (flat_map operations more) =
    ap all_bytes (flat_map-append operations pieces more) ∙ flat_map-append operation_bytes (flat_map operations pieces) (flat_map operations more) in
    rw (whole, front, append-nil (all_bytes (begun next))) (sym (append_assoc (all_bytes (flat_map operations pieces)) (all_bytes (flat_map operations more)) (all_bytes (begun next))))

none_partial : (phase : Phase) → IsPartial phase []
none_partial phase = record { less = λ body. absurd (omega (arith, body.header)); right = λ long. absurd (omega arith) }

pub reads_completed : (before : List ℕ) (es : List Entry) (old grown new : ReaderState) (taken : List ℕ) (entry_of : Option Entry) → ReadsTo before es old
    → grown.place ≡ old.place → grown.phase ≡ old.phase → grown.rest ≡ old.rest ++ taken → Completes grown new entry_of → ReadsTo (before ++ taken) (es ++ option_to_list entry_of) new
reads_completed before es old grown new taken entry_of r at s e c =
    let rest = grown.rest in
    let f = fields rest in
    let body = drop 12 rest in
    let phase : grown.phase ≡ phase_of r.o = s ∙ r.phase_is in
    let right = is_right (phase_of r.o) f c.sort (subst (λ (st : Phase). header_fault st f ≡ None) phase c.right) c.sort_is in
    let op_is = operation_of (phase_of r.o) rest c.sort c.small c.whole c.header right.client right.zeros c.sort_is in
    let len : f.len ≡ length body = omega (arith, length-drop 12 rest, c.whole) in
    let goes : goes_on (phase_of r.o) c.sort f.tid body ≡ (option_to_list entry_of, new.phase) = subst (λ (st : Phase). goes_on st c.sort f.tid body ≡ (option_to_list entry_of, new.phase)) phase c.goes in
    let small : AreBytes body = λ k. rw (get_or-drop 12 rest k 0) (c.small (12 + k)) in
    let steps = step r.o f c.sort body r.stream.good right (word_fits 0 rest c.small) len small (subst (λ (st : Phase). body_fault st c.sort body ≡ None) phase c.body) in
    let entries : option_to_list entry_of ≡ map entry steps.pieces = sym (ap (λ (p : List Entry × Phase). p.0) goes) ∙ steps.entries_are in
    record {
      pieces = r.pieces ++ steps.pieces;
      o = steps.next;
      stream = record {
        whole = ap (λ (xs : List ℕ). xs ++ taken) r.stream.whole ∙ stream_more r.pieces r.o old.rest taken ∙ ap (stream_of r.pieces r.o) (sym e ∙ op_is)
            ∙ stream_step r.pieces steps.pieces r.o steps.next _ steps.written ∙ ap (stream_of (r.pieces ++ steps.pieces) steps.next) (sym c.none_left);
        each = all_append IsPiece r.pieces steps.pieces r.stream.each steps.each;
        good = steps.good;
        partial = rw c.none_left (none_partial (phase_of steps.next));
      };
      entries_are = rw (r.entries_are, entries) (sym (map-append entry r.pieces steps.pieces));
      phase_is = sym (ap (λ (p : List Entry × Phase). p.1) goes) ∙ steps.phase_is;
      place_is = λ fits.
          let a = length-append before taken in
          let b = ap length e ∙ length-append old.rest taken in
          let was = r.place_is (omega (arith, a)) in
          let next = c.place (omega arith) in
          let none = ap length c.none_left in
          omega arith;
    }

-- what is broken stays broken
abbrev sort_fault_of : Phase → List ℕ → Option Sort → Option OpKind
sort_fault_of phase body None = None
sort_fault_of phase body (Some sort) = body_fault phase sort body

whole_fault_is : (phase : Phase) (bytes : List ℕ) (sort : Option Sort) → whole_fault phase bytes sort ≡ sort_fault_of phase (operation_body bytes) sort
whole_fault_is phase bytes None = refl
whole_fault_is phase bytes (Some sort) = refl

breaks_more : (phase : Phase) (bytes more : List ℕ) (kind : OpKind) → Breaks phase bytes kind → Breaks phase (bytes ++ more) kind
breaks_more phase bytes more kind b =
    let all = length-append bytes more in
    elim b [
      | inl w ↦ inl (omega (arith, w.0), ap (header_fault phase) (fields-append bytes more w.0) ∙ w.1)
      | inr w ↦
          let same = fields-append bytes more w.0.header in
          let len : (fields (bytes ++ more)).len ≡ (fields bytes).len = ap (λ (f : Fields). f.len) same in
          let body : operation_body (bytes ++ more) ≡ operation_body bytes =
          rw (len, drop-append-le 12 bytes more (omega (arith, w.0.header))) (take-append-le (fields bytes).len (drop 12 bytes) more (omega (arith, length-drop 12 bytes, w.0.body))) in
          let fault : whole_fault phase (bytes ++ more) (sort_of (fields (bytes ++ more)).client (fields (bytes ++ more)).flags) ≡ Some kind =
          let sort = sort_of (fields bytes).client (fields bytes).flags in
          ap (λ (f : Fields). whole_fault phase (bytes ++ more) (sort_of f.client f.flags)) same ∙ whole_fault_is phase (bytes ++ more) sort
          ∙ ap (λ (xs : List ℕ). sort_fault_of phase xs sort) body ∙ sym (whole_fault_is phase bytes sort) ∙ w.2 in
          inr (record { header = omega (arith, w.0.header); body = omega (arith, w.0.body) }, ap (header_fault phase) same ∙ w.1, fault)
    ]

pub fails_on : (before : List ℕ) (es : List Entry) (old grown : ReaderState) (taken more : List ℕ) (fault : FeedFault) → ReadsTo before es old
    → grown.place ≡ old.place → grown.phase ≡ old.phase → grown.rest ≡ old.rest ++ taken → IsFault grown fault → IsFaultOf (before ++ (taken ++ more)) fault
fails_on before es old grown taken more NoMemory r p s e f = tt
fails_on before es old grown taken more (Op place kind) r p s e f =
    let phase : grown.phase ≡ phase_of r.o = s ∙ r.phase_is in
    let whole : before ++ (taken ++ more) ≡ stream_of r.pieces r.o (grown.rest ++ more) =
    ap (λ (xs : List ℕ). xs ++ (taken ++ more)) r.stream.whole ∙ stream_more r.pieces r.o old.rest (taken ++ more)
    ∙ ap (stream_of r.pieces r.o) (sym (append_assoc old.rest taken more) ∙ ap (λ (xs : List ℕ). xs ++ more) (sym e)) in
    let all = ap length whole in
    let at = length (all_bytes (flat_map operations r.pieces)) + length (all_bytes (begun r.o)) in (
      at,
      record {
        pieces = r.pieces;
        o = r.o;
        rest = grown.rest ++ more;
        whole = whole;
        each = r.stream.each;
        good = r.stream.good;
        place_is = omega (arith, all, length-append (all_bytes (flat_map operations r.pieces)) (all_bytes (begun r.o) ++ (grown.rest ++ more)), length-append (all_bytes (begun r.o)) (grown.rest ++ more));
        breaks = breaks_more (phase_of r.o) grown.rest more kind (subst (λ (st : Phase). Breaks st grown.rest kind) phase f.1);
      },
      (λ fits.
          let a = length-append before (taken ++ more) in
          let b = length-append taken more in
          let d = ap length e ∙ length-append old.rest taken in
          let g = length-append grown.rest more in
          let was = r.place_is (omega (arith, a)) in
          omega (arith, all, f.0, p, length-append (all_bytes (flat_map operations r.pieces)) (all_bytes (begun r.o) ++ (grown.rest ++ more)), length-append (all_bytes (begun r.o)) (grown.rest ++ more))),
    )

-- one step of a reader
pub settles_reads : (old grown new : ReaderState) (taken : List ℕ) (entry_of : Option Entry) → grown.place ≡ old.place → grown.phase ≡ old.phase
    → grown.rest ≡ old.rest ++ taken
    → Settles grown new entry_of → TakesOn old new taken (option_to_list entry_of)
settles_reads old grown new taken entry_of p s e settles before es r = elim settles [
  | inl w ↦ rw (w.1, append-nil es, w.0) (reads_grown before es old grown taken r p s e w.2)
  | inr c ↦ reads_completed before es old grown new taken entry_of r p s e c
]

-- and step after step
pub takes_more : (old mid new : ReaderState) (taken more : List ℕ) (es fs : List Entry) → TakesOn old mid taken es → TakesOn mid new more fs
    → TakesOn old new (taken ++ more) (es ++ fs)
takes_more old mid new taken more es fs first second before entries r =
    let both = second (before ++ taken) (entries ++ es) (first before entries r) in
    rw (← append_assoc before taken more, ← append_assoc entries es fs) both

pub fails_more : (old mid : ReaderState) (taken more : List ℕ) (es : List Entry) (fault : FeedFault) → TakesOn old mid taken es → FailsOn mid more fault
    → FailsOn old (taken ++ more) fault
fails_more old mid taken more es fault first second before entries r =
    let both = second (before ++ taken) (entries ++ es) (first before entries r) in
    subst (λ (xs : List ℕ). IsFaultOf xs fault) (append_assoc before taken more) both

pub takes_none : (held : ReaderState) → TakesOn held held [] []
takes_none held before es r = rw (append-nil before, append-nil es) r

pub no_memory : (held : ReaderState) (piece : List ℕ) → FailsOn held piece NoMemory
no_memory held piece before es r = tt

-- a reader at the start has read nothing
pub reads_nothing : (reader : Reading) → reader.ended ≡ None → reader.held.place ≡ 0 → reader.held.phase ≡ AtEntry → reader.held.rest ≡ [] → Reads [] [] reader
reads_nothing reader e p s r = record {
  goes_on = e;
  reads = record {
    pieces = [];
    o = Between;
    stream = record { whole = sym r; each = tt; good = tt; partial = rw r (none_partial AtEntry) };
    entries_are = refl;
    phase_is = s;
    place_is = λ fits. let none = ap length r in omega arith;
  };
}
