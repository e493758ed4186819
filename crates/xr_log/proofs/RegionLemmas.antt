-- How a region fills the records that grow, where it is cut or not.
use Rattle.std.proofs.Common.{◌≡◌, ℕ, true, false, ◌+◌, ◌-◌, ◌<◌, ◌≤◌, Bool, List, length, take, drop, refl, sym, ap, subst, ◌∙◌, arith, nat_lt}
use Rattle.std.proofs.lemmas.List.{length-drop, length-take}
use Rattle.std.proofs.lemmas.Bool.{le-ltb, lt-ltb}
use Rattle.std.specs.Prelude.{if◌then◌else◌, Result, Ok, Err, OnOk}
use Rattle.xr_record.specs.declared.operation.Sort.TheVariants.{First, Last, Whole}
use Rattle.xr_record.specs.declared.layout.TheConstants.{TRANSACTION_CLIENT}
use Rattle.xr_record.specs.Packing.{Pushes, room_in, stop_of}
use Rattle.xr_log.specs.declared.held.Held.{Held}
use Rattle.xr_log.specs.declared.packing.Fill.{Fill}
use Rattle.xr_log.specs.CommitSteps.{OnlyPushes}
use Rattle.xr_log.specs.Filling.{Fills, FillsFront, HasSpace, HasSpaceFor, KeepsLimit, fill_of, filled_end, filled_region, front_fill, one_full, with_room}
use Rattle.xr_log.proofs.OpenLemmas.{first_more, last_more, one_longer, operation, whole_more}
use Rattle.xr_log.proofs.SpaceLemmas.{space_less}
use Rattle.xr_log.proofs.StepLemmas.{push_fills, push_limit}

-- what follows where a call answers Ok
pub on_ok : {T E : Type 0} {P Q : Type 0} (result : Result T E) → (P → Q) → OnOk result P → OnOk result Q
on_ok (Ok value) f p = f p
on_ok (Err fault) f p = tt

-- where a region's first operation stops
pub stop_within : (body : List ℕ) (n stop : ℕ) → stop ≡ stop_of (room_in body) 0 n → length body + 13 ≤ 32768 → 0 < n → (0 < stop) × (stop ≤ n)
stop_within body n stop is room some = (omega (arith, is, room, some), omega (arith, is))

pub whole_fits : (body : List ℕ) (n stop : ℕ) → stop ≡ stop_of (room_in body) 0 n → length body + 13 ≤ 32768 → stop ≡ n → length body + (12 + n) ≤ 32768
whole_fits body n stop is room whole = omega (arith, is, room, whole)

cut_ends : (body : List ℕ) (n stop : ℕ) → stop ≡ stop_of (room_in body) 0 n → length body + 13 ≤ 32768 → stop < n → length body + (12 + stop) ≡ 32768
cut_ends body n stop is room less = omega (arith, is, room, less)

-- what a region fills that ends here
ends_whole : (before : Fill) (end : ℕ) → end ≤ 32768 → filled_end before end ≡ record { records = before.records; len = end }
ends_whole before end fits = ap (λ (b : Bool). if b then (record { records = before.records + 1; len = 12 + (end - 32768) }) else (record { records = before.records; len = end })) (le-ltb 32768 end fits)

ends_cut : (before : Fill) (end : ℕ) → 32768 < end → filled_end before end ≡ record { records = before.records + 1; len = 12 + (end - 32768) }
ends_cut before end over = ap (λ (b : Bool). if b then (record { records = before.records + 1; len = 12 + (end - 32768) }) else (record { records = before.records; len = end })) (lt-ltb 32768 end over)

fill_is : (a b records : ℕ) → a ≡ b → (let x : Fill = record { records = records; len = a } in x) ≡ record { records = records; len = b }
fill_is a b records e = ap (λ (n : ℕ). let x : Fill = record { records = records; len = n } in x) e

-- where the first operation was pushed
pub fills_front : (old mid new : Held) (tid : ℕ) (region : List ℕ) (stop : ℕ) → Fills old mid (with_room 13 (fill_of old)) → length mid.growing.packer.body + 13 ≤ 32768
    → 0 < length region → Pushes mid.growing.packer new.growing.packer tid TRANSACTION_CLIENT 0 region 0 stop → OnlyPushes mid new → FillsFront old new (length region) stop
fills_front old mid new tid region stop fills room some p only =
    let n : ℕ = length region in
    let before : Fill = with_room 13 (fill_of old) in
    let len : length mid.growing.packer.body ≡ before.len = fills.len in
    record {
      fills = push_fills old mid new before (front_fill old new) fills only refl refl;
      whole = λ whole.
          (let fits = whole_fits mid.growing.packer.body n stop p.stop_is room whole in
          let more = whole_more mid new tid region stop p only fits in
          let long = one_longer mid new (operation tid Whole region) more in
          fill_is (length new.growing.packer.body) (before.len + (12 + n)) before.records (omega (arith, long, len))
          ∙ sym (ends_whole before (before.len + (12 + n)) (omega (arith, fits, len))));
      full = λ less. (let long = cut_long less in let end = cut_ends mid.growing.packer.body n stop p.stop_is room less in omega (arith, long, end));
      cut = λ less.
          (let end = cut_ends mid.growing.packer.body n stop p.stop_is room less in
          fill_is (12 + (n - stop)) (12 + (before.len + (12 + n) - 32768)) (before.records + 1) (omega (arith, end, less, len))
          ∙ sym (ends_cut before (before.len + (12 + n)) (omega (arith, end, less, len))));
    } where
      cut_long : stop < length region → length new.growing.packer.body ≡ length mid.growing.packer.body + (12 + stop)
      cut_long less =
          let e = one_longer mid new (operation tid First (take stop region)) (first_more mid new tid region stop p only less) in
          let t = length-take stop region in
          omega (arith, e, t, less)

-- the record is full before the rest
pub full_room : (old : Held) → length old.growing.packer.body ≡ 32768 → with_room 13 (fill_of old) ≡ record { records = 1; len = 0 }
full_room old full =
    ap (λ (b : Bool). if b then (record { records = 1; len = 0 }) else fill_of old) (lt-ltb 32768 (length old.growing.packer.body + 13) (omega (arith, full)))

pub rest_space : (old : Held) (rest : ℕ) → length old.growing.packer.body ≡ 32768 → HasSpaceFor old (one_full rest) → HasSpaceFor old (with_room 13 (fill_of old))
rest_space old rest full (limit, has) = (limit, subst (λ (f : Fill). HasSpace limit old.growing.last f.records) (sym (full_room old full)) has)

pub rest_fills : (old mid new : Held) (tid : ℕ) (region : List ℕ) (from stop : ℕ) → length old.growing.packer.body ≡ 32768 → Fills old mid (with_room 13 (fill_of old))
    → Pushes mid.growing.packer new.growing.packer tid TRANSACTION_CLIENT 0 region from stop → OnlyPushes mid new → 0 < from → from < length region → length region ≤ 4096
    → Fills old new (one_full (length region - from))
rest_fills old mid new tid region from stop full fills p only some less most =
    let e = full_room old full in
    let none : length mid.growing.packer.body ≡ 0 = fills.len ∙ ap (λ (f : Fill). f.len) e in
    let long = one_longer mid new (operation tid Last (drop from region)) (last_more mid new tid region from stop p only none some less most) in
    let rest = length-drop from region in
    push_fills old mid new (with_room 13 (fill_of old)) (one_full (length region - from)) fills only (sym (ap (λ (f : Fill). f.records) e)) (omega (arith, long, none, rest))

pub full_limit : (old mid : Held) (rest : ℕ) → length old.growing.packer.body ≡ 32768 → KeepsLimit old mid (with_room 13 (fill_of old)) → KeepsLimit old mid (one_full rest)
full_limit old mid rest full keeps limit has =
    keeps limit (subst (λ (f : Fill). HasSpace limit old.growing.last f.records) (sym (full_room old full)) has)

pub rest_limit : (old mid new : Held) (rest : ℕ) → length old.growing.packer.body ≡ 32768 → KeepsLimit old mid (with_room 13 (fill_of old)) → OnlyPushes mid new
    → KeepsLimit old new (one_full rest)
rest_limit old mid new rest full keeps only =
    push_limit old mid new (with_room 13 (fill_of old)) (one_full rest) keeps only (sym (ap (λ (f : Fill). f.records) (full_room old full)))

-- a whole region needs no less space than its first operation
end_records : (before : Fill) (end : ℕ) (b : Bool)
    → before.records ≤ (if b then (let x : Fill = record { records = before.records + 1; len = 12 + (end - 32768) } in x) else (record { records = before.records; len = end })).records
end_records before end true = omega arith
end_records before end false = omega arith

front_less : (n : ℕ) (f : Fill) → (with_room 13 f).records ≤ (filled_region n f).records
front_less n f = end_records (with_room 13 f) ((with_room 13 f).len + (12 + n)) (nat_lt 32768 ((with_room 13 f).len + (12 + n)))

pub front_space : (old : Held) (n : ℕ) → HasSpaceFor old (filled_region n (fill_of old)) → HasSpaceFor old (with_room 13 (fill_of old))
front_space old n (limit, has) =
    (limit, space_less limit old.growing.last (filled_region n (fill_of old)).records (with_room 13 (fill_of old)).records (front_less n (fill_of old)) has)

pub front_limit : (old mid : Held) (n : ℕ) → KeepsLimit old mid (with_room 13 (fill_of old)) → KeepsLimit old mid (filled_region n (fill_of old))
front_limit old mid n keeps limit has =
    keeps limit (space_less limit old.growing.last (filled_region n (fill_of old)).records (with_room 13 (fill_of old)).records (front_less n (fill_of old)) has)

-- and the rest has its own
cut_records : (old mid : Held) (n stop : ℕ) → FillsFront old mid n stop → stop < n → (filled_region n (fill_of old)).records ≡ (with_room 13 (fill_of old)).records + 1
cut_records old mid n stop front less = sym (ap (λ (f : Fill). f.records) (front.cut less))

cut_space : (old mid : Held) (n stop limit : ℕ) → FillsFront old mid n stop → stop < n → HasSpace limit old.growing.last (filled_region n (fill_of old)).records
    → HasSpace limit mid.growing.last 1
cut_space old mid n stop limit front less has =
    front.fills.space limit 1 (subst (HasSpace limit old.growing.last) (cut_records old mid n stop front less) has)

pub cut_space_for : (old mid : Held) (n stop : ℕ) → FillsFront old mid n stop → stop < n → HasSpaceFor old (filled_region n (fill_of old))
    → HasSpaceFor mid (one_full (n - stop))
cut_space_for old mid n stop front less (limit, has) = (limit, cut_space old mid n stop limit front less has)

pub cut_limit : (old mid new : Held) (n stop : ℕ) → FillsFront old mid n stop → stop < n → KeepsLimit mid new (one_full (n - stop))
    → KeepsLimit old new (filled_region n (fill_of old))
cut_limit old mid new n stop front less keeps limit has = keeps limit (cut_space old mid n stop limit front less has)

pub cut_fills : (old mid new : Held) (n stop : ℕ) → FillsFront old mid n stop → stop < n → Fills mid new (one_full (n - stop))
    → Fills old new (filled_region n (fill_of old))
cut_fills old mid new n stop front less rest = record {
  len = rest.len ∙ ap (λ (f : Fill). f.len) (front.cut less);
  space = λ limit more has.
      rest.space limit more (front.fills.space limit (1 + more)
      (subst (HasSpace limit old.growing.last) (let e = cut_records old mid n stop front less in omega (arith, e)) has));
}

pub whole_fills : (old new : Held) (n stop : ℕ) → FillsFront old new n stop → stop ≡ n → Fills old new (filled_region n (fill_of old))
whole_fills old new n stop front whole = subst (Fills old new) (front.whole whole) front.fills
