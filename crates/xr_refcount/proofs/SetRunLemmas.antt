-- What counts and kinds become of a run where a record is added, removed, or put in the place of another.
use Rattle.std.proofs.Common.{◌≡◌, ◌≢◌, ◌⊎◌, ℕ, Bool, true, false, List, refl, sym, ap, ◌∙◌, subst, inl, inr, ⊎_elim, arith}
use Rattle.std.proofs.lemmas.Bool.Decides.{nat_tests}
use Rattle.std.specs.List.{Contains}
use Rattle.xr_block.specs.Tree.{AreRecords}
use Rattle.xr_change.specs.SetLaws.{agree_in}
use Rattle.xr_change.specs.Sets.{Gains, Loses, Swaps}
use Rattle.xr_kinds.specs.Reference.{is_reference, reference_form, reference_span}
use Rattle.xr_kinds.specs.ReferenceLaws.{is_reference_form}
use Rattle.xr_kinds.specs.Spans.{IsIn}
use Rattle.xr_kinds.specs.declared.reference.Reference.{Reference}
use Rattle.xr_kinds.specs.declared.span.Span.{Span}
use Rattle.xr_refcount.specs.CountLaws.{IsHolder, holder_cases, in_cases, of_records, valid_in}
use Rattle.xr_refcount.specs.Counts.{IsCountedAs, IsUnrecorded, count_at, is_staged_at}
use Rattle.xr_refcount.specs.Marks.{SetsRun}

abbrev pub Stays : List Reference → List Reference → ℕ → Type 0
Stays xs ys n = IsCountedAs ys n (count_at xs n) (is_staged_at xs n)

pub sets_run : (xs : List Reference) (run : Span) (count : ℕ) (staged : Bool) (ys : List Reference) → ((n : ℕ) → IsIn run n → IsCountedAs ys n count staged)
    → ((n : ℕ) → ¬ (IsIn run n) → Stays xs ys n) → SetsRun xs run count staged ys
sets_run xs run count staged ys inside outside = record {
  counts = λ n. ⊎_elim
      (λ within. let is = inside n within.1 in rw within.0 is.owners)
      (λ out. let is = outside n out.1 in rw out.0 is.owners)
      (in_cases run n);
  kinds = λ n. ⊎_elim
      (λ within. let is = inside n within.1 in rw within.0 is.kind)
      (λ out. let is = outside n out.1 in rw out.0 is.kind)
      (in_cases run n);
}

module _ (xs : List Reference) (run : Span) (count : ℕ) (staged : Bool) (ys : List Reference) (set : SetsRun xs run count staged ys) (n : ℕ) where
  pub set_in : IsIn run n → IsCountedAs ys n count staged
  set_in within = ⊎_elim
      (λ is. record { owners = rw is.0 at (set.counts n); kind = rw is.0 at (set.kinds n) })
      (λ other. absurd (other.1 within))
      (in_cases run n)

  pub set_out : ¬ (IsIn run n) → Stays xs ys n
  set_out out = ⊎_elim
      (λ is. absurd (out is.1))
      (λ other. record { owners = rw other.0 at (set.counts n); kind = rw other.0 at (set.kinds n) })
      (in_cases run n)

-- what is so of a block after one change is so after another that leaves it
pub still_at : (ys zs : List Reference) (n count : ℕ) (staged : Bool) → IsCountedAs ys n count staged → Stays ys zs n → IsCountedAs zs n count staged
still_at ys zs n count staged was is = record { owners = is.owners ∙ was.owners; kind = is.kind ∙ was.kind }

not_with_itself : (x : Reference) → is_reference x ≡ true → reference_form.agree x x ≡ true → ⊥
not_with_itself x good agree = grind (arith, nat_tests)

module _ (xs ys : List Reference) (rules : AreRecords reference_form xs) (still : AreRecords reference_form ys) where
  -- a block stays as it is where a record holds it in both with one count and kind, or no record in either
  stays_at : (n : ℕ) → ((x : Reference) → Contains xs x → IsIn (reference_span x) n → (y : Reference) × IsHolder ys n x y)
      → ((y : Reference) → Contains ys y → IsIn (reference_span y) n → (x : Reference) × Contains xs x × IsIn (reference_span x) n) → Stays xs ys n
  stays_at n forth back =
      let before = of_records xs rules in
      let after = of_records ys still in
      ⊎_elim
      (λ held.
      let was = before.told held.0 n held.1 held.2 in
      let found = forth held.0 held.1 held.2 in
      let holds = found.1 in
      let is = after.told found.0 n holds.held holds.within in
      record { owners = is.owners ∙ holds.count ∙ sym was.owners; kind = is.kind ∙ holds.kind ∙ sym was.kind })
      (λ (none : IsUnrecorded xs n).
      let was = before.untold n none in
      let is = after.untold n (λ y held within. let found = back y held within in none found.0 found.1 found.2) in
      record { owners = is.owners ∙ sym was.owners; kind = is.kind ∙ sym was.kind })
      (holder_cases xs n)

  pub gained_run : (new : Reference) → Gains (Contains xs) new (Contains ys) → SetsRun xs (reference_span new) new.count new.staged ys
  gained_run new set =
      let after = of_records ys still in
      sets_run xs (reference_span new) new.count new.staged ys
      (λ n within. after.told new n ((set new).1 (inl refl)) within)
      (λ n out. stays_at n
      (λ x held within. (x, record { held = (set x).1 (inr held); within = within; count = refl; kind = refl }))
      (λ y held within. ⊎_elim
      (λ (same : y ≡ new). absurd (out (rw same at within)))
      (λ (old : Contains xs y). (y, old, within))
      ((set y).0 held)))

  pub lost_run : (old : Reference) → Contains xs old → Loses (Contains xs) old (Contains ys) → SetsRun xs (reference_span old) 1 false ys
  lost_run old held set =
      let before = of_records xs rules in
      let after = of_records ys still in
      sets_run xs (reference_span old) 1 false ys
      (λ n within. after.untold n (λ y other inside. let kept = (set y).0 other in kept.0 (before.alone y old n kept.1 held inside within)))
      (λ n out. stays_at n
      (λ x other within. (
        x,
        record {
          held = (set x).1 ((λ (same : x ≡ old). out (rw same at within)), other);
          within = within;
          count = refl;
          kind = refl;
        },
      ))
      (λ y other within. let kept = (set y).0 other in (y, kept.1, within)))

  -- a record with the same count and kind comes in the place of another
  module _ (old new : Reference) (held : Contains xs old) (count : new.count ≡ old.count) (kind : new.staged ≡ old.staged) (set : Swaps (Contains xs) old new (Contains ys)) where
    has_new : Contains ys new
    has_new = (set new).1 (inl refl)

    swap_stays : (n : ℕ) → (IsIn (reference_span old) n → IsIn (reference_span new) n) → (IsIn (reference_span new) n → IsIn (reference_span old) n)
        → Stays xs ys n
    swap_stays n forth back = stays_at n
        (λ x other within. ⊎_elim
        (λ (same : x ≡ old). (
          new,
          record {
            held = has_new;
            within = forth (rw same at within);
            count = count ∙ ap (λ (z : Reference). z.count) (sym same);
            kind = kind ∙ ap (λ (z : Reference). z.staged) (sym same);
          },
        ))
        (λ (agree : reference_form.agree x old ≡ true). (
          x,
          record {
            held = (set x).1 (inr ((λ (same : x ≡ old). not_with_itself old (valid_in xs rules old held) (subst (λ (z : Reference). reference_form.agree z old ≡ true) same agree)), other));
            within = within;
            count = refl;
            kind = refl;
          },
        ))
        (agree_in reference_form is_reference_form xs rules x old other held))
        (λ y other within. ⊎_elim
        (λ (same : y ≡ new). (old, held, back (rw same at within)))
        (λ (kept : (y ≢ old) × Contains xs y). (y, kept.1, within))
        ((set y).0 other))

    -- a part of it, without a run
    pub shrunk_run : (run : Span) → ((n : ℕ) → IsIn (reference_span old) n → IsIn (reference_span new) n ⊎ IsIn run n)
        → ((n : ℕ) → IsIn (reference_span new) n → IsIn (reference_span old) n × ¬ (IsIn run n)) → ((n : ℕ) → IsIn run n → IsIn (reference_span old) n)
        → SetsRun xs run 1 false ys
    shrunk_run run parts part within_old =
        let before = of_records xs rules in
        let after = of_records ys still in
        sets_run xs run 1 false ys
        (λ n within. after.untold n (λ y other inside. ⊎_elim
        (λ (same : y ≡ new). (part n (rw same at inside)).1 within)
        (λ (kept : (y ≢ old) × Contains xs y). kept.0 (before.alone y old n kept.1 held inside (within_old n within)))
        ((set y).0 other)))
        (λ n out. swap_stays n
        (λ inside. ⊎_elim (λ mine. mine) (λ (within : IsIn run n). absurd (out within)) (parts n inside))
        (λ inside. (part n inside).0))

    -- it with a run beside it
    pub grown_run : (run : Span) → ((n : ℕ) → IsIn (reference_span new) n → IsIn (reference_span old) n ⊎ IsIn run n)
        → ((n : ℕ) → IsIn (reference_span old) n → IsIn (reference_span new) n) → ((n : ℕ) → IsIn run n → IsIn (reference_span new) n)
        → SetsRun xs run new.count new.staged ys
    grown_run run parts part within_new =
        let after = of_records ys still in
        sets_run xs run new.count new.staged ys
        (λ n within. after.told new n has_new (within_new n within))
        (λ n out. swap_stays n (part n) (λ inside. ⊎_elim (λ mine. mine) (λ (within : IsIn run n). absurd (out within)) (parts n inside)))
