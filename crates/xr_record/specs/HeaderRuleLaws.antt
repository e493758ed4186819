-- What the first broken rule of a header says of the rules before it.
use Rattle.std.proofs.Common.{◌≡◌, Bool, true, false, ◌&&◌, cond, eqb, Option, Some, None, refl, sym, ap, ◌∙◌, arith}
use Rattle.std.proofs.lemmas.Bool.Decides.{nat_tests}
use Rattle.xr_record.specs.declared.operation.Fields.{Fields}
use Rattle.xr_record.specs.declared.operation.Sort.{Sort}
use Rattle.xr_record.specs.declared.rules.OpKind.{OpKind}
use Rattle.xr_record.specs.declared.rules.OpKind.TheVariants.{Client, Flags, Tid, Length}
use Rattle.xr_record.specs.Operations.{sort_of}
use Rattle.xr_record.specs.Rules.{Phase, header_fault, is_client, is_len, is_tid, may_come, sort_fault}

pub client_fault : (phase : Phase) (f : Fields) → is_client f ≡ false → header_fault phase f ≡ Some Client
unfolding header_fault
client_fault phase f e = ap (λ (b : Bool). cond b (sort_fault phase f (sort_of f.client f.flags)) (Some Client)) e

past_client : (phase : Phase) (f : Fields) (sort : Option Sort) → is_client f ≡ true → sort_of f.client f.flags ≡ sort
    → header_fault phase f ≡ sort_fault phase f sort
unfolding header_fault
past_client phase f sort e s = ap (λ (b : Bool). cond b (sort_fault phase f (sort_of f.client f.flags)) (Some Client)) e ∙ ap (sort_fault phase f) s

pub no_sort_fault : (phase : Phase) (f : Fields) → is_client f ≡ true → sort_of f.client f.flags ≡ None → header_fault phase f ≡ Some Flags
no_sort_fault phase f e s = past_client phase f None e s

as_tests : (phase : Phase) (f : Fields) (sort : Sort) → is_client f ≡ true → sort_of f.client f.flags ≡ Some sort
    → header_fault phase f ≡ cond (may_come phase sort && eqb f.zeros 0) (cond (is_tid phase sort f.tid) (cond (is_len phase sort f.len) None (Some Length)) (Some Tid)) (Some Flags)
as_tests phase f sort e s = past_client phase f (Some sort) e s

pub come_fault : (phase : Phase) (f : Fields) (sort : Sort) → is_client f ≡ true → sort_of f.client f.flags ≡ Some sort → may_come phase sort ≡ false
    → header_fault phase f ≡ Some Flags
come_fault phase f sort e s m = as_tests phase f sort e s ∙ rw m refl

pub zeros_fault : (phase : Phase) (f : Fields) (sort : Sort) → is_client f ≡ true → sort_of f.client f.flags ≡ Some sort → may_come phase sort ≡ true
    → eqb f.zeros 0 ≡ false → header_fault phase f ≡ Some Flags
zeros_fault phase f sort e s m z = as_tests phase f sort e s ∙ rw (m, z) refl

pub tid_fault : (phase : Phase) (f : Fields) (sort : Sort) → is_client f ≡ true → sort_of f.client f.flags ≡ Some sort → may_come phase sort ≡ true
    → eqb f.zeros 0 ≡ true → is_tid phase sort f.tid ≡ false → header_fault phase f ≡ Some Tid
tid_fault phase f sort e s m z t = as_tests phase f sort e s ∙ rw (m, z, t) refl

pub len_fault : (phase : Phase) (f : Fields) (sort : Sort) → is_client f ≡ true → sort_of f.client f.flags ≡ Some sort → may_come phase sort ≡ true
    → eqb f.zeros 0 ≡ true → is_tid phase sort f.tid ≡ true → is_len phase sort f.len ≡ false → header_fault phase f ≡ Some Length
len_fault phase f sort e s m z t l = as_tests phase f sort e s ∙ rw (m, z, t, l) refl

pub right_header : (phase : Phase) (f : Fields) (sort : Sort) → is_client f ≡ true → sort_of f.client f.flags ≡ Some sort → may_come phase sort ≡ true
    → eqb f.zeros 0 ≡ true → is_tid phase sort f.tid ≡ true → is_len phase sort f.len ≡ true → header_fault phase f ≡ None
right_header phase f sort e s m z t l = as_tests phase f sort e s ∙ rw (m, z, t, l) refl

-- a header that breaks none of the rules keeps each of them
pub record IsRight (phase : Phase) (f : Fields) (sort : Sort) : Type 0 where
  pub client : is_client f ≡ true
  pub comes : may_come phase sort ≡ true
  pub zeros : f.zeros ≡ 0
  pub tid : is_tid phase sort f.tid ≡ true
  pub len : is_len phase sort f.len ≡ true

abbrev outcome : Bool → Bool → Bool → Bool → Option OpKind
outcome a b c d = cond (a && b) (cond c (cond d None (Some Length)) (Some Tid)) (Some Flags)

four : (a b c d : Bool) → outcome a b c d ≡ None
    → (a ≡ true) × (b ≡ true) × (c ≡ true) × (d ≡ true)
four true true true true h = (refl, refl, refl, refl)
four true true true false h = absurd cc
four true true false d h = absurd cc
four true false c d h = absurd cc
four false b c d h = absurd cc

client_tells : (phase : Phase) (f : Fields) → header_fault phase f ≡ None → (b : Bool) → is_client f ≡ b → b ≡ true
client_tells phase f h true e = refl
client_tells phase f h false e = let k = client_fault phase f e in absurd cc

pub is_right : (phase : Phase) (f : Fields) (sort : Sort) → header_fault phase f ≡ None → sort_of f.client f.flags ≡ Some sort → IsRight phase f sort
is_right phase f sort h s =
    let e = client_tells phase f h (is_client f) refl in
    let k = four (may_come phase sort) (eqb f.zeros 0) (is_tid phase sort f.tid) (is_len phase sort f.len) (sym (as_tests phase f sort e s) ∙ h) in
    record { client = e; comes = k.0; zeros = grind (arith, nat_tests, k.1); tid = k.2; len = k.3 }

-- and it has a sort
sort_tells : (phase : Phase) (f : Fields) (o : Option Sort) → header_fault phase f ≡ None → sort_of f.client f.flags ≡ o → (sort : Sort) × (o ≡ Some sort)
sort_tells phase f None h e = let k = no_sort_fault phase f (client_tells phase f h (is_client f) refl) e in absurd cc
sort_tells phase f (Some sort) h e = (sort, refl)

pub sort_of_right : (phase : Phase) (f : Fields) → header_fault phase f ≡ None → (sort : Sort) × (sort_of f.client f.flags ≡ Some sort)
sort_of_right phase f h = sort_tells phase f (sort_of f.client f.flags) h refl
