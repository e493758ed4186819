-- When a record keeps its unmounts, from what the tests of its body and header say.
use Rattle.std.proofs.Common.{◌≡◌, ◌≢◌, ℕ, Bool, true, false, List, length, sym, ap, subst, ◌∙◌}
use Rattle.std.proofs.lemmas.Bool.{false≢true}
use Rattle.std.specs.List.{list_any}
use Rattle.xr_record.specs.declared.head.Head.{Head}
use Rattle.xr_commit.specs.LogRecords.{LogRecord}
use Rattle.xr_commit.specs.Operations.{KeepsUnmounts, StandsAlone, headers_of, is_unmount}
use Rattle.xr_commit.specs.ReadBodies.{IsInLog}

-- the test of the body that was taken is one of the record's
pub in_company : (log body : List ℕ) (head : Head) (r : LogRecord) (n : ℕ) (unmounts : Bool) → IsInLog log head r → body ≡ r.body
    → unmounts ≡ list_any is_unmount (headers_of body) → unmounts ≡ true → n ≡ length (headers_of body) → n ≢ 1 → KeepsUnmounts r → ⊥
in_company log body head r n unmounts is same any held number many keeps =
    many (number ∙ ap (λ (b : List ℕ). length (headers_of b)) same ∙ (keeps (ap (λ (b : List ℕ). list_any is_unmount (headers_of b)) (sym same) ∙ sym any ∙ held)).one)

pub other_tail : (log body : List ℕ) (head : Head) (r : LogRecord) (unmounts : Bool) → IsInLog log head r → body ≡ r.body
    → unmounts ≡ list_any is_unmount (headers_of body) → unmounts ≡ true → head.tail ≢ head.lsn → KeepsUnmounts r → ⊥
other_tail log body head r unmounts is same any held other keeps =
    other (subst (λ (h : Head). h.tail ≡ h.lsn) is.head_is (keeps (ap (λ (b : List ℕ). list_any is_unmount (headers_of b)) (sym same) ∙ sym any ∙ held)).own_tail)

pub holds_none : (body : List ℕ) (r : LogRecord) (unmounts : Bool) → body ≡ r.body
    → unmounts ≡ list_any is_unmount (headers_of body) → unmounts ≡ false → KeepsUnmounts r
holds_none body r unmounts same any none holds = elim (false≢true (sym none ∙ any ∙ ap (λ (b : List ℕ). list_any is_unmount (headers_of b)) same ∙ holds)) [ ]

pub stands_alone : (log body : List ℕ) (head : Head) (r : LogRecord) (n : ℕ) → IsInLog log head r → body ≡ r.body
    → n ≡ length (headers_of body) → n ≡ 1 → head.tail ≡ head.lsn → StandsAlone r
stands_alone log body head r n is same number one own = record {
  one = ap (λ (b : List ℕ). length (headers_of b)) (sym same) ∙ sym number ∙ one;
  own_tail = subst (λ (h : Head). h.tail ≡ h.lsn) (sym is.head_is) own;
}
