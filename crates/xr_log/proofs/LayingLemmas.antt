-- Records as they are laid.
use Rattle.std.proofs.Common.{◌≡◌, ℕ, ◌+◌, ◌-◌, ◌*◌, ◌<◌, ◌≤◌, ◌^◌, ◌∙◌, Bool, List, ◌++◌, length, take, drop, replicate, sym, ap, subst, arith}
use Rattle.std.specs.Prelude.{◌==◌, if◌then◌else◌}
use Rattle.std.proofs.lemmas.Bool.{cond-false, ne_eqb}
use Rattle.std.proofs.lemmas.List.{drop_at, take_at}
use Rattle.xr_base.specs.Image.{part}
use Rattle.xr_base.specs.declared.geometry.TheConstants.{LOG_SECTORS}
use Rattle.xr_record.specs.declared.head.Head.{Head}
use Rattle.xr_record.specs.Packing.{Packed}
use Rattle.xr_record.specs.Record.{padded_body, record_sectors, sectors_of, zeros}
use Rattle.xr_commit.specs.LogRecords.{record_end}
use Rattle.xr_scan.specs.FalseRecords.{record_len}
use Rattle.xr_scan.specs.LoggedLaws.{IsPlacedHead}
use Rattle.xr_log.specs.Calls.{NeedsLastCycle}
use Rattle.xr_log.specs.Positions.{packed_sectors}
use Rattle.xr_log.specs.Writing.{ComesNext, HasLaidNext, IsLaid, IsWrittenAt}
use Rattle.xr_log.proofs.NextHeadLemmas.{fresh_cycle}

pub zeros_after : (body front rest : List ℕ) (all n : ℕ) → front ≡ body → rest ≡ replicate n 0 → n ≡ all - length body → front ++ rest ≡ body ++ zeros (all - length body)
unfolding zeros
zeros_after body front rest all n first later long =
    ap (λ (xs : List ℕ). xs ++ rest) first ∙ ap (λ (xs : List ℕ). body ++ xs) (later ∙ ap (λ (m : ℕ). replicate m 0) long)

pub laid_body : (header body more out : List ℕ) (len : ℕ) → length header ≡ 512 → length body ≡ len → out ≡ header ++ (body ++ more) → part 512 len out ≡ body
laid_body header body more out len first long is =
    ap (part 512 len) is ∙ ap (take len) (drop_at header (body ++ more) 512 first) ∙ take_at body more len long

pub laid_padding : (header body out : List ℕ) (len n : ℕ) → length header ≡ 512 → length body ≡ len → n ≡ 512 * sectors_of len
    → out ≡ header ++ (body ++ zeros (n - length body)) → drop 512 out ≡ padded_body (part 512 len out)
laid_padding header body out len n first long whole is =
    ap (drop 512) is ∙ drop_at header (body ++ zeros (n - length body)) 512 first
    ∙ ap (λ (m : ℕ). body ++ zeros (m - length body)) (whole ∙ ap (λ (l : ℕ). 512 * sectors_of l) (sym long))
    ∙ ap padded_body (sym (laid_body header body (zeros (n - length body)) out len first long is))

-- a record that is packed has a sector more than its body
pub packed_some : (n : ℕ) → 0 < n → (if n == 0 then 0 else (1 + sectors_of n)) ≡ 1 + sectors_of n
packed_some n some = cond-false _ _ _ (ne_eqb n 0 (λ none. omega (arith, none, some)))

-- the packed record as the code lays it
pub laid_next : (last : Head) (anew : Bool) (uuid : List ℕ) (packed : Packed) (head : Head) (ops len size : ℕ) (body out old : List ℕ) → IsPlacedHead last
    → 0 < length packed.body → (NeedsLastCycle last (packed_sectors packed) → ⊥) → body ≡ packed.body → length body ≤ 32768 → ops ≡ packed.ops → ops < 2 ^ 32
    → len ≡ length body → ComesNext last anew uuid ops len head → size ≡ 512 + 512 * sectors_of len → IsLaid head body out → length out ≡ size
    → HasLaidNext last anew uuid packed head (out ++ drop size old)
laid_next last anew uuid packed head ops len size body out old placed some fresh is most number small long comes size_is laid whole =
    let same : len ≡ length packed.body = long ∙ ap length is in
    let comes' : ComesNext last anew uuid packed.ops (length packed.body) head =
    subst (λ (n : ℕ). ComesNext last anew uuid packed.ops n head) same (subst (λ (n : ℕ). ComesNext last anew uuid n len head) number comes) in
    record {
      comes = comes';
      most = subst (λ (xs : List ℕ). length xs ≤ 32768) is most;
      ops = subst (λ (n : ℕ). n < 2 ^ 32) number small;
      cycle = fresh_cycle last head (length packed.body) placed.good.cycle comes'.placed
          (λ needs. fresh (needs.0, subst (λ (n : ℕ). LOG_SECTORS < record_end last + n) (sym (packed_some (length packed.body) some)) needs.1));
      laid = record {
        are = ap (λ (n : ℕ). take n (out ++ drop size old)) (ap (λ (n : ℕ). 512 + 512 * sectors_of n) (comes'.placed.len_is ∙ sym same) ∙ sym size_is)
            ∙ take_at out (drop size old) size whole ∙ laid.are ∙ ap (record_sectors head) is;
      };
    }

-- and as it is written
pub written_at : (at size : ℕ) (head : Head) (body bytes sectors : List ℕ) → at ≡ 64 + head.lsn.sector → size ≡ record_len head → bytes ≡ take size sectors
    → IsLaid head body (take (record_len head) sectors) → IsWrittenAt at bytes (record { head = head; body = body })
written_at at size head body bytes sectors here long taken laid = record {
  at_is = omega (arith, here);
  bytes_are = taken ∙ ap (λ (n : ℕ). take n sectors) long ∙ laid.are;
}
