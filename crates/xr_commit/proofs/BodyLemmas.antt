-- A record in the log has one body, and what that is.
use Rattle.std.proofs.Common.{◌≡◌, ℕ, ◌+◌, ◌-◌, ◌≤◌, List, length, take, drop, ap, subst, arith}
use Rattle.xr_base.specs.Image.{part}
use Rattle.xr_base.specs.declared.geometry.TheConstants.{SECTOR_BYTES}
use Rattle.xr_record.specs.declared.head.Head.{Head}
use Rattle.xr_base.specs.declared.layout.TheConstants.{MAX_BODY_BYTES}
use Rattle.xr_record.specs.Record.{IsSealed}
use Rattle.xr_commit.specs.LogRecords.{LogRecord, StandsAt, bytes_at}
use Rattle.xr_commit.specs.ReadBodies.{IsInLog}
use Rattle.xr_commit.specs.OneRecordLaws.{one_body}

pub one_in : (log : List ℕ) (head found : Head) (body : List ℕ) (r : LogRecord) → StandsAt log head.lsn.sector (record { head = found; body = body })
    → found ≡ r.head → IsInLog log head r → body ≡ r.body
one_in log head found body r stands same is =
    one_body (bytes_at log head.lsn.sector) r.head body r.body (subst (λ (h : Head). IsSealed (bytes_at log head.lsn.sector) h body) same stands.sealed) is.stands.sealed

-- as the code takes it
pub body_taken : (len : ℕ) (scratch : List ℕ) → take (512 + len - 512) (drop 512 scratch) ≡ part SECTOR_BYTES len scratch
body_taken len scratch = ap (λ (n : ℕ). take n (drop 512 scratch)) (let e : 512 + len - 512 ≡ len = omega arith in e)

-- and it isn't too long
pub body_fits : (log : List ℕ) (head : Head) (r : LogRecord) (body : List ℕ) → IsInLog log head r → body ≡ r.body → length body ≤ MAX_BODY_BYTES
body_fits log head r body is same =
    let e = is.stands.sealed.length_is in let f = is.stands.sealed.good.fits in let g = ap length same in omega arith
