use Rattle.std.proofs.Common.{◌≡◌, ◌∙◌, ap}
use Rattle.std.proofs.lemmas.Bool.{false≢true}
use Rattle.std.proofs.lemmas.List.{take_rest}
use Rattle.xr_record.specs.Record.{sectors_of}
use Rattle.xr_record.specs.Unsealing.{sectors_in}
use Rattle.xr_record.proofs.unsealing.is_placed.Goals as goal

pub returns-then-not-has_stamps : goal.returns-then-not-has_stamps
returns-then-not-has_stamps c =
    let n : c.sectors_of-sectors.result ≡ sectors_in c.args.bytes.now = c.sectors_of-sectors.ensures ∙ ap sectors_of c.be32_at.ensures in
    let stamps = rw (c.if-not-has_stamps.true, n, c.be32_at-cycle.ensures, take_rest c.args.bytes.now 512) at c.has_stamps.ensures in
    (λ t. absurd (false≢true t), λ p. stamps.1 p.stamps)

pub returns : goal.returns
returns c =
    let n : c.sectors_of-sectors.result ≡ sectors_in c.args.bytes.now = c.sectors_of-sectors.ensures ∙ ap sectors_of c.be32_at.ensures in
    let stamps = rw (n, c.be32_at-cycle.ensures, take_rest c.args.bytes.now 512) at c.has_stamps.ensures in
    let zeros = rw n at c.has_zeros.ensures in (
      (λ t. record { here = c.is_here.ensures.0 c.if-not-is_here.false; stamps = stamps.0 c.if-not-has_stamps.false; zeros = zeros.0 t }),
      (λ p. zeros.1 p.zeros),
    )
