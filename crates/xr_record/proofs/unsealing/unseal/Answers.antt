use Rattle.std.proofs.Common.{refl, sym, ap, ◌∙◌, Ok}
use Rattle.std.proofs.lemmas.Bool.{false≢true}
use Rattle.xr_record.specs.UnsealLaws.{opens_by_rules}
use Rattle.xr_record.specs.SealedRecordLaws.{sealed_checksum, sealed_head, sealed_length, sealed_place, sealed_version}
use Rattle.xr_record.proofs.unsealing.unseal.Goals as goal

pub returns-then-not-has_version-clause-every : goal.returns-then-not-has_version-clause-every
returns-then-not-has_version-clause-every c head body s here =
    absurd (false≢true (sym c.if-not-has_version.true ∙ c.has_version.ensures.1 (sealed_version _ head body s)))

pub returns-then-not-has_length-clause-every : goal.returns-then-not-has_length-clause-every
returns-then-not-has_length-clause-every c head body s here =
    absurd (false≢true (sym c.if-not-has_length.true ∙ c.has_length.ensures.1 (sealed_length _ head body s)))

pub returns-then-not-has_checksum-clause-every : goal.returns-then-not-has_checksum-clause-every
returns-then-not-has_checksum-clause-every c head body s here =
    absurd (false≢true (sym c.if-not-has_checksum.true ∙ c.has_checksum.ensures.checksum.1 (sealed_checksum _ head body s c.has_checksum.ensures.fits)))

pub returns-then-not-is_placed-clause-every : goal.returns-then-not-is_placed-clause-every
returns-then-not-is_placed-clause-every c head body s here =
    let place = sealed_place _ _ head body s here in
    absurd (false≢true (sym c.if-not-is_placed.true ∙ c.is_placed.ensures.1 place.placed))

pub returns-then-not-open-clause-every : goal.returns-then-not-open-clause-every
returns-then-not-open-clause-every c head body s here =
    let place = sealed_place _ _ head body s here in
    let padded = rw c.head_in-head.ensures.values at c.open.ensures.padded in
    absurd (false≢true (sym c.if-not-open.true ∙ padded.1 place.padding))

pub returns-then-not-open-clause-refused : goal.returns-then-not-open-clause-refused
returns-then-not-open-clause-refused c =
    let padded = rw c.head_in-head.ensures.values at c.open.ensures.padded in (
      refl,
      sym c.be32_at.ensures ∙ c.if-be32_at.false,
      c.has_version.ensures.0 c.if-not-has_version.false,
      c.has_length.ensures.0 c.if-not-has_length.false,
      c.has_checksum.ensures.checksum.0 c.if-not-has_checksum.false,
      (λ place. false≢true (sym c.if-not-open.true ∙ padded.1 place.padding)),
    )

pub returns-then-not-open-clause-unchanged : goal.returns-then-not-open-clause-unchanged
returns-then-not-open-clause-unchanged c =
    c.open.ensures.unchanged (λ t. false≢true (sym c.if-not-open.true ∙ t))

pub returns-clause-opened : goal.returns-clause-opened
returns-clause-opened c =
    let padded = rw c.head_in-head.ensures.values at c.open.ensures.padded in
    let opened = rw c.head_in-head.ensures.values at c.open.ensures.opened in
    rw c.head_in-head.ensures.values
    (opens_by_rules _ _ _ c.head_in-head.ensures.small (sym c.be32_at.ensures ∙ c.if-be32_at.false) (c.has_version.ensures.0 c.if-not-has_version.false)
    (c.has_length.ensures.0 c.if-not-has_length.false) (c.has_checksum.ensures.checksum.0 c.if-not-has_checksum.false)
    record { placed = c.is_placed.ensures.0 c.if-not-is_placed.false; padding = padded.0 c.if-not-open.false }
    (opened c.if-not-open.false))

pub returns-clause-every : goal.returns-clause-every
returns-clause-every c head body s here =
    ap Ok (c.head_in-head.ensures.values ∙ sealed_head _ head body s)
