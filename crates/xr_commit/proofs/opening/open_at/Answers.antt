use Rattle.std.proofs.Common.{◌≡◌, ℕ, List, refl, sym, subst, ◌∙◌}
use Rattle.xr_record.specs.Record.{IsSealed}
use Rattle.xr_record.specs.SealedRecordLaws.{sealed_magic}
use Rattle.xr_commit.proofs.CopyLemmas.{copied_is, sector_copied, opened_stands, refused_there, magic_at}
use Rattle.xr_commit.specs.LogRecords.{bytes_at}
use Rattle.xr_commit.proofs.opening.open_at.Goals as goal

pub returns-then-be32_at-clause-every : goal.returns-then-be32_at-clause-every
returns-then-be32_at-clause-every c r stands =
    absurd (c.if-be32_at.true (c.be32_at.ensures ∙ magic_at c.args.log.now c.args.sector (sealed_magic _ r.head r.body stands.sealed)))

pub returns-then-be32_at-clause-refused : goal.returns-then-be32_at-clause-refused
returns-then-be32_at-clause-refused c = (refl, λ magic. c.if-be32_at.true (c.be32_at.ensures ∙ magic_at c.args.log.now c.args.sector magic))

copied : (c : goal.After-slice_known-3-1) → c.copy_from_slice.new.self ≡ bytes_at c.args.log.now c.args.sector
copied c = copied_is c.args.log.now c.copy_from_slice.new.self c.args.sector c.min-n.result c.requires.log c.requires.sector c.min-n.ensures c.copy_from_slice.ensures.after

pub returns-clause-stands : goal.returns-clause-stands
returns-clause-stands c =
    opened_stands c.args.log.now c.copy_from_slice.new.self c.unseal.new.bytes _ c.args.sector c.unseal.result
    (copied c) (sector_copied c.args.log.now c.copy_from_slice.new.self c.args.sector c.requires.log c.requires.sector (copied c)) c.unseal.ensures.opened

pub returns-clause-every : goal.returns-clause-every
returns-clause-every c r stands =
    c.unseal.ensures.every r.head r.body (subst (λ (xs : List ℕ). IsSealed xs r.head r.body) (sym (copied c)) stands.sealed) stands.here

pub returns-clause-refused : goal.returns-clause-refused
returns-clause-refused c = refused_there c.args.log.now c.copy_from_slice.new.self c.args.sector c.unseal.result (copied c) c.unseal.ensures.refused
