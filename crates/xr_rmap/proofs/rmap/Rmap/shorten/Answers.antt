-- The first blocks of a record are left in its place, or nothing.
use Rattle.std.proofs.Common.{◌≡◌, ◌≢◌, ◌<◌, inl, inr, ⊎_elim, arith}
use Rattle.xr_kinds.specs.declared.reverse.Reverse.{Reverse}
use Rattle.xr_rmap.proofs.PairSetLemmas.{agrees}
use Rattle.xr_rmap.proofs.PartLemmas.{front_part, part_fits}
use Rattle.xr_rmap.specs.Joins.{record_front}
use Rattle.xr_rmap.specs.PairLaws.{valid_in}
use Rattle.xr_rmap.specs.Rmap.{IsOwnerRecord}
use Rattle.xr_rmap.proofs.rmap.Rmap.shorten.Goals as goal

pub swap-requires-clause-fits : goal.swap-requires-clause-fits
swap-requires-clause-fits c x held differ =
    let whole = c.args.whole.now in
    let rules = c.requires.tree.records in
    part_fits (record_front whole c.args.len) whole
    (front_part whole (valid_in _ rules whole c.requires.held) c.args.len (omega arith) (omega arith)) x
    (agrees _ rules x whole held c.requires.held differ)

pub returns-then-len-eq0-clause-set : goal.returns-then-len-eq0-clause-set
returns-then-len-eq0-clause-set c x =
    let old = IsOwnerRecord c.args.over.now c.args.self.now in (
      λ after. inr ((c.cut.ensures.set x).0 after),
      ⊎_elim
          (λ (first : (0 < c.args.len) × (x ≡ record_front c.args.whole.now c.args.len)). absurd (omega (arith, first.0)))
          (λ (kept : (x ≢ c.args.whole.now) × old x). (c.cut.ensures.set x).1 kept),
    )

pub returns-else-len-eq0-clause-set : goal.returns-else-len-eq0-clause-set
returns-else-len-eq0-clause-set c x =
    let old = IsOwnerRecord c.args.over.now c.args.self.now in
    let first : Reverse = record_front c.args.whole.now c.args.len in (
      λ after. ⊎_elim (λ (is : x ≡ first). inl (omega arith, is)) inr ((c.swap.ensures.set x).0 after),
      ⊎_elim
          (λ (is : (0 < c.args.len) × (x ≡ first)). (c.swap.ensures.set x).1 (inl is.1))
          (λ (kept : (x ≢ c.args.whole.now) × old x). (c.swap.ensures.set x).1 (inr kept)),
    )
