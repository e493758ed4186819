-- The first offsets of an extent are left in its place, or nothing.
use Rattle.std.proofs.Common.{◌≡◌, ◌≢◌, ◌<◌, inl, inr, ⊎_elim, ◌∙◌, arith}
use Rattle.xr_bmap.proofs.PartLemmas.{front_fits, front_good}
use Rattle.xr_bmap.proofs.RangeLemmas.{leaves_front, leaves_none}
use Rattle.xr_bmap.specs.SlotLaws.{agrees, known_slot, mapped_lost, mapped_swapped, valid_in}
use Rattle.xr_bmap.specs.Bmap.{IsExtent, slot_in}
use Rattle.xr_bmap.specs.Joins.{front_of_extent}
use Rattle.xr_kinds.specs.declared.mapping.Mapping.{Mapping}
use Rattle.xr_bmap.proofs.bmap.Bmap.shorten.Goals as goal

pub swap-requires-clause-good : goal.swap-requires-clause-good
swap-requires-clause-good c =
    front_good c.args.whole.now c.args.len (valid_in _ c.requires.tree.records c.args.whole.now c.requires.held) (omega arith) (omega arith)

pub swap-requires-clause-fits : goal.swap-requires-clause-fits
swap-requires-clause-fits c x held differ =
    let whole = c.args.whole.now in
    let rules = c.requires.tree.records in
    front_fits whole c.args.len (omega arith) (omega arith) x (agrees _ rules x whole held c.requires.held differ) (valid_in _ rules x held)

pub returns-then-len-eq0-clause-set : goal.returns-then-len-eq0-clause-set
returns-then-len-eq0-clause-set c x =
    let old = IsExtent c.args.over.now c.args.self.now in (
      λ after. inr ((c.cut.ensures.set x).0 after),
      ⊎_elim
          (λ (first : (0 < c.args.len) × (x ≡ front_of_extent c.args.whole.now c.args.len)). absurd (omega (arith, first.0)))
          (λ (kept : (x ≢ c.args.whole.now) × old x). (c.cut.ensures.set x).1 kept),
    )

pub returns-else-len-eq0-clause-set : goal.returns-else-len-eq0-clause-set
returns-else-len-eq0-clause-set c x =
    let old = IsExtent c.args.over.now c.args.self.now in
    let first : Mapping = front_of_extent c.args.whole.now c.args.len in (
      λ after. ⊎_elim (λ (is : x ≡ first). inl (omega arith, is)) inr ((c.swap.ensures.set x).0 after),
      ⊎_elim
          (λ (is : (0 < c.args.len) × (x ≡ first)). (c.swap.ensures.set x).1 (inl is.1))
          (λ (kept : (x ≢ c.args.whole.now) × old x). (c.swap.ensures.set x).1 (inr kept)),
    )

pub returns-then-len-eq0-clause-unmapped : goal.returns-then-len-eq0-clause-unmapped
returns-then-len-eq0-clause-unmapped c o =
    mapped_lost _ _ c.requires.tree.records c.cut.ensures.step.tree.records o c.args.whole.now c.requires.held c.cut.ensures.set
    ∙ leaves_none c.args.whole.now c.args.len o (slot_in c.args.over.now c.args.self.now o) c.if-len-eq0.true

pub returns-else-len-eq0-clause-unmapped : goal.returns-else-len-eq0-clause-unmapped
returns-else-len-eq0-clause-unmapped c o =
    let whole = c.args.whole.now in
    let rules = c.requires.tree.records in
    mapped_swapped _ _ rules c.swap.ensures.step.tree.records o whole (front_of_extent whole c.args.len) c.requires.held c.swap.ensures.set
    ∙ leaves_front whole o (slot_in c.args.over.now c.args.self.now o) (known_slot _ rules whole c.requires.held o) c.args.len (omega arith)
