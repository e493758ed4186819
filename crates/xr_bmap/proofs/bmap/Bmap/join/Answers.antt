-- An extent comes into the tree by itself, or as one with the one that it goes on.
use Rattle.std.proofs.Common.{◌≡◌, true, Some, ⊎_elim, ◌∙◌}
use Rattle.xr_bmap.proofs.PartLemmas.{joined_fits, joined_good}
use Rattle.xr_bmap.proofs.RangeLemmas.{joins_left}
use Rattle.xr_bmap.specs.SlotLaws.{agrees, known_slot, mapped_gained, mapped_swapped, valid_in}
use Rattle.xr_bmap.specs.Bmap.{slot_in}
use Rattle.xr_bmap.specs.Joins.{joined_extents}
use Rattle.xr_kinds.specs.Mapping.{mapping_form}
use Rattle.xr_bmap.proofs.bmap.Bmap.join.Goals as goal

pub swap-requires-clause-good : goal.swap-requires-clause-good
swap-requires-clause-good c =
    let x = c.in-Some.x in
    let may = rw c.in-Some.is at c.requires.may in
    joined_good x c.args.r (valid_in _ c.requires.tree.records x may.held.0) may.good may.held.1

pub swap-requires-clause-fits : goal.swap-requires-clause-fits
swap-requires-clause-fits c y held differ =
    let x = c.in-Some.x in
    let rules = c.requires.tree.records in
    let may = rw c.in-Some.is at c.requires.may in
    let left = may.held in
    joined_fits x c.args.r (valid_in _ rules x left.0) may.good left.1 y (agrees _ rules y x held left.0 differ)
    (⊎_elim (λ (same : Some x ≡ Some y). absurd (differ cc)) (λ (agree : mapping_form.agree y c.args.r ≡ true). agree) (may.alone y held))

pub returns-in-None-clause-mapped : goal.returns-in-None-clause-mapped
returns-in-None-clause-mapped c o = mapped_gained _ _ c.requires.tree.records c.put.ensures.step.tree.records o c.args.r c.put.ensures.set

pub returns-in-Some-clause-mapped : goal.returns-in-Some-clause-mapped
returns-in-Some-clause-mapped c o =
    let x = c.in-Some.x in
    let rules = c.requires.tree.records in
    let may = rw c.in-Some.is at c.requires.may in
    let left = may.held in
    mapped_swapped _ _ rules c.swap.ensures.step.tree.records o x (joined_extents x c.args.r) left.0 c.swap.ensures.set
    ∙ joins_left x c.args.r left.1 o (slot_in c.args.over.now c.args.self.now o) (known_slot _ rules x left.0 o)
