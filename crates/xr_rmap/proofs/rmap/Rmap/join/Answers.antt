-- A record comes into the tree by itself, or as one with the record that leads to it.
use Rattle.std.proofs.Common.{◌≡◌, true, Some, ⊎_elim}
use Rattle.xr_kinds.specs.Reverse.{reverse_form}
use Rattle.xr_rmap.proofs.PairSetLemmas.{agrees, gained, swapped}
use Rattle.xr_rmap.proofs.PartLemmas.{joined, joined_fits, joined_says}
use Rattle.xr_rmap.specs.PairLaws.{valid_in}
use Rattle.xr_rmap.specs.Rmap.{IsOwnerRecord}
use Rattle.xr_rmap.proofs.rmap.Rmap.join.Goals as goal

pub swap-requires-clause-fits : goal.swap-requires-clause-fits
swap-requires-clause-fits c y held differ =
    let x = c.in-Some.x in
    let rules = c.requires.tree.records in
    let may = rw c.in-Some.is at c.requires.may in
    let left = may.held in
    joined_fits x c.args.r (valid_in _ rules x left.0) may.good left.1 y (agrees _ rules y x held left.0 differ)
    (⊎_elim (λ (same : Some x ≡ Some y). absurd (differ cc)) (λ (agree : reverse_form.agree y c.args.r ≡ true). agree) (may.alone y held))

pub returns-in-None-clause-added : goal.returns-in-None-clause-added
returns-in-None-clause-added c = gained (IsOwnerRecord c.args.over.now c.args.self.now) (IsOwnerRecord c.put.new.over c.put.new.self) c.args.r c.put.ensures.set

pub returns-in-Some-clause-added : goal.returns-in-Some-clause-added
returns-in-Some-clause-added c =
    let x = c.in-Some.x in
    let rules = c.requires.tree.records in
    let may = rw c.in-Some.is at c.requires.may in
    let left = may.held in
    swapped _ rules (IsOwnerRecord c.swap.new.over c.swap.new.self) x (joined x c.args.r) c.args.r left.0 c.swap.ensures.set
    (joined_says x c.args.r (valid_in _ rules x left.0) may.good left.1)
