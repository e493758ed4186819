-- Another record that holds the block would be the found one.
use Rattle.std.proofs.Common.{◌≡◌, false, refl, subst, sym, arith}
use Rattle.std.proofs.lemmas.Bool.Decides.{nat_tests}
use Rattle.xr_kinds.specs.Reference.{same_count}
use Rattle.xr_kinds.specs.declared.reference.Reference.{Reference}
use Rattle.xr_refcount.proofs.LookupLemmas.{found_there, none_there}
use Rattle.xr_refcount.proofs.refcount.Refcount.record_beside.Goals as goal
use Rattle.xr_refcount.proofs.refcount.Refcount.record_beside.Goals.{else-found-new-via-then-found-new+else-found-new-2, else-found-new-via-else-found-new}

pub returns-in_err-found-clause-none : goal.returns-in_err-found-clause-none
returns-in_err-found-clause-none c _ x held within =
    let found = c.in_err-found.ensures in absurd (none_there x c.args.block (found.none refl x held) within)

pub returns-else-found-new-clause-none : goal.returns-else-found-new-clause-none
returns-else-found-new-clause-none c _ x held within =
    let first = c.in_ok-found.ensures in
    let found = c.in_ok-found.found in
    let new = c.args.new.now in
    let unlike : same_count found new ≡ false = elim c.else-found-new.branch [
      | else-found-new-via-then-found-new+else-found-new-2 w ↦ grind (arith, nat_tests, w.if-found-new, w.if-found-new-2)
      | else-found-new-via-else-found-new w ↦ grind (arith, nat_tests, w.if-found-new)
    ] in
    subst (λ (y : Reference). same_count y new ≡ false) (sym (found_there _ c.requires.tree.records c.args.block found x first.some held within)) unlike
