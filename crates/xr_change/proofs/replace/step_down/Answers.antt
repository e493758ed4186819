use Rattle.std.proofs.Common.{ℕ, [], ◌∷◌, sym, subst, arith, Contains}
use Rattle.xr_block.specs.Tree.{records_of}
use Rattle.xr_change.proofs.DescentLemmas.{child_least, held_on_path, replaced_there, path_here}
use Rattle.xr_change.proofs.BlockInTreeLemmas.{node_in}
use Rattle.xr_change.proofs.WholeTreeLemmas.{root_less, some_if}
use Rattle.xr_change.specs.Sets.{replaced}
use Rattle.xr_change.specs.Paths.{HasSome}
use Rattle.xr_change.proofs.replace.step_down.Goals as goal

pub returns : goal.returns
returns g c =
    let form = g.R.Record.form in
    let laws = g.met.R.Record.is_form in
    let over = c.args.draft.now in
    let level = c.args.level in
    let n = c.args.n in
    let k = c.path_index-place.result in
    let r = c.args.r.now in
    let path = c.path_index-place.ensures.path in
    let same = sym c.child_block-child.ensures.kth.is in
    let here = node_in form over level n c.requires.here in
    let least = child_least form over level n k here path.within in
    let found = held_on_path form laws over level n k here path.within r path c.requires.held in
    record {
      path = λ new. path_here form laws over level n k here path.within 0 (replaced form.order r new) (omega arith) (omega (arith, least))
          (replaced_there form laws over level n k here path.within r new found);
      child = c.child_block-child.ensures.kth.is;
      here = c.child_block-child.ensures.here;
      some = subst (HasSome form over level) same (some_if form over level _ (omega (arith, root_less form laws level, least)));
      held = subst (λ (m : ℕ). Contains (records_of form over level (m ∷ [])) r) same found;
    }
