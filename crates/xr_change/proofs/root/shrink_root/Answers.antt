use Rattle.std.proofs.Common.{◌≡◌, ℕ, ◌+◌, ◌-◌, ◌≤◌, [], ◌∷◌, length, suc, sym, subst, arith}
use Rattle.xr_pool.specs.Overlay.{block_at, with_given}
use Rattle.xr_block.specs.Tree.{AreRecords, least_of_root, tree_records}
use Rattle.xr_block.specs.TreeBlock.{entries_in}
use Rattle.xr_change.proofs.StepLemmas.{row_below}
use Rattle.xr_change.proofs.WholeTreeLemmas.{root_shrunk, root_in_row, root_stays}
use Rattle.xr_change.specs.Alters.{AreRowsIn}
use Rattle.xr_change.specs.Roots.{ShrinksRoot}
use Rattle.xr_change.specs.Paths.{HasSome, IsInTree, child_of, item_count}
use Rattle.xr_block.specs.NodeEntryLaws.{length-entries}
use Rattle.xr_change.proofs.root.shrink_root.Goals as goal

pub returns-then-root-eq0 : goal.returns-then-root-eq0
returns-then-root-eq0 g c =
    let form = g.R.Record.form in
    let laws = g.met.R.Record.is_form in
    let over = c.args.draft.now in
    root_stays form laws over c.args.root.level c.args.root.block c.requires.rows c.requires.rules
    (subst (λ (l : ℕ). least_of_root l ≤ item_count form over l c.args.root.block) (sym c.if-root-eq0.true) (omega arith))

pub block-requires : goal.block-requires
block-requires g c = row_below g.R.Record.form c.args.draft.now 0 c.args.root.level [] c.args.root.block [] c.requires.rows

pub returns-then-count_of-gt1 : goal.returns-then-count_of-gt1
returns-then-count_of-gt1 g c =
    let form = g.R.Record.form in
    let over = c.args.draft.now in
    let n = c.args.root.block in
    let level = c.args.root.level in
    let same : suc (level - 1) ≡ level = omega (arith, c.if-root-eq0.false) in
    let many : 2 ≤ length (entries_in form (block_at over n)) = omega (arith, c.count_of.ensures.count, c.block.ensures.count, length-entries form (block_at over n), c.if-count_of-gt1.true) in
    root_stays form g.met.R.Record.is_form over level n c.requires.rows c.requires.rules
    (subst (λ (l : ℕ). least_of_root l ≤ item_count form over l n) same many)

pub child_block-block-requires-clause-here : goal.child_block-block-requires-clause-here
child_block-block-requires-clause-here g c =
    let form = g.R.Record.form in
    let over = c.args.draft.now in
    let n = c.args.root.block in
    let level = c.args.root.level in
    let same : level ≡ level - 1 + 1 = omega (arith, c.if-root-eq0.false) in
    subst (λ (l : ℕ). IsInTree form over l n) same (root_in_row form over 0 level n c.requires.rows c.requires.rules)

pub give_block-requires : goal.give_block-requires
give_block-requires g c = row_below g.R.Record.form c.args.draft.now 0 c.args.root.level [] c.args.root.block [] c.requires.rows

pub returns : goal.returns
returns g c =
    let form = g.R.Record.form in
    let over = c.args.draft.now in
    let n = c.args.root.block in
    let level = c.args.root.level in
    let below = level - 1 in
    let same : level ≡ suc below = omega (arith, c.if-root-eq0.false) in
    let rows = subst (λ (l : ℕ). AreRowsIn form over 0 l (n ∷ [])) same c.requires.rows in
    let rules = subst (λ (l : ℕ). AreRecords form (tree_records form over n l)) same c.requires.rules in
    let some : 1 ≤ length (entries_in form (block_at over n)) = subst (λ (l : ℕ). HasSome form over l n) same c.requires.some in
    let one : length (entries_in form (block_at over n)) ≡ 1 = omega (arith, some, c.count_of.ensures.count, c.block.ensures.count, length-entries form (block_at over n), c.if-count_of-gt1.false) in
    rw (c.give_block.ensures, c.child_block-block.ensures.kth.is) (subst (λ (l : ℕ). ShrinksRoot form over (with_given over n) n l (child_of form over n 0) below) (sym same)
    (root_shrunk form g.met.R.Record.is_form over c.is_known.ensures.all below n rows one rules))
