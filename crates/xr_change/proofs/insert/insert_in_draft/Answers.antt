use Rattle.std.proofs.Common.{◌≡◌, ◌∙◌, ℕ, Bool, if◌then◌else◌, [], ◌∷◌, sym, ap, subst, arith}
use Rattle.xr_block.specs.FrameLaws.{then_changes}
use Rattle.xr_block.specs.Tree.{AreRecords}
use Rattle.xr_change.proofs.FullPathLemmas.{full_if, room_if}
use Rattle.xr_change.proofs.SetLemmas.{inserted_valid}
use Rattle.xr_change.proofs.WriteLemmas.{unmarked_few}
use Rattle.xr_change.proofs.WholeTreeLemmas.{changed_frame, changed_tree, root_few, root_here, root_least, some_if, tree_after}
use Rattle.xr_change.specs.Sets.{inserted}
use Rattle.xr_change.specs.Writes.{unchanged}
use Rattle.xr_change.proofs.insert.insert_in_draft.Goals as goal

pub insert_below-requires-clause-some : goal.insert_below-requires-clause-some
insert_below-requires-clause-some g c =
    some_if g.R.Record.form c.args.draft.now c.args.root.level c.args.root.block
    (omega (arith, root_least g.R.Record.form c.args.draft.now c.args.root.level c.args.root.block c.requires.tree))

pub insert_below-requires-clause-room : goal.insert_below-requires-clause-room
insert_below-requires-clause-room g c =
    let form = g.R.Record.form in
    room_if form g.met.R.Record.is_form c.args.draft.now c.args.root.level c.args.root.block (root_here form c.args.draft.now c.args.root.level c.args.root.block c.requires.tree)
    (sym c.is_full.ensures ∙ c.if-not-is_full.true)

pub insert_below-requires-clause-valid : goal.insert_below-requires-clause-valid
insert_below-requires-clause-valid g c = inserted_valid g.R.Record.form c.args.r.now _ c.requires.rules

pub returns-then-not-is_full-clause-step : goal.returns-then-not-is_full-clause-step
returns-then-not-is_full-clause-step g c =
    let below = c.insert_below.ensures.changes in
    let after = tree_after g.R.Record.form c.args.draft.now c.args.root.level c.args.root.block c.requires.tree _ _ below c.requires.rules in
    record { tree = after.0; set = below.set; frame = after.1; changed = omega (arith, below.marks.few, unmarked_few c.args.draft.now (c.args.root.block ∷ [])) }

pub grow_root-top-requires-clause-full : goal.grow_root-top-requires-clause-full
grow_root-top-requires-clause-full g c = full_if g.R.Record.form c.args.draft.now c.args.root.level c.args.root.block (sym c.is_full.ensures ∙ c.if-not-is_full.false)

pub insert_below-requires-2-clause-valid : goal.insert_below-requires-2-clause-valid
insert_below-requires-2-clause-valid g c = inserted_valid g.R.Record.form c.args.r.now _ c.requires.rules

pub returns-clause-step : goal.returns-clause-step
returns-clause-step g c =
    let form = g.R.Record.form in
    let b = c.grow_root-top.new.draft in
    let z = c.insert_below-2.new.draft in
    let p = c.grow_root-top.result.block in
    let l = c.grow_root-top.result.level in
    let up = c.grow_root-top.ensures.grows in
    let below = c.insert_below-2.ensures.changes in
    let marked : unchanged b p ≡ 0 = ap (λ (test : Bool). let n : ℕ = if test then 0 else 1 in n) up.changed in
    record {
      tree = changed_tree form b z 1 0 l p (inserted form.order c.args.r.now) up.rows (omega (arith, up.one)) below
          (subst (λ (rs : _). AreRecords form (inserted form.order c.args.r.now rs)) (sym up.records) c.requires.rules)
          (omega (arith, root_few l, c.insert_below-2.ensures.grown, up.one, up.next));
      set = below.set ∙ ap (inserted form.order c.args.r.now) up.records;
      frame = then_changes c.args.draft.now b z _ _ _ up.frame
          (changed_frame form b z 1 0 l p (inserted form.order c.args.r.now) up.rows (omega (arith, up.one)) below);
      changed = omega (arith, below.marks.few, up.marks.few, marked, c.grow_root-top.ensures.level);
    }
