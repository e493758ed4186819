use Rattle.std.proofs.Common.{◌≡◌, ◌∙◌, ◌<◌, ◌+◌, ◌-◌, ◌++◌, [], ℕ, List, IfSome, true, refl, sym, ap, subst, arith, Err, Some}
use Rattle.std.specs.Result.{IsOk}
use Rattle.xr_verify.proofs.ChildLemmas.{AreVisitedTo, marked_all, marked_more, visited_all}
use Rattle.xr_verify.proofs.RefusalLemmas.{below_refused, handed_on, leaf_refused, node_refused, refused_at, refused_so}
use Rattle.xr_verify.proofs.SoundnessLemmas.{sound_entered}
use Rattle.xr_verify.proofs.VisitedLemmas.{IsChild, child_done, child_needed, child_refused, child_used, leaf_blocks, leaf_records, leaf_rules, length-children, node_marked, node_records, node_rules, not_ok, nth_child, pointer_refused}
use Rattle.xr_pool.specs.Overlay.{block_at}
use Rattle.xr_verify.specs.Passed.{IsPast}
use Rattle.xr_block.specs.Rows.{key_held}
use Rattle.xr_block.specs.Tree.{tree_held}
use Rattle.xr_block.specs.TreeBlock.{count_in}
use Rattle.xr_verify.specs.Visits.{AreMarked, last_below}
use Rattle.xr_verify.proofs.visit.+visiting.Goals as goal

pub visit-returns-in_err-at_block-clause-rules : goal.visit-returns-in_err-at_block-clause-rules
visit-returns-in_err-at_block-clause-rules g t c = λ noted past.
    let form = g.R.Record.form in
    let spot = c.args.spot in (
      λ ok. absurd (not_ok c.from_residual.result c.from_residual.ensures.0 ok),
      λ both.
          let entered = sound_entered form g.met.R.Record.is_form c.args.over.now spot.least spot.left spot.last spot.number c.args.seen.now noted c.args.level both.0 in
          absurd (let lie = c.in_err-at_block.ensures.same.1 (c.enter_node-entered.ensures.rules.1 (entered, both.1)) in cc),
    )

pub visit-returns-then-level-eq0-clause-rules : goal.visit-returns-then-level-eq0-clause-rules
visit-returns-then-level-eq0-clause-rules g t c = λ noted past.
    let form = g.R.Record.form in
    let spot = c.args.spot in
    let over = c.args.over.now in
    leaf_rules form g.met.R.Record.is_form over spot.least spot.left spot.last spot.number c.args.seen.now noted c.args.level
    (λ (level : ℕ). IfSome c.args.key (λ k. k.now ≡ key_held form (tree_held form over) level spot.number)) (IsOk c.enter_leaf-entered.result) (IsOk c.at_block.result)
    c.if-level-eq0.true (c.enter_leaf-entered.ensures.rules noted past) c.at_block.ensures.same

pub visit-returns-then-level-eq0-clause-past : goal.visit-returns-then-level-eq0-clause-past
visit-returns-then-level-eq0-clause-past g t c = λ noted past ok.
    let form = g.R.Record.form in
    let spot = c.args.spot in
    let over = c.args.over.now in
    let records = leaf_records form g.met.R.Record.is_form over spot.least spot.left spot.last spot.number c.args.seen.now noted c.args.level c.if-level-eq0.true in
    subst (λ (rs : List _). IsPast form g.L.Ledger.notes c.enter_leaf-entered.new.passed (noted ++ rs)) records
    (c.enter_leaf-entered.ensures.past noted past (c.at_block.ensures.same.0 ok))

pub visit-returns-then-level-eq0-clause-marked : goal.visit-returns-then-level-eq0-clause-marked
visit-returns-then-level-eq0-clause-marked g t c = λ ok.
    let form = g.R.Record.form in
    let spot = c.args.spot in
    let over = c.args.over.now in
    let blocks = leaf_blocks form g.met.R.Record.is_form over spot.least spot.left spot.last spot.number c.args.seen.now [] c.args.level c.if-level-eq0.true in
    subst (λ (ns : List ℕ). AreMarked c.args.seen.now ns c.enter_leaf-entered.new.seen) blocks (c.enter_leaf-entered.ensures.marked (c.at_block.ensures.same.0 ok))

pub visit-returns-in_ok-at_block-clause-rules : goal.visit-returns-in_ok-at_block-clause-rules
visit-returns-in_ok-at_block-clause-rules g t c = λ noted past.
    let form = g.R.Record.form in
    let spot = c.args.spot in
    let over = c.args.over.now in
    let ok = c.in_ok-at_block.ensures.same.0 (refl {a = true}) in
    let entered = c.enter_node-entered.ensures.rules.0 ok in
    let up : c.args.level - 1 + 1 ≡ c.args.level = omega (arith, c.if-level-eq0.false) in
    node_rules form g.met.R.Record.is_form over spot.least spot.left spot.last spot.number c.args.seen.now noted (c.args.level - 1) c.enter_node-entered.new.seen
    (c.enter_node-entered.ensures.marked ok) c.args.level (λ (level : ℕ). IfSome c.args.key (λ k. k.now ≡ key_held form (tree_held form over) level spot.number))
    (IsOk c.visit_children.result) up entered.0 entered.1 (c.visit_children.ensures.rules noted past)

pub visit-returns-in_ok-at_block-clause-past : goal.visit-returns-in_ok-at_block-clause-past
visit-returns-in_ok-at_block-clause-past g t c = λ noted past done.
    let form = g.R.Record.form in
    let spot = c.args.spot in
    let ok = c.in_ok-at_block.ensures.same.0 (refl {a = true}) in
    let up : c.args.level - 1 + 1 ≡ c.args.level = omega (arith, c.if-level-eq0.false) in
    let records = node_records form g.met.R.Record.is_form c.args.over.now spot.least spot.left spot.last spot.number c.args.seen.now noted (c.args.level - 1)
    c.enter_node-entered.new.seen (c.enter_node-entered.ensures.marked ok) c.args.level up in
    subst (λ (rs : List _). IsPast form g.L.Ledger.notes c.visit_children.new.passed (noted ++ rs)) records (c.visit_children.ensures.past noted past done)

pub visit-returns-in_ok-at_block-clause-marked : goal.visit-returns-in_ok-at_block-clause-marked
visit-returns-in_ok-at_block-clause-marked g t c = λ done.
    let form = g.R.Record.form in
    let spot = c.args.spot in
    let ok = c.in_ok-at_block.ensures.same.0 (refl {a = true}) in
    let up : c.args.level - 1 + 1 ≡ c.args.level = omega (arith, c.if-level-eq0.false) in
    node_marked form g.met.R.Record.is_form c.args.over.now spot.least spot.left spot.last spot.number c.args.seen.now [] (c.args.level - 1)
    c.enter_node-entered.new.seen (c.enter_node-entered.ensures.marked ok) c.args.level c.visit_children.new.seen up (c.visit_children.ensures.marked done)

pub visit_children-returns-in_err-number-clause-rules : goal.visit_children-returns-in_err-number-clause-rules
visit_children-returns-in_err-number-clause-rules g t c = λ noted past.
    let form = g.R.Record.form in
    let node = c.args.node in
    let over = c.args.over.now in
    let loop = c.loop-k in
    let within : loop.k < count_in c.block-block.result.now = omega (arith, c.loop-k-test.true, c.count_of-count.ensures.count) in (
      λ ok. absurd (not_ok c.from_residual.result c.from_residual.ensures.0 ok),
      λ all.
          let used = child_used form g.met.R.Record.is_form g.L.Ledger.notes over c.args.level node.number (last_below form over node.left) node.last c.args.seen.now noted loop.left
          loop.seen loop.passed loop.k (loop.invariant.0 noted past) c.child_at.result c.block-block.result.now c.block-block.ensures c.child_at.ensures.value within all in
          absurd (let lie = c.in_err-number.ensures.within.1 used in cc),
    )

pub visit_children-returns-in_err-visit-clause-rules : goal.visit_children-returns-in_err-visit-clause-rules
visit_children-returns-in_err-visit-clause-rules g t c = λ noted past.
    let form = g.R.Record.form in
    let node = c.args.node in
    let over = c.args.over.now in
    let loop = c.loop-k in
    let to = loop.invariant.0 noted past in
    let next : IsChild form over c.args.level node.number node.last loop.k c.count_of-count.result c.block-block.result.now c.child_key.result.now c.in_ok-number.number
    c.least_below.result c.is_last.result = record {
      bytes_are = c.block-block.ensures;
      counted = c.count_of-count.ensures.count;
      within = c.loop-k-test.true;
      child = c.in_ok-number.ensures.value ∙ c.child_at.ensures.value;
      key_is = c.child_key.ensures.value;
      least_is = c.least_below.ensures.value;
      end_is = c.is_last.ensures;
    } in (
      λ ok. absurd (not_ok c.from_residual-in_err-visit.result c.from_residual-in_err-visit.ensures.0 ok),
      λ all.
          let needed = child_needed form g.met.R.Record.is_form g.L.Ledger.notes over c.args.level node.number (last_below form over node.left) node.last c.args.seen.now noted loop.left
          loop.seen loop.passed loop.k to c.count_of-count.result c.block-block.result.now c.child_key.result.now c.in_ok-number.number c.least_below.result c.is_last.result next all in
          absurd (let lie = (c.in_err-visit.ensures.rules to.records to.past).1 needed in cc),
    )

pub visit_children-loop-k-preserved : goal.visit_children-loop-k-preserved
visit_children-loop-k-preserved g t c =
    let form = g.R.Record.form in
    let node = c.args.node in
    let over = c.args.over.now in
    let loop = c.loop-k in
    let next : IsChild form over c.args.level node.number node.last loop.k c.count_of-count.result c.block-block.result.now c.child_key.result.now c.in_ok-number.number
    c.least_below.result c.is_last.result = record {
      bytes_are = c.block-block.ensures;
      counted = c.count_of-count.ensures.count;
      within = c.loop-k-test.true;
      child = c.in_ok-number.ensures.value ∙ c.child_at.ensures.value;
      key_is = c.child_key.ensures.value;
      least_is = c.least_below.ensures.value;
      end_is = c.is_last.ensures;
    } in
    let counted : count_in (block_at over node.number) ≡ c.count_of-count.result = ap count_in (sym c.block-block.ensures) ∙ sym c.count_of-count.ensures.count in
    let marked = c.in_ok-visit.ensures.marked (refl {a = true}) in (
      λ noted past.
          let to = loop.invariant.0 noted past in
          let sound = (c.in_ok-visit.ensures.rules to.records to.past).0 (refl {a = true}) in
          let past_now = c.in_ok-visit.ensures.past to.records to.past (refl {a = true}) in
          subst (λ (left : ℕ). AreVisitedTo form g.L.Ledger.notes over c.args.level node.number (last_below form over node.left) node.last c.args.seen.now noted (Some left)
          c.visit.new.seen c.visit.new.passed (loop.k + 1)) (sym c.from.ensures)
          (child_done form g.met.R.Record.is_form g.L.Ledger.notes over c.args.level node.number (last_below form over node.left) node.last c.args.seen.now noted loop.left
          loop.seen loop.passed loop.k to c.count_of-count.result c.block-block.result.now c.child_key.result.now c.in_ok-number.number c.least_below.result c.is_last.result next
          c.visit.new.seen c.visit.new.passed marked sound past_now),
      marked_more form over c.args.level node.number c.args.seen.now loop.seen c.visit.new.seen loop.k c.in_ok-number.number
          (omega (arith, length-children form over node.number, counted, c.loop-k-test.true))
          (nth_child form over node.number loop.k c.in_ok-number.number c.block-block.result.now c.block-block.ensures next.child (omega (arith, counted, c.loop-k-test.true)))
          loop.invariant.1 marked,
    )

pub visit_children-returns-clause-rules : goal.visit_children-returns-clause-rules
visit_children-returns-clause-rules g t c = λ noted past.
    let form = g.R.Record.form in
    let node = c.args.node in
    let over = c.args.over.now in
    let loop = c.loop-k in
    let counted : count_in (block_at over node.number) ≡ c.count_of-count.result = ap count_in (sym c.block-block.ensures) ∙ sym c.count_of-count.ensures.count in
    let all = visited_all form g.met.R.Record.is_form g.L.Ledger.notes over c.args.level node.number (last_below form over node.left) node.last c.args.seen.now noted loop.left loop.seen
    loop.passed loop.k (loop.invariant.0 noted past) (omega (arith, length-children form over node.number, counted, c.loop-k-test.false))
    (omega (arith, counted, c.loop-k-test.false)) in
    (λ ok. all.0, λ both. refl)

pub visit_children-returns-clause-past : goal.visit_children-returns-clause-past
visit_children-returns-clause-past g t c = λ noted past ok.
    let form = g.R.Record.form in
    let node = c.args.node in
    let over = c.args.over.now in
    let loop = c.loop-k in
    let counted : count_in (block_at over node.number) ≡ c.count_of-count.result = ap count_in (sym c.block-block.ensures) ∙ sym c.count_of-count.ensures.count in
    (visited_all form g.met.R.Record.is_form g.L.Ledger.notes over c.args.level node.number (last_below form over node.left) node.last c.args.seen.now noted loop.left loop.seen
    loop.passed loop.k (loop.invariant.0 noted past) (omega (arith, length-children form over node.number, counted, c.loop-k-test.false))
    (omega (arith, counted, c.loop-k-test.false))).1

pub visit_children-returns-clause-marked : goal.visit_children-returns-clause-marked
visit_children-returns-clause-marked g t c = λ ok.
    let form = g.R.Record.form in
    let node = c.args.node in
    let over = c.args.over.now in
    let counted : count_in (block_at over node.number) ≡ c.count_of-count.result = ap count_in (sym c.block-block.ensures) ∙ sym c.count_of-count.ensures.count in
    marked_all form over c.args.level node.number c.args.seen.now c.loop-k.seen c.loop-k.k (omega (arith, length-children form over node.number, counted, c.loop-k-test.false))
    c.loop-k.invariant.1

pub visit-returns-in_err-at_block-clause-refused : goal.visit-returns-in_err-at_block-clause-refused
visit-returns-in_err-at_block-clause-refused g t c = λ noted past.
    let form = g.R.Record.form in
    let spot = c.args.spot in
    let over = c.args.over.now in
    let up : c.args.level - 1 + 1 ≡ c.args.level = omega (arith, c.if-level-eq0.false) in
    let fault = c.in_err-at_block.field-0.0 in
    handed_on c.from_residual.result _ fault c.from_residual.ensures.1
    (node_refused form over spot.least spot.left spot.last spot.number c.args.seen.now noted fault (c.args.level - 1) c.args.level _ up
    (refused_at c.enter_node-entered.result (Err fault) (over.first + spot.number) _ c.in_err-at_block.ensures.same c.in_err-at_block.ensures.named c.enter_node-entered.ensures.refused))

pub visit-returns-then-level-eq0-clause-refused : goal.visit-returns-then-level-eq0-clause-refused
visit-returns-then-level-eq0-clause-refused g t c = λ noted past.
    let form = g.R.Record.form in
    let spot = c.args.spot in
    let over = c.args.over.now in
    let Key : ℕ → Type 0 = λ level. IfSome c.args.key (λ k. k.now ≡ key_held form (tree_held form over) level spot.number) in
    refused_so c.at_block.result _ _
    (λ fault err refused. leaf_refused form over spot.least spot.left spot.last spot.number c.args.seen.now noted fault c.args.level Key c.if-level-eq0.true refused)
    (refused_at c.enter_leaf-entered.result c.at_block.result (over.first + spot.number) _ c.at_block.ensures.same c.at_block.ensures.named
    (c.enter_leaf-entered.ensures.refused noted past))

pub visit-returns-in_ok-at_block-clause-refused : goal.visit-returns-in_ok-at_block-clause-refused
visit-returns-in_ok-at_block-clause-refused g t c = λ noted past.
    let form = g.R.Record.form in
    let spot = c.args.spot in
    let over = c.args.over.now in
    let ok = c.in_ok-at_block.ensures.same.0 (refl {a = true}) in
    let entered = c.enter_node-entered.ensures.rules.0 ok in
    let up : c.args.level - 1 + 1 ≡ c.args.level = omega (arith, c.if-level-eq0.false) in
    refused_so c.visit_children.result _ _
    (λ fault err refused. below_refused form over spot.least spot.left spot.last spot.number c.args.seen.now noted fault (c.args.level - 1) c.args.level _ c.enter_node-entered.new.seen up
    entered.0 entered.1 (c.enter_node-entered.ensures.marked ok) refused)
    (c.visit_children.ensures.refused noted past)

pub visit_children-returns-in_err-number-clause-refused : goal.visit_children-returns-in_err-number-clause-refused
visit_children-returns-in_err-number-clause-refused g t c = λ noted past.
    let form = g.R.Record.form in
    let node = c.args.node in
    let over = c.args.over.now in
    let loop = c.loop-k in
    let fault = c.in_err-number.field-0.0 in
    let within : loop.k < count_in c.block-block.result.now = omega (arith, c.loop-k-test.true, c.count_of-count.ensures.count) in
    handed_on c.from_residual.result _ fault c.from_residual.ensures.1
    (pointer_refused form g.met.R.Record.is_form g.L.Ledger.notes over c.args.level node.number (last_below form over node.left) node.last c.args.seen.now noted loop.left
    loop.seen loop.passed loop.k (loop.invariant.0 noted past) c.child_at.result c.block-block.result.now fault c.block-block.ensures c.child_at.ensures.value within
    c.in_err-number.ensures.refused)

pub visit_children-returns-in_err-visit-clause-refused : goal.visit_children-returns-in_err-visit-clause-refused
visit_children-returns-in_err-visit-clause-refused g t c = λ noted past.
    let form = g.R.Record.form in
    let node = c.args.node in
    let over = c.args.over.now in
    let loop = c.loop-k in
    let fault = c.in_err-visit.field-0.0 in
    let to = loop.invariant.0 noted past in
    let next : IsChild form over c.args.level node.number node.last loop.k c.count_of-count.result c.block-block.result.now c.child_key.result.now c.in_ok-number.number
    c.least_below.result c.is_last.result = record {
      bytes_are = c.block-block.ensures;
      counted = c.count_of-count.ensures.count;
      within = c.loop-k-test.true;
      child = c.in_ok-number.ensures.value ∙ c.child_at.ensures.value;
      key_is = c.child_key.ensures.value;
      least_is = c.least_below.ensures.value;
      end_is = c.is_last.ensures;
    } in
    handed_on c.from_residual-in_err-visit.result _ fault c.from_residual-in_err-visit.ensures.1
    (child_refused form g.met.R.Record.is_form g.L.Ledger.notes over c.args.level node.number (last_below form over node.left) node.last c.args.seen.now noted loop.left
    loop.seen loop.passed loop.k to c.count_of-count.result c.block-block.result.now c.child_key.result.now c.in_ok-number.number c.least_below.result c.is_last.result next
    fault (c.in_ok-number.ensures.from, c.in_ok-number.ensures.below) (c.in_err-visit.ensures.refused to.records to.past))
