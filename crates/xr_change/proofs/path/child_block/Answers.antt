use Rattle.std.proofs.Common.{◌≡◌, ◌+◌, ◌∙◌, ◌<◌, ℕ, List, [], length, sym, ap, subst, arith}
use Rattle.std.proofs.lemmas.List.{get_or-map}
use Rattle.xr_kinds.specs.Form.{Form}
use Rattle.xr_pool.specs.Overlay.{Blocks, block_at}
use Rattle.xr_block.specs.TreeBlock.{Entry, entries_in}
use Rattle.xr_change.proofs.DescentLemmas.{child_in_tree}
use Rattle.xr_change.proofs.BlockInTreeLemmas.{in_pool, node_in, node_room}
use Rattle.xr_change.proofs.ParentLemmas.{kth_of}
use Rattle.xr_change.proofs.ReadLemmas.{read_child}
use Rattle.xr_change.specs.Draft.{ReadsAs}
use Rattle.xr_change.specs.Paths.{IsInTree, child_of}
use Rattle.xr_block.specs.NodeEntries.{child_in}
use Rattle.xr_block.specs.NodeEntryLaws.{entry_read, length-entries}
use Rattle.xr_change.proofs.path.child_block.Goals as goal

-- the child that is read at a place of a node
child_same : {X : Type 0} (form : Form X) (b : Blocks) (n k c : ℕ) (bytes : List ℕ) → ReadsAs form bytes (block_at b n)
    → k < length (entries_in form (block_at b n)) → c ≡ child_in form k bytes → c ≡ child_of form b n k
child_same form b n k c bytes reads within is =
    let d : Entry = record { key = []; child = 0 } in
    is ∙ read_child form bytes (block_at b n) reads k
    ∙ sym (ap (λ (e : Entry). e.child) (entry_read form (block_at b n) k d (omega (arith, length-entries form (block_at b n)))))
    ∙ sym (get_or-map (λ (e : Entry). e.child) (entries_in form (block_at b n)) k d 0 within)

child_here : {X : Type 0} (form : Form X) (b : Blocks) (level n k c : ℕ) → IsInTree form b (level + 1) n
    → k < length (entries_in form (block_at b n)) → c ≡ child_of form b n k → IsInTree form b level c
child_here form b level n k c here within same =
    subst (IsInTree form b level) (sym same) (child_in_tree form b level n k (node_in form b level n here) within)

pub block-requires : goal.block-requires
block-requires g c = in_pool g.R.Record.form c.args.draft.now (c.args.level + 1) c.args.n c.requires.here

pub child_at-requires : goal.child_at-requires
child_at-requires g c =
    let few = node_room g.R.Record.form g.met.R.Record.is_form c.args.draft.now c.args.level c.args.n c.requires.here in
    omega (arith, few, g.met.R.Record.numbers.same_node_max, c.requires.within, length-entries g.R.Record.form (block_at c.args.draft.now c.args.n))

pub overflow_cast-result : goal.overflow_cast-result
overflow_cast-result g c =
    let form = g.R.Record.form in
    let over = c.args.draft.now in
    let same = child_same form over c.args.n c.args.k c.child_at.result c.block.result.now c.block.ensures c.requires.within c.child_at.ensures.value in
    let own = in_pool form over c.args.level c.child_at.result
    (child_here form over c.args.level c.args.n c.args.k c.child_at.result c.requires.here c.requires.within same) in
    omega (arith, own, c.is_known.ensures.small)

pub returns : goal.returns
returns g c =
    let form = g.R.Record.form in
    let over = c.args.draft.now in
    let same = child_same form over c.args.n c.args.k c.child_at.result c.block.result.now c.block.ensures c.requires.within c.child_at.ensures.value in
    record {
      kth = kth_of form g.met.R.Record.is_form over c.args.level c.args.n c.args.k c.child_at.result c.is_known.ensures
          (node_in form over c.args.level c.args.n c.requires.here) c.requires.within same;
      here = child_here form over c.args.level c.args.n c.args.k c.child_at.result c.requires.here c.requires.within same;
    }
