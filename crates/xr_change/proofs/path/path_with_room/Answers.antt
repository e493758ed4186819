use Rattle.std.proofs.Common.{◌∙◌, ◌<◌, length, sym, ap, arith, ℕ}
use Rattle.xr_pool.specs.Overlay.{block_at}
use Rattle.xr_block.specs.TreeBlock.{entries_in}
use Rattle.xr_change.proofs.DescentLemmas.{child_in_tree}
use Rattle.xr_change.proofs.FullPathLemmas.{full_below, full_if, full_some, room_if}
use Rattle.xr_change.proofs.BlockInTreeLemmas.{node_in, node_items, one_more}
use Rattle.xr_change.proofs.RoomLemmas.{room_here}
use Rattle.xr_change.specs.Paths.{child_of, full_on_path, is_full}
use Rattle.xr_change.proofs.path.path_with_room.Goals as goal

pub returns-then-not-is_full : goal.returns-then-not-is_full
returns-then-not-is_full g c =
    let form = g.R.Record.form in
    let laws = g.met.R.Record.is_form in
    let a = c.args.draft.now in
    let level = c.args.level in
    let n = c.args.n in
    let k = c.path_index-k.result in
    let path = c.path_index-k.ensures.path in
    let here = node_in form a level n c.requires.here in
    room_here form laws a c.args.r.now level n k (omega (arith, c.requires.room, node_items form a level n)) c.path_index-k.ensures.place here path
    (room_if form laws a level (child_of form a n k) (child_in_tree form a level n k here path.within)
    (ap (is_full form a level) (sym c.child_block-child.ensures.kth.is) ∙ sym c.is_full.ensures ∙ c.if-not-is_full.true))

pub split_on_path-requires : goal.split_on_path-requires
split_on_path-requires g c =
    let form = g.R.Record.form in
    let laws = g.met.R.Record.is_form in
    let a = c.args.draft.now in
    let level = c.args.level in
    let n = c.args.n in
    let k = c.path_index-k.result in
    let few : length (entries_in form (block_at a n)) < form.node_max = omega (arith, c.requires.room, node_items form a level n) in
    let full = full_if form a level (child_of form a n k) (ap (is_full form a level) (sym c.child_block-child.ensures.kth.is) ∙ sym c.is_full.ensures ∙ c.if-not-is_full.false) in
    record {
      here = c.requires.here;
      room = few;
      path = c.path_index-k.ensures.path;
      place = c.path_index-k.ensures.place;
      full = full;
      spare = omega (
        arith,
        c.requires.free,
        ap (λ (l : ℕ). full_on_path form a l n c.args.r.now) (one_more level),
        full_below form laws c.args.r.now a level n k few c.path_index-k.ensures.place,
        full_some form laws c.args.r.now a level (child_of form a n k) full,
      );
    }
