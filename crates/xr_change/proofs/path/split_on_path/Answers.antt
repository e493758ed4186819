use Rattle.std.proofs.Common.{◌≡◌, ℕ, sym, subst, arith}
use Rattle.std.specs.declared.cmp.Ordering.TheVariants.{Less}
use Rattle.xr_change.proofs.BlockInTreeLemmas.{node_in, node_items, one_more}
use Rattle.xr_change.proofs.RoomLemmas.{before_now, after_now, one_more_now, room_made, split_here}
use Rattle.xr_change.specs.Paths.{IsInTree}
use Rattle.xr_change.proofs.path.split_on_path.Goals as goal

pub path_half-requires : goal.path_half-requires
path_half-requires g c =
    let form = g.R.Record.form in
    let laws = g.met.R.Record.is_form in
    let s = c.split_child.new.draft in
    let level = c.args.level in
    let r = c.args.r.now in
    let here = node_in form c.args.draft.now level c.args.n c.requires.here in
    let split = c.split_child.ensures.split in
    record {
      here = subst (λ (l : ℕ). IsInTree form s l c.args.n) (sym (one_more level)) (split_here laws here c.requires.path.within split);
      within = omega (arith, one_more_now laws here c.requires.path.within split, c.requires.path.within, node_items form s level c.args.n);
      before = before_now laws here c.requires.path.within split (λ (x : g.row.R.Denot). form.order x r ≡ Less) c.requires.path.before;
      after = after_now laws here c.requires.path.within split (λ (x : g.row.R.Denot). form.order r x ≡ Less) c.requires.path.after;
    }

pub returns : goal.returns
returns g c =
    let min_records = c.path_half.ensures in
    let split = c.split_child.ensures in
    room_made g.met.R.Record.is_form c.args.r.now min_records.first min_records.second min_records.either (node_in g.R.Record.form c.args.draft.now c.args.level c.args.n c.requires.here)
    c.requires.path.within split.split c.requires.full c.requires.room c.requires.place min_records.path split.free split.marks split.changed
