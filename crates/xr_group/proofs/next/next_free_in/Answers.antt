use Rattle.std.proofs.Common.{ap, ◌∙◌}
use Rattle.xr_group.proofs.NextLemmas.{first_now, none_now, free_order, frees_read}
use Rattle.xr_group.specs.Next.{StartsBefore, free_run_at}
use Rattle.xr_group.specs.Sets.{run_at}
use Rattle.xr_kinds.specs.FreeRuns.{block_form}
use Rattle.xr_lookup.specs.Lookup.{from}
use Rattle.xr_space.specs.Space.{block_records}
use Rattle.xr_group.proofs.next.next_free_in.Goals as goal

pub returns-in-Some : goal.returns-in-Some
returns-in-Some c =
    let b = c.args.over.now in
    let t = c.args.trees.now in
    first_now block_form (free_run_at b.owner) StartsBefore c.args.after (from block_form c.free_from-from.result) (block_records b t.space)
    c.requires.trees.space.blocks.records c.free_from-from.ensures _ c.in-Some.found _ (frees_read b t c.requires) (c.run_at.ensures ∙ ap (run_at b.owner) c.span.ensures) c.in-Some.ensures
    (λ x y good other. free_order b.owner x y)

pub returns-in-None : goal.returns-in-None
returns-in-None c =
    let b = c.args.over.now in
    let t = c.args.trees.now in
    none_now block_form (free_run_at b.owner) StartsBefore c.args.after (from block_form c.free_from-from.result) (block_records b t.space)
    c.requires.trees.space.blocks.records c.free_from-from.ensures _ (frees_read b t c.requires) c.in-None.ensures
