use Rattle.std.proofs.Common.{ap, ◌∙◌}
use Rattle.xr_group.proofs.NextLemmas.{first_now, none_now, size_order_at, sizes_read}
use Rattle.xr_group.specs.Next.{IsShorter, sized_run_at}
use Rattle.xr_group.specs.Sets.{run_at}
use Rattle.xr_kinds.specs.FreeRuns.{size_form}
use Rattle.xr_lookup.specs.Lookup.{from}
use Rattle.xr_space.specs.Space.{size_records}
use Rattle.xr_group.proofs.next.next_size_in.Goals as goal

pub returns-in-Some : goal.returns-in-Some
returns-in-Some c =
    let b = c.args.over.now in
    let t = c.args.trees.now in
    first_now size_form (sized_run_at b.owner) IsShorter c.args.after (from size_form c.size_from-from.result) (size_records b t.space)
    c.requires.trees.space.sizes.records c.size_from-from.ensures _ c.in-Some.found _ (sizes_read b t c.requires) (c.run_at.ensures ∙ ap (run_at b.owner) c.span.ensures) c.in-Some.ensures
    (λ x y good other. size_order_at b.owner x y)

pub returns-in-None : goal.returns-in-None
returns-in-None c =
    let b = c.args.over.now in
    let t = c.args.trees.now in
    none_now size_form (sized_run_at b.owner) IsShorter c.args.after (from size_form c.size_from-from.result) (size_records b t.space)
    c.requires.trees.space.sizes.records c.size_from-from.ensures _ (sizes_read b t c.requires) c.in-None.ensures
