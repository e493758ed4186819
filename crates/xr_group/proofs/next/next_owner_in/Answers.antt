use Rattle.xr_group.proofs.NextLemmas.{first_now, none_now, rev_order, revs_read}
use Rattle.xr_group.specs.Next.{rev_at}
use Rattle.xr_maps.specs.Records.{IsBefore}
use Rattle.xr_kinds.specs.Reverse.{reverse_form}
use Rattle.xr_lookup.specs.Lookup.{is_after}
use Rattle.xr_rmap.specs.Rmap.{owner_records}
use Rattle.xr_group.proofs.next.next_owner_in.Goals as goal

pub returns-in-Some : goal.returns-in-Some
returns-in-Some c =
    let b = c.args.over.now in
    let t = c.args.trees.now in
    first_now reverse_form (rev_at b.owner) IsBefore c.args.after (is_after reverse_form c.owner_after.result) (owner_records b t.rmap)
    c.requires.trees.rmap.records c.owner_after.ensures _ c.in-Some.found _ (revs_read b t c.requires) (c.rev_at.ensures) c.in-Some.ensures
    (λ x y good other. rev_order b.owner x y)

pub returns-in-None : goal.returns-in-None
returns-in-None c =
    let b = c.args.over.now in
    let t = c.args.trees.now in
    none_now reverse_form (rev_at b.owner) IsBefore c.args.after (is_after reverse_form c.owner_after.result) (owner_records b t.rmap)
    c.requires.trees.rmap.records c.owner_after.ensures _ (revs_read b t c.requires) c.in-None.ensures
