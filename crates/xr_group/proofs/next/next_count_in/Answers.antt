use Rattle.xr_group.proofs.NextLemmas.{first_now, none_now, count_order, counteds_read}
use Rattle.xr_group.specs.Next.{IsCountedBefore, counted_at}
use Rattle.xr_kinds.specs.Reference.{reference_form}
use Rattle.xr_lookup.specs.Lookup.{from}
use Rattle.xr_refcount.specs.Refcount.{reference_records}
use Rattle.xr_group.proofs.next.next_count_in.Goals as goal

pub returns-in-Some : goal.returns-in-Some
returns-in-Some c =
    let b = c.args.over.now in
    let t = c.args.trees.now in
    first_now reference_form (counted_at b.owner) IsCountedBefore c.args.after (from reference_form c.count_from-from.result) (reference_records b t.counts)
    c.requires.trees.counts.records c.count_from-from.ensures _ c.in-Some.found _ (counteds_read b t c.requires) (c.counted_at.ensures) c.in-Some.ensures
    (count_order b.owner)

pub returns-in-None : goal.returns-in-None
returns-in-None c =
    let b = c.args.over.now in
    let t = c.args.trees.now in
    none_now reference_form (counted_at b.owner) IsCountedBefore c.args.after (from reference_form c.count_from-from.result) (reference_records b t.counts)
    c.requires.trees.counts.records c.count_from-from.ensures _ (counteds_read b t c.requires) c.in-None.ensures
