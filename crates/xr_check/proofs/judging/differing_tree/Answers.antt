use Rattle.std.proofs.Common.{List, subst, sym, ◌∙◌}
use Rattle.xr_base.specs.declared.address.Run.{Run}
use Rattle.xr_check.proofs.JudgeLemmas.{all_sound, first_sizes, free_records_rise, list_differs, list_is, sizes_are}
use Rattle.xr_check.specs.Verdicts.{AreSizeRecords, run_start}
use Rattle.xr_group.specs.Next.{IsShorter, counteds_now, frees_now, revs_now, sizes_now}
use Rattle.xr_maps.specs.Records.{AreFreeRecords, AreReferenceRecords, AreReverseRecords}
use Rattle.xr_check.proofs.judging.differing_tree.Goals as goal

pub order_by_length-requires : goal.order_by_length-requires
order_by_length-requires c = record { rising = free_records_rise c.args.maps.now c.args.number.0 c.in_ok-free.free.items c.in_ok-free.ensures }

pub returns-in-Some-first_difference-3 : goal.returns-in-Some-first_difference-3
returns-in-Some-first_difference-3 c =
    let maps = c.args.maps.now in
    let g = c.args.group.now in
    let n = c.args.number.0 in
    let key = c.in-Some-first_difference-3.key in
    let sizes = c.order_by_length.new.runs.items in
    first_sizes maps g key
    (list_is maps g n c.requires.number AreReverseRecords (revs_now g) c.in_ok-owners.owners.items c.in_ok-owners.ensures (c.in_default.ensures ∙ c.deref.ensures.value))
    (list_is maps g n c.requires.number AreReferenceRecords (counteds_now g) c.in_ok-shared.shared.items c.in_ok-shared.ensures
    (c.in_default-first_difference.ensures ∙ c.deref-2.ensures.value))
    (list_is maps g n c.requires.number AreFreeRecords (frees_now g) c.in_ok-free.free.items c.in_ok-free.ensures
    (c.in_default-first_difference-2.ensures ∙ c.deref-3.ensures.value))
    (list_differs maps g n c.requires.number AreSizeRecords IsShorter run_start (sizes_now g) c.deref-4.result.now key
    (subst (λ (xs : List Run). AreSizeRecords maps n xs) (sym c.deref-4.ensures.value)
    (sizes_are maps g n c.requires.number c.in_ok-free.free.items sizes c.in_ok-free.ensures c.in_ok-order_by_length.ensures.rising c.in_ok-order_by_length.ensures.same))
    c.in-Some-first_difference-3.ensures)

pub returns : goal.returns
returns c =
    let maps = c.args.maps.now in
    let g = c.args.group.now in
    let n = c.args.number.0 in
    let sizes = c.order_by_length.new.runs.items in
    all_sound maps g
    (list_is maps g n c.requires.number AreReverseRecords (revs_now g) c.in_ok-owners.owners.items c.in_ok-owners.ensures (c.in_default.ensures ∙ c.deref.ensures.value))
    (list_is maps g n c.requires.number AreReferenceRecords (counteds_now g) c.in_ok-shared.shared.items c.in_ok-shared.ensures
    (c.in_default-first_difference.ensures ∙ c.deref-2.ensures.value))
    (list_is maps g n c.requires.number AreFreeRecords (frees_now g) c.in_ok-free.free.items c.in_ok-free.ensures
    (c.in_default-first_difference-2.ensures ∙ c.deref-3.ensures.value))
    (list_is maps g n c.requires.number AreSizeRecords (sizes_now g) sizes
    (sizes_are maps g n c.requires.number c.in_ok-free.free.items sizes c.in_ok-free.ensures c.in_ok-order_by_length.ensures.rising c.in_ok-order_by_length.ensures.same)
    (c.in_default-first_difference-3.ensures ∙ c.deref-4.ensures.value))
