use Rattle.std.proofs.Common.{◌∙◌, [], get_or, sym, arith}
use Rattle.std.proofs.lemmas.List.{length-map, take_all}
use Rattle.xr_commit.specs.ItemsOf.{items_in}
use Rattle.xr_commit.proofs.EntryItemLemmas.{as_many, each_at, pushed}
use Rattle.xr_commit.proofs.items.items_of_each.Goals as goal

pub entry_items-requires : goal.entry_items-requires
entry_items-requires c =
    let entries = c.args.entries.now in
    let at = c.loop-entry.entry-index in
    (get_or c.requires.0 at [], rw c.entry-item.is (each_at entries c.requires.0 at c.entry-item.result [] c.requires.1 c.loop-entry-test.true))

pub loop-entry-preserved : goal.loop-entry-preserved
loop-entry-preserved c =
    λ items each.
    let entries = c.args.entries.now in
    let at = c.loop-entry.entry-index in
    let list = c.in_ok-entry_items.field-0 in
    rw c.in_ok-push.ensures.items
    (pushed at items c.loop-entry.lists.items list (omega (arith, as_many entries items each, c.loop-entry-test.true)) (c.loop-entry.invariant items each)
    (c.in_ok-entry_items.ensures.only (get_or items at list.items)
    (rw c.entry-item.is (each_at entries items at c.entry-item.result list.items each c.loop-entry-test.true))))

pub returns-clause-only : goal.returns-clause-only
returns-clause-only c =
    λ items each. c.loop-entry.invariant items each ∙ take_all c.loop-entry.entry-index items (omega (arith, as_many c.args.entries.now items each, c.loop-entry-test.false))

pub returns-clause-are : goal.returns-clause-are
returns-clause-are c = rw (returns-clause-only c c.requires.0 c.requires.1) c.requires.1

pub returns-clause-number : goal.returns-clause-number
returns-clause-number c =
    sym (length-map c.loop-entry.lists.items (λ list. list.items)) ∙ as_many c.args.entries.now (items_in c.loop-entry.lists.items) (returns-clause-are c)
