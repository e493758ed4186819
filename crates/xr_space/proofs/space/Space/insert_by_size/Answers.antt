-- A run that stands apart from the others is a record more by size.
use Rattle.std.proofs.Common.{refl, arith}
use Rattle.xr_kinds.specs.declared.free_runs.BySize.{BySize}
use Rattle.xr_kinds.specs.FreeRuns.{size_form, size_span, by_size}
use Rattle.xr_space.proofs.FrameLemmas.{size_step, blocks_stay}
use Rattle.xr_space.proofs.RunRecordLemmas.{apart_rules, by_size_runs}
use Rattle.xr_space.proofs.RunSetLemmas.{gains}
use Rattle.xr_space.proofs.SmallTreeLemmas.{few_wanted}
use Rattle.xr_space.proofs.space.Space.insert_by_size.Goals as goal

pub insert-requires-clause-rules : goal.insert-requires-clause-rules
insert-requires-clause-rules c =
    rw c.from.ensures
    (apart_rules size_form size_span by_size_runs (by_size c.args.run) _ c.requires.space.sizes.records
    c.requires.good (λ (x : BySize) within. c.requires.fits (size_span x) within))

pub insert-requires-clause-room : goal.insert-requires-clause-room
insert-requires-clause-room c =
    let tree = c.args.self.now.by_size in
    let few = few_wanted size_form size_span by_size_runs c.args.over.now tree.block tree.level c.from.result c.requires.space.sizes in
    omega (arith, few, c.requires.room)

pub returns-clause-step : goal.returns-clause-step
returns-clause-step c =
    let tree = c.args.self.now.by_size in
    let few = few_wanted size_form size_span by_size_runs c.args.over.now tree.block tree.level c.from.result c.requires.space.sizes in
    size_step _ _ _ c.insert.new.self c.requires.space _ c.insert.ensures.step 2 (omega (arith, few, c.insert.ensures.room))

pub returns-clause-set : goal.returns-clause-set
returns-clause-set c =
    gains size_form size_span by_size_runs by_size (λ s. refl) _ _ _ _ c.args.run (rw c.from.ensures at c.insert.ensures.step)

pub returns-clause-blocks : goal.returns-clause-blocks
returns-clause-blocks c = blocks_stay _ _ _ c.insert.new.self c.requires.space _ c.insert.ensures.step
