-- A run that stands apart from the others is a record more by block.
use Rattle.std.proofs.Common.{refl, arith}
use Rattle.xr_kinds.specs.declared.free_runs.ByBlock.{ByBlock}
use Rattle.xr_kinds.specs.FreeRuns.{block_form, block_span, by_block}
use Rattle.xr_space.proofs.FrameLemmas.{block_step, sizes_stay}
use Rattle.xr_space.proofs.RunRecordLemmas.{apart_rules, by_block_runs}
use Rattle.xr_space.proofs.RunSetLemmas.{gains}
use Rattle.xr_space.proofs.SmallTreeLemmas.{few_wanted}
use Rattle.xr_space.proofs.space.Space.insert_by_block.Goals as goal

pub insert-requires-clause-rules : goal.insert-requires-clause-rules
insert-requires-clause-rules c =
    rw c.from.ensures
    (apart_rules block_form block_span by_block_runs (by_block c.args.run) _ c.requires.space.blocks.records
    c.requires.good (λ (x : ByBlock) within. c.requires.fits (block_span x) within))

pub insert-requires-clause-room : goal.insert-requires-clause-room
insert-requires-clause-room c =
    let tree = c.args.self.now.by_block in
    let few = few_wanted block_form block_span by_block_runs c.args.over.now tree.block tree.level c.from.result c.requires.space.blocks in
    omega (arith, few, c.requires.room)

pub returns-clause-step : goal.returns-clause-step
returns-clause-step c =
    let tree = c.args.self.now.by_block in
    let few = few_wanted block_form block_span by_block_runs c.args.over.now tree.block tree.level c.from.result c.requires.space.blocks in
    block_step _ _ _ c.insert.new.self c.requires.space _ c.insert.ensures.step 2 (omega (arith, few, c.insert.ensures.room))

pub returns-clause-set : goal.returns-clause-set
returns-clause-set c =
    gains block_form block_span by_block_runs by_block (λ s. refl) _ _ _ _ c.args.run (rw c.from.ensures at c.insert.ensures.step)

pub returns-clause-sizes : goal.returns-clause-sizes
returns-clause-sizes c = sizes_stay _ _ _ c.insert.new.self c.requires.space _ c.insert.ensures.step
