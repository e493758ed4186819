-- A run is in the place of one that it meets or touches, by block.
use Rattle.std.proofs.Common.{◌≡◌, refl, ap, arith}
use Rattle.xr_kinds.specs.declared.free_runs.ByBlock.{ByBlock}
use Rattle.xr_kinds.specs.FreeRuns.{block_form, block_span, by_block}
use Rattle.xr_space.proofs.FrameLemmas.{block_step, sizes_stay}
use Rattle.xr_space.proofs.RunRecordLemmas.{by_block_runs, near_rules}
use Rattle.xr_space.proofs.RunSetLemmas.{swaps}
use Rattle.xr_space.proofs.space.Space.replace_by_block.Goals as goal

pub replace-requires-clause-rules : goal.replace-requires-clause-rules
replace-requires-clause-rules c =
    rw (c.from.ensures, c.from-2.ensures)
    (near_rules (by_block c.args.old) (by_block c.args.new) _ c.requires.space.blocks.records
    c.requires.held c.requires.good
    (λ (x : ByBlock) within other. c.requires.fits (block_span x) within (λ (same : block_span x ≡ c.args.old). other (ap by_block same)))
    c.requires.near)

pub returns-clause-step : goal.returns-clause-step
returns-clause-step c =
    block_step _ _ _ c.replace.new.self c.requires.space _ c.replace.ensures.step 0 (omega (arith, c.replace.ensures.room))

pub returns-clause-set : goal.returns-clause-set
returns-clause-set c =
    swaps block_form block_span by_block_runs by_block (λ s. refl) _ _ _ _ c.requires.space.blocks c.args.old c.args.new c.requires.held
    (rw (c.from.ensures, c.from-2.ensures) at c.replace.ensures.step)

pub returns-clause-sizes : goal.returns-clause-sizes
returns-clause-sizes c = sizes_stay _ _ _ c.replace.new.self c.requires.space _ c.replace.ensures.step
