-- The core is the one of the tree as it is now.
use Rattle.std.proofs.Common.{◌<◌, ◌^◌, ap, subst, sym, ◌∙◌}
use Rattle.xr_bmap.proofs.CoreLemmas.{core_stays, core_valid, core_written, differ_core, same_core, zero_written}
use Rattle.xr_headers.specs.Headers.{core_block}
use Rattle.xr_headers.specs.declared.file_core.Core.{Core}
use Rattle.xr_bmap.proofs.parts.write_core.Goals as goal

pub put_core-requires-clause-valid : goal.put_core-requires-clause-valid
put_core-requires-clause-valid c =
    let is = c.core_of-core.ensures.is in
    rw is
    (core_valid c.args.number.0 c.args.uuid.now c.args.over.now c.args.bmap.now.tree c.args.before.now c.requires.file
    (subst (λ (core : Core). core.free < 256) is c.core_of-core.ensures.byte) (subst (λ (core : Core). core.level < 2 ^ 32) is c.core_of-core.ensures.level))

pub returns-then-ne-clause-file : goal.returns-then-ne-clause-file
returns-then-ne-clause-file c =
    let is = c.core_of-core.ensures.is in
    let valid = core_valid c.args.number.0 c.args.uuid.now c.args.over.now c.args.bmap.now.tree c.args.before.now c.requires.file
    (subst (λ (core : Core). core.free < 256) is c.core_of-core.ensures.byte) (subst (λ (core : Core). core.level < 2 ^ 32) is c.core_of-core.ensures.level) in
    core_written c.args.number.0 c.args.uuid.now c.args.over.now c.args.bmap.now.tree c.args.before.now c.requires.file valid
    c.put_core.new.out (c.put_core.ensures ∙ ap core_block is)

pub returns-then-ne-clause-written : goal.returns-then-ne-clause-written
returns-then-ne-clause-written c =
    let is = c.core_of-core.ensures.is in
    let valid = core_valid c.args.number.0 c.args.uuid.now c.args.over.now c.args.bmap.now.tree c.args.before.now c.requires.file
    (subst (λ (core : Core). core.free < 256) is c.core_of-core.ensures.byte) (subst (λ (core : Core). core.level < 2 ^ 32) is c.core_of-core.ensures.level) in
    zero_written c.args.number.0 c.args.uuid.now c.args.over.now c.args.bmap.now.tree c.args.before.now c.requires.file valid
    c.put_core.new.out (c.put_core.ensures ∙ ap core_block is)
    (λ same. differ_core c.core_of-core.result c.args.before.now (sym c.ne.ensures ∙ c.if-ne.true) (is ∙ same))

pub returns-else-ne-clause-file : goal.returns-else-ne-clause-file
returns-else-ne-clause-file c =
    let is = c.core_of-core.ensures.is in
    let valid = core_valid c.args.number.0 c.args.uuid.now c.args.over.now c.args.bmap.now.tree c.args.before.now c.requires.file
    (subst (λ (core : Core). core.free < 256) is c.core_of-core.ensures.byte) (subst (λ (core : Core). core.level < 2 ^ 32) is c.core_of-core.ensures.level) in
    core_stays c.args.number.0 c.args.uuid.now c.args.over.now c.args.bmap.now.tree c.args.before.now c.requires.file valid
    (sym is ∙ same_core c.core_of-core.result c.args.before.now (sym c.ne.ensures ∙ c.if-ne.false))
