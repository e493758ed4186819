-- The first block is the core, and the overlay the pool that it names.
use Rattle.std.proofs.Common.{◌≡◌, length, take, refl, sym, ap, arith, vec_len}
use Rattle.std.proofs.lemmas.List.{length-take-le}
use Rattle.std.proofs.lemmas.Result.{err_from_is_err_and}
use Rattle.xr_base.specs.declared.geometry.TheConstants.{BLOCK_BYTES}
use Rattle.xr_bmap.proofs.OpenLemmas.{core_refused, is_opened}
use Rattle.xr_bmap.proofs.open.open_core.Goals as goal

pub slice_bounds-take_core-end : goal.slice_bounds-take_core-end
slice_bounds-take_core-end c =
    let long : vec_len c.args.blocks ≡ length c.args.blocks.items = omega arith in
    sym (length-take-le BLOCK_BYTES c.deref.result.now (omega (arith, ap length c.deref.ensures.value)))

pub take_core-requires-clause-room : goal.take_core-requires-clause-room
take_core-requires-clause-room c =
    let long : vec_len c.args.blocks ≡ length c.args.blocks.items = omega arith in
    length-take-le BLOCK_BYTES c.deref.result.now (omega (arith, ap length c.deref.ensures.value))

pub returns-in_err-core-clause-refused : goal.returns-in_err-core-clause-refused
returns-in_err-core-clause-refused c =
    let p = err_from_is_err_and c.from_residual.result c.from_residual.ensures.1 in
    rw (p.1, p.2)
    (core_refused c.args.file.0 c.args.uuid.now c.args.blocks.items (take BLOCK_BYTES c.deref.result.now) c.in_err-core.field-0.0
    (ap (take BLOCK_BYTES) c.deref.ensures.value) c.in_err-core.ensures.err c.in_err-core.ensures.field
    (λ v valid ino uuid is. let lie = c.take_core.ensures.complete v valid ino uuid is in let was = c.in_err-core.was in absurd cc))

pub returns-clause-opened : goal.returns-clause-opened
returns-clause-opened c =
    let long : vec_len c.args.blocks ≡ length c.args.blocks.items = omega arith in
    let room = c.requires.room in
    is_opened c.args.file.0 c.args.uuid.now c.args.blocks.items (take BLOCK_BYTES c.deref.result.now) c.in_ok-core.core c.requires.known
    c.is_identifier.ensures (omega (arith, long, room)) (ap (take BLOCK_BYTES) c.deref.ensures.value) c.in_ok-core.ensures.ok
    c.in_ok-over.over _ refl c.in_ok-over.ensures
