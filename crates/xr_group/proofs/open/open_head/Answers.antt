-- The first block is the header, and the overlay the pool that it names.
use Rattle.std.proofs.Common.{◌≡◌, length, take, sym, ap, arith, vec_len}
use Rattle.std.proofs.lemmas.List.{length-take-le}
use Rattle.std.proofs.lemmas.Result.{err_from_is_err_and}
use Rattle.xr_base.specs.declared.geometry.TheConstants.{BLOCK_BYTES}
use Rattle.xr_group.proofs.OpenLemmas.{head_refused, opens_head}
use Rattle.xr_group.proofs.open.open_head.Goals as goal

pub slice_bounds-take_group-end : goal.slice_bounds-take_group-end
slice_bounds-take_group-end c =
    let long : vec_len c.args.blocks ≡ length c.args.blocks.items = omega arith in
    sym (length-take-le BLOCK_BYTES c.deref.result.now (omega (arith, ap length c.deref.ensures.value)))

pub take_group-requires-clause-room : goal.take_group-requires-clause-room
take_group-requires-clause-room c =
    let long : vec_len c.args.blocks ≡ length c.args.blocks.items = omega arith in
    length-take-le BLOCK_BYTES c.deref.result.now (omega (arith, ap length c.deref.ensures.value))

pub returns-in_err-head-clause-refused : goal.returns-in_err-head-clause-refused
returns-in_err-head-clause-refused c =
    let p = err_from_is_err_and c.from_residual.result c.from_residual.ensures.1 in
    rw (p.1, p.2)
    (head_refused c.args.group.0 c.args.uuid.now c.args.blocks.items (take BLOCK_BYTES c.deref.result.now) c.in_err-head.field-0.0
    (ap (take BLOCK_BYTES) c.deref.ensures.value) c.in_err-head.ensures.err c.in_err-head.ensures.field
    (λ v valid group uuid is. let lie = c.take_group.ensures.complete v valid group uuid is in let was = c.in_err-head.was in absurd cc))

pub returns-clause-opened : goal.returns-clause-opened
returns-clause-opened c =
    let long : vec_len c.args.blocks ≡ length c.args.blocks.items = omega arith in
    let room = c.requires.room in
    opens_head c.args.group.0 c.args.uuid.now c.args.blocks.items (take BLOCK_BYTES c.deref.result.now) c.in_ok-head.head c.requires.known
    c.is_identifier.ensures (omega (arith, long, room)) (ap (take BLOCK_BYTES) c.deref.ensures.value) c.in_ok-head.ensures.ok
    c.in_ok-over.over c.in_ok-over.ensures
