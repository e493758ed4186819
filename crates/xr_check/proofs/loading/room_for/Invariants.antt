use Rattle.std.proofs.Common.{◌≡◌, ◌*◌, vec_len}
use Rattle.xr_base.specs.declared.geometry.TheConstants.{BLOCK_BYTES}
use Rattle.xr_check.proofs.loading.room_for.Given as goal

abbrev pub invariant-loop : goal.invariant-loop
invariant-loop l = vec_len l.room ≡ BLOCK_BYTES * l.counter
