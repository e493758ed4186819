use Rattle.std.proofs.Common.{ℕ, ◌+◌, ◌*◌, ◌<◌, IsSome}
use Rattle.xr_base.specs.Image.{part}
use Rattle.xr_kinds.specs.Form.{header_size}
use Rattle.xr_block.proofs.check.has_records.Given as goal

abbrev pub invariant-loop-k : goal.invariant-loop-k
invariant-loop-k g l = let form = g.R.Record.form in (i : ℕ) → i < l.k → IsSome (form.taken (part (header_size form + form.size * i) form.size l.block))
