use Rattle.std.proofs.Common.{◌≡◌, ◌≤◌, ◌∙◌, ℕ, List, [], length, take, sym, ap, arith}
use Rattle.std.proofs.lemmas.List.{length-take-le}
use Rattle.xr_base.specs.declared.geometry.TheConstants.{BLOCK_BYTES}
use Rattle.xr_headers.specs.declared.layout.TheConstants.{CORE_BYTES}
use Rattle.xr_headers.specs.Headers.{core_bytes}
use Rattle.xr_headers.specs.HeaderLaws.{length-core_bytes}
use Rattle.xr_headers.specs.Padded.{zero_padded}
use Rattle.xr_headers.specs.PaddingLaws.{zero_padded_over}
use Rattle.xr_headers.proofs.file_core.put_core.Goals as goal

front : (out : List ℕ) → 64 ≤ length out → length (take 64 out) ≡ 64
front out fits = length-take-le 64 out fits

pub slice_bounds-put_core_bytes-end-2 : goal.slice_bounds-put_core_bytes-end-2
slice_bounds-put_core_bytes-end-2 c = sym (front c.clear.new.out (omega arith))

pub put_core_bytes-requires-clause-room : goal.put_core_bytes-requires-clause-room
put_core_bytes-requires-clause-room c = front c.clear.new.out (omega arith)

pub returns : goal.returns
returns c = zero_padded_over BLOCK_BYTES CORE_BYTES [] (core_bytes c.args.v.now) c.put_core_bytes.new.out c.clear.new.out c.put_core_bytes.ensures (c.clear.ensures ∙ ap (λ (n : ℕ). zero_padded n []) c.requires.room) (length-core_bytes c.args.v.now) (omega arith) (omega arith)
