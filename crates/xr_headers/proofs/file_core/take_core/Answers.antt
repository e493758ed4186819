use Rattle.std.proofs.Common.{◌≡◌, List, ℕ, take, refl, sym, arith, inr, ◌∙◌, ap, subst}
use Rattle.std.proofs.lemmas.List.{length-take-le, take_rest}
use Rattle.xr_base.specs.declared.geometry.TheConstants.{BLOCK_BYTES}
use Rattle.xr_headers.specs.declared.layout.TheConstants.{CORE_BYTES}
use Rattle.xr_headers.specs.declared.file_core.Core.{Core}
use Rattle.xr_headers.specs.Headers.{core_block, core_bytes, KeepsFilePool}
use Rattle.xr_headers.specs.HeaderLaws.{length-core_bytes}
use Rattle.xr_headers.proofs.FirstWrongLemmas.{first_after}
use Rattle.xr_headers.specs.PaddingLaws.{front_from_padded, padded_from_parts, zeros_from_padded}
use Rattle.xr_headers.proofs.file_core.take_core.Goals as goal

front : (v : Core) (bytes : List ℕ) → bytes ≡ core_block v → take CORE_BYTES bytes ≡ core_bytes v
front v bytes is = front_from_padded BLOCK_BYTES CORE_BYTES bytes (core_bytes v) (length-core_bytes v) (omega arith) is

pub slice_bounds-take_core_bytes-end : goal.slice_bounds-take_core_bytes-end
slice_bounds-take_core_bytes-end c = sym (length-take-le CORE_BYTES c.args.bytes.now (omega arith))

pub take_core_bytes-requires-clause-room : goal.take_core_bytes-requires-clause-room
take_core_bytes-requires-clause-room c = length-take-le CORE_BYTES c.args.bytes.now (omega arith)

pub returns-in-Err-clause-complete : goal.returns-in-Err-clause-complete
returns-in-Err-clause-complete c =
    λ v valid ino uuid is. let clash = c.in-Err.ensures.complete v valid ino uuid (front v c.args.bytes.now is) in cc

pub returns-in-None-clause-ok : goal.returns-in-None-clause-ok
returns-in-None-clause-ok c =
    let ok = c.in-Ok.ensures.ok in (
      ok.0,
      ok.1,
      ok.2,
      padded_from_parts BLOCK_BYTES CORE_BYTES c.args.bytes.now (core_bytes c.in-Ok.core) _ (take_rest c.args.bytes.now CORE_BYTES) c.requires.room (length-core_bytes c.in-Ok.core) (omega arith) ok.3
          (c.in-None.ensures.none.0 refl),
    )

pub returns-in-None-clause-complete : goal.returns-in-None-clause-complete
returns-in-None-clause-complete c =
    λ v valid ino uuid is. let same = c.in-Ok.ensures.complete v valid ino uuid (front v c.args.bytes.now is) in let e : c.in-Ok.core ≡ v = cc in cc

pub returns-in-Some-clause-complete : goal.returns-in-Some-clause-complete
returns-in-Some-clause-complete c =
    λ v valid ino uuid is.
    let clash = c.in-Some.ensures.none.1 (zeros_from_padded BLOCK_BYTES CORE_BYTES c.args.bytes.now (core_bytes v) _ (take_rest c.args.bytes.now CORE_BYTES) (length-core_bytes v) is) in cc

pub returns-in-Some-clause-field : goal.returns-in-Some-clause-field
returns-in-Some-clause-field c =
    inr (
      c.in-Ok.ensures.ok.3 ∙ ap core_bytes c.in-Ok.ensures.held,
      subst KeepsFilePool c.in-Ok.ensures.held c.in-Ok.ensures.ok.0.pool,
      first_after BLOCK_BYTES CORE_BYTES c.in-Some.place c.args.bytes.now _ (take_rest c.args.bytes.now CORE_BYTES) c.requires.room
          c.in-Some.ensures.within c.in-Some.ensures.differs c.in-Some.ensures.first,
    )
