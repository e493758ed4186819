use Rattle.std.proofs.Common.{Ok, ◌≡◌, ◌-◌, ◌∙◌, List, ℕ, length, refl, sym, ap, arith, subst, None}
use Rattle.xr_base.specs.declared.geometry.TheConstants.{BLOCK_BYTES}
use Rattle.xr_headers.specs.declared.layout.TheConstants.{BLOCK_CRC, SUPER_BYTES}
use Rattle.xr_headers.specs.declared.superblock.Super.{Super}
use Rattle.xr_headers.specs.Headers.{super_block, super_fields, super_in}
use Rattle.xr_headers.specs.Padded.{IsZeroPadded, zero_padded}
use Rattle.xr_headers.specs.HeaderValueLaws.{super_in-super_block}
use Rattle.xr_headers.specs.FirstWrong.{NamesSuperField}
use Rattle.xr_headers.proofs.FirstWrongLemmas.{Finds, field_named}
use Rattle.xr_headers.specs.ChecksumLaws.{wanted_is}
use Rattle.xr_headers.proofs.superblock.take_super.Goals as goal
use Rattle.xr_base.specs.Checksum.{with_crc}

block : (bytes : List ℕ) (v : Super) (wanted : List ℕ) → length bytes ≡ BLOCK_BYTES → IsZeroPadded SUPER_BYTES SUPER_BYTES (super_fields v) wanted
    → with_crc (length bytes - 4) (zero_padded (length bytes) wanted) ≡ super_block v
block bytes v wanted long laid = wanted_is BLOCK_BYTES BLOCK_CRC SUPER_BYTES bytes (super_fields v) wanted long (omega arith) (omega arith) laid

pub returns-in-None-clause-ok : goal.returns-in-None-clause-ok
returns-in-None-clause-ok c =
    (c.read_super-found.ensures.valid, (c.in-None.ensures.right.0 refl).1 ∙ block c.args.bytes.now c.read_super-found.result c.lay_super.new.out c.requires c.lay_super.ensures.laid)

pub returns-in-None-clause-complete : goal.returns-in-None-clause-complete
returns-in-None-clause-complete c =
    λ v valid is. ap Ok (c.read_super-found.ensures.held ∙ ap super_in is ∙ super_in-super_block v valid)

pub returns-in-Some-clause-complete : goal.returns-in-Some-clause-complete
returns-in-Some-clause-complete c =
    λ v valid is.
    let same = c.read_super-found.ensures.held ∙ ap super_in is ∙ super_in-super_block v valid in
    let clash =
    c.in-Some.ensures.right.1
    (refl, is ∙ sym (ap super_block same) ∙ sym (block c.args.bytes.now c.read_super-found.result c.lay_super.new.out c.requires c.lay_super.ensures.laid)) in
    cc

pub returns-in-Some-clause-field : goal.returns-in-Some-clause-field
returns-in-Some-clause-field c =
    let bytes = c.args.bytes.now in
    let found = c.read_super-found.result in
    let Out : ℕ → Type 0 = λ (place : ℕ). ⊥ in
    let nothing : Finds None Out = record { first = tt; none = λ known k wrong. wrong } in
    let Names : Super → Type 0 = λ (s : Super). NamesSuperField bytes s c.field_of.result in
    subst Names c.read_super-found.ensures.held (
      c.in-Some.place,
      field_named BLOCK_BYTES BLOCK_CRC SUPER_BYTES None Out bytes c.lay_super.new.out (super_fields found) c.in-Some.place c.requires
          (omega arith) c.lay_super.ensures.laid nothing c.in-Some.ensures.named,
      c.field_of.ensures.place,
    )
