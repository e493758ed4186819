use Rattle.std.proofs.Common.{Ok, ◌≡◌, ◌-◌, ◌+◌, ◌∙◌, List, ℕ, length, refl, sym, ap, subst, arith, rules, inl, inr}
use Rattle.xr_headers.specs.declared.layout.TheConstants.{CORE_CRC, CORE_BYTES, CORE_FIELDS}
use Rattle.xr_headers.specs.declared.file_core.Core.{Core}
use Rattle.xr_headers.specs.Headers.{core_bytes, core_fields, core_in, IsCore, KeepsFilePool}
use Rattle.xr_headers.specs.Padded.{IsZeroPadded, zero_padded}
use Rattle.xr_base.specs.declared.geometry.TheConstants.{FIRST_INODE, UUID_BYTES}
use Rattle.xr_headers.specs.HeaderValueLaws.{core_in-core_bytes}
use Rattle.xr_headers.specs.FirstWrong.{IsCoreOutOfRange, NamesCoreField}
use Rattle.xr_headers.proofs.FirstWrongLemmas.{Finds, field_named}
use Rattle.xr_headers.specs.ChecksumLaws.{wanted_is}
use Rattle.xr_headers.proofs.file_core.take_core_bytes.Goals as goal
use Rattle.xr_base.specs.Checksum.{with_crc}

block : (bytes : List ℕ) (v : Core) (wanted : List ℕ) → length bytes ≡ CORE_BYTES → IsZeroPadded CORE_FIELDS CORE_FIELDS (core_fields v) wanted
    → with_crc (length bytes - 4) (zero_padded (length bytes) wanted) ≡ core_bytes v
block bytes v wanted long laid = wanted_is CORE_BYTES CORE_CRC CORE_FIELDS bytes (core_fields v) wanted long (omega arith) (omega arith) laid

pub returns-in-None-clause-ok : goal.returns-in-None-clause-ok
returns-in-None-clause-ok c =
    let right = c.in-None.ensures.right.0 refl in
    let found = c.read_core-found in (
      record {
        first_inode = omega (arith, c.read_core-found.ensures.ino);
        last_inode = omega (arith, c.read_core-found.ensures.ino);
        pool = c.broken_range.ensures.none.0 right.0;
        level = search rules;
      },
      found.ensures.ino,
      found.ensures.uuid,
      right.1 ∙ block c.args.bytes.now found.result c.lay_core.new.out c.requires.room c.lay_core.ensures.laid,
    )

read_again : (found v : Core) (bytes : List ℕ) (file : ℕ) (uuid : List ℕ) → found ≡ core_in bytes file uuid → IsCore v → length v.uuid ≡ UUID_BYTES
    → v.ino ≡ FIRST_INODE + file → v.uuid ≡ uuid → bytes ≡ core_bytes v → found ≡ v
read_again found v bytes file uuid held valid whole ino same is =
    held ∙ ap (λ (xs : List ℕ). core_in xs file uuid) is ∙ ap (core_in (core_bytes v) file) (sym same) ∙ core_in-core_bytes v file valid whole ino

pub returns-in-None-clause-complete : goal.returns-in-None-clause-complete
returns-in-None-clause-complete c =
    λ v valid ino uuid is. ap Ok (read_again c.read_core-found.result v c.args.bytes.now c.args.file.0 c.args.uuid.now c.read_core-found.ensures.held valid (ap length (uuid ∙ sym c.read_core-found.ensures.uuid) ∙ c.lay_core.ensures.whole) ino uuid is)

pub returns-in-Some-clause-complete : goal.returns-in-Some-clause-complete
returns-in-Some-clause-complete c =
    λ v valid ino uuid is.
    let same = read_again c.read_core-found.result v c.args.bytes.now c.args.file.0 c.args.uuid.now c.read_core-found.ensures.held valid (ap length (uuid ∙ sym c.read_core-found.ensures.uuid) ∙ c.lay_core.ensures.whole) ino uuid is in
    let clash =
    c.in-Some.ensures.right.1 (
      c.broken_range.ensures.none.1 (subst KeepsFilePool (sym same) valid.pool),
      is ∙ sym (ap core_bytes same) ∙ sym (block c.args.bytes.now c.read_core-found.result c.lay_core.new.out c.requires.room c.lay_core.ensures.laid),
    ) in
    cc

in_range : (core : Core) → KeepsFilePool core → (k : ℕ) → IsCoreOutOfRange core k → ⊥
in_range core pool k (inl (at, inl none)) = omega (arith, pool.some_root)
in_range core pool k (inl (at, inr above)) = omega (arith, pool.root_in_pool)
in_range core pool k (inr (at, inl above)) = omega (arith, pool.mask)
in_range core pool k (inr (at, inr odd)) = omega (arith, pool.own_block)

pub returns-in-Some-clause-field : goal.returns-in-Some-clause-field
returns-in-Some-clause-field c =
    let bytes = c.args.bytes.now in
    let found = c.read_core-found.result in
    let broken : Finds c.broken_range.result (IsCoreOutOfRange found) =
    record { first = c.broken_range.ensures.first; none = λ none. in_range found (c.broken_range.ensures.none.0 none) } in
    let Names : Core → Type 0 = λ (core : Core). NamesCoreField bytes core c.field_of.result in
    subst Names c.read_core-found.ensures.held (
      c.in-Some.place,
      field_named CORE_BYTES CORE_CRC CORE_FIELDS c.broken_range.result (IsCoreOutOfRange found) bytes c.lay_core.new.out (core_fields found)
          c.in-Some.place c.requires.room (omega arith) c.lay_core.ensures.laid broken c.in-Some.ensures.named,
      c.field_of.ensures.place,
    )
