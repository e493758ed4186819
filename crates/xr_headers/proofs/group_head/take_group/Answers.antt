use Rattle.std.proofs.Common.{Ok, ◌≡◌, ◌-◌, ◌∙◌, List, ℕ, length, refl, sym, ap, subst, arith, rules, inl, inr}
use Rattle.xr_base.specs.declared.address.GroupNo.{GroupNo}
use Rattle.xr_base.specs.declared.geometry.TheConstants.{BLOCK_BYTES, UUID_BYTES}
use Rattle.xr_headers.specs.declared.layout.TheConstants.{BLOCK_CRC, GROUP_BYTES}
use Rattle.xr_headers.specs.declared.group_head.GroupHead.{GroupHead}
use Rattle.xr_headers.specs.Headers.{group_block, group_fields, group_in, IsGroupHead, KeepsPool}
use Rattle.xr_headers.specs.Padded.{IsZeroPadded, zero_padded}
use Rattle.xr_headers.specs.HeaderValueLaws.{group_in-group_block}
use Rattle.xr_headers.specs.FirstWrong.{IsGroupOutOfRange, NamesGroupField}
use Rattle.xr_headers.proofs.FirstWrongLemmas.{Finds, field_named}
use Rattle.xr_headers.specs.ChecksumLaws.{wanted_is}
use Rattle.xr_headers.proofs.group_head.take_group.Goals as goal
use Rattle.xr_base.specs.Checksum.{with_crc}

block : (bytes : List ℕ) (v : GroupHead) (wanted : List ℕ) → length bytes ≡ BLOCK_BYTES → IsZeroPadded GROUP_BYTES GROUP_BYTES (group_fields v) wanted
    → with_crc (length bytes - 4) (zero_padded (length bytes) wanted) ≡ group_block v
block bytes v wanted long laid = wanted_is BLOCK_BYTES BLOCK_CRC GROUP_BYTES bytes (group_fields v) wanted long (omega arith) (omega arith) laid

pub returns-in-None-clause-ok : goal.returns-in-None-clause-ok
returns-in-None-clause-ok c =
    let right = c.in-None.ensures.right.0 refl in
    let found = c.read_group-found in (
      record {
        group = let same = ap (λ (g : GroupNo). g.0) c.read_group-found.ensures.group in omega arith;
        four_roots = search rules;
        pool = c.broken_range.ensures.none.0 right.0;
        four_levels = search rules;
        levels = c.read_group-found.ensures.levels;
        map_bytes = search rules;
      },
      found.ensures.group,
      found.ensures.uuid,
      right.1 ∙ block c.args.bytes.now found.result c.lay_group.new.out c.requires.room c.lay_group.ensures.laid,
    )

read_again : (found v : GroupHead) (bytes : List ℕ) (group : GroupNo) (uuid : List ℕ) → found ≡ group_in bytes group uuid → IsGroupHead v
    → length v.uuid ≡ UUID_BYTES → v.group ≡ group → v.uuid ≡ uuid → bytes ≡ group_block v → found ≡ v
read_again found v bytes group uuid held valid whole number same is =
    held ∙ ap (λ (xs : List ℕ). group_in xs group uuid) is ∙ ap (λ (g : GroupNo). group_in (group_block v) g uuid) (sym number)
    ∙ ap (group_in (group_block v) v.group) (sym same) ∙ group_in-group_block v valid whole

pub returns-in-None-clause-complete : goal.returns-in-None-clause-complete
returns-in-None-clause-complete c =
    λ v valid group uuid is. ap Ok (read_again c.read_group-found.result v c.args.bytes.now c.args.group c.args.uuid.now c.read_group-found.ensures.held valid (ap length (uuid ∙ sym c.read_group-found.ensures.uuid) ∙ c.lay_group.ensures.whole) group uuid is)

pub returns-in-Some-clause-complete : goal.returns-in-Some-clause-complete
returns-in-Some-clause-complete c =
    λ v valid group uuid is.
    let same = read_again c.read_group-found.result v c.args.bytes.now c.args.group c.args.uuid.now c.read_group-found.ensures.held valid (ap length (uuid ∙ sym c.read_group-found.ensures.uuid) ∙ c.lay_group.ensures.whole) group uuid is in
    let clash =
    c.in-Some.ensures.right.1 (
      c.broken_range.ensures.none.1 (subst KeepsPool (sym same) valid.pool),
      is ∙ sym (ap group_block same) ∙ sym (block c.args.bytes.now c.read_group-found.result c.lay_group.new.out c.requires.room c.lay_group.ensures.laid),
    ) in
    cc

in_range : (head : GroupHead) → length head.roots ≡ 4 → KeepsPool head → (k : ℕ) → IsGroupOutOfRange head k → ⊥
in_range head four pool k (inl (i, below, at, outside)) = outside (pool.roots i (omega arith))
in_range head four pool k (inr (at, odd)) = let even = pool.own_block in absurd (omega arith)

pub returns-in-Some-clause-field : goal.returns-in-Some-clause-field
returns-in-Some-clause-field c =
    let bytes = c.args.bytes.now in
    let found = c.read_group-found.result in
    let four : length found.roots ≡ 4 = search rules in
    let broken : Finds c.broken_range.result (IsGroupOutOfRange found) =
    record { first = c.broken_range.ensures.first; none = λ none. in_range found four (c.broken_range.ensures.none.0 none) } in
    let Names : GroupHead → Type 0 = λ (head : GroupHead). NamesGroupField bytes head c.field_of.result in
    subst Names c.read_group-found.ensures.held (
      c.in-Some.place,
      field_named BLOCK_BYTES BLOCK_CRC GROUP_BYTES c.broken_range.result (IsGroupOutOfRange found) bytes c.lay_group.new.out (group_fields found)
          c.in-Some.place c.requires.room (omega arith) c.lay_group.ensures.laid broken c.in-Some.ensures.named,
      c.field_of.ensures.place,
    )
