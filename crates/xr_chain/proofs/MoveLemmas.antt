-- What a run that is mapped into a hole, or is unmapped, makes of one offset of a file.
use Rattle.std.proofs.Common.{◌≡◌, ℕ, ◌+◌, ◌-◌, true, false, cond, Option, Some, None, ⊎_elim, ◌∙◌, ap, arith}
use Rattle.std.specs.Prelude.{is_some}
use Rattle.xr_base.specs.Address.{address_after, address_of}
use Rattle.xr_base.specs.declared.address.Addr.{Addr}
use Rattle.xr_base.specs.declared.address.Run.{Run}
use Rattle.xr_balance.specs.Works.{in_offsets}
use Rattle.xr_maps.specs.Holdings.{in_layout, one_if}
use Rattle.xr_maps.specs.Records.{maps_to}
use Rattle.xr_maps.specs.StepLaws.{in_or_out, laid_out, no_layout}
use Rattle.xr_maps.specs.Steps.{is_within, punched_slot, remapped_slot}

-- 1 where the slot has the block, and where it has any
abbrev pub has_block : ℕ → Option Addr → ℕ
has_block b slot = one_if (maps_to (address_of b) slot)

abbrev pub has_any : Option Addr → ℕ
has_any slot = one_if (is_some slot)

module _ (off : ℕ) (run : Run) (o : ℕ) (slot slot' : Option Addr) where
  module _ (put : slot' ≡ remapped_slot off run.len run.start o slot) (hole : is_within off run.len o ≡ true → slot ≡ None) where
    put_in : is_within off run.len o ≡ true → slot' ≡ Some (address_after run.start (o - off))
    put_in it = put ∙ ap (λ t. cond t (Some (address_after run.start (o - off))) slot) it

    put_out : is_within off run.len o ≡ false → slot' ≡ slot
    put_out out = put ∙ ap (λ t. cond t (Some (address_after run.start (o - off))) slot) out

    pub put_block : (b : ℕ) → has_block b slot' ≡ has_block b slot + in_layout b o off run
    put_block b = ⊎_elim
        (λ it. omega (arith, laid_out b o off run slot' it.0 it.1 (put_in it.2), ap (has_block b) (hole it.2)))
        (λ out. omega (arith, ap (has_block b) (put_out out), no_layout b o off run out))
        (in_or_out off run.len o)

    pub put_any : has_any slot' ≡ has_any slot + in_offsets o off run
    put_any = ⊎_elim
        (λ it. omega (arith, ap has_any (put_in it.2), ap has_any (hole it.2), ap one_if it.2))
        (λ out. omega (arith, ap has_any (put_out out), ap one_if out))
        (in_or_out off run.len o)

  module _ (took : slot' ≡ punched_slot off run.len o slot) (mapped : is_within off run.len o ≡ true → slot ≡ Some (address_after run.start (o - off))) where
    took_in : is_within off run.len o ≡ true → slot' ≡ None
    took_in it = took ∙ ap (λ t. cond t None slot) it

    took_out : is_within off run.len o ≡ false → slot' ≡ slot
    took_out out = took ∙ ap (λ t. cond t None slot) out

    pub took_block : (b : ℕ) → has_block b slot' + in_layout b o off run ≡ has_block b slot
    took_block b = ⊎_elim
        (λ it. omega (arith, laid_out b o off run slot it.0 it.1 (mapped it.2), ap (has_block b) (took_in it.2)))
        (λ out. omega (arith, ap (has_block b) (took_out out), no_layout b o off run out))
        (in_or_out off run.len o)

    pub took_any : has_any slot' + in_offsets o off run ≡ has_any slot
    took_any = ⊎_elim
        (λ it. omega (arith, ap has_any (took_in it.2), ap has_any (mapped it.2), ap one_if it.2))
        (λ out. omega (arith, ap has_any (took_out out), ap one_if out))
        (in_or_out off run.len o)
