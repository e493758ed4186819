use Rattle.std.proofs.Common.{◌≡◌, ◌/◌, ◌∙◌, ℕ, List, length, false, replicate, sym, ap, subst, vec_len, arith}
use Rattle.xr_base.specs.Image.{part}
use Rattle.xr_base.specs.declared.geometry.TheConstants.{BLOCK_BYTES}
use Rattle.xr_pool.specs.Overlay.{AreBlocks, IsPool, blocks_in}
use Rattle.xr_pool.specs.OverlayLaws.{blocks_opened, opened_is}
use Rattle.xr_pool.proofs.overlay.Overlay.new.Goals as goal

pub returns : goal.returns
returns c =
    let length_is : c.len.result ≡ length c.in_ok-kept.kept.items = c.len.ensures ∙ omega arith in
    opened_is c.args.first c.args.base.items c.args.free.now c.in_ok-kept.kept.items c.in_ok-current.current.items c.in_ok-vec.field-0.items
    c.in_ok-from_slice.field-0.items c.in_ok-from_slice-2.field-0.items c.owner_from.result c.uuid_in.result
    (c.in_ok-kept.ensures ∙ ap (λ (bytes : List ℕ). blocks_in (length bytes / BLOCK_BYTES) bytes) c.deref.ensures.value)
    (c.in_ok-current.ensures.items ∙ c.deref-2.ensures.value)
    (c.in_ok-vec.ensures.items_if_clones_equal (λ y same. same) ∙ ap (λ (n : ℕ). replicate n false) length_is)
    c.in_ok-from_slice.ensures.items c.in_ok-from_slice-2.ensures.items c.owner_from.ensures
    (c.uuid_in.ensures ∙ ap (part 16 16) c.deref-3.ensures.value)

pub invariant_of-result : goal.invariant_of-result
invariant_of-result c =
    let base = c.args.base in
    let free = c.args.free.now in
    let length_is : c.len.result ≡ length c.in_ok-kept.kept.items = c.len.ensures ∙ omega arith in
    let long : vec_len base ≡ length base.items = omega arith in
    subst AreBlocks
    (sym (opened_is c.args.first base.items free c.in_ok-kept.kept.items c.in_ok-current.current.items c.in_ok-vec.field-0.items
    c.in_ok-from_slice.field-0.items c.in_ok-from_slice-2.field-0.items c.owner_from.result c.uuid_in.result
    (c.in_ok-kept.ensures ∙ ap (λ (bytes : List ℕ). blocks_in (length bytes / BLOCK_BYTES) bytes) c.deref.ensures.value)
    (c.in_ok-current.ensures.items ∙ c.deref-2.ensures.value)
    (c.in_ok-vec.ensures.items_if_clones_equal (λ y same. same) ∙ ap (λ (n : ℕ). replicate n false) length_is)
    c.in_ok-from_slice.ensures.items c.in_ok-from_slice-2.ensures.items c.owner_from.ensures
    (c.uuid_in.ensures ∙ ap (part 16 16) c.deref-3.ensures.value)))
    (blocks_opened c.args.first base.items free (subst (IsPool c.args.first) long c.requires.place) (omega arith))
