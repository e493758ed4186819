use Rattle.std.proofs.Common.{◌≡◌, ◌+◌, ◌-◌, ◌∙◌, refl, sym, arith}
use Rattle.xr_base.specs.declared.geometry.TheConstants.{FIRST_INODE}
use Rattle.xr_commit.proofs.check_items.check_core.Goals as goal

pub returns-in-Ok : goal.returns-in-Ok
returns-in-Ok c =
    let r = c.requires in
    let back : FIRST_INODE + (c.args.ino - 128) ≡ c.args.ino = omega (arith, r.first) in
    let ok = c.in-Ok.ensures.ok in
    record { core = c.in-Ok.field-0; valid = ok.0; own = ok.2; number = ok.1 ∙ back; bytes_are = ok.3 }

pub returns-in-Err : goal.returns-in-Err
returns-in-Err c =
    let r = c.requires in
    let back : FIRST_INODE + (c.args.ino - 128) ≡ c.args.ino = omega (arith, r.first) in (
      λ is. let e = c.in-Err.ensures.complete is.core is.valid (is.number ∙ sym back) is.own is.bytes_are in absurd (cc),
      (c.in-Err.place, refl),
    )
