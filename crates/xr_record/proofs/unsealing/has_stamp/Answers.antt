use Rattle.std.proofs.Common.{◌≡◌, ◌+◌, ◌*◌, ◌∙◌, ap, sym, arith, drop, eq-eqb}
use Rattle.std.proofs.lemmas.List.{get_or-drop, length-drop}
use Rattle.std.proofs.lemmas.Bool.Decides.{nat_tests}
use Rattle.byteorder.specs.Endian.{big_bytes}
use Rattle.xr_record.specs.StampLaws.{big_bytes-number, number_of_bytes}
use Rattle.xr_record.proofs.unsealing.has_stamp.Goals as goal

pub returns : goal.returns
returns c =
    let body = drop (512 * c.args.i) c.args.body.now in (
      (λ t.
          let e : c.be32_at.result ≡ c.args.cycle = grind (arith, nat_tests, t) in
          sym (big_bytes-number body (omega (arith, length-drop (512 * c.args.i) c.args.body.now)) (λ k. rw (get_or-drop (512 * c.args.i) c.args.body.now k 0) (omega (arith, c.type_inv.body (512 * c.args.i + k)))))
          ∙ ap (big_bytes 4) (sym c.be32_at.ensures ∙ e)),
      (λ e. eq-eqb c.be32_at.result c.args.cycle (c.be32_at.ensures ∙ number_of_bytes body c.args.cycle (omega arith) e)),
    )
