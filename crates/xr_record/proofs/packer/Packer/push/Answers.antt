use Rattle.std.proofs.Common.{◌≡◌, ◌-◌, ◌+◌, ◌∙◌, arith, ap, length, refl, sym}
use Rattle.std.proofs.lemmas.Bool.{false≢true}
use Rattle.xr_record.specs.Packing.{Packed, room_in}
use Rattle.xr_record.proofs.PushLemmas.{body_pushed}
use Rattle.xr_record.proofs.packer.Packer.push.Goals as goal

pub returns : goal.returns
returns c =
    let old = ap (λ (p : Packed). p.body) c.self.view_is in
    let same : c.len-room.result ≡ length c.args.self.now.body = c.len-room.ensures ∙ c.self.inside.body.ok.0 ∙ ap length old in
    let room : 32768 - c.len-room.result ≡ room_in c.args.self.now.body = omega arith in
    let first = rw c.unwrap.ensures at c.extend_from_slice.ensures.items in
    let second = rw c.unwrap-2.ensures at c.extend_from_slice-2.ensures.items in
    record {
      room = λ none. false≢true (sym c.if-lacks_room.false ∙ c.lacks_room.ensures.1 (rw room none));
      stop_is = rw room at c.min-stop.ensures;
      body = body_pushed _ _ _ _ _ _ c.args.region.now _ _ _ _ _ _ old first second c.header_bytes-header.ensures refl c.part_flags-flags.ensures (omega arith);
      ops = ap (λ (p : Packed). p.ops + 1) c.self.view_is;
    }
