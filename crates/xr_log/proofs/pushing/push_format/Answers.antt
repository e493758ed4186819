use Rattle.std.proofs.Common.{[], ◌∷◌, ap, take, List, ℕ}
use Rattle.xr_items.specs.Items.{item_bytes}
use Rattle.xr_log.proofs.TransactionPushLemmas.{front_taken, item_some, one_pushed}
use Rattle.xr_log.proofs.pushing.push_format.Goals as goal

pub push_region-requires-clause-some : goal.push_region-requires-clause-some
push_region-requires-clause-some g c =
    item_some c.args.item.now (take c.put-len.result c.put-len.new.out)
    (front_taken (item_bytes c.args.item.now) _ c.put-len.new.out c.put-len.result c.put-len.ensures.written c.put-len.ensures.length)

pub returns : goal.returns
returns g c =
    one_pushed (g.D.Disk.view c.args.disk.now) (g.D.Disk.view c.push_region.new.disk) c.args.held.now c.push_region.new.held c.args.tid
    (take c.put-len.result c.put-len.new.out) (item_bytes c.args.item.now ∷ []) c.push_region.result
    (ap (λ (bytes : List ℕ). bytes ∷ [])
    (front_taken (item_bytes c.args.item.now) _ c.put-len.new.out c.put-len.result c.put-len.ensures.written c.put-len.ensures.length))
    c.push_region.ensures.runs c.push_region.ensures.kept c.push_region.ensures.fills c.push_region.ensures.limit c.push_region.ensures.step
