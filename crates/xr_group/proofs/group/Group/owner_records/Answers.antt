use Rattle.std.proofs.Common.{length, ap, sym, ◌∙◌}
use Rattle.xr_group.proofs.GroupPoolLemmas.{records_read}
use Rattle.xr_group.specs.Group.{GroupState, records_now}
use Rattle.xr_group.specs.Trees.{GroupRecords}
use Rattle.xr_group.proofs.group.Group.owner_records.Goals as goal

pub returns : goal.returns
returns c =
    let g = c.self.inside in
    c.count.ensures ∙ ap (λ (x : GroupRecords). length x.reverse) (sym (records_read g.over g.trees c.self.invariant.now_group))
    ∙ ap (λ (s : GroupState). length (records_now s).reverse) c.self.view_is
