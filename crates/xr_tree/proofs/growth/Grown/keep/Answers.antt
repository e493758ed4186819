-- The tree is the same in what the blocks were kept as.
use Rattle.std.proofs.Common.{arith}
use Rattle.xr_tree.proofs.growth.Grown.keep.Goals as goal

pub invariant_of-self : goal.invariant_of-self
invariant_of-self g c =
    let was = c.self.invariant in
    rw c.keep.ensures (record { tree = was.tree; members = was.members; few = was.few; room = omega arith })
