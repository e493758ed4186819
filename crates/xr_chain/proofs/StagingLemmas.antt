-- The staging of a run is the event of the balance.
use Rattle.std.proofs.Common.{ℕ, arith}
use Rattle.xr_base.specs.declared.address.Run.{Run}
use Rattle.xr_chain.proofs.GroupLemmas.{keeps_committed, known, same_counts, same_pairs, same_staged, stays, takes_free}
use Rattle.xr_chain.specs.Events.{StagesIn}
use Rattle.xr_group.specs.Group.{ChangesGroup, GroupState}
use Rattle.xr_group.specs.Sets.{IsFirstFree, TakesFree, owner_count_in}
use Rattle.xr_group.specs.Trees.{free_part}

pub stages_in : (old new : GroupState) (need writes : ℕ) (run : Run) → IsFirstFree old need run → TakesFree run old new → ChangesGroup free_part writes old new
    → StagesIn old new run
stages_in old new need writes run first takes change files groups P P' Q Q' lane listed begins staged =
    let owners = change.others 1 (omega arith) in
    let counts = change.others 2 (omega arith) in
    record {
      begins = begins;
      good = first.mine.good;
      group = omega (arith, first.mine.here, known files groups old new listed change.number);
      keeps = keeps_committed files groups old new listed change.number (same_pairs old new change.number owners) (same_staged old new change.number counts);
      counted = λ b. stays files groups old new listed change.number 1 (λ g. owner_count_in g b) b (same_counts old new change.number counts b);
      free = takes_free files groups old new listed change.number run first.mine takes first.free;
      staged = staged;
    }
