use Rattle.std.proofs.Common.{rules, ◌≡◌, ◌+◌, length, sym, ◌∙◌, ap, subst, arith}
use Rattle.xr_base.specs.Address.{address_of}
use Rattle.xr_base.specs.declared.geometry.TheConstants.{DATA_BLOCKS}
use Rattle.xr_maps.specs.Tables.{maps_of_tables}
use Rattle.xr_maps.specs.Counts.{AreOwnerCounts, owners_in_tables}
use Rattle.xr_maps.proofs.CountLemmas.{all_counted, zeros}
use Rattle.xr_maps.proofs.ListLemmas.{written_back}
use Rattle.xr_maps.proofs.counts.owner_counts.Goals as goal

pub count_all_owners-requires-clause-zero : goal.count_all_owners-requires-clause-zero
count_all_owners-requires-clause-zero c =
    rw c.deref_mut.ensures.value (zeros DATA_BLOCKS c.in_ok-counts.counts.items (c.in_ok-counts.ensures.items_if_clones_equal (λ y h. search rules)))

pub returns : goal.returns
returns c =
    let long : c.in_ok-counts.counts.len ≡ DATA_BLOCKS = c.in_ok-counts.ensures.len in
    let new : length c.count_all_owners.new.counts ≡ c.in_ok-counts.counts.len = search rules in
    subst (AreOwnerCounts (maps_of_tables c.args.tables.now) c.args.group.0)
    (sym (written_back c.in_ok-counts.counts.items c.count_all_owners.new.counts c.in_ok-counts.counts.len new))
    (all_counted c.args.tables.now c.args.group.0 c.count_all_owners.new.counts (new ∙ long)
    (λ i h. c.count_all_owners.ensures i (let l = c.deref_mut.ensures.len in omega arith)
    ∙ ap (λ first. owners_in_tables c.args.tables.now (address_of (first + i))) c.first_data.ensures))
