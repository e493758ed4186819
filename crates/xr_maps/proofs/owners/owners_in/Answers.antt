use Rattle.std.proofs.Common.{length, rules}
use Rattle.std.proofs.lemmas.List.Sorted.{IsNonDecreasingBy-from_sort_by_key, answers_always}
use Rattle.xr_maps.specs.declared.records.Rev.{Rev}
use Rattle.xr_maps.specs.Owners.{place_of}
use Rattle.xr_maps.specs.Tables.{maps_of_tables}
use Rattle.xr_maps.proofs.OwnerLemmas.{owner_bound}
use Rattle.xr_maps.proofs.OrderLemmas.{reverse_records_of}
use Rattle.xr_maps.proofs.owners.owners_in.Goals as goal

pub returns : goal.returns
returns c =
    reverse_records_of (maps_of_tables c.args.tables.now) c.args.group.0 (place_of (length c.args.tables.now) 0) c.in_ok-records.records.items c.sort_by_key.new.self.items
    c.in_ok-records.ensures c.sort_by_key.ensures.permutation
    (IsNonDecreasingBy-from_sort_by_key (λ (r : Rev). r.run.start.0) _ c.in_ok-sort_by_key.ensures.sorted (λ a r q k. search rules))
    (c.sort_by_key.ensures.stable (λ (r : Rev). r.run.start.0) (answers_always _ _ _ (λ f a r q k. search rules)))
    (owner_bound c.args.tables.now c.requires)
