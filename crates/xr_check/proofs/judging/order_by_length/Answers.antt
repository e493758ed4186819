use Rattle.std.proofs.Common.{rules}
use Rattle.std.proofs.lemmas.List.Sorted.{Contains-permutation, IsNonDecreasingBy-from_sort_by_key, IsPermutation-sym, answers_always}
use Rattle.std.proofs.lemmas.Result.{on_ok_weaker}
use Rattle.xr_base.specs.declared.address.Run.{Run}
use Rattle.xr_check.proofs.SizeLemmas.{ordered_by_length}
use Rattle.xr_check.proofs.judging.order_by_length.Goals as goal

pub returns-clause-rising : goal.returns-clause-rising
returns-clause-rising c =
    on_ok_weaker c.sort_by_key.result
    (λ sorted. ordered_by_length c.args.runs.now.items c.sort_by_key.new.self.items c.sort_by_key.ensures.permutation c.requires.rising
    (IsNonDecreasingBy-from_sort_by_key (λ (r : Run). r.len) c.sort_by_key.new.self.items sorted (λ a r q k. search rules))
    (c.sort_by_key.ensures.stable (λ (r : Run). r.len) (answers_always _ _ _ (λ f a r q k. search rules))))
    c.sort_by_key.ensures.sorted

pub returns-clause-same : goal.returns-clause-same
returns-clause-same c run =
    let xs = c.args.runs.now.items in
    let ys = c.sort_by_key.new.self.items in
    let moved = c.sort_by_key.ensures.permutation in
    (Contains-permutation ys xs run (IsPermutation-sym xs ys moved), Contains-permutation xs ys run moved)
