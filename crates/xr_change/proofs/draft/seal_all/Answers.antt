use Rattle.std.proofs.Common.{rules, ◌≡◌, ◌<◌, ℕ, List, [], ◌∷◌, ◌++◌, ap, sym, subst, ◌∙◌}
use Rattle.std.specs.Option.{option_to_list}
use Rattle.xr_pool.specs.Overlay.{block_at, pool_size}
use Rattle.xr_change.proofs.SealLemmas.{edited_has, edited_more, none_edited, one_less, sealed_less}
use Rattle.xr_change.specs.Draft.{AreEdited, all_sealed}
use Rattle.xr_block.specs.Edits.{sealed}
use Rattle.xr_change.proofs.draft.seal_all.Goals as goal

pub loop-n-preserved : goal.loop-n-preserved
loop-n-preserved g c =
    let form = g.R.Record.form in
    let b = c.loop-n.over in
    let n = c.in-Some.n in
    let es = c.pop.new.self.items in
    let split : c.loop-n.edited.items ≡ es ++ n ∷ [] = c.pop.ensures.items ∙ ap (λ o. es ++ option_to_list o) c.in-Some.is in
    let edited : AreEdited b (es ++ n ∷ []) = subst (AreEdited b) split c.loop-n.invariant.0 in
    let within : n < pool_size b = edited_has (λ (m : ℕ). m < pool_size b) (es ++ n ∷ []) edited.within n (edited_more es n) in
    let is : c.seal.new.block ≡ sealed form (block_at b n) = c.seal.ensures ∙ ap (sealed form) c.block_mut.ensures.value in (
      one_less form b es n c.seal.new.block within edited,
      sealed_less form b es n c.seal.new.block within edited (c.has_blocks.ensures.blocks n within).long is
          ∙ ap (λ (ms : List ℕ). all_sealed form ms b) (sym split) ∙ c.loop-n.invariant.1,
    )

pub returns-clause-sealed : goal.returns-clause-sealed
returns-clause-sealed g c =
    let form = g.R.Record.form in
    let b = c.loop-n.over in
    let none : c.loop-n.edited.items ≡ [] = search rules in
    sym (none_edited form b) ∙ ap (λ (ms : List ℕ). all_sealed form ms b) (sym none) ∙ c.loop-n.invariant.1
