use Rattle.std.proofs.Common.{◌∙◌, ap, subst, List}
use Rattle.xr_balance.specs.Ready.{IsReadyIn}
use Rattle.xr_chain.proofs.ReadinessLemmas.{first_tells, file_tells}
use Rattle.xr_chain.specs.ChainView.{OfFirst, first_need, file_at}
use Rattle.xr_chain.specs.CommittedBlocks.{committed_of, owner_records_of}
use Rattle.xr_chain.specs.Readiness.{IsFileReady}
use Rattle.xr_chain.specs.declared.chain.Need.TheVariants as need
use Rattle.xr_items.specs.declared.work.Work.{Work}
use Rattle.std.specs.Prelude.{IsTrue, ◌↔◌}
use Rattle.xr_chain.proofs.chain.Chain.ready_map.Goals as goal

pub returns-in-len1-up-clause-balance : goal.returns-in-len1-up-clause-balance
returns-in-len1-up-clause-balance c = λ files groups listed.
    subst (λ (works : List Work). IsTrue c.file_is_ready.result ↔ OfFirst (IsReadyIn (committed_of files groups) (owner_records_of groups)) works) c.works.ensures.list
    (first_tells (IsFileReady c.args.file.now) (IsReadyIn (committed_of files groups) (owner_records_of groups)) (need.File (file_at c.args.file.now.number))
    (λ work needs valid. file_tells files groups c.args.file.now listed c.is_file.ensures work needs valid)
    c.works.result.now _ (IsTrue c.file_is_ready.result) c.works.ensures.valid (ap first_need c.works.ensures.list ∙ c.requires.need) c.in-len1-up.len_at_least c.file_is_ready.ensures)
