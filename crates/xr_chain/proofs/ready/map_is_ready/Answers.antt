use Rattle.std.proofs.Common.{sym, subst}
use Rattle.std.specs.Prelude.{◌↔◌, IsTrue}
use Rattle.xr_chain.specs.Readiness.{IsFileReady}
use Rattle.xr_items.specs.declared.work.MapKind.{MapKind}
use Rattle.xr_items.specs.declared.work.Work.TheVariants as works
use Rattle.xr_chain.proofs.ready.map_is_ready.Goals as goal

pub returns-in-Unmap : goal.returns-in-Unmap
returns-in-Unmap c = λ number.
    subst (λ (kind : MapKind). IsTrue c.is_mapped.result ↔ IsFileReady c.args.file.now (works.Map kind number c.args.off c.args.run.now)) (sym c.in-Unmap.is)
    c.is_mapped.ensures
