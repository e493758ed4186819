use Rattle.std.proofs.Common.{subst}
use Rattle.xr_base.specs.declared.address.FileNo.{FileNo}
use Rattle.xr_chain.specs.Readiness.{IsFileReady}
use Rattle.xr_items.specs.declared.work.MapKind.{MapKind}
use Rattle.xr_items.specs.declared.work.Work.TheVariants as works
use Rattle.xr_chain.proofs.roll_map.do_map_work.Goals as goal

-- what is asked of the work doesn't tell its file
any : FileNo
any = record { 0 = 0 }

pub map-requires-clause-hole : goal.map-requires-clause-hole
map-requires-clause-hole c =
    subst (λ (kind : MapKind). IsFileReady c.args.file.now (works.Map kind any c.args.off c.args.run.now)) c.in-Map.is (c.requires.ready any)

pub unmap-requires : goal.unmap-requires
unmap-requires c = record {
  mapped = record {
    some = c.requires.good.some;
    at = c.args.run.now.start;
    alike = subst (λ (kind : MapKind). IsFileReady c.args.file.now (works.Map kind any c.args.off c.args.run.now)) c.in-Unmap.is (c.requires.ready any);
  };
}
