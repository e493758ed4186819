use Rattle.std.proofs.Common.{refl, sym, subst, arith}
use Rattle.std.proofs.lemmas.List.{length-take-le}
use Rattle.xr_disk.specs.Crash.{IsSectorRange}
use Rattle.xr_scan.proofs.HomeLemmas.{files_read, seen_more}
use Rattle.xr_scan.proofs.homes.read_files.Goals as goal

pub slice_bounds-read_run-end-2 : goal.slice_bounds-read_run-end-2
slice_bounds-read_run-end-2 g c = sym (length-take-le _ c.args.blocks.now (omega (arith, c.requires)))

pub read_run-requires : goal.read_run-requires
read_run-requires g c = subst (IsSectorRange 4160) (slice_bounds-read_run-end-2 g c) record { some = omega arith; whole = omega arith; within = omega arith }

pub returns-clause-homes : goal.returns-clause-homes
returns-clause-homes g c =
    seen_more c.read_run.result _ _ _ (λ image read. files_read image c.args.blocks.now c.read_run.new.out _ _ refl c.requires c.read_run.auto.out (length-take-le _ c.args.blocks.now (omega (arith, c.requires))) read) c.read_run.ensures.bytes
