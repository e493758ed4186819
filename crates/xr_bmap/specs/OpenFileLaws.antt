-- A file is refused for nothing: its core is right, and so are the tree below it and the pool that the two part.
use Rattle.std.proofs.Common.{refl, ⊎_elim}
use Rattle.xr_bmap.specs.OpenFile.{RefusedAreNoFiles}
use Rattle.xr_open.specs.declared.fault.OpenFault.TheVariants.{Header, NoMemory, Tree}

pub refused_are_no_files : RefusedAreNoFiles
refused_are_no_files file uuid blocks NoMemory other refused is = other refl
refused_are_no_files file uuid blocks (Tree fault) other refused is = refused.none is.tree.mapping
refused_are_no_files file uuid blocks (Header fault) other refused is = ⊎_elim
    (λ core. core.none is.core)
    (λ parting. parting.none is.tree.used)
    refused.1
