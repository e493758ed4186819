-- That a work is ready by what its file or group holds where it is ready by what is committed.
use Rattle.std.specs.Prelude.{◌≡◌, ◌↔◌, List}
use Rattle.xr_balance.specs.Ready.{IsReadyIn}
use Rattle.xr_bmap.specs.File.{AreFileStates, FileState}
use Rattle.xr_chain.specs.ChainView.{file_at, group_at, need_of}
use Rattle.xr_chain.specs.CommittedBlocks.{IsListed, committed_of, owner_records_of}
use Rattle.xr_chain.specs.Readiness.{IsFileReady, IsGroupReady}
use Rattle.xr_chain.specs.declared.chain.Need.TheVariants as need
use Rattle.xr_group.specs.Group.{GroupState}
use Rattle.xr_items.specs.Valid.{IsWork}
use Rattle.xr_items.specs.declared.work.Work.{Work}

abbrev pub GroupsTellReadiness : Type 0
GroupsTellReadiness = (files : List FileState) (groups : List GroupState) (g : GroupState) (work : Work) → IsListed groups g
    → need_of work ≡ need.Group (group_at g.number) → IsWork work
    → IsGroupReady g work ↔ IsReadyIn (committed_of files groups) (owner_records_of groups) work

abbrev pub FilesTellReadiness : Type 0
FilesTellReadiness = (files : List FileState) (groups : List GroupState) (f : FileState) (work : Work) → IsListed files f → AreFileStates f
    → need_of work ≡ need.File (file_at f.number) → IsWork work
    → IsFileReady f work ↔ IsReadyIn (committed_of files groups) (owner_records_of groups) work
