-- That a group has no more records of owners than what is committed has pairs in it, as the balance asks where works are to be ready.
use Rattle.std.specs.Prelude.{◌≤◌, List}
use Rattle.xr_balance.specs.Ready.{pairs_of}
use Rattle.xr_bmap.specs.File.{FileState}
use Rattle.xr_chain.specs.CommittedBlocks.{IsListed, committed_of, owner_records_of}
use Rattle.xr_group.specs.Group.{GroupState, IsGroup}

abbrev pub OwnerRecordsAreFew : Type 0
OwnerRecordsAreFew = (files : List FileState) (groups : List GroupState) (g : GroupState) → IsListed groups g → IsGroup g.number g.uuid g.blocks
    → owner_records_of groups g.number ≤ pairs_of (committed_of files groups) g.number
