-- What each call does to what is committed, as an event of the balance, and what it puts into its transaction.
use Rattle.std.specs.Prelude.{◌≡◌, ℕ, ◌+◌, ◌||◌, Bool, List, [], ◌∷◌, ◌++◌, map, slice_index_or}
use Rattle.xr_balance.specs.RollGives.{RollGives}
use Rattle.xr_balance.specs.Rows.{works_of_staging}
use Rattle.xr_balance.specs.Stagings.{BeginsChain, Stages}
use Rattle.xr_balance.specs.Works.{Debt}
use Rattle.xr_base.specs.declared.address.Run.{Run}
use Rattle.xr_bmap.specs.File.{FileState, first_of_file}
use Rattle.xr_chain.specs.ChainView.{ChainView, begun_chain}
use Rattle.xr_chain.specs.CommittedBlocks.{IsListed, committed_of, with_state}
use Rattle.xr_group.specs.Group.{GroupState, first_of_group}
use Rattle.xr_items.specs.Transactions.{TransView, logged}
use Rattle.xr_items.specs.declared.trans.Logged.{Logged}
use Rattle.xr_items.specs.declared.work.Work.{Work}
use Rattle.xr_maps.specs.Steps.{is_within}
use Rattle.xr_open.specs.PoolState.{PoolState}

-- the changed blocks of a file or a group, whose first one is an image block, in rising number
abbrev pub logged_from : ℕ → PoolState → List Logged
logged_from first s = map (λ n. logged (first + n) (slice_index_or s.blocks n [])) s.changed

abbrev pub logged_file : FileState → List Logged
logged_file f = logged_from (first_of_file f.number) f

abbrev pub logged_group : GroupState → List Logged
logged_group g = logged_from (first_of_group g.number) g

-- a transaction of some blocks, new works in their order, and slots of works that are done
abbrev pub trans_with : List Logged → List Work → List ℕ → TransView
trans_with blocks works done = record { blocks = blocks; works = works; done = done }

-- a chain begins with some works, and the transaction has some blocks, asks for these works and ends none
pub record BeginsWith (blocks : List Logged) (works : List Work) (chain : ChainView) (trans : TransView) : Type 0 where
  pub chain_is : chain ≡ begun_chain works
  pub trans_is : trans ≡ trans_with blocks works []

-- a run of the group is staged for a lane that has no chain
abbrev pub StagesIn : GroupState → GroupState → Run → Type 0
StagesIn old new run = (files : List FileState) (groups : List GroupState) (P P' : List Debt) (Q Q' : ℕ → Bool) (lane : ℕ)
    → IsListed groups old → BeginsChain P lane (works_of_staging run) P' → ((b : ℕ) → Q' b ≡ (Q b || is_within run.start.0 run.len b))
    → Stages (committed_of files groups) P Q lane run (committed_of files (with_state groups new)) P' Q'

-- a work is rolled that changes a group, a file, or neither of two files that it needs, and leaves some works
abbrev pub RollsGroup : GroupState → GroupState → Work → List Work → Type 0
RollsGroup old new work left = (files : List FileState) (groups : List GroupState)
    → IsListed groups old → RollGives (committed_of files groups) work (committed_of files (with_state groups new)) left

abbrev pub RollsFile : FileState → FileState → Work → List Work → Type 0
RollsFile old new work left = (files : List FileState) (groups : List GroupState)
    → IsListed files old → RollGives (committed_of files groups) work (committed_of (with_state files new) groups) left

abbrev pub RollsPair : FileState → FileState → Work → List Work → Type 0
RollsPair one two work left = (files : List FileState) (groups : List GroupState)
    → IsListed files one → IsListed files two → RollGives (committed_of files groups) work (committed_of files groups) left

-- the first work of a chain is rolled by such an event, and is done: the transaction has these blocks, and the works that it left
pub record RollsWith (event : Work → List Work → Type 0) (blocks : List Logged) (chain result : ChainView) (trans : TransView) : Type 0 where
  pub work : Work
  pub behind : List Work
  pub slot : ℕ
  pub slots : List ℕ
  pub is_first : chain ≡ record { works = work ∷ behind; slots = slot ∷ slots }
  pub left : List Work
  pub gives : event work left
  pub chain_is : result ≡ record { works = behind ++ left; slots = slots }
  pub trans_is : trans ≡ trans_with blocks left (slot ∷ [])
