-- The changed blocks of a file or a group are ones that a transaction may change.
use Rattle.std.proofs.Common.{◌≡◌, ℕ, ◌+◌, ◌<◌, ◌≤◌, List, [], inl, inr, ◌∙◌, ap, ⊎_elim, arith}
use Rattle.std.proofs.lemmas.Bool.{cases_lt}
use Rattle.std.specs.Prelude.{slice_index_or}
use Rattle.xr_base.specs.declared.geometry.TheConstants.{FILES, FILE_BLOCKS, FIRST_DATA_BLOCK, GROUPS}
use Rattle.xr_bmap.specs.File.{AreFileStates, FileState, core_of_blocks, first_of_file}
use Rattle.xr_group.specs.Group.{AreGroups, GroupState, first_of_group}
use Rattle.xr_items.specs.Transactions.{IsLogged, logged}

pub group_logged : (g : GroupState) (n : ℕ) (image : List ℕ) → AreGroups g → n < FIRST_DATA_BLOCK → IsLogged (logged (first_of_group g.number + n) image)
group_logged g n image are below =
    let known : g.number < GROUPS = are.group.head.valid.group in
    inl (inr record { first = omega arith; group = omega (arith, known, below); before_data = omega (arith, below) })

pub file_logged : (f : FileState) (n : ℕ) (image : List ℕ) → AreFileStates f → n < FILE_BLOCKS → image ≡ slice_index_or f.blocks n []
    → IsLogged (logged (first_of_file f.number + n) image)
file_logged f n image are below is =
    let valid = are.file.core.valid in
    let known : f.number < FILES = omega (arith, valid.last_inode) in
    ⊎_elim
    (λ (here : n < 1).
    let first : n ≡ 0 = omega (arith, here) in
    inr (
      record { first = omega arith; last = omega (arith, known, below); core = omega (arith, first) },
      record {
        core = core_of_blocks f.number f.uuid f.blocks;
        valid = valid;
        uuid = are.identified;
        file = omega (arith, first);
        is = is ∙ ap (λ k. slice_index_or f.blocks k []) first ∙ are.file.core.core;
      },
    ))
    (λ (behind : 1 ≤ n). inl (inl record { first = omega arith; last = omega (arith, known, below); after_core = omega (arith, behind, below) }))
    (cases_lt n 1)
