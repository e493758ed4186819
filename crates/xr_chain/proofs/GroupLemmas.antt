-- What is committed where one group has changed.
use Rattle.std.proofs.Common.{◌≡◌, ◌≢◌, ℕ, ◌+◌, ◌/◌, ◌%◌, ◌<◌, Bool, true, false, List, Some, slice_get, refl, sym, ◌∙◌, ap, arith}
use Rattle.std.proofs.lemmas.List.{length-set}
use Rattle.std.proofs.lemmas.Option.{slice_get_within}
use Rattle.std.specs.List.{list_any}
use Rattle.std.specs.Prelude.{◌&&◌, ◌==◌, if◌then◌else◌, nat_lt}
use Rattle.xr_balance.specs.RollGives.{KeepsCommitted}
use Rattle.xr_balance.specs.Settled.{Committed}
use Rattle.xr_base.specs.declared.address.Run.{Run}
use Rattle.xr_base.specs.declared.geometry.TheConstants.{FILES, FIRST_INODE, GROUP_BLOCKS, OWN_COW}
use Rattle.xr_bmap.specs.File.{FileState}
use Rattle.xr_chain.proofs.AwayLemmas.{none_in_run, out_of_run}
use Rattle.xr_chain.proofs.ListedLemmas.{told_along}
use Rattle.xr_chain.proofs.PairLemmas.{goes}
use Rattle.xr_chain.specs.CommittedBlocks.{IsListed, committed_of, group_of_block, has_file_pair, told_by, with_state}
use Rattle.xr_group.specs.Group.{GroupState, IsRunOf, records_now}
use Rattle.xr_group.specs.Sets.{TakesFree, has_free, has_pair, has_staged, owner_count_in, says_pair}
use Rattle.xr_kinds.specs.declared.free_runs.ByBlock.{ByBlock}
use Rattle.xr_kinds.specs.declared.reference.Reference.{Reference}
use Rattle.xr_kinds.specs.declared.reverse.Reverse.{Reverse}
use Rattle.xr_kinds.specs.FreeRuns.{block_span}
use Rattle.xr_maps.specs.Holdings.{in_run, one_if}
use Rattle.xr_maps.specs.Steps.{is_within}
use Rattle.xr_refcount.specs.Counts.{count_at, is_in_run, is_staged_at}

-- what a group says follows from its number and the records of one part
abbrev pairs_by : ℕ → List Reverse → ℕ → ℕ → ℕ → Bool
pairs_by n records w o a = (a / GROUP_BLOCKS == n) && list_any (λ (r : Reverse). says_pair r w o (a % GROUP_BLOCKS)) records

abbrev free_by : ℕ → List ByBlock → ℕ → Bool
free_by n records a = (a / GROUP_BLOCKS == n) && list_any (λ (r : ByBlock). is_in_run (block_span r) (a % GROUP_BLOCKS)) records

abbrev staged_by : ℕ → List Reference → ℕ → Bool
staged_by n records a = (a / GROUP_BLOCKS == n) && is_staged_at records (a % GROUP_BLOCKS)

abbrev counted_by : ℕ → List Reference → ℕ → ℕ
counted_by n records a = if a / GROUP_BLOCKS == n then count_at records (a % GROUP_BLOCKS) else 1

module _ (old new : GroupState) (number : new.number ≡ old.number) where
  pub same_pairs : (records_now new).reverse ≡ (records_now old).reverse → (w o a : ℕ) → has_pair new w o a ≡ has_pair old w o a
  same_pairs same w o a = ap (λ n. pairs_by n (records_now new).reverse w o a) number ∙ ap (λ r. pairs_by old.number r w o a) same

  pub same_free : (records_now new).by_block ≡ (records_now old).by_block → (a : ℕ) → has_free new a ≡ has_free old a
  same_free same a = ap (λ n. free_by n (records_now new).by_block a) number ∙ ap (λ r. free_by old.number r a) same

  pub same_staged : (records_now new).reference ≡ (records_now old).reference → (a : ℕ) → has_staged new a ≡ has_staged old a
  same_staged same a = ap (λ n. staged_by n (records_now new).reference a) number ∙ ap (λ r. staged_by old.number r a) same

  pub same_counts : (records_now new).reference ≡ (records_now old).reference → (a : ℕ) → owner_count_in new a ≡ owner_count_in old a
  same_counts same a = ap (λ n. counted_by n (records_now new).reference a) number ∙ ap (λ r. counted_by old.number r a) same

module _ (files : List FileState) (groups : List GroupState) (old new : GroupState) (listed : IsListed groups old) (number : new.number ≡ old.number) where
  abbrev C : Committed
  C = committed_of files groups

  abbrev C' : Committed
  C' = committed_of files (with_state groups new)

  there : slice_get groups new.number ≡ Some old
  there = ap (slice_get groups) number ∙ listed

  pub known : old.number < C.groups
  known = slice_get_within groups old.number old listed

  pub groups_same : C'.groups ≡ C.groups
  groups_same = length-set groups new.number new

  -- what the group says of a block becomes another thing in this way
  pub along : {A : Type 0} (R : A → A → Type 0) (none : A) (tells : GroupState → A) (b : ℕ)
      → R (tells old) (tells new) → (b / GROUP_BLOCKS ≢ old.number → (x : A) → R x x)
      → R (told_by none tells (group_of_block groups b)) (told_by none tells (group_of_block (with_state groups new) b))
  along R none tells b here elsewhere =
      told_along groups new.number old new there R none none tells tells (b / GROUP_BLOCKS) (λ _. here)
      (λ away. elsewhere (λ h. away (h ∙ sym number)) (told_by none tells (group_of_block groups b)))

  pub stays : {A : Type 0} (none : A) (tells : GroupState → A) (b : ℕ) → tells new ≡ tells old
      → told_by none tells (group_of_block (with_state groups new) b) ≡ told_by none tells (group_of_block groups b)
  stays none tells b same = along (λ x y. y ≡ x) none tells b same (λ _ x. refl)

  pub keeps_committed : ((w o a : ℕ) → has_pair new w o a ≡ has_pair old w o a) → ((a : ℕ) → has_staged new a ≡ has_staged old a) → KeepsCommitted C C'
  keeps_committed pairs staged = record {
    groups = groups_same;
    maps = refl;
    pairs = λ f o b. stays false (λ g. has_file_pair g f o b) b (ap (λ t. nat_lt f FILES && t) (pairs (FIRST_INODE + f) o b));
    staging_pairs = λ b. stays false (λ g. has_pair g OWN_COW 0 b) b (pairs OWN_COW 0 b);
    staged = λ b. stays false (λ g. has_staged g b) b (staged b);
  }

  module _ (run : Run) (mine : IsRunOf old run) where
    away_run : (b : ℕ) → b / GROUP_BLOCKS ≢ old.number → is_within run.start.0 run.len b ≡ false
    away_run b away = out_of_run run mine.good old.number mine.here b away

    away_none : (b : ℕ) → b / GROUP_BLOCKS ≢ old.number → in_run b run ≡ 0
    away_none b away = none_in_run run mine.good old.number mine.here b away

    pub takes_free : TakesFree run old new → ((a : ℕ) → is_within run.start.0 run.len a ≡ true → has_free old a ≡ true)
        → (b : ℕ) → one_if (C'.is_free b) + in_run b run ≡ one_if (C.is_free b)
    takes_free takes free b = along (λ x y. one_if y + in_run b run ≡ one_if x) false (λ g. has_free g b) b
        (goes true (has_free old b) (has_free new b) (is_within run.start.0 run.len b) (takes b) (free b))
        (λ away x. omega (arith, away_none b away))
