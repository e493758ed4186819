-- A group's work that is done is rolled.
use Rattle.std.proofs.Common.{◌≡◌, ◌≢◌, ℕ, ◌+◌, ◌-◌, ◌/◌, ◌≤◌, Bool, true, false, List, [], refl, sym, ◌∙◌, ap, subst, ⊎_elim, arith}
use Rattle.std.proofs.lemmas.Bool.{and_left, and_right, eq-eqb, ne_eqb}
use Rattle.std.specs.Prelude.{◌&&◌, ◌||◌, ◌==◌, if◌then◌else◌, nat_lt}
use Rattle.xr_balance.specs.RollGives.{IsEqualPart, KeepsCommitted, RollGives, works_of_rest}
use Rattle.xr_balance.specs.Rolls.{run_front, works_of_freed}
use Rattle.xr_balance.specs.Settled.{Committed}
use Rattle.xr_base.specs.declared.address.Run.{Run}
use Rattle.xr_base.specs.declared.geometry.TheConstants.{FILES, FIRST_INODE, GROUP_BLOCKS, OWN_COW}
use Rattle.xr_bmap.specs.File.{FileState}
use Rattle.xr_chain.proofs.AwayLemmas.{bounds, none_in_run, out_of_run}
use Rattle.xr_chain.proofs.GroupLemmas.{along, groups_same, keeps_committed, same_counts, same_free, same_pairs, same_staged, stays}
use Rattle.xr_chain.proofs.PairLemmas.{comes, file_pair, file_pair_unstaged, goes, staging_pair_files, staging_pair_is}
use Rattle.xr_chain.proofs.PartLemmas.{front_good}
use Rattle.xr_chain.proofs.ReadinessLemmas.{counted_here, same_number}
use Rattle.xr_chain.specs.ChainView.{group_at, need_of}
use Rattle.xr_chain.specs.CommittedBlocks.{IsListed, committed_of, has_file_pair, with_state}
use Rattle.xr_chain.specs.Events.{RollsGroup}
use Rattle.xr_chain.specs.GroupWorks.{ChangesItsPart, DoesGroupWork}
use Rattle.xr_chain.specs.Readiness.{IsGroupReady, IsOwnedRun}
use Rattle.xr_chain.specs.declared.chain.Need.TheVariants as need
use Rattle.xr_group.specs.Group.{ChangesGroup, GroupState, IsRunOf}
use Rattle.xr_group.specs.Sets.{AddsPairs, AreCountedIn, AreStagedIn, GivesFree, HasNoPairOf, HasPairsOf, IsFirstPart, LowersCounts, RaisesCounts, RemovesPairs, StagesAddresses, UnstagesAddresses, has_free, has_pair, has_staged, is_run_pair, owner_count_in}
use Rattle.xr_group.specs.Trees.{counts_part, free_part, owners_part}
use Rattle.xr_items.specs.Valid.{IsInode, IsWork}
use Rattle.xr_items.specs.declared.work.CountKind.TheVariants.{AllocCow, Decrease, FreeCow, Increase}
use Rattle.xr_items.specs.declared.work.OwnKind.TheVariants as Owning
use Rattle.xr_items.specs.declared.work.Work.{Work}
use Rattle.xr_items.specs.declared.work.Work.TheVariants.{Count, Free, Map, Own, Swap}
use Rattle.xr_maps.specs.Holdings.{in_run, one_if}
use Rattle.xr_maps.specs.StepLaws.{in_range}
use Rattle.xr_maps.specs.Steps.{is_within}
use Rattle.xr_maps.specs.declared.records.Counted.{Counted}

one_true : (t : Bool) → one_if t ≡ 1 → t ≡ true
one_true true is = refl
one_true false is = absurd (omega (arith, is))

or_none : (x t : Bool) → t ≡ false → x ≡ (x || t)
or_none x t off = rw off (elim x as (λ x. x ≡ (x || false)) [ true ↦ refl | false ↦ refl ])

raised_by : (t : Bool) (x y : ℕ) → y ≡ (if t then x + 1 else x) → y ≡ x + one_if t
raised_by true x y is = is
raised_by false x y is = omega (arith, is)

lowered_by : (t : Bool) (x y : ℕ) → y ≡ (if t then x - 1 else x) → y ≡ x - one_if t
lowered_by true x y is = is
lowered_by false x y is = omega (arith, is)

no_pair : (run : Run) (owner off w o b : ℕ) → is_within run.start.0 run.len b ≡ false → is_run_pair run owner off w o b ≡ false
no_pair run owner off w o b out =
    and_left ((owner == w) && is_within run.start.0 run.len b) (if owner == OWN_COW then o == 0 else o + run.start.0 == off + b) (and_right (owner == w) (is_within run.start.0 run.len b) out)

none_where : (u t : Bool) → t ≡ false → one_if (u && t) ≡ 0
none_where u t off = ap one_if (and_right u t off)

module _ (files : List FileState) (groups : List GroupState) (old new : GroupState) (listed : IsListed groups old) (number : new.number ≡ old.number) where
  abbrev C : Committed
  C = committed_of files groups

  abbrev C' : Committed
  C' = committed_of files (with_state groups new)

  module _ (run : Run) (mine : IsRunOf old run) where
    out : (b : ℕ) → b / GROUP_BLOCKS ≢ old.number → is_within run.start.0 run.len b ≡ false
    out b away = out_of_run run mine.good old.number mine.here b away

    none : (b : ℕ) → b / GROUP_BLOCKS ≢ old.number → in_run b run ≡ 0
    none b away = none_in_run run mine.good old.number mine.here b away

    counted_in : (b : ℕ) → is_within run.start.0 run.len b ≡ true → C.counted b ≡ owner_count_in old b
    counted_in b within =
        let inside = bounds run.start.0 run.len b within in
        let at : run.start.0 + (b - run.start.0) ≡ b = omega (arith, inside.0) in
        subst (λ (n : ℕ). C.counted n ≡ owner_count_in old n) at (counted_here files groups old listed run mine.good mine.here (b - run.start.0) (omega (arith, inside.0, inside.1)))

    -- the pairs of the run come, or go
    module _ (owner off : ℕ) where
      come_file : AddsPairs run owner off old new → HasNoPairOf old run owner off → (f o b : ℕ)
          → one_if (C'.has_pair f o b) ≡ one_if (C.has_pair f o b) + one_if (nat_lt f FILES && is_run_pair run owner off (FIRST_INODE + f) o b)
      come_file adds lone f o b =
          let w : ℕ = FIRST_INODE + f in
          let t : Bool = is_run_pair run owner off w o b in
          along files groups old new listed number (λ x y. one_if y ≡ one_if x + one_if (nat_lt f FILES && t)) false (λ g. has_file_pair g f o b) b
          (comes (nat_lt f FILES) (has_pair old w o b) (has_pair new w o b) t (adds w o b) (lone w o b))
          (λ away x. omega (arith, none_where (nat_lt f FILES) t (no_pair run owner off w o b (out b away))))

      come_staged : AddsPairs run owner off old new → HasNoPairOf old run owner off → (b : ℕ)
          → one_if (C'.has_staging_pair b) ≡ one_if (C.has_staging_pair b) + one_if (is_run_pair run owner off OWN_COW 0 b)
      come_staged adds lone b =
          let t : Bool = is_run_pair run owner off OWN_COW 0 b in
          along files groups old new listed number (λ x y. one_if y ≡ one_if x + one_if t) false (λ g. has_pair g OWN_COW 0 b) b
          (comes true (has_pair old OWN_COW 0 b) (has_pair new OWN_COW 0 b) t (adds OWN_COW 0 b) (lone OWN_COW 0 b))
          (λ away x. omega (arith, ap one_if (no_pair run owner off OWN_COW 0 b (out b away))))

      go_file : RemovesPairs run owner off old new → HasPairsOf old run owner off → (f o b : ℕ)
          → one_if (C'.has_pair f o b) + one_if (nat_lt f FILES && is_run_pair run owner off (FIRST_INODE + f) o b) ≡ one_if (C.has_pair f o b)
      go_file removes held f o b =
          let w : ℕ = FIRST_INODE + f in
          let t : Bool = is_run_pair run owner off w o b in
          along files groups old new listed number (λ x y. one_if y + one_if (nat_lt f FILES && t) ≡ one_if x) false (λ g. has_file_pair g f o b) b
          (goes (nat_lt f FILES) (has_pair old w o b) (has_pair new w o b) t (removes w o b) (held w o b))
          (λ away x. omega (arith, none_where (nat_lt f FILES) t (no_pair run owner off w o b (out b away))))

      go_staged : RemovesPairs run owner off old new → HasPairsOf old run owner off → (b : ℕ)
          → one_if (C'.has_staging_pair b) + one_if (is_run_pair run owner off OWN_COW 0 b) ≡ one_if (C.has_staging_pair b)
      go_staged removes held b =
          let t : Bool = is_run_pair run owner off OWN_COW 0 b in
          along files groups old new listed number (λ x y. one_if y + one_if t ≡ one_if x) false (λ g. has_pair g OWN_COW 0 b) b
          (goes true (has_pair old OWN_COW 0 b) (has_pair new OWN_COW 0 b) t (removes OWN_COW 0 b) (held OWN_COW 0 b))
          (λ away x. omega (arith, ap one_if (no_pair run owner off OWN_COW 0 b (out b away))))

      module _ (cow : owner ≡ OWN_COW) (first : off ≡ 0) where
        no_file : (f o b : ℕ) → one_if (nat_lt f FILES && is_run_pair run owner off (FIRST_INODE + f) o b) ≡ 0
        no_file f o b = ap one_if (subst (λ w. (nat_lt f FILES && is_run_pair run w off (FIRST_INODE + f) o b) ≡ false) (sym cow) (staging_pair_files run off o b f))

        all_staged : (b : ℕ) → one_if (is_run_pair run owner off OWN_COW 0 b) ≡ in_run b run
        all_staged b = ap one_if (
            ap (λ w. is_run_pair run w off OWN_COW 0 b) cow
            ∙ ap (λ x. is_run_pair run OWN_COW x OWN_COW 0 b) first
            ∙ staging_pair_is run 0 0 b)

    -- a change of the owners' tree leaves all else
    module _ (change : ChangesGroup owners_part 36 old new) where
      kept_counts : (b : ℕ) → C'.counted b ≡ C.counted b
      kept_counts b = stays files groups old new listed number 1 (λ g. owner_count_in g b) b (same_counts old new number (change.others 2 (omega arith)) b)

      kept_staged : (b : ℕ) → C'.is_staged b ≡ C.is_staged b
      kept_staged b = stays files groups old new listed number false (λ g. has_staged g b) b (same_staged old new number (change.others 2 (omega arith)) b)

      kept_free : (b : ℕ) → C'.is_free b ≡ C.is_free b
      kept_free b = stays files groups old new listed number false (λ g. has_free g b) b (same_free old new number (change.others 0 (omega arith)).0 b)

      map_shared : (owner off : ℕ) → IsInode owner → HasNoPairOf old run owner off → AddsPairs run owner off old new → RollGives C (Own Owning.MapShared owner off run) C' []
      map_shared owner off inode lone adds = record {
        moves = record {
          groups = groups_same files groups old new listed number;
          maps = λ f o b. refl;
          mapped = λ f o. refl;
          pairs = λ f o b. omega (arith, come_file owner off adds lone f o b, file_pair run off o b owner inode f);
          staging_pairs = λ b. omega (arith, come_staged owner off adds lone b, ap one_if (file_pair_unstaged run off 0 b owner inode));
          staged = λ b. ap (λ t. one_if t + 0) (kept_staged b);
        };
        counted = kept_counts;
        free = kept_free;
        new_is = refl;
      }

      unmap_shared : (owner off : ℕ) → IsInode owner → HasPairsOf old run owner off → RemovesPairs run owner off old new → RollGives C (Own Owning.UnmapShared owner off run) C' []
      unmap_shared owner off inode held removes = record {
        moves = record {
          groups = groups_same files groups old new listed number;
          maps = λ f o b. refl;
          mapped = λ f o. refl;
          pairs = λ f o b. omega (arith, go_file owner off removes held f o b, file_pair run off o b owner inode f);
          staging_pairs = λ b. omega (arith, go_staged owner off removes held b, ap one_if (file_pair_unstaged run off 0 b owner inode));
          staged = λ b. ap (λ t. one_if t + 0) (kept_staged b);
        };
        counted = kept_counts;
        free = kept_free;
        new_is = refl;
      }

      alloc_pair : (owner off : ℕ) → owner ≡ OWN_COW → off ≡ 0 → HasNoPairOf old run owner off → AddsPairs run owner off old new → RollGives C (Own Owning.Alloc owner off run) C' []
      alloc_pair owner off cow first lone adds = record {
        moves = record {
          groups = groups_same files groups old new listed number;
          maps = λ f o b. refl;
          mapped = λ f o. refl;
          pairs = λ f o b. omega (arith, come_file owner off adds lone f o b, no_file owner off cow first f o b);
          staging_pairs = λ b. omega (arith, come_staged owner off adds lone b, all_staged owner off cow first b);
          staged = λ b. ap (λ t. one_if t + 0) (kept_staged b);
        };
        counted = kept_counts;
        free = kept_free;
        new_is = refl;
      }

      free_pair : (owner off : ℕ) → owner ≡ OWN_COW → off ≡ 0 → HasPairsOf old run owner off → RemovesPairs run owner off old new → RollGives C (Own Owning.Free owner off run) C' []
      free_pair owner off cow first held removes = record {
        moves = record {
          groups = groups_same files groups old new listed number;
          maps = λ f o b. refl;
          mapped = λ f o. refl;
          pairs = λ f o b. omega (arith, go_file owner off removes held f o b, no_file owner off cow first f o b);
          staging_pairs = λ b. omega (arith, go_staged owner off removes held b, all_staged owner off cow first b);
          staged = λ b. ap (λ t. one_if t + 0) (kept_staged b);
        };
        counted = kept_counts;
        free = kept_free;
        new_is = refl;
      }

    -- a change of the tree of counts leaves all else
    module _ (change : ChangesGroup counts_part 36 old new) where
      pairs_stay : (w o a : ℕ) → has_pair new w o a ≡ has_pair old w o a
      pairs_stay = same_pairs old new number (change.others 1 (omega arith))

      free_stays : (b : ℕ) → C'.is_free b ≡ C.is_free b
      free_stays b = stays files groups old new listed number false (λ g. has_free g b) b (same_free old new number (change.others 0 (omega arith)).0 b)

      file_pairs_stay : (f o b : ℕ) → C'.has_pair f o b ≡ C.has_pair f o b
      file_pairs_stay f o b = stays files groups old new listed number false (λ g. has_file_pair g f o b) b (ap (λ t. nat_lt f FILES && t) (pairs_stay (FIRST_INODE + f) o b))

      staging_pairs_stay : (b : ℕ) → C'.has_staging_pair b ≡ C.has_staging_pair b
      staging_pairs_stay b = stays files groups old new listed number false (λ g. has_pair g OWN_COW 0 b) b (pairs_stay OWN_COW 0 b)

      begin_staging : AreCountedIn old run 1 false → StagesAddresses run old new → RollGives C (Count AllocCow run) C' []
      begin_staging lone stages = record {
        moves = record {
          groups = groups_same files groups old new listed number;
          maps = λ f o b. refl;
          mapped = λ f o. refl;
          pairs = λ f o b. ap (λ t. one_if t + 0) (file_pairs_stay f o b);
          staging_pairs = λ b. ap (λ t. one_if t + 0) (staging_pairs_stay b);
          staged = λ b. along files groups old new listed number (λ x y. one_if y + 0 ≡ one_if x + in_run b run) false (λ g. has_staged g b) b
              (omega (arith, comes true (has_staged old b) (has_staged new b) (is_within run.start.0 run.len b) (stages.staged b) (λ within. (lone b within).1)))
              (λ away x. omega (arith, none b away));
        };
        counted = λ b. stays files groups old new listed number 1 (λ g. owner_count_in g b) b (stages.counts b);
        free = free_stays;
        new_is = refl;
      }

      end_staging : AreStagedIn old run → UnstagesAddresses run old new → RollGives C (Count FreeCow run) C' []
      end_staging staged unstages = record {
        moves = record {
          groups = groups_same files groups old new listed number;
          maps = λ f o b. refl;
          mapped = λ f o. refl;
          pairs = λ f o b. ap (λ t. one_if t + 0) (file_pairs_stay f o b);
          staging_pairs = λ b. ap (λ t. one_if t + 0) (staging_pairs_stay b);
          staged = λ b. along files groups old new listed number (λ x y. one_if y + in_run b run ≡ one_if x + 0) false (λ g. has_staged g b) b
              (omega (arith, goes true (has_staged old b) (has_staged new b) (is_within run.start.0 run.len b) (unstages.staged b) (staged b)))
              (λ away x. omega (arith, none b away));
        };
        counted = λ b. stays files groups old new listed number 1 (λ g. owner_count_in g b) b (unstages.counts b);
        free = free_stays;
        new_is = refl;
      }

      keeps_where : ((a : ℕ) → has_staged new a ≡ has_staged old a) → KeepsCommitted C C'
      keeps_where staged = keeps_committed files groups old new listed number pairs_stay staged

      module _ (ready : IsOwnedRun old run) (part : Counted) (first : IsFirstPart old run part) where
        at : part.run.start.0 ≡ run.start.0
        at = ap (λ s. s.0) first.start

        in_part : (b : ℕ) → in_run b (run_front run part.run.len) ≡ 1 → (is_within part.run.start.0 part.run.len b ≡ true) × (is_within run.start.0 run.len b ≡ true)
        in_part b inside =
            let low = bounds run.start.0 part.run.len b (one_true (is_within run.start.0 part.run.len b) inside) in (
              in_range part.run.start.0 part.run.len b (omega (arith, low.0, at)) (omega (arith, low.1, at)),
              in_range run.start.0 run.len b (omega (arith, low.0)) (omega (arith, low.1, first.within)),
            )

        unstaged : part.staged ≡ false
        unstaged =
            sym (first.alike part.run.start.0 (in_range part.run.start.0 part.run.len part.run.start.0 (omega arith) (omega (arith, first.some)))).1
            ∙ ready.unstaged part.run.start.0 (in_range run.start.0 run.len part.run.start.0 (omega (arith, at)) (omega (arith, at, first.some, first.within)))

        equal_part : IsEqualPart C run part.run.len part.count
        equal_part = record {
          some = omega (arith, first.some);
          fits = first.within;
          same = λ b inside. let is = in_part b inside in counted_in b is.1 ∙ (first.alike b is.0).0;
          longest = λ less same.
              let next = in_range run.start.0 run.len (run.start.0 + part.run.len) (omega arith) (omega (arith, less)) in
              first.longest less (sym (counted_in (run.start.0 + part.run.len) next) ∙ same, ready.unstaged (run.start.0 + part.run.len) next ∙ sym unstaged);
        }

        front : Run
        front = run_front run part.run.len

        away_front : (b : ℕ) → b / GROUP_BLOCKS ≢ old.number → in_run b (run_front run part.run.len) ≡ 0
        away_front b away = none_in_run (run_front run part.run.len) (front_good run mine.good part.run.len (omega (arith, first.some)) first.within) old.number mine.here b away

        raises : (left : List Work) → RaisesCounts (run_front run part.run.len) old new → left ≡ works_of_rest Increase run part.run.len → RollGives C (Count Increase run) C' left
        raises left raised is = record {
          len = part.run.len;
          count = part.count;
          part = equal_part;
          keeps = keeps_where raised.staged;
          free = free_stays;
          counted = λ b. along files groups old new listed number (λ x y. y ≡ x + in_run b (run_front run part.run.len)) 1 (λ g. owner_count_in g b) b
              (raised_by (is_within run.start.0 part.run.len b) (owner_count_in old b) (owner_count_in new b) (raised.counts b))
              (λ away x. omega (arith, away_front b away));
          new_is = is;
        }

        lowers : (left : List Work) → 1 ≤ part.count → part.count ≢ 1 → LowersCounts (run_front run part.run.len) old new → left ≡ works_of_rest Decrease run part.run.len
            → RollGives C (Count Decrease run) C' left
        lowers left some more lowered is = record {
          len = part.run.len;
          count = part.count;
          part = equal_part;
          some = omega (arith, some);
          keeps = keeps_where lowered.staged;
          free = free_stays;
          counted = λ b. rw (ne_eqb part.count 1 more) (along files groups old new listed number (λ x y. y ≡ x - in_run b (run_front run part.run.len)) 1 (λ g. owner_count_in g b) b
              (lowered_by (is_within run.start.0 part.run.len b) (owner_count_in old b) (owner_count_in new b) (lowered.counts b))
              (λ away x. omega (arith, away_front b away)));
          new_is = rw (ne_eqb part.count 1 more) is;
        }

        gives_back : (left : List Work) → part.count ≡ 1 → new ≡ old → left ≡ works_of_freed run part.run.len → RollGives C (Count Decrease run) C' left
        gives_back left one same is = record {
          len = part.run.len;
          count = part.count;
          part = equal_part;
          some = omega (arith, one);
          keeps = keeps_where (λ a. ap (λ g. has_staged g a) same);
          free = free_stays;
          counted = λ b. rw (eq-eqb part.count 1 one) (stays files groups old new listed number 1 (λ g. owner_count_in g b) b (ap (λ g. owner_count_in g b) same));
          new_is = rw (eq-eqb part.count 1 one) is;
        }

    -- a change of the trees of free runs leaves all else
    gives : ChangesGroup free_part 36 old new → GivesFree run old new → RollGives C (Free run) C' []
    gives change given = record {
      keeps = keeps_committed files groups old new listed number (same_pairs old new number (change.others 1 (omega arith))) (same_staged old new number (change.others 2 (omega arith)));
      counted = λ b. stays files groups old new listed number 1 (λ g. owner_count_in g b) b (same_counts old new number (change.others 2 (omega arith)) b);
      free = λ b. along files groups old new listed number (λ x y. y ≡ (x || is_within run.start.0 run.len b)) false (λ g. has_free g b) b (given b)
          (λ away x. or_none x (is_within run.start.0 run.len b) (out b away));
      new_is = refl;
    }

pub rolls_group : (old new : GroupState) (work : Work) (left : List Work) → IsWork work → new.number ≡ old.number → need_of work ≡ need.Group (group_at old.number)
    → IsGroupReady old work → ChangesItsPart old new work → DoesGroupWork old new work left → RollsGroup old new work left
rolls_group old new (Own Owning.MapShared owner off run) left valid number needs ready change does files groups listed =
    let mine : IsRunOf old run = record { good = valid.0; here = same_number _ _ needs } in
    rw (does.1) (map_shared files groups old new listed number run mine change owner off valid.1 ready.0 does.0)
rolls_group old new (Own Owning.UnmapShared owner off run) left valid number needs ready change does files groups listed =
    let mine : IsRunOf old run = record { good = valid.0; here = same_number _ _ needs } in
    rw (does.1) (unmap_shared files groups old new listed number run mine change owner off valid.1 ready.0 does.0)
rolls_group old new (Own Owning.Alloc owner off run) left valid number needs ready change does files groups listed =
    let mine : IsRunOf old run = record { good = valid.0; here = same_number _ _ needs } in
    rw (does.1) (alloc_pair files groups old new listed number run mine change owner off valid.1 (valid.2.1 valid.1) ready.0 does.0)
rolls_group old new (Own Owning.Free owner off run) left valid number needs ready change does files groups listed =
    let mine : IsRunOf old run = record { good = valid.0; here = same_number _ _ needs } in
    rw (does.1) (free_pair files groups old new listed number run mine change owner off valid.1 (valid.2.1 valid.1) ready.0 does.0)
rolls_group old new (Count Increase run) left valid number needs ready change does files groups listed =
    let mine : IsRunOf old run = record { good = valid; here = same_number _ _ needs } in
    raises files groups old new listed number run mine change ready.owned does.part does.first left does.raises does.left_is
rolls_group old new (Count Decrease run) left valid number needs ready change does files groups listed =
    let mine : IsRunOf old run = record { good = valid; here = same_number _ _ needs } in
    ⊎_elim
    (λ (last : (does.part.count ≡ 1) × (new ≡ old) × (left ≡ works_of_freed run does.part.run.len)).
    gives_back files groups old new listed number run mine change ready does.part does.first left last.0 last.1 last.2)
    (λ (more : (does.part.count ≢ 1) × LowersCounts (run_front run does.part.run.len) old new × (left ≡ works_of_rest Decrease run does.part.run.len)).
    lowers files groups old new listed number run mine change ready does.part does.first left does.some more.0 more.1 more.2)
    does.lowers
rolls_group old new (Count AllocCow run) left valid number needs ready change does files groups listed =
    let mine : IsRunOf old run = record { good = valid; here = same_number _ _ needs } in
    rw (does.1) (begin_staging files groups old new listed number run mine change ready.alone does.0)
rolls_group old new (Count FreeCow run) left valid number needs ready change does files groups listed =
    let mine : IsRunOf old run = record { good = valid; here = same_number _ _ needs } in
    rw (does.1) (end_staging files groups old new listed number run mine change ready does.0)
rolls_group old new (Free run) left valid number needs ready change does files groups listed =
    let mine : IsRunOf old run = record { good = valid; here = same_number _ _ needs } in
    rw (does.1) (gives files groups old new listed number run mine change does.0)
rolls_group old new (Map kind file off run) left valid number needs ready change does files groups listed = absurd does
rolls_group old new (Swap file off other other_off len) left valid number needs ready change does files groups listed = absurd does
