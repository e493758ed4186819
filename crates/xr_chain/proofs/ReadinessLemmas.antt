-- A work is ready by what its file or group holds where it is ready by what is committed.
use Rattle.std.proofs.Common.{◌≡◌, ℕ, ◌+◌, ◌-◌, ◌<◌, ◌≤◌, Bool, true, false, List, length, [], ◌∷◌, get_or, slice_get, sym, ◌∙◌, ap, subst, arith}
use Rattle.std.proofs.lemmas.Bool.{lt-ltb}
use Rattle.std.specs.List.{All}
use Rattle.std.specs.Prelude.{◌&&◌, ◌↔◌}
use Rattle.xr_balance.specs.Ready.{EachOf, IsReadyIn, most_records}
use Rattle.xr_balance.specs.Settled.{Committed}
use Rattle.xr_base.specs.Address.{IsGoodRun, group_number}
use Rattle.xr_base.specs.declared.address.Run.{Run}
use Rattle.xr_base.specs.declared.geometry.TheConstants.{FILES, FIRST_INODE, OWN_COW}
use Rattle.xr_bmap.specs.File.{AreFileStates, FileState, slot_of_file}
use Rattle.xr_chain.proofs.AwayLemmas.{bounds}
use Rattle.xr_chain.proofs.EachLemmas.{at_each, each_at, each_pair, each_staged, pairs_at_each, staged_at_each}
use Rattle.xr_chain.proofs.FileLemmas.{address_here}
use Rattle.xr_chain.specs.ChainView.{OfFirst, file_at, first_need, group_at, need_of}
use Rattle.xr_chain.specs.CommittedBlocks.{IsListed, committed_of, group_of_block, has_file_pair, owner_records_of, told_by}
use Rattle.xr_chain.specs.Readiness.{HasOwnerRoom, IsFileReady, IsGroupReady}
use Rattle.xr_chain.specs.ReadinessLaws.{FilesTellReadiness, GroupsTellReadiness}
use Rattle.xr_chain.specs.declared.chain.Need.{Need}
use Rattle.xr_chain.specs.declared.chain.Need.TheVariants as need
use Rattle.xr_group.specs.Group.{GroupState, records_now}
use Rattle.xr_group.specs.Sets.{has_free, has_pair, has_staged, is_run_pair, owner_count_in}
use Rattle.xr_items.specs.Valid.{IsInode, IsWork}
use Rattle.xr_items.specs.declared.work.CountKind.TheVariants.{AllocCow, Decrease, FreeCow, Increase}
use Rattle.xr_items.specs.declared.work.MapKind.TheVariants as Mapping
use Rattle.xr_items.specs.declared.work.OwnKind.TheVariants as Owning
use Rattle.xr_items.specs.declared.work.Work.{Work}
use Rattle.xr_items.specs.declared.work.Work.TheVariants.{Count, Free, Map, Own, Swap}
use Rattle.xr_maps.specs.FileMaps.{address_at}
use Rattle.xr_maps.specs.StepLaws.{in_range}
use Rattle.xr_maps.specs.Steps.{is_within}

number_needed : Need → ℕ
number_needed (need.Group group) = group.0
number_needed (need.File file) = file.0
number_needed _ = 0

pub same_number : (n m : ℕ) → need.Group (group_at n) ≡ need.Group (group_at m) → n ≡ m
unfolding number_needed
same_number n m same = ap number_needed same

module _ (files : List FileState) (groups : List GroupState) (g : GroupState) (listed : IsListed groups g) where
  abbrev C : Committed
  C = committed_of files groups

  module _ (run : Run) (good : IsGoodRun run) (here : group_number run.start ≡ g.number) where
    told_here : {A : Type 0} (none : A) (tells : GroupState → A) (k : ℕ) → k < run.len → told_by none tells (group_of_block groups (run.start.0 + k)) ≡ tells g
    told_here none tells k inside = ap (told_by none tells) (ap (slice_get groups) (good.one_group k inside ∙ here) ∙ listed)

    -- a test of each block of the run, by the group and by what is committed
    tells_each : (tells : GroupState → ℕ → Bool) (t : Bool) → ((a : ℕ) → is_within run.start.0 run.len a ≡ true → tells g a ≡ t)
        → EachOf run (λ k. told_by false (λ g. tells g (run.start.0 + k)) (group_of_block groups (run.start.0 + k)) ≡ t)
    tells_each tells t all k inside = told_here false (λ g. tells g (run.start.0 + k)) k inside ∙ each_at run (λ a. tells g a ≡ t) all k inside

    each_tells : (tells : GroupState → ℕ → Bool) (t : Bool) → EachOf run (λ k. told_by false (λ g. tells g (run.start.0 + k)) (group_of_block groups (run.start.0 + k)) ≡ t)
        → (a : ℕ) → is_within run.start.0 run.len a ≡ true → tells g a ≡ t
    each_tells tells t each = at_each run (λ a. tells g a ≡ t) (λ k inside. sym (told_here false (λ g. tells g (run.start.0 + k)) k inside) ∙ each k inside)

    pub counted_here : (k : ℕ) → k < run.len → C.counted (run.start.0 + k) ≡ owner_count_in g (run.start.0 + k)
    counted_here k inside = told_here 1 (λ g. owner_count_in g (run.start.0 + k)) k inside

    pair_here : (owner off : ℕ) → IsInode owner → (k : ℕ) → k < run.len
        → C.has_pair (owner - FIRST_INODE) (off + k) (run.start.0 + k) ≡ has_pair g owner (off + k) (run.start.0 + k)
    pair_here owner off inode k inside =
        told_here false (λ g. has_file_pair g (owner - FIRST_INODE) (off + k) (run.start.0 + k)) k inside
        ∙ ap (λ t. t && has_pair g (FIRST_INODE + (owner - FIRST_INODE)) (off + k) (run.start.0 + k)) (lt-ltb (owner - FIRST_INODE) FILES (omega (arith, inode.0, inode.1)))
        ∙ ap (λ w. has_pair g w (off + k) (run.start.0 + k)) (omega (arith, inode.0))

    records_here : owner_records_of groups (group_number run.start) ≡ length (records_now g).reverse
    records_here = ap (told_by 0 (λ (g : GroupState). length (records_now g).reverse)) (ap (slice_get groups) here ∙ listed)

    room_here : HasOwnerRoom g ↔ (owner_records_of groups (group_number run.start) ≤ most_records)
    room_here = (λ h. omega (arith, h, records_here), λ h. omega (arith, h, records_here))

  pub group_tells : (work : Work) → need_of work ≡ need.Group (group_at g.number) → IsWork work
      → IsGroupReady g work ↔ IsReadyIn C (owner_records_of groups) work
  group_tells (Own Owning.MapShared owner off run) needs valid =
      let here = same_number (group_number run.start) g.number needs in
      let good = valid.0 in
      let inode = valid.1 in
      let room = room_here run good here in (
        λ ready. (λ k inside. pair_here run good here owner off inode k inside ∙ each_pair run owner off inode (has_pair g) false ready.0 k inside, room.0 ready.1),
        λ ready. (pairs_at_each run owner off inode (has_pair g) false (λ k inside. sym (pair_here run good here owner off inode k inside) ∙ ready.0 k inside), room.1 ready.1),
      )
  group_tells (Own Owning.UnmapShared owner off run) needs valid =
      let here = same_number (group_number run.start) g.number needs in
      let good = valid.0 in
      let inode = valid.1 in
      let room = room_here run good here in (
        λ ready. (λ k inside. pair_here run good here owner off inode k inside ∙ each_pair run owner off inode (has_pair g) true ready.0 k inside, room.0 ready.1),
        λ ready. (pairs_at_each run owner off inode (has_pair g) true (λ k inside. sym (pair_here run good here owner off inode k inside) ∙ ready.0 k inside), room.1 ready.1),
      )
  group_tells (Own Owning.Alloc owner off run) needs valid =
      let here = same_number (group_number run.start) g.number needs in
      let good = valid.0 in
      let cow : owner ≡ OWN_COW = valid.1 in
      let first : off ≡ 0 = valid.2.1 cow in
      let room = room_here run good here in
      let tells : GroupState → ℕ → Bool = λ g a. has_pair g OWN_COW 0 a in
      let of : (w o : ℕ) → Type 0 = λ w o. (x y a : ℕ) → is_run_pair run w o x y a ≡ true → has_pair g x y a ≡ false in (
        λ ready.
            let pairs : of OWN_COW 0 = subst (λ w. of w 0) cow (subst (of owner) first ready.0) in
            (tells_each run good here tells false (at_each run (λ a. has_pair g OWN_COW 0 a ≡ false) (each_staged run (has_pair g) false pairs)), room.0 ready.1),
        λ ready.
            let pairs : of OWN_COW 0 = staged_at_each run (has_pair g) false (each_at run (λ a. has_pair g OWN_COW 0 a ≡ false) (each_tells run good here tells false ready.0)) in
            (subst (of owner) (sym first) (subst (λ w. of w 0) (sym cow) pairs), room.1 ready.1),
      )
  group_tells (Own Owning.Free owner off run) needs valid =
      let here = same_number (group_number run.start) g.number needs in
      let good = valid.0 in
      let cow : owner ≡ OWN_COW = valid.1 in
      let first : off ≡ 0 = valid.2.1 cow in
      let room = room_here run good here in
      let tells : GroupState → ℕ → Bool = λ g a. has_pair g OWN_COW 0 a in
      let of : (w o : ℕ) → Type 0 = λ w o. (x y a : ℕ) → is_run_pair run w o x y a ≡ true → has_pair g x y a ≡ true in (
        λ ready.
            let pairs : of OWN_COW 0 = subst (λ w. of w 0) cow (subst (of owner) first ready.0) in
            (tells_each run good here tells true (at_each run (λ a. has_pair g OWN_COW 0 a ≡ true) (each_staged run (has_pair g) true pairs)), room.0 ready.1),
        λ ready.
            let pairs : of OWN_COW 0 = staged_at_each run (has_pair g) true (each_at run (λ a. has_pair g OWN_COW 0 a ≡ true) (each_tells run good here tells true ready.0)) in
            (subst (of owner) (sym first) (subst (λ w. of w 0) (sym cow) pairs), room.1 ready.1),
      )
  group_tells (Count Increase run) needs valid =
      let here = same_number (group_number run.start) g.number needs in (
        λ ready. (
          λ k inside. (
            tells_each run valid here has_free false ready.owned.unfree k inside,
            tells_each run valid here has_staged false ready.owned.unstaged k inside,
            omega (arith, counted_here run valid here k inside, each_at run (λ a. owner_count_in g a < 32768) ready.below k inside),
          ),
          tt,
        ),
        λ ready. record {
          owned = record {
            unfree = each_tells run valid here has_free false (λ k inside. (ready.0 k inside).0);
            unstaged = each_tells run valid here has_staged false (λ k inside. (ready.0 k inside).1);
          };
          below = at_each run (λ a. owner_count_in g a < 32768) (λ k inside. omega (arith, counted_here run valid here k inside, (ready.0 k inside).2));
        },
      )
  group_tells (Count Decrease run) needs valid =
      let here = same_number (group_number run.start) g.number needs in (
        λ ready. (λ k inside. (tells_each run valid here has_free false ready.unfree k inside, tells_each run valid here has_staged false ready.unstaged k inside), tt),
        λ ready. record {
          unfree = each_tells run valid here has_free false (λ k inside. (ready.0 k inside).0);
          unstaged = each_tells run valid here has_staged false (λ k inside. (ready.0 k inside).1);
        },
      )
  group_tells (Count AllocCow run) needs valid =
      let here = same_number (group_number run.start) g.number needs in (
        λ ready. (
          λ k inside. (
            tells_each run valid here has_free false ready.unfree k inside,
            counted_here run valid here k inside ∙ each_at run (λ a. owner_count_in g a ≡ 1) (λ a within. (ready.alone a within).0) k inside,
            tells_each run valid here has_staged false (λ a within. (ready.alone a within).1) k inside,
          ),
          tt,
        ),
        λ ready. record {
          unfree = each_tells run valid here has_free false (λ k inside. (ready.0 k inside).0);
          alone = λ a within. (
            at_each run (λ a. owner_count_in g a ≡ 1) (λ k inside. sym (counted_here run valid here k inside) ∙ (ready.0 k inside).1) a within,
            each_tells run valid here has_staged false (λ k inside. (ready.0 k inside).2) a within,
          );
        },
      )
  group_tells (Count FreeCow run) needs valid =
      let here = same_number (group_number run.start) g.number needs in
      (λ ready. (tells_each run valid here has_staged true ready, tt), λ ready. each_tells run valid here has_staged true ready.0)
  group_tells (Free run) needs valid =
      let here = same_number (group_number run.start) g.number needs in
      (λ ready. (tells_each run valid here has_free false ready, tt), λ ready. each_tells run valid here has_free false ready.0)
  group_tells (Map kind file off run) needs valid = absurd cc
  group_tells (Swap file off other other_off len) needs valid = absurd cc

pub groups_tell_readiness : GroupsTellReadiness
groups_tell_readiness files groups g work listed needs valid = group_tells files groups g listed work needs valid

pub same_file : (n m : ℕ) → need.File (file_at n) ≡ need.File (file_at m) → n ≡ m
unfolding number_needed
same_file n m same = ap number_needed same

module _ (files : List FileState) (groups : List GroupState) (f : FileState) (listed : IsListed files f) (are : AreFileStates f) where
  file_here : (n o : ℕ) → n ≡ f.number → address_at (committed_of files groups).maps n o ≡ slot_of_file f o
  file_here n o same = ap (λ k. address_at (committed_of files groups).maps k o) same ∙ address_here files f listed are o

  pub file_tells : (work : Work) → need_of work ≡ need.File (file_at f.number) → IsWork work
      → IsFileReady f work ↔ IsReadyIn (committed_of files groups) (owner_records_of groups) work
  file_tells (Map Mapping.Unmap file off run) needs valid =
      let same = same_file file.0 f.number needs in (
        λ ready. (λ k inside. file_here file.0 (off + k) same ∙ ready k inside, tt),
        λ ready k inside. sym (file_here file.0 (off + k) same) ∙ ready.0 k inside,
      )
  file_tells (Map Mapping.Map file off run) needs valid =
      let same = same_file file.0 f.number needs in (
        λ ready. (λ k inside. file_here file.0 (off + k) same ∙ ready (off + k) (in_range off run.len (off + k) (omega arith) (omega (arith, inside))), tt),
        λ ready o within.
            let inside = bounds off run.len o within in
            let at : off + (o - off) ≡ o = omega (arith, inside.0) in
            ap (slot_of_file f) (sym at) ∙ sym (file_here file.0 (off + (o - off)) same) ∙ ready.0 (o - off) (omega (arith, inside.0, inside.1)),
      )
  file_tells (Own kind owner off run) needs valid = absurd cc
  file_tells (Count kind run) needs valid = absurd cc
  file_tells (Free run) needs valid = absurd cc
  file_tells (Swap file off other other_off len) needs valid = absurd cc

pub files_tell_readiness : FilesTellReadiness
files_tell_readiness files groups f work listed are needs valid = file_tells files groups f listed are work needs valid

-- so the first of some works is ready by the one where it is by the other
module _ (ready known : Work → Type 0) (n : Need) (same : (work : Work) → need_of work ≡ n → IsWork work → ready work ↔ known work) where
  pub first_tells : (works : List Work) (d : Work) (test : Type 0) → All IsWork works → first_need works ≡ n → 1 ≤ length works
      → (test ↔ ready (get_or works 0 d)) → test ↔ OfFirst known works
  first_tells [] d test valid needs some is = absurd (omega (arith, some))
  first_tells (work ∷ works) d test valid needs some is =
      let tells = same work needs (valid 0 work (omega arith)) in
      (λ yes. tells.0 (is.0 yes), λ yes. is.1 (tells.1 yes))
