-- The changed blocks of a file or a group, one after another, and what is left where they are dropped.
use Rattle.std.proofs.Common.{◌≡◌, ◌≢◌, ℕ, ◌+◌, ◌<◌, ◌≤◌, List, [], ◌∷◌, ◌++◌, length, take, get_or, sym, ◌∙◌, ap, subst, arith}
use Rattle.std.proofs.lemmas.List.{get_or-map, get_or-take, get_or_default, length-map, length-take, same_lists, take_all, take_more}
use Rattle.std.proofs.lemmas.List.Elements.{All-from_get_or, All-map}
use Rattle.std.specs.List.{All, AllPairs, Contains}
use Rattle.std.specs.Prelude.{slice_index, slice_index_or}
use Rattle.xr_bmap.specs.File.{first_of_file}
use Rattle.xr_chain.specs.Events.{logged_from, trans_with}
use Rattle.xr_chain.specs.LoggedLaws.{FilesLogChanges, GroupsLogChanges, LogsChanges}
use Rattle.xr_group.specs.Group.{first_of_group}
use Rattle.xr_items.specs.Transactions.{IsNotAmong, TransView, logged}
use Rattle.xr_items.specs.declared.trans.Logged.{Logged}
use Rattle.xr_open.specs.PoolState.{PoolState, dropped_to_kept}

module _ (first : ℕ) (s : PoolState) where
  abbrev entry : ℕ → Logged
  entry n = logged (first + n) (slice_index_or s.blocks n [])

  abbrev all : List Logged
  all = logged_from first s

  pub all_taken : take (length s.changed) all ≡ all
  all_taken = take_all (length s.changed) all (omega (arith, length-map s.changed entry))

  module _ (i : ℕ) (inside : i < length s.changed) where
    pub one_more : take (i + 1) all ≡ take i all ++ entry (slice_index s.changed i) ∷ []
    one_more =
        take_more all i (entry 0) (omega (arith, inside, length-map s.changed entry))
        ∙ ap (λ x. take i all ++ x ∷ []) (get_or-map entry s.changed i 0 (entry 0) inside)

    pub not_yet : AllPairs (λ (m n : ℕ). m < n) s.changed → IsNotAmong (first + slice_index s.changed i) (take i all)
    not_yet rising = All-from_get_or (λ (other : Logged). other.block ≢ first + slice_index s.changed i) (take i all) (entry 0) (λ k within.
        let before : k < i = omega (arith, within, length-take i all) in
        let is : get_or (take i all) k (entry 0) ≡ entry (get_or s.changed k 0) =
        get_or-take i all k (entry 0) before ∙ get_or-map entry s.changed k 0 (entry 0) (omega (arith, before, inside)) in
        let less : slice_index s.changed k < slice_index s.changed i = rising k i 0 before inside in
        let named : (get_or (take i all) k (entry 0)).block ≡ first + slice_index s.changed k = ap (λ (x : Logged). x.block) is in
        λ same. omega (arith, named, same, less))

    module _ (trans : TransView) (block : ℕ) (was : trans ≡ trans_with (take i all) [] []) (place : block ≡ first + slice_index s.changed i) where
      pub absent : AllPairs (λ (m n : ℕ). m < n) s.changed → IsNotAmong block trans.blocks
      absent rising =
          subst (λ (b : ℕ). IsNotAmong b trans.blocks) (sym place)
          (subst (λ (t : TransView). IsNotAmong (first + slice_index s.changed i) t.blocks) (sym was) (not_yet rising))

      pub added : (new : TransView) (image : List ℕ) → image ≡ slice_index_or s.blocks (slice_index s.changed i) []
          → new ≡ record trans { blocks = trans.blocks ++ logged block image ∷ [] } → new ≡ trans_with (take (i + 1) all) [] []
      added new image bytes is =
          is ∙ ap (λ (t : TransView). record t { blocks = t.blocks ++ logged block image ∷ [] }) was
          ∙ ap (λ (b : ℕ). trans_with (take i all ++ logged b image ∷ []) [] []) place
          ∙ ap (λ (x : List ℕ). trans_with (take i all ++ logged (first + slice_index s.changed i) x ∷ []) [] []) bytes
          ∙ ap (λ (x : List Logged). trans_with x [] []) (sym one_more)

-- what had no changes is what it was kept as
pub none_changed : (s : PoolState) (n : ℕ) → length s.kept ≡ n → length s.blocks ≡ n → s.changed ≡ []
    → ((k : ℕ) → ¬ (Contains s.changed k) → slice_index_or s.kept k [] ≡ slice_index_or s.blocks k []) → s.kept ≡ s.blocks
none_changed s n long also none others = same_lists s.kept s.blocks (long ∙ sym also) (λ k d within.
    get_or_default s.kept k d [] within
    ∙ others k (λ held. omega (arith, held.1, ap length none))
    ∙ get_or_default s.blocks k [] d (omega (arith, within, long, also)))

-- and comes back where what was changed in it is dropped
pub dropped_back : (old new : PoolState) → new.number ≡ old.number → new.uuid ≡ old.uuid → new.kept ≡ old.kept → old.changed ≡ [] → old.kept ≡ old.blocks
    → dropped_to_kept new ≡ old
dropped_back old new number uuid kept none same =
    let n = ap (λ (k : ℕ). record { number = k; uuid = new.uuid; kept = new.kept; blocks = new.kept; changed = [] }) number in
    let u = ap (λ (x : List ℕ). record { number = old.number; uuid = x; kept = new.kept; blocks = new.kept; changed = [] }) uuid in
    let k = ap (λ (x : List (List ℕ)). record { number = old.number; uuid = old.uuid; kept = x; blocks = x; changed = [] }) kept in
    let b = ap (λ (x : List (List ℕ)). record { number = old.number; uuid = old.uuid; kept = old.kept; blocks = x; changed = [] }) same in
    let c = ap (λ (x : List ℕ). record { number = old.number; uuid = old.uuid; kept = old.kept; blocks = old.blocks; changed = x }) (sym none) in
    n ∙ u ∙ k ∙ b ∙ c

-- the changed blocks are those of what is kept that aren't what they were
module _ (first size : ℕ) (s : PoolState) (below : All (λ (n : ℕ). n < size) s.changed)
    (others : (n : ℕ) → ¬ (Contains s.changed n) → slice_index_or s.kept n [] ≡ slice_index_or s.blocks n []) where
  named : (n : ℕ) → Contains s.changed n → ¬ (IsNotAmong (first + n) (all first s))
  named n held none =
      let entry_of : ℕ → Logged = entry first s in
      let is = ap (λ (l : Logged). l.block) (get_or-map entry_of s.changed held.0 n (entry_of n) held.1) ∙ ap (λ (m : ℕ). first + m) held.2 in
      none held.0 (entry_of n) (omega (arith, held.1, length-map s.changed entry_of)) is

  pub logs_changes : LogsChanges first size s
  logs_changes = record {
    within =
        All-map (λ (l : Logged). (first ≤ l.block) × (l.block < first + size)) (entry first s) s.changed
        (λ k d inside. (omega arith, omega (arith, below k d inside)));
    turns = λ n. record {
      changed =
          All-map (λ (l : Logged). l.block ≡ first + n → l.image ≡ slice_index_or s.blocks n []) (entry first s) s.changed
          (λ k d inside same. ap (λ m. slice_index_or s.blocks m []) (omega (arith, same)));
      unchanged = λ none. others n (λ held. named n held none);
    };
  }

pub files_log_changes : FilesLogChanges
files_log_changes f are = logs_changes (first_of_file f.number) _ f are.below are.others

pub groups_log_changes : GroupsLogChanges
groups_log_changes g are = logs_changes (first_of_group g.number) _ g are.below are.others
