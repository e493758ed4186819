-- What a visit of a block answers, from what is answered of the block by itself and of its children.
use Rattle.std.proofs.Common.{◌≡◌, ◌↔◌, ℕ, zero, suc, ◌+◌, ◌<◌, ◌≤◌, ◌==◌, ◌&&◌, Bool, true, false, Result, Ok, Err, Option, Some, List, [], ◌∷◌, ◌++◌, length, map, drop, get_or, sym, ap, ◌∙◌, subst, arith, inl, inr}
use Rattle.std.proofs.lemmas.List.{ext_get_or, get_or-map, length-map}
use Rattle.std.specs.Result.{IsErr, IsOk}
use Rattle.xr_block.specs.declared.fault.TreeFault.{TreeFault}
use Rattle.xr_verify.specs.declared.passed.Passed.{Passed}
use Rattle.xr_verify.specs.Refusals.{RefusesBelow, RefusesPointer, RefusesRow}
use Rattle.xr_verify.proofs.PassLemmas.{next_dropped}
use Rattle.xr_kinds.specs.Form.{Form, IsForm}
use Rattle.xr_block.specs.NodeEntries.{child_in, key_in}
use Rattle.xr_block.specs.NodeEntryLaws.{entry_read, length-entries}
use Rattle.xr_pool.specs.Overlay.{Blocks, block_at, pool_size}
use Rattle.xr_verify.specs.Passed.{IsPast}
use Rattle.xr_block.specs.Rows.{min_records, key_held}
use Rattle.xr_block.specs.Tree.{AreRecords, blocks_of, records_of, tree_held}
use Rattle.xr_block.specs.TreeBlock.{Entry, count_in, entries_in, records_in}
use Rattle.xr_verify.specs.Visits.{AreMarked, AreNamedFrom, AreSound, IsEntered, children, is_end, last_below, HasOwnKeys}
use Rattle.xr_verify.proofs.ChildLemmas.{AreVisitedTo, is_end-dropped, next_sound, sound_used, visited_more}
use Rattle.xr_verify.proofs.SoundnessLemmas.{blocks_alone, blocks_node, leaf_entered, leaf_sound, node_entered, node_sound, records_alone, records_node}
use Rattle.xr_verify.proofs.VisitLemmas.{child_is}

pub length-children : {X : Type 0} (form : Form X) (b : Blocks) (n : ℕ) → length (children form b n) ≡ count_in (block_at b n)
length-children form b n = length-map (entries_in form (block_at b n)) (λ (e : Entry). e.child) ∙ length-entries form (block_at b n)

pub nth_child : {X : Type 0} (form : Form X) (b : Blocks) (n k c : ℕ) (bytes : List ℕ) → bytes ≡ block_at b n → c ≡ child_in form k bytes
    → k < count_in (block_at b n) → (d : ℕ) → c ≡ get_or (children form b n) k d
nth_child form b n k c bytes is child within d =
    child ∙ ap (child_in form k) is ∙ sym (child_is form b n k d within)

-- a node names its children where it names each
module _ {X : Type 0} (form : Form X) (b : Blocks) (level n : ℕ) where
  keys_at : (k : ℕ) → k < count_in (block_at b n)
      → (get_or (map (λ (e : Entry). e.key) (entries_in form (block_at b n))) k [] ≡ key_in form k (block_at b n))
      × (get_or (map (key_held form (tree_held form b) level) (children form b n)) k [] ≡ key_held form (tree_held form b) level (child_in form k (block_at b n)))
  keys_at k within =
      let entry : Entry = record { key = []; child = 0 } in (
        get_or-map (λ (e : Entry). e.key) (entries_in form (block_at b n)) k entry [] (omega (arith, within, length-entries form (block_at b n)))
            ∙ ap (λ (e : Entry). e.key) (entry_read form (block_at b n) k entry within),
        get_or-map (key_held form (tree_held form b) level) (children form b n) k 0 [] (omega (arith, within, length-children form b n))
            ∙ ap (key_held form (tree_held form b) level) (child_is form b n k 0 within),
      )

  pub named_if : AreNamedFrom form b level n 0 → HasOwnKeys form b (suc level) n
  named_if each =
      let entries = entries_in form (block_at b n) in
      let long : length (map (λ (e : Entry). e.key) entries) ≡ count_in (block_at b n) =
      length-map entries (λ (e : Entry). e.key) ∙ length-entries form (block_at b n) in
      ext_get_or [] (map (λ (e : Entry). e.key) entries) (map (key_held form (tree_held form b) level) (children form b n))
      (long ∙ sym (length-children form b n) ∙ sym (length-map (children form b n) (key_held form (tree_held form b) level)))
      (λ k within.
      let under : k < count_in (block_at b n) = omega (arith, within, long) in
      (keys_at k under).0 ∙ each k (omega arith) under ∙ sym (keys_at k under).1)

  pub each_named : HasOwnKeys form b (suc level) n → AreNamedFrom form b level n 0
  each_named named k from within = sym (keys_at k within).0 ∙ ap (λ (keys : List (List ℕ)). get_or keys k []) named ∙ (keys_at k within).1

-- a leaf
module _ {X : Type 0} (form : Form X) (laws : IsForm form) (b : Blocks) (least : ℕ) (left : Option ℕ) (last : Bool) (n : ℕ) (seen : List ℕ) (noted : List X) where
  pub leaf_rules : (level : ℕ) (Key : ℕ → Type 0) (Taken Done : Type 0) → level ≡ 0
      → (Taken ↔ (IsEntered form b least zero left last n seen × Key zero × AreRecords form (noted ++ records_in form (block_at b n)))) → (Done ↔ Taken)
      → Done ↔ (AreSound form b least level left last (n ∷ []) seen noted × Key level)
  leaf_rules (suc level) Key Taken Done low tested same = absurd (omega (arith, low))
  leaf_rules zero Key Taken Done low tested same = (
    λ ok. let all = tested.0 (same.0 ok) in (leaf_sound form laws b least left last n seen noted all.0 all.2, all.1),
    λ both.
        let all = leaf_entered form laws b least left last n seen noted both.0 in
        same.1 (tested.1 (all.0, both.1, all.1)),
  )

  pub leaf_records : (level : ℕ) → level ≡ 0 → records_in form (block_at b n) ≡ records_of form b level (n ∷ [])
  leaf_records (suc level) low = absurd (omega (arith, low))
  leaf_records zero low = sym (records_alone form laws b least left last n seen noted)

  pub leaf_blocks : (level : ℕ) → level ≡ 0 → n ∷ [] ≡ blocks_of form b level (n ∷ [])
  leaf_blocks (suc level) low = absurd (omega (arith, low))
  leaf_blocks zero low = sym (blocks_alone form laws b least left last n seen noted)

  -- a node
  module _ (level : ℕ) (now : List ℕ) (marked : AreMarked seen (n ∷ []) now) where
    pub node_rules : (above : ℕ) (Key : ℕ → Type 0) (Done : Type 0) → level + 1 ≡ above → IsEntered form b least above left last n seen → Key above
        → (Done ↔ (AreSound form b (min_records form level) level (last_below form b left) last (children form b n) now noted × AreNamedFrom form b level n 0))
        → Done ↔ (AreSound form b least above left last (n ∷ []) seen noted × Key above)
    node_rules zero Key Done up entered key below = absurd (omega (arith, up))
    node_rules (suc same) Key Done up entered key below =
        let is : level ≡ same = omega (arith, up) in
        subst (λ (up : ℕ). IsEntered form b least (suc up) left last n seen → Key (suc up) → Done ↔ (AreSound form b least (suc up) left last (n ∷ []) seen noted × Key (suc up))) is
        (λ is_entered has_key. (
          λ ok. let both = below.0 ok in (node_sound form laws b least left last n seen noted level now marked is_entered (named_if form b level n both.1) both.0, has_key),
          λ both.
              let all = node_entered form laws b least left last n seen noted level now marked both.0 in
              below.1 (all.2, each_named form b level n all.1),
        )) entered key

    pub node_records : (above : ℕ) → level + 1 ≡ above → records_of form b level (children form b n) ≡ records_of form b above (n ∷ [])
    node_records zero up = absurd (omega (arith, up))
    node_records (suc same) up =
        let is : level ≡ same = omega (arith, up) in
        sym (records_node form laws b least left last n seen noted level now marked) ∙ ap (λ (l : ℕ). records_of form b (suc l) (n ∷ [])) is

    pub node_marked : (above : ℕ) (after : List ℕ) → level + 1 ≡ above → AreMarked now (blocks_of form b level (children form b n)) after
        → AreMarked seen (blocks_of form b above (n ∷ [])) after
    node_marked zero after up below = absurd (omega (arith, up))
    node_marked (suc same) after up below =
        let is : level ≡ same = omega (arith, up) in
        subst (λ (l : ℕ). AreMarked seen (blocks_of form b (suc l) (n ∷ [])) after) is
        (record {
          long = below.long ∙ marked.long;
          marks = λ k. omega (arith, blocks_node form laws b least left last n seen noted level now marked k, marked.marks k, below.marks k);
        })

-- a child as it is read and visited
pub record IsChild {X : Type 0} (form : Form X) (b : Blocks) (level n : ℕ) (last : Bool) (k count : ℕ) (bytes key : List ℕ) (c least : ℕ) (end : Bool) : Type 0 where
  pub bytes_are : bytes ≡ block_at b n
  pub counted : count ≡ count_in bytes
  pub within : k < count
  pub child : c ≡ child_in form k bytes
  pub key_is : key ≡ key_in form k bytes
  pub least_is : least ≡ min_records form level
  pub end_is : end ≡ (k + 1 == count && last)

module _ {X L : Type 0} (form : Form X) (laws : IsForm form) (Notes : L → List X → Type 0) (b : Blocks) (level n : ℕ) (before : Option ℕ) (last : Bool) (seen : List ℕ) (noted : List X) (left : Option ℕ) (now : List ℕ) (p : Passed X L) (k : ℕ) (to : AreVisitedTo form Notes b level n before last seen noted left now p k) where
  abbrev pub AllSound : Type 0
  AllSound = AreSound form b (min_records form level) level before last (children form b n) seen noted × AreNamedFrom form b level n 0

  -- its number is one of the pool
  pub child_used : (c : ℕ) (bytes : List ℕ) → bytes ≡ block_at b n → c ≡ child_in form k bytes → k < count_in bytes → AllSound → (1 ≤ c) × (c < pool_size b)
  child_used c bytes is child within all =
      let under : k < count_in (block_at b n) = subst (λ (xs : List ℕ). k < count_in xs) is within in
      let next = next_sound form laws Notes b level n before last seen noted left now p k to c (omega (arith, under, length-children form b n))
      (nth_child form b n k c bytes is child under) (length-children form b n) all.0 all.1 in
      let used = sound_used form b (min_records form level) level left _ c now to.records next.0 in
      (used.from, used.below)

  -- it isn't, and what of the node is refused then
  pub pointer_refused : (c : ℕ) (bytes : List ℕ) (fault : TreeFault) → bytes ≡ block_at b n → c ≡ child_in form k bytes → k < count_in bytes → RefusesPointer b n c fault
      → RefusesRow form b (RefusesBelow form b level (min_records form level)) level n last 0 (children form b n) before seen noted fault
  unfolding RefusesRow
  pointer_refused c bytes fault is child within refused =
      let under : k < count_in (block_at b n) = subst (λ (xs : List ℕ). k < count_in xs) is within in
      let row = next_dropped (children form b n) k c (omega (arith, under, length-children form b n)) (nth_child form b n k c bytes is child under) in
      to.refused fault (subst (λ (cs : List ℕ). RefusesRow form b (RefusesBelow form b level (min_records form level)) level n last k cs left now to.records fault) (sym row)
      (inl refused))

  module _ (count : ℕ) (bytes key : List ℕ) (c least : ℕ) (end : Bool) (next : IsChild form b level n last k count bytes key c least end) where
    under : k < count_in (block_at b n)
    under = subst (λ (xs : List ℕ). k < count_in xs) next.bytes_are (omega (arith, next.counted, next.within))

    within : k < length (children form b n)
    within = omega (arith, under, length-children form b n)

    nth : (d : ℕ) → c ≡ get_or (children form b n) k d
    nth = nth_child form b n k c bytes next.bytes_are next.child under

    end_same : (is_end (drop (k + 1) (children form b n)) && last) ≡ end
    end_same =
        let counted : length (children form b n) ≡ count = length-children form b n ∙ ap count_in (sym next.bytes_are) ∙ sym next.counted in
        ap (λ (test : Bool). test && last) (is_end-dropped (children form b n) k count counted next.within) ∙ sym next.end_is

    key_same : key ≡ key_in form k (block_at b n)
    key_same = next.key_is ∙ ap (key_in form k) next.bytes_are

    child_same : key_held form (tree_held form b) level (child_in form k (block_at b n)) ≡ key_held form (tree_held form b) level c
    child_same = ap (key_held form (tree_held form b) level) (ap (child_in form k) (sym next.bytes_are) ∙ sym next.child)

    pub child_needed : AllSound → AreSound form b least level left end (c ∷ []) now to.records × (key ≡ key_held form (tree_held form b) level c)
    child_needed all =
        let found = next_sound form laws Notes b level n before last seen noted left now p k to c within nth (length-children form b n) all.0 all.1 in (
          subst (λ (m : ℕ). AreSound form b m level left end (c ∷ []) now to.records) (sym next.least_is)
              (subst (λ (test : Bool). AreSound form b (min_records form level) level left test (c ∷ []) now to.records) end_same found.0),
          key_same ∙ found.1 ∙ child_same,
        )

    -- a refusal below it is one of the node
    pub child_refused : (fault : TreeFault) → (1 ≤ c) × (c < pool_size b)
        → RefusesBelow form b level least left end c (key ≡ key_held form (tree_held form b) level c) now to.records fault
        → RefusesRow form b (RefusesBelow form b level (min_records form level)) level n last 0 (children form b n) before seen noted fault
    unfolding RefusesRow
    child_refused fault used refused =
        let row = next_dropped (children form b n) k c within nth in
        let least_as = subst (λ (m : ℕ). RefusesBelow form b level m left end c (key ≡ key_held form (tree_held form b) level c) now to.records fault) next.least_is refused in
        let end_as = subst (λ (test : Bool). RefusesBelow form b level (min_records form level) left test c (key ≡ key_held form (tree_held form b) level c) now to.records fault)
        (sym end_same) least_as in
        let key_as = subst (λ (bytes : List ℕ). RefusesBelow form b level (min_records form level) left (is_end (drop (k + 1) (children form b n)) && last) c
        (bytes ≡ key_held form (tree_held form b) level c) now to.records fault) key_same end_as in
        to.refused fault (subst (λ (cs : List ℕ). RefusesRow form b (RefusesBelow form b level (min_records form level)) level n last k cs left now to.records fault) (sym row)
        (inr (inl (used, key_as))))

    pub child_done : (after : List ℕ) (q : Passed X L) → AreMarked now (blocks_of form b level (c ∷ [])) after
        → AreSound form b least level left end (c ∷ []) now to.records × (key ≡ key_held form (tree_held form b) level c)
        → IsPast form Notes q (to.records ++ records_of form b level (c ∷ []))
        → AreVisitedTo form Notes b level n before last seen noted (Some c) after q (k + 1)
    child_done after q marked sound past =
        visited_more form laws Notes b level n before last seen noted left now p k to c within nth (length-children form b n) after q marked
        (subst (λ (test : Bool). AreSound form b (min_records form level) level left test (c ∷ []) now to.records) (sym end_same)
        (subst (λ (m : ℕ). AreSound form b m level left end (c ∷ []) now to.records) next.least_is sound.0))
        (sym key_same ∙ sound.1 ∙ sym child_same) past

pub not_ok : {A B : Type 0} (r : Result A B) → IsErr r → IsOk r → ⊥
not_ok (Ok x) err ok = let lie : false ≡ true = err in absurd cc
not_ok (Err e) err ok = let lie : false ≡ true = ok in absurd cc
