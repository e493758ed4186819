-- The children of a node, visited one after the other.
use Rattle.std.proofs.Common.{◌≡◌, ℕ, zero, suc, ◌+◌, ◌<◌, ◌≤◌, ◌==◌, ◌&&◌, Bool, Option, Some, List, [], ◌∷◌, ◌++◌, length, drop, get_or, refl, sym, ap, ◌∙◌, subst, arith, inr, ⊎_elim}
use Rattle.std.proofs.lemmas.Bool.{cases_eq, eq-eqb, ne_eqb}
use Rattle.std.proofs.lemmas.List.{append-nil, append_assoc, drop_all, length-drop}
use Rattle.std.specs.List.{flat_map}
use Rattle.xr_block.specs.declared.fault.TreeFault.{TreeFault}
use Rattle.xr_verify.specs.declared.passed.Passed.{Passed}
use Rattle.xr_verify.specs.Refusals.{RefusesBelow, RefusesRow}
use Rattle.xr_pool.specs.Bits.{has_bit}
use Rattle.xr_kinds.specs.Form.{Form, IsForm}
use Rattle.xr_block.specs.NodeEntries.{child_in, key_in}
use Rattle.xr_pool.specs.Overlay.{Blocks, block_at, is_free, pool_size}
use Rattle.xr_verify.specs.Passed.{IsPast}
use Rattle.xr_block.specs.Rows.{min_records, key_held, leaves_from, rows_from}
use Rattle.xr_block.specs.Tree.{AreRecords, IsUsed, blocks_of, records_of, tree_held}
use Rattle.xr_block.specs.TreeBlock.{count_in}
use Rattle.xr_verify.specs.Visits.{AreMarked, AreNamedFrom, AreSound, AreTrees, AreVisited, children, is_end, last_below, mark}
use Rattle.xr_verify.proofs.PassLemmas.{next_dropped}
use Rattle.xr_verify.proofs.SoundnessLemmas.{one_at_most, sound_front, sound_apart, sound_joined}
use Rattle.xr_verify.proofs.VisitLemmas.{child_is, min_records_fit, records_append, times_blocks}
use Rattle.xr_block.specs.Times.{times}

pub records_of_past : {X L : Type 0} (form : Form X) (Notes : L → List X → Type 0) (p : Passed X L) (noted : List X) → IsPast form Notes p noted → AreRecords form noted
records_of_past form Notes p noted past = record {
  valid = past.are_noted.records.valid;
  ascend = past.are_noted.records.ascend;
  agree = past.are_noted.records.agree;
  few = omega (arith, past.room_is);
}

is_end-long : (xs : List ℕ) (n m : ℕ) → length xs + n ≡ m → is_end xs ≡ (n == m)
is_end-long [] n m sum = sym (eq-eqb n m (omega (arith, sum)))
is_end-long (x ∷ xs) n m sum = sym (ne_eqb n m (λ same. absurd (omega (arith, sum, same))))

pub is_end-dropped : (xs : List ℕ) (k count : ℕ) → length xs ≡ count → k < count → is_end (drop (k + 1) xs) ≡ (k + 1 == count)
is_end-dropped xs k count long within = is_end-long (drop (k + 1) xs) (k + 1) count (omega (arith, long, within, length-drop (k + 1) xs))

module _ {X : Type 0} (form : Form X) (b : Blocks) where
  trees_none : (least level : ℕ) (left : Option ℕ) (last : Bool) → AreTrees form b least level left last []
  unfolding AreTrees AreVisited
  trees_none least zero left last = tt
  trees_none least (suc level) left last = (tt, trees_none (min_records form level) level (last_below form b left) last)

  pub blocks_none : (level : ℕ) → blocks_of form b level [] ≡ []
  unfolding rows_from
  blocks_none zero = refl
  blocks_none (suc level) = blocks_none level

  leaves_none : (level : ℕ) → leaves_from (tree_held form b) level [] ≡ []
  unfolding leaves_from
  leaves_none zero = refl
  leaves_none (suc level) = leaves_none level

  pub records_none : (level : ℕ) → records_of form b level [] ≡ []
  records_none level = ap (λ (row : List ℕ). flat_map (tree_held form b).records row) (leaves_none level)

  pub sound_none : (least level : ℕ) (left : Option ℕ) (last : Bool) (seen : List ℕ) (noted : List X) → AreRecords form noted
      → AreSound form b least level left last [] seen noted
  sound_none least level left last seen noted records = record {
    trees = trees_none least level left last;
    fresh = λ n. subst (λ (blocks : List ℕ). times n blocks + mark seen n ≤ 1) (sym (blocks_none level)) (omega (arith, one_at_most (has_bit seen n)));
    records = subst (AreRecords form) (sym (ap (λ (rs : List X). noted ++ rs) (records_none level) ∙ append-nil noted)) records;
  }

  pub first_alone : (laws : IsForm form) (level : ℕ) (left : Option ℕ) (last : Bool) (c : ℕ) (rest seen : List ℕ) (noted : List X)
      → AreSound form b (min_records form level) level left last (c ∷ rest) seen noted → AreSound form b (min_records form level) level left (is_end rest && last) (c ∷ []) seen noted
  first_alone laws level left last c [] seen noted sound = sound
  first_alone laws level left last c (r ∷ rs) seen noted sound =
      sound_front form laws b (min_records form level) level left last (c ∷ []) (r ∷ rs) seen noted (min_records_fit form laws level) refl sound

  -- a sound block is one of the pool
  pub sound_used : (least level : ℕ) (left : Option ℕ) (last : Bool) (c : ℕ) (seen : List ℕ) (noted : List X)
      → AreSound form b least level left last (c ∷ []) seen noted → IsUsed (is_free b) (pool_size b) c
  unfolding AreTrees AreVisited
  sound_used least zero left last c seen noted sound = sound.trees.0.used
  sound_used least (suc level) left last c seen noted sound = sound.trees.0.0.used

  module _ (laws : IsForm form) (level : ℕ) (left : Option ℕ) (last : Bool) (c : ℕ) (seen now : List ℕ) (noted : List X) (marked : AreMarked seen (blocks_of form b level (c ∷ [])) now) where
    -- the first of some trees, and the others
    pub first_apart : (rest : List ℕ) → AreSound form b (min_records form level) level left last (c ∷ rest) seen noted
        → AreSound form b (min_records form level) level left (is_end rest && last) (c ∷ []) seen noted
        × AreSound form b (min_records form level) level (Some c) last rest now (noted ++ records_of form b level (c ∷ []))
    first_apart [] sound = (sound, sound_none (min_records form level) level (Some c) last now (noted ++ records_of form b level (c ∷ [])) sound.records)
    first_apart (r ∷ rs) sound = sound_apart form laws b (min_records form level) level left last (c ∷ []) (r ∷ rs) seen now noted (min_records_fit form laws level) refl marked sound

    pub first_joined : (rest : List ℕ) → AreSound form b (min_records form level) level left (is_end rest && last) (c ∷ []) seen noted
        → AreSound form b (min_records form level) level (Some c) last rest now (noted ++ records_of form b level (c ∷ []))
        → AreSound form b (min_records form level) level left last (c ∷ rest) seen noted
    first_joined [] first others = first
    first_joined (r ∷ rs) first others =
        sound_joined form laws b (min_records form level) level left last (c ∷ []) (r ∷ rs) seen now noted (min_records_fit form laws level) refl marked first others

-- a later child is refused after the first one
row_after : {X : Type 0} (form : Form X) (b : Blocks) (RefusesChild : Option ℕ → Bool → ℕ → Type 0 → List ℕ → List X → TreeFault → Type 0) (level n : ℕ) (last : Bool)
    (k c : ℕ) (cs : List ℕ) (left : Option ℕ) (seen now : List ℕ) (noted : List X) (fault : TreeFault)
    → AreSound form b (min_records form level) level left (is_end cs && last) (c ∷ []) seen noted
    → key_in form k (block_at b n) ≡ key_held form (tree_held form b) level c → AreMarked seen (blocks_of form b level (c ∷ [])) now
    → RefusesRow form b RefusesChild level n last (k + 1) cs (Some c) now (noted ++ records_of form b level (c ∷ [])) fault
    → RefusesRow form b RefusesChild level n last k (c ∷ cs) left seen noted fault
unfolding RefusesRow
row_after form b RefusesChild level n last k c cs left seen now noted fault sound named marked row = inr (inr (sound, named, (now, marked, row)))

-- where the first k children of a node are visited: what is asked of all is asked of those that are left, after some records
pub record AreVisitedTo {X L : Type 0} (form : Form X) (Notes : L → List X → Type 0) (b : Blocks) (level n : ℕ) (before : Option ℕ) (last : Bool) (seen : List ℕ) (noted : List X) (left : Option ℕ) (now : List ℕ) (p : Passed X L) (k : ℕ) : Type 0 where
  pub records : List X
  pub past : IsPast form Notes p records
  pub rest : AreSound form b (min_records form level) level before last (children form b n) seen noted → AreNamedFrom form b level n 0
      → AreSound form b (min_records form level) level left last (drop k (children form b n)) now records × AreNamedFrom form b level n k
  pub all : AreSound form b (min_records form level) level left last (drop k (children form b n)) now records → AreNamedFrom form b level n k
      → AreSound form b (min_records form level) level before last (children form b n) seen noted × AreNamedFrom form b level n 0
  pub same : records ++ records_of form b level (drop k (children form b n)) ≡ noted ++ records_of form b level (children form b n)
  pub refused : (fault : TreeFault) → RefusesRow form b (RefusesBelow form b level (min_records form level)) level n last k (drop k (children form b n)) left now records fault
      → RefusesRow form b (RefusesBelow form b level (min_records form level)) level n last 0 (children form b n) before seen noted fault

-- and the marks
pub record AreMarkedTo {X : Type 0} (form : Form X) (b : Blocks) (level n : ℕ) (seen now : List ℕ) (k : ℕ) : Type 0 where
  pub long : length now ≡ length seen
  pub marks : (m : ℕ) → mark now m + times m (blocks_of form b level (drop k (children form b n)))
      ≡ mark seen m + times m (blocks_of form b level (children form b n))

module _ {X L : Type 0} (form : Form X) (laws : IsForm form) (Notes : L → List X → Type 0) (b : Blocks) (level n : ℕ) (before : Option ℕ) (last : Bool) (seen : List ℕ) (noted : List X) (left : Option ℕ) (now : List ℕ) (p : Passed X L) (k : ℕ) (to : AreVisitedTo form Notes b level n before last seen noted left now p k) where
  -- at the end
  pub visited_all : length (children form b n) ≤ k → count_in (block_at b n) ≤ k
      → (AreSound form b (min_records form level) level before last (children form b n) seen noted × AreNamedFrom form b level n 0)
      × IsPast form Notes p (noted ++ records_of form b level (children form b n))
  visited_all past few =
      let none : drop k (children form b n) ≡ [] = drop_all k (children form b n) past in
      let sound = sound_none form b (min_records form level) level left last now to.records (records_of_past form Notes p to.records to.past) in
      let records : to.records ≡ noted ++ records_of form b level (children form b n) =
      sym (append-nil to.records) ∙ ap (λ (rs : List X). to.records ++ rs) (sym (records_none form b level))
      ∙ ap (λ (row : List ℕ). to.records ++ records_of form b level row) (sym none) ∙ to.same in (
        to.all (subst (λ (row : List ℕ). AreSound form b (min_records form level) level left last row now to.records) (sym none) sound)
            (λ i from within. absurd (omega (arith, from, within, few))),
        subst (IsPast form Notes p) records to.past,
      )

  module _ (c : ℕ) (within : k < length (children form b n)) (is : (d : ℕ) → c ≡ get_or (children form b n) k d) (counted : length (children form b n) ≡ count_in (block_at b n)) where
    next : drop k (children form b n) ≡ c ∷ drop (k + 1) (children form b n)
    next = next_dropped (children form b n) k c within is

    -- the next child is sound, and has its key
    pub next_sound : AreSound form b (min_records form level) level before last (children form b n) seen noted → AreNamedFrom form b level n 0
        → AreSound form b (min_records form level) level left (is_end (drop (k + 1) (children form b n)) && last) (c ∷ []) now to.records
        × (key_in form k (block_at b n) ≡ key_held form (tree_held form b) level (child_in form k (block_at b n)))
    next_sound sound named =
        let rest = to.rest sound named in
        let row = subst (λ (row : List ℕ). AreSound form b (min_records form level) level left last row now to.records) next rest.0 in
        (first_alone form b laws level left last c (drop (k + 1) (children form b n)) now to.records row, rest.1 k (omega arith) (omega (arith, within, counted)))

    -- and where it is, the first k + 1 are visited
    pub visited_more : (after : List ℕ) (q : Passed X L) → AreMarked now (blocks_of form b level (c ∷ [])) after
        → AreSound form b (min_records form level) level left (is_end (drop (k + 1) (children form b n)) && last) (c ∷ []) now to.records
        → key_in form k (block_at b n) ≡ key_held form (tree_held form b) level (child_in form k (block_at b n))
        → IsPast form Notes q (to.records ++ records_of form b level (c ∷ []))
        → AreVisitedTo form Notes b level n before last seen noted (Some c) after q (k + 1)
    visited_more after q marked first named past =
        let others : List ℕ = drop (k + 1) (children form b n) in
        let own : List X = records_of form b level (c ∷ []) in
        record {
          records = to.records ++ own;
          past = past;
          rest = λ sound names.
              let rest = to.rest sound names in
              let row = subst (λ (row : List ℕ). AreSound form b (min_records form level) level left last row now to.records) next rest.0 in
              ((first_apart form b laws level left last c now after to.records marked others row).1, λ i from under. rest.1 i (omega (arith, from)) under);
          all = λ sound names.
              to.all (subst (λ (row : List ℕ). AreSound form b (min_records form level) level left last row now to.records) (sym next)
              (first_joined form b laws level left last c now after to.records marked others first sound))
              (λ i from under. ⊎_elim
              (λ (same : i ≡ k).
              subst (λ (j : ℕ). key_in form j (block_at b n) ≡ key_held form (tree_held form b) level (child_in form j (block_at b n))) (sym same) named)
              (λ (other : i ≡ k → ⊥). names i (omega (arith, from, other)) under)
              (cases_eq i k));
          same = append_assoc to.records own (records_of form b level others)
              ∙ ap (λ (rs : List X). to.records ++ rs) (sym (records_append form b level (c ∷ []) others))
              ∙ ap (λ (row : List ℕ). to.records ++ records_of form b level row) (sym next) ∙ to.same;
          refused = λ fault row.
              let child : c ≡ child_in form k (block_at b n) = is 0 ∙ child_is form b n k 0 (omega (arith, within, counted)) in
              to.refused fault (subst (λ (cs : List ℕ). RefusesRow form b (RefusesBelow form b level (min_records form level)) level n last k cs left now to.records fault) (sym next)
              (row_after form b (RefusesBelow form b level (min_records form level)) level n last k c others left now after to.records fault first
              (named ∙ ap (key_held form (tree_held form b) level) (sym child)) marked row));
        }

pub marked_more : {X : Type 0} (form : Form X) (b : Blocks) (level n : ℕ) (seen now after : List ℕ) (k c : ℕ) → k < length (children form b n)
    → ((d : ℕ) → c ≡ get_or (children form b n) k d) → AreMarkedTo form b level n seen now k → AreMarked now (blocks_of form b level (c ∷ [])) after
    → AreMarkedTo form b level n seen after (k + 1)
marked_more form b level n seen now after k c within is sofar marked =
    let others : List ℕ = drop (k + 1) (children form b n) in
    record {
      long = marked.long ∙ sofar.long;
      marks = λ m.
          let split : times m (blocks_of form b level (drop k (children form b n)))
          ≡ times m (blocks_of form b level (c ∷ [])) + times m (blocks_of form b level others) =
          ap (λ (row : List ℕ). times m (blocks_of form b level row)) (next_dropped (children form b n) k c within is)
          ∙ times_blocks form b m level (c ∷ []) others in
          omega (arith, split, sofar.marks m, marked.marks m);
    }

-- all are marked
pub marked_all : {X : Type 0} (form : Form X) (b : Blocks) (level n : ℕ) (seen now : List ℕ) (k : ℕ) → length (children form b n) ≤ k
    → AreMarkedTo form b level n seen now k → AreMarked seen (blocks_of form b level (children form b n)) now
marked_all form b level n seen now k past sofar = record {
  long = sofar.long;
  marks = λ m.
      let none : times m (blocks_of form b level (drop k (children form b n))) ≡ 0 =
      ap (λ (row : List ℕ). times m (blocks_of form b level row)) (drop_all k (children form b n) past) ∙ ap (times m) (blocks_none form b level) in
      omega (arith, none, sofar.marks m);
}
