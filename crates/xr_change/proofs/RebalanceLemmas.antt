-- A split of a child of a node, a rebalancing of two children, and a merge of two, step by step: the items are moved, and the node gets the keys.
use Rattle.std.proofs.Common.{◌≡◌, ℕ, suc, ◌+◌, ◌*◌, ◌^◌, ◌<◌, ◌≤◌, true, false, Option, Some, List, [], ◌∷◌, ◌++◌, length, map, take, drop, get_or, set, refl, sym, ap, ◌∙◌, subst, arith}
use Rattle.std.proofs.lemmas.Bool.Decides.{nat_tests}
use Rattle.std.proofs.lemmas.List.{drop-drop, get_or-set_other, length-drop, length-map, length-set}
use Rattle.std.specs.List.{insert, remove}
use Rattle.std.specs.Option.{option_to_list}
use Rattle.xr_block.specs.TimesLaws.{times_other, times_same}
use Rattle.xr_pool.specs.BitLaws.{bit_cleared, bit_cleared_other, bit_set, bit_set_other}
use Rattle.xr_pool.specs.Bits.{has_bit}
use Rattle.xr_kinds.specs.Form.{Form, IsForm}
use Rattle.xr_pool.specs.Overlay.{Blocks, block_at, free_count, is_changed, is_free, pool_size, with_given, with_taken}
use Rattle.xr_block.specs.Rows.{key_held, named_below}
use Rattle.xr_block.specs.Times.{times}
use Rattle.xr_block.specs.Tree.{IsUsed, blocks_of, site_of, tree_held}
use Rattle.xr_block.specs.TreeBlock.{Entry, Place, count_in, entries_in}
use Rattle.xr_change.proofs.RowItemLemmas.{child_at, entry_later, items_counted, items_later}
use Rattle.xr_change.proofs.ItemMoveLemmas.{not_next}
use Rattle.xr_change.proofs.SameItemLemmas.{times_rows}
use Rattle.xr_change.proofs.NodeChangeLemmas.{node_names}
use Rattle.xr_change.proofs.NodeContextLemmas.{children_around, rows_among}
use Rattle.xr_change.proofs.StepLemmas.{Edits, Has, has_count, has_edited, has_few, has_same, holds_now, keyed_is}
use Rattle.xr_change.proofs.ParentLemmas.{ArePair, IsChild, apart_from, kth_child, kth_level, kth_node, kth_pair, kth_used, pair_around}
use Rattle.xr_change.proofs.RegroupLemmas.{Moves, moves_below, moves_records, moves_takes}
use Rattle.xr_change.proofs.RowBlockLemmas.{children, holds_same, times_parts}
use Rattle.xr_change.proofs.WriteLemmas.{for_one, for_two, next_few, one_around, one_beside, set_around, set_then, taken_count, two_once, unchanged_less, unmarked_few, writes_again, written_only}
use Rattle.xr_change.specs.Regroups.{MovesItems, GivesKey, IsBetweenSiblings, Regroups, entry_for, items_held, place_named}
use Rattle.xr_change.specs.Paths.{IsChildAt, child_of, item_count, max_records}
use Rattle.xr_change.specs.Writes.{MarksAtMost, Writes, unchanged}
use Rattle.xr_block.specs.Edits.{IsNodeOf, with_key}
use Rattle.xr_block.specs.Checks.{right_in}

-- what the next edit of the node asks for
pub record IsReady {X : Type 0} (form : Form X) (a o : Blocks) (level n x : ℕ) : Type 0 where
  pub here : (n < pool_size o) × (x < pool_size o)
  pub keyed : GivesKey form level (block_at o x)
  pub count : count_in (block_at o n) ≡ length (entries_in form (block_at a n))

module _ {X : Type 0} {form : Form X} (laws : IsForm form) {a : Blocks} {level n k c : ℕ} (kth : IsChildAt form a level n k c) where
  abbrev es : List Entry
  es = entries_in form (block_at a n)

  abbrev cs : List ℕ
  cs = named_below (tree_held form a) n

  child : IsChild form a level n c
  child = kth_child form laws a level n k c kth

  abbrev place : Place
  place = place_named form a (suc level) n

  node : IsNodeOf form (site_of a) place es (block_at a n)
  node = kth_node form laws a level n k c kth

  used : IsUsed (is_free a) (pool_size a) n
  used = kth_used form laws a level n k c kth

  abbrev NodeHas : Blocks → List Entry → Type 0
  NodeHas = Has form laws a n place node

  none : Entry
  none = record { key = []; child = 0 }

  module _ {o : Blocks} {t more : ℕ} {olds news : List ℕ} (moves : Moves form a o level n k t c more olds news) where
    first_has : NodeHas o es
    first_has = has_same form laws a n place node o moves.kept

    ready : (b : Blocks) (entries : List Entry) (x : ℕ) → NodeHas b entries → length entries ≡ length es → pool_size b ≡ pool_size o → block_at b x ≡ block_at o x
        → 1 ≤ times x (c ∷ news) → IsReady form a b level n x
    ready b entries x has long pool same there = record {
      here = (omega (arith, used.below, pool, moves.same.pool), omega (arith, moves.below x there, pool, moves.same.pool));
      keyed = subst (GivesKey form level) (sym same) (moves.keyed x there);
      count = has_count form laws a n place node b entries has ∙ long;
    }

    pub first_key : IsReady form a o level n c
    first_key = ready o es c first_has refl refl refl (omega (arith, times_same c news))

    module _ {e : Blocks} (w : Writes o e (n ∷ [])) (edits : Edits form o e n (with_key k (key_held form (tree_held form o) level c))) where
      abbrev es_keyed : List Entry
      es_keyed = set es k (entry_for form o level c)

      keyed_has : NodeHas e es_keyed
      keyed_has =
          has_edited form laws a n place node o e es es_keyed (with_key k (key_held form (tree_held form o) level c)) edits first_has
          (keyed_is es k c (key_held form (tree_held form o) level c) none kth.within (child_at form a n k c none kth.within (sym kth.is)))

      pub next_key : (x : ℕ) → 1 ≤ times x (c ∷ news) → IsReady form a e level n x
      next_key x there = ready e es_keyed x keyed_has (length-set es k (entry_for form o level c)) w.same.pool (one_beside o e n w x (moves.apart x there)) there

      later : (x : ℕ) → 1 ≤ times x (c ∷ news) → entry_for form e level x ≡ entry_for form o level x
      later x there = sym (entry_later form o e level x (one_beside o e n w x (moves.apart x there)))

      module _ {z : Blocks} (v : Writes e z (n ∷ [])) where
        over : Writes o z (n ∷ [])
        over = writes_again o e z (n ∷ []) w n v (omega (arith, times_same n []))

        changed_now : (x : ℕ) → 1 ≤ times x (c ∷ news) → is_changed z x ≡ true
        changed_now x there = over.marks.stay x (moves.changed x there)

        -- the node was edited once more
        module _ (edit : List Entry → List Entry) (edited : Edits form e z n edit) (is : edit es_keyed ≡ take k es ++ (map (entry_for form o level) (c ∷ news) ++ drop t es)) where
          regrouped : Regroups form a z level n k t (c ∷ olds) (c ∷ news)
          regrouped =
              let at = kth.here in
              let left : List ℕ = children form a at.pre ++ take k cs in
              let right : List ℕ = drop t cs ++ children form a at.post in
              let rows = rows_among form a n (take k cs) (c ∷ olds) (drop t cs) moves.around at.pre at.post at.least level at.rows in
              let takes = moves_takes laws kth.known moves left right rows in
              let next : List Entry = take k es ++ (map (entry_for form o level) (c ∷ news) ++ drop t es) in
              let has = has_edited form laws a n place node e z es_keyed next edit edited keyed_has is in
              let only = written_only o z n over in
              record {
                children = moves.around;
                between = o;
                takes = takes;
                naming = node_names form a o level n k t (c ∷ olds) (c ∷ news) moves.around takes at.least at.pre at.post at.rows z only
                    (holds_now form laws a n place node z next has) (has_few form laws a n place node z next has);
                items = items_later form a o z level (c ∷ olds) (c ∷ news) moves.items (λ m there. (only.others m (moves.apart m there)).bytes);
                records = moves_records laws kth.known moves left right rows;
                below = λ m some.
                    holds_same form a z m ((only.others m (apart_from form laws a level n k c kth m (omega (
                      arith,
                      some,
                      ap (λ (ms : List ℕ). times m (blocks_of form a level ms)) (children_around form a n (take k cs) (c ∷ olds) (drop t cs) moves.around at.pre at.post),
                      times_parts form a m level left (c ∷ olds) right,
                      times_rows form a m level (c ∷ olds),
                    )))).bytes ∙ moves_below laws kth.known moves left right rows m some);
                spare = λ m free out. only.free m ∙ grind (arith, free, out, moves.free m, moves.freed m);
              }

          -- all that is promised of c and of the node
          made : Regroups form a z level n k t (child_of form a n k ∷ olds) (child_of form a n k ∷ news) × MarksAtMost a z (unchanged a n + more)
              × (is_changed z n ≡ true) × (is_changed z (child_of form a n k) ≡ true)
          made = (
            subst (λ (x : ℕ). Regroups form a z level n k t (x ∷ olds) (x ∷ news)) kth.is regrouped,
            record {
              stay = λ m is. over.marks.stay m (moves.marks.stay m is);
              few = omega (arith, moves.marks.few, over.marks.few, unchanged_less (is_changed a n) (is_changed o n) (moves.marks.stay n));
            },
            over.changed n (omega (arith, times_same n [])),
            subst (λ (x : ℕ). is_changed z x ≡ true) kth.is (changed_now c (omega (arith, times_same c news))),
          )

  -- a split, for which a block is taken
  module _ {m : ℕ} (range : (1 ≤ m) × (m < pool_size a)) (spare : is_free a m ≡ true) {t : Blocks} (taken : t ≡ with_taken a m) where
    abbrev next : Option ℕ
    next = right_in form (block_at a c)

    -- a block that is used isn't the one that is taken
    not_spare : (x : ℕ) → is_free a x ≡ false → x ≡ m → ⊥
    not_spare x full same = absurd (let lie : true ≡ false = sym spare ∙ ap (is_free a) (sym same) ∙ full in cc (lie))

    -- what the dealing of the items asks for
    abbrev IsSplit : Blocks → Type 0
    IsSplit x = (level < 2 ^ 16) × IsBetweenSiblings form x level c × (item_count form x level c ≡ max_records form level) × (m < pool_size x)
        × (c ≡ m → ⊥) × ((q : ℕ) → right_in form (block_at x c) ≡ Some q → q ≡ m → ⊥)

    pub split_ready : item_count form a level (child_of form a n k) ≡ max_records form level → IsSplit t
    split_ready full =
        let placed = child.placed in
        let zero_filled : item_count form (with_taken a m) level c ≡ max_records form level =
        items_counted form (with_taken a m) level c ∙ sym (items_counted form a level c) ∙ ap (item_count form a level) kth.is ∙ full in
        subst IsSplit (sym taken) (
          kth_level form laws a level n k c kth,
          assumption placed,
          zero_filled,
          range.1,
          not_spare c child.used.taken,
          λ q right. not_spare q (child.next_used q right).taken,
        )

    module _ {b : Blocks} (moved : MovesItems form t b level (c ∷ []) (c ∷ m ∷ []) (c ∷ m ∷ option_to_list (right_in form (block_at t c))) c m) where
      s : MovesItems form (with_taken a m) b level (c ∷ []) (c ∷ m ∷ []) (c ∷ m ∷ option_to_list next) c m
      s = subst (λ (x : Blocks). MovesItems form x b level (c ∷ []) (c ∷ m ∷ []) (c ∷ m ∷ option_to_list (right_in form (block_at x c))) c m) taken moved

      node_apart : m ≡ n → ⊥
      node_apart same = not_spare n used.taken (sym same)

      room : m < 8 * length a.free
      room = omega (arith, range.1, kth.known.all.map_room)

      free_now : (x : ℕ) → (x ≡ m → ⊥) → is_free b x ≡ is_free a x
      free_now x other = ap (λ (bits : List ℕ). has_bit bits x) s.writes.free ∙ bit_cleared_other a.free m x room other

      pub split_moves : Moves form a b level n k (k + 1) c 3 [] (m ∷ [])
      split_moves = record {
        last = c;
        last' = m;
        same = assumption (s.writes.same);
        last_is = refl;
        last_now = refl;
        linked = s.linked;
        items = s.items;
        next = s.next;
        others = λ x was is beside.
            let still = s.writes.others x (omega (arith, is, not_next x next (λ q right same. beside (right ∙ ap Some same)))) in
            record { bytes = still.bytes; mark = still.mark };
        once = two_once c m (not_spare c child.used.taken);
        taken = for_two (λ (x : ℕ). times x (c ∷ []) ≡ 0 → (is_free a x ≡ true) × (1 ≤ x) × (x < pool_size a)) c m
            (λ lie. absurd (omega (arith, lie, times_same c []))) (λ only. (spare, range.0, range.1));
        used = for_two (λ (x : ℕ). is_free b x ≡ false) c m (free_now c (not_spare c child.used.taken) ∙ child.used.taken)
            (ap (λ (bits : List ℕ). has_bit bits m) s.writes.free ∙ bit_cleared a.free m room);
        freed = λ x some lie. absurd (omega (arith, some, lie));
        free = λ x was is. free_now x (λ same. grind (arith, nat_tests, is, same));
        around = rw (let e : k + 1 ≡ suc k = omega arith in e) (one_around cs k c (omega (arith, kth.within, length-map es (λ (x : Entry). x.child))) (sym kth.is));
        kept = (s.writes.others n (times_other n c (m ∷ option_to_list next) child.apart ∙ times_other n m (option_to_list next) node_apart
            ∙ not_next n next (λ q right. child.next_apart q right))).bytes;
        apart = for_two (λ (x : ℕ). x ≡ n → ⊥) c m child.apart node_apart;
        below = for_two (λ (x : ℕ). x < pool_size a) c m child.used.below range.1;
        keyed = s.keyed;
        changed = λ x some. s.writes.changed x (omega (arith, some));
        marks = record { stay = s.writes.marks.stay; few = omega (arith, s.writes.marks.few, unmarked_few a (c ∷ m ∷ option_to_list next), next_few next) };
      }

      pub split_made : {e z : Blocks} (w : Writes b e (n ∷ [])) → Edits form b e n (with_key k (key_held form (tree_held form b) level c)) → (v : Writes e z (n ∷ []))
          → Edits form e z n (λ (entries : List Entry). insert entries (k + 1) (entry_for form e level m))
          → (let x = child_of form a n k in Regroups form a z level n k (k + 1) (x ∷ []) (x ∷ m ∷ []) × (free_count a ≡ free_count z + 1)
          × MarksAtMost a z (unchanged a n + 3) × ((is_changed z n ≡ true) × (is_changed z x ≡ true) × (is_changed z m ≡ true)))
      split_made {e = e} {z = z} w edits v puts =
          let there : 1 ≤ times m (c ∷ m ∷ []) = omega (arith, times_same m []) in
          let place : k + 1 ≡ suc k = omega arith in
          let put : List Entry → ℕ → List Entry = λ entries i. insert entries i (entry_for form b level m) in
          let all = made split_moves w edits v (λ (entries : List Entry). insert entries (k + 1) (entry_for form e level m)) puts
          (rw (place, later split_moves w edits m there) (set_then put (λ z zs i. refl) es k (entry_for form b level c) kth.within)) in
          let whole = over split_moves w edits v in (
            all.0,
            taken_count a z m kth.known.all range.0 range.1 spare (whole.same.pool ∙ s.writes.same.pool) (whole.free ∙ s.writes.free),
            all.1,
            (all.2, all.3, changed_now split_moves w edits v m there),
          )

  -- two siblings
  module _ {d : ℕ} (kth_next : IsChildAt form a level n (k + 1) d) where
    pair : ArePair form a level n c d
    pair = kth_pair form laws a level n k c d kth kth_next

    abbrev after : Option ℕ
    after = right_in form (block_at a d)

    next_place : k + 1 ≡ suc k
    next_place = omega arith

    after_both : drop 1 (drop (suc k) es) ≡ drop (k + 2) es
    after_both = drop-drop 1 (suc k) es ∙ ap (λ (i : ℕ). drop i es) (let e : suc k + 1 ≡ k + 2 = omega arith in e)

    within : suc k < length es
    within = omega (arith, kth_next.within)

    -- what the dealing of the items asks for
    pub pair_ready : (level < 2 ^ 16) × (IsBetweenSiblings form a level c × IsBetweenSiblings form a level d) × (c ≡ d → ⊥) × ((q : ℕ) → right_in form (block_at a d) ≡ Some q → q ≡ c → ⊥)
    pair_ready = (
      kth_level form laws a level n k c kth,
      (pair.first.placed, pair.second.placed),
      pair.apart,
      pair.next_apart,
    )

    module _ {b : Blocks} (s : MovesItems form a b level (c ∷ d ∷ []) (c ∷ d ∷ []) (c ∷ d ∷ []) d d) where
      pub rebalance_moves : Moves form a b level n k (k + 2) c 2 (d ∷ []) (d ∷ [])
      rebalance_moves = let free_same = λ (x : ℕ). ap (λ (bits : List ℕ). has_bit bits x) s.writes.free in record {
        last = d;
        last' = d;
        same = s.writes.same;
        last_is = refl;
        last_now = refl;
        linked = s.linked;
        items = s.items;
        next = s.next;
        others = λ x was is beside. s.writes.others x is;
        once = two_once c d pair.apart;
        taken = λ x some lie. absurd (omega (arith, some, lie));
        used = for_two (λ (x : ℕ). is_free b x ≡ false) c d (free_same c ∙ pair.first.used.taken) (free_same d ∙ pair.second.used.taken);
        freed = λ x some lie. absurd (omega (arith, some, lie));
        free = λ x was is. free_same x;
        around = pair_around form laws a level n k c d kth kth_next;
        kept = (s.writes.others n (times_other n c (d ∷ []) pair.first.apart ∙ times_other n d [] pair.second.apart)).bytes;
        apart = for_two (λ (x : ℕ). x ≡ n → ⊥) c d pair.first.apart pair.second.apart;
        below = for_two (λ (x : ℕ). x < pool_size a) c d pair.first.used.below pair.second.used.below;
        keyed = s.keyed;
        changed = s.writes.changed;
        marks = record { stay = s.writes.marks.stay; few = omega (arith, s.writes.marks.few, unmarked_few a (c ∷ d ∷ [])) };
      }

      pub rebalance_made : {e z : Blocks} (w : Writes b e (n ∷ [])) → Edits form b e n (with_key k (key_held form (tree_held form b) level c)) → (v : Writes e z (n ∷ []))
          → Edits form e z n (with_key (k + 1) (key_held form (tree_held form e) level d)) → (count : ℕ) → item_count form b level c ≡ count
          → (let x = child_of form a n k in let y = child_of form a n (k + 1) in Regroups form a z level n k (k + 2) (x ∷ y ∷ []) (x ∷ y ∷ []) × (item_count form z level x ≡ count)
          × MarksAtMost a z (unchanged a n + 2) × ((is_changed z n ≡ true) × (is_changed z x ≡ true) × (is_changed z y ≡ true)))
      rebalance_made {e = e} {z = z} w edits v again count counted =
          let there : 1 ≤ times d (c ∷ d ∷ []) = omega (arith, times_same d []) in
          let first : Entry = entry_for form b level c in
          let second : Entry = entry_for form b level d in
          let child_next : (get_or (set es k first) (k + 1) none).child ≡ d =
          ap (λ (entry : Entry). entry.child) (get_or-set_other es k (k + 1) first none (omega arith)) ∙ child_at form a n (k + 1) d none kth_next.within (sym kth_next.is) in
          let all = made rebalance_moves w edits v (with_key (k + 1) (key_held form (tree_held form e) level d)) again
          (keyed_is (set es k first) (k + 1) d (key_held form (tree_held form e) level d) none (omega (arith, kth_next.within, length-set es k first)) child_next
          ∙ rw (next_place, later rebalance_moves w edits d there) (set_then (λ (entries : List Entry) (i : ℕ). set entries i second) (λ z zs i. refl) es k first kth.within
          ∙ ap (λ (rest : List Entry). take k es ++ first ∷ rest) (set_around (drop (suc k) es) 0 second (omega (arith, within, length-drop (suc k) es)) ∙ rw after_both refl))) in
          let same : item_count form z level c ≡ count =
          items_counted form z level c ∙ ap (λ (bytes : List ℕ). length (items_held form level bytes)) (one_beside b z n (over rebalance_moves w edits v) c pair.first.apart)
          ∙ sym (items_counted form b level c) ∙ counted in (
            subst (λ (y : ℕ). Regroups form a z level n k (k + 2) (child_of form a n k ∷ y ∷ []) (child_of form a n k ∷ y ∷ [])) kth_next.is all.0,
            subst (λ (x : ℕ). item_count form z level x ≡ count) kth.is same,
            all.1,
            (all.2, all.3, subst (λ (y : ℕ). is_changed z y ≡ true) kth_next.is (changed_now rebalance_moves w edits v d there)),
          )

    module _ {b : Blocks} (s : MovesItems form a b level (c ∷ d ∷ []) (c ∷ []) (c ∷ option_to_list after) d c) where
      pub merge_below : d < pool_size b
      merge_below = omega (arith, pair.second.used.below, s.writes.same.pool)

      merge_room : d < 8 * length b.free
      merge_room = omega (arith, pair.second.used.below, kth.known.all.map_room, ap length s.writes.free)

      merge_free : (x : ℕ) → (x ≡ d → ⊥) → is_free (with_given b d) x ≡ is_free a x
      merge_free x other = bit_set_other b.free d x merge_room other ∙ ap (λ (bits : List ℕ). has_bit bits x) s.writes.free

      pub merge_moves : {o : Blocks} → o ≡ with_given b d → Moves form a o level n k (k + 2) c 3 (d ∷ []) []
      merge_moves given = subst (λ (x : Blocks). Moves form a x level n k (k + 2) c 3 (d ∷ []) []) (sym given) (record {
        last = d;
        last' = c;
        same = assumption (s.writes.same);
        last_is = refl;
        last_now = refl;
        linked = s.linked;
        items = s.items;
        next = s.next;
        others = λ x was is beside.
            let still = s.writes.others x (omega (arith, is, not_next x after (λ q right same. beside (right ∙ ap Some same)))) in
            record { bytes = still.bytes; mark = still.mark };
        once = λ x. omega (arith, two_once c d pair.apart x);
        taken = λ x some out. absurd (omega (arith, some, out));
        used = for_one (λ (x : ℕ). is_free (with_given b d) x ≡ false) c (merge_free c pair.apart ∙ pair.first.used.taken);
        freed = for_two (λ (x : ℕ). times x (c ∷ []) ≡ 0 → is_free (with_given b d) x ≡ true) c d (λ lie. absurd (omega (arith, lie, times_same c []))) (λ gone. bit_set b.free d merge_room);
        free = λ x was is. merge_free x (λ same. grind (arith, nat_tests, was, same));
        around = pair_around form laws a level n k c d kth kth_next;
        kept = (s.writes.others n (times_other n c (option_to_list after) pair.first.apart ∙ not_next n after (λ q right. pair.second.next_apart q right))).bytes;
        apart = for_one (λ (x : ℕ). x ≡ n → ⊥) c pair.first.apart;
        below = for_one (λ (x : ℕ). x < pool_size a) c pair.first.used.below;
        keyed = s.keyed;
        changed = λ x some. s.writes.changed x (omega (arith, some));
        marks = record { stay = s.writes.marks.stay; few = omega (arith, s.writes.marks.few, unmarked_few a (c ∷ option_to_list after), next_few after) };
      })

    pub merge_made : {o e z : Blocks} (moves : Moves form a o level n k (k + 2) c 3 (d ∷ []) []) (w : Writes o e (n ∷ []))
        → Edits form o e n (with_key k (key_held form (tree_held form o) level c)) → Writes e z (n ∷ []) → Edits form e z n (λ (entries : List Entry). remove entries (k + 1))
        → (let x = child_of form a n k in Regroups form a z level n k (k + 2) (x ∷ child_of form a n (k + 1) ∷ []) (x ∷ [])
        × MarksAtMost a z (unchanged a n + 3) × ((is_changed z n ≡ true) × (is_changed z x ≡ true)))
    merge_made {o = o} {z = z} moves w edits v cuts =
        let all = made moves w edits v (λ (entries : List Entry). remove entries (k + 1)) cuts
        (rw next_place (set_then remove (λ z zs i. refl) es k (entry_for form o level c) kth.within ∙ rw (after_both) refl)) in (
          subst (λ (y : ℕ). Regroups form a z level n k (k + 2) (child_of form a n k ∷ y ∷ []) (child_of form a n k ∷ [])) kth_next.is all.0,
          all.1,
          (all.2, all.3),
        )
