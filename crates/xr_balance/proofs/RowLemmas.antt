-- The rows of the events are chains, and those of steps do to pairs what they do to maps.
use Rattle.std.proofs.Common.{◌≡◌, ℕ, ◌+◌, ◌<◌, ◌≤◌, List, [], ◌∷◌, cond, eqb, arith, refl, ap, true, false, Bool, ⊎_elim, ◌⊎◌, inl, inr, sym, Option, Some, None}
use Rattle.std.specs.Prelude.{sum_by, ◌||◌}
use Rattle.std.proofs.lemmas.Bool.{cases_eq, eq-eqb, ne_eqb}
use Rattle.xr_base.specs.declared.address.Run.{Run}
use Rattle.xr_base.specs.declared.address.FileNo.{FileNo}
use Rattle.xr_maps.specs.Steps.{is_within}
use Rattle.xr_base.specs.declared.geometry.TheConstants.{OWN_COW}
use Rattle.xr_items.specs.declared.work.Work.{Work}
use Rattle.xr_items.specs.declared.work.Work.TheVariants.{Free, Own, Count, Map, Swap}
use Rattle.xr_items.specs.declared.work.OwnKind.TheVariants as Owning
use Rattle.xr_items.specs.declared.work.CountKind.TheVariants.{Increase, Decrease, AllocCow, FreeCow}
use Rattle.xr_items.specs.declared.work.MapKind.TheVariants as Mapping
use Rattle.xr_maps.specs.Holdings.{in_layout, in_run, one_if}
use Rattle.xr_balance.proofs.StepPremises.{IsStepRow}
use Rattle.xr_balance.specs.Chains.{GoesBefore, IsChain, answering, disowning, exchanging, lowering, unstaging_pair}
use Rattle.xr_balance.specs.Rows.{RowsAreChains, works_of_fresh, works_of_punch, works_of_share}
use Rattle.xr_balance.specs.Works.{freed, in_offsets, mapping_at, naming_file, unmapping_at, unstaging}
use Rattle.xr_balance.proofs.SumLemmas.{at_most_one}
use Rattle.xr_balance.proofs.OrderLemmas.{order-none, order-cons}

pub owner_same : (a f : ℕ) → eqb (128 + a) (128 + f) ≡ eqb a f
owner_same a f = ⊎_elim
    (λ e. rw (eq-eqb a f e, eq-eqb (128 + a) (128 + f) (omega (arith, e))) refl)
    (λ ne. rw (ne_eqb a f ne, ne_eqb (128 + a) (128 + f) (λ h. ne (omega (arith, h)))) refl)
    (cases_eq a f)

once_at : (s t : Bool) → cond s (one_if t) 0 ≤ 1
once_at true t = at_most_one t
once_at false t = omega arith

same_at : (a f n : ℕ) → cond (eqb (128 + a) (128 + f)) n 0 ≡ cond (eqb a f) n 0
same_at a f n = ap (λ t. cond t n 0) (owner_same a f)

pub punch_row : (file : FileNo) (off : ℕ) (old : Run) → IsStepRow (works_of_punch file off old)
punch_row file off old = record {
  pairs_on = λ f o b. refl;
  pairs_off = λ f o b. omega (arith, same_at file.0 f (in_layout b o off old));
  at_on = λ f o. refl;
  at_off = λ f o. omega (arith, same_at file.0 f (in_offsets o off old));
  stagings_off = λ b. omega arith;
  no_staging = λ b. refl;
  no_staging_pair = λ b. refl;
  no_gift = λ b. refl;
  no_exchange = λ f o. refl;
  once_on = λ f o. omega arith;
  once_off = λ f o. omega (arith, once_at (eqb file.0 f) (is_within off old.len o));
}

pub share_row : (file : FileNo) (off : ℕ) (old : Option Run) (new : Run) → IsStepRow (works_of_share file off old new)
share_row file off (Some old) new = record {
  pairs_on = λ f o b. omega (arith, same_at file.0 f (in_layout b o off new));
  pairs_off = λ f o b. omega (arith, same_at file.0 f (in_layout b o off old));
  at_on = λ f o. omega (arith, same_at file.0 f (in_offsets o off new));
  at_off = λ f o. omega (arith, same_at file.0 f (in_offsets o off old));
  stagings_off = λ b. omega arith;
  no_staging = λ b. refl;
  no_staging_pair = λ b. refl;
  no_gift = λ b. refl;
  no_exchange = λ f o. refl;
  once_on = λ f o. omega (arith, once_at (eqb file.0 f) (is_within off new.len o));
  once_off = λ f o. omega (arith, once_at (eqb file.0 f) (is_within off old.len o));
}
share_row file off None new = record {
  pairs_on = λ f o b. omega (arith, same_at file.0 f (in_layout b o off new));
  pairs_off = λ f o b. refl;
  at_on = λ f o. omega (arith, same_at file.0 f (in_offsets o off new));
  at_off = λ f o. refl;
  stagings_off = λ b. omega arith;
  no_staging = λ b. refl;
  no_staging_pair = λ b. refl;
  no_gift = λ b. refl;
  no_exchange = λ f o. refl;
  once_on = λ f o. omega (arith, once_at (eqb file.0 f) (is_within off new.len o));
  once_off = λ f o. omega arith;
}

pub fresh_row : (file : FileNo) (off : ℕ) (old : Option Run) (new : Run) → IsStepRow (works_of_fresh file off old new)
fresh_row file off (Some old) new = record {
  pairs_on = λ f o b. omega (arith, same_at file.0 f (in_layout b o off new));
  pairs_off = λ f o b. omega (arith, same_at file.0 f (in_layout b o off old));
  at_on = λ f o. omega (arith, same_at file.0 f (in_offsets o off new));
  at_off = λ f o. omega (arith, same_at file.0 f (in_offsets o off old));
  stagings_off = λ b. omega arith;
  no_staging = λ b. refl;
  no_staging_pair = λ b. refl;
  no_gift = λ b. refl;
  no_exchange = λ f o. refl;
  once_on = λ f o. omega (arith, once_at (eqb file.0 f) (is_within off new.len o));
  once_off = λ f o. omega (arith, once_at (eqb file.0 f) (is_within off old.len o));
}
fresh_row file off None new = record {
  pairs_on = λ f o b. omega (arith, same_at file.0 f (in_layout b o off new));
  pairs_off = λ f o b. refl;
  at_on = λ f o. omega (arith, same_at file.0 f (in_offsets o off new));
  at_off = λ f o. refl;
  stagings_off = λ b. omega arith;
  no_staging = λ b. refl;
  no_staging_pair = λ b. refl;
  no_gift = λ b. refl;
  no_exchange = λ f o. refl;
  once_on = λ f o. omega (arith, once_at (eqb file.0 f) (is_within off new.len o));
  once_off = λ f o. omega arith;
}

-- what each kind of work owes to those behind it
pub unmap_head : (file : FileNo) (off : ℕ) (run : Run) (after : List Work) → ((b : ℕ) → 0 < in_run b run → 0 < sum_by (answering b) after) → GoesBefore (Map Mapping.Unmap file off run) after
unmap_head file off run after answered = record {
  unmapped = λ f o it. absurd (omega (arith, it));
  answered = answered;
  unstaged = λ b it. absurd (omega (arith, it));
  lowered_last = λ it. absurd (omega (arith, it));
  exchanged_last = λ it. absurd (omega (arith, it));
}

pub map_head : (file : FileNo) (off : ℕ) (run : Run) (after : List Work) → ((f o : ℕ) → sum_by (unmapping_at f o) after ≡ 0) → GoesBefore (Map Mapping.Map file off run) after
map_head file off run after none = record {
  unmapped = λ f o it. none f o;
  answered = λ b it. absurd (omega (arith, it));
  unstaged = λ b it. absurd (omega (arith, it));
  lowered_last = λ it. absurd (omega (arith, it));
  exchanged_last = λ it. absurd (omega (arith, it));
}

pub unpair_head : (owner off : ℕ) (run : Run) (after : List Work) → ((b : ℕ) → 0 < in_run b run → 0 < sum_by (answering b) after) → GoesBefore (Own Owning.UnmapShared owner off run) after
unpair_head owner off run after answered = record {
  unmapped = λ f o it. absurd (omega (arith, it));
  answered = answered;
  unstaged = λ b it. absurd (omega (arith, it));
  lowered_last = λ it. absurd (omega (arith, it));
  exchanged_last = λ it. absurd (omega (arith, it));
}

pub pair_head : (owner off : ℕ) (run : Run) (after : List Work) → GoesBefore (Own Owning.MapShared owner off run) after
pair_head owner off run after = record {
  unmapped = λ f o it. absurd (omega (arith, it));
  answered = λ b it. absurd (omega (arith, it));
  unstaged = λ b it. absurd (omega (arith, it));
  lowered_last = λ it. absurd (omega (arith, it));
  exchanged_last = λ it. absurd (omega (arith, it));
}

-- a work that owes nothing
easy_head : (w : Work) (after : List Work) → ((f o : ℕ) → mapping_at f o w ≡ 0)
    → ((b : ℕ) → disowning b w + unstaging_pair b w ≡ 0)
    → lowering w + exchanging w ≡ 0 → GoesBefore w after
easy_head w after a b c = record {
  unmapped = λ f o it. absurd (omega (arith, it, a f o));
  answered = λ x it. absurd (omega (arith, it, b x));
  unstaged = λ x it. absurd (omega (arith, it, b x));
  lowered_last = λ it. absurd (omega (arith, it, c));
  exchanged_last = λ it. absurd (omega (arith, it, c));
}

stage_off_head : (owner off : ℕ) (run : Run) (after : List Work)
    → ((b : ℕ) → 0 < in_run b run → 0 < sum_by (unstaging b) after + sum_by (freed b) after) → GoesBefore (Own Owning.Free owner off run) after
stage_off_head owner off run after still = record {
  unmapped = λ f o it. absurd (omega (arith, it));
  answered = λ b it. absurd (omega (arith, it));
  unstaged = still;
  lowered_last = λ it. absurd (omega (arith, it));
  exchanged_last = λ it. absurd (omega (arith, it));
}

last_head : (run : Run) → GoesBefore (Count Decrease run) []
last_head run = record {
  unmapped = λ f o it. absurd (omega (arith, it));
  answered = λ b it. absurd (omega (arith, it));
  unstaged = λ b it. absurd (omega (arith, it));
  lowered_last = λ it. refl;
  exchanged_last = λ it. absurd (omega (arith, it));
}

pub swap_head : (file : FileNo) (off : ℕ) (other : FileNo) (other_off len : ℕ) → GoesBefore (Swap file off other other_off len) []
swap_head file off other other_off len = record {
  unmapped = λ f o it. absurd (omega (arith, it));
  answered = λ b it. absurd (omega (arith, it));
  unstaged = λ b it. absurd (omega (arith, it));
  lowered_last = λ it. absurd (omega (arith, it));
  exchanged_last = λ it. refl;
}

-- a row on one file names no other
one_file : (file f : ℕ) (works : List Work) → 0 < sum_by (naming_file f) works → (eqb file f ≡ false → eqb (128 + file) (128 + f) ≡ false → sum_by (naming_file f) works ≡ 0) → (f ≡ file) ⊎ (f ≡ file)
one_file file f works it none = ⊎_elim
    (λ e. inl e)
    (λ ne. absurd (omega (arith, it, none (ne_eqb file f (λ h. ne (sym h))) (ne_eqb (128 + file) (128 + f) (λ h. ne (omega (arith, h)))))))
    (cases_eq f file)

pub two_files : (file other f : ℕ) → 0 < one_if (eqb file f || eqb other f) → (f ≡ file) ⊎ (f ≡ other)
two_files file other f it = ⊎_elim
    (λ e. inl e)
    (λ ne. ⊎_elim
    (λ e. inr e)
    (λ no. absurd (omega (arith, it, both (eqb file f) (eqb other f) (ne_eqb file f (λ h. ne (sym h))) (ne_eqb other f (λ h. no (sym h))))))
    (cases_eq f other))
    (cases_eq f file)
  where
    both : (s t : Bool) → s ≡ false → t ≡ false → one_if (s || t) ≡ 0
    both s t x y = rw (x, y) refl

pub rows_are_chains : RowsAreChains
rows_are_chains = record {
  staging = λ run. record {
    one = 0;
    two = 0;
    raised_once = omega arith;
    files = λ f it. absurd (omega (arith, it));
    order = order-cons _ _ (easy_head (Count AllocCow run) _ (λ f o. refl) (λ b. refl) refl) (order-cons _ _ (easy_head (Own Owning.Alloc OWN_COW 0 run) _ (λ f o. refl) (λ b. refl) refl) order-none);
    short = omega arith;
    given_once = omega arith;
    apart = λ it. absurd (omega (arith, it));
  };
  release = λ run. record {
    one = 0;
    two = 0;
    raised_once = omega arith;
    files = λ f it. absurd (omega (arith, it));
    order = order-cons _ _ (easy_head (Count FreeCow run) _ (λ f o. refl) (λ b. refl) refl)
        (order-cons _ _ (stage_off_head OWN_COW 0 run (Free run ∷ []) (λ b it. omega (arith, it))) (order-cons _ _ (easy_head (Free run) _ (λ f o. refl) (λ b. refl) refl) order-none));
    short = omega arith;
    given_once = omega arith;
    apart = λ it. absurd (omega (arith, it));
  };
  exchange = λ file off other other_off len. record {
    one = file.0;
    two = other.0;
    raised_once = omega arith;
    files = λ f it. two_files file.0 other.0 f (omega (arith, it));
    order = order-cons _ _ (swap_head file off other other_off len) order-none;
    short = omega arith;
    given_once = omega arith;
    apart = λ it. refl;
  };
  punch = λ file off old. record {
    one = file.0;
    two = file.0;
    raised_once = omega arith;
    files = λ f it. one_file file.0 f (works_of_punch file off old) it (λ x y. rw (x, y) refl);
    order = order-cons _ _ (unmap_head file off old _ (λ b it. omega (arith, it))) (order-cons _ _ (unpair_head _ off old _ (λ b it. omega (arith, it))) (order-cons _ _ (last_head old) order-none));
    short = omega arith;
    given_once = omega arith;
    apart = λ it. absurd (omega (arith, it));
  };
  share = share_chain;
  fresh = fresh_chain;
}
  where
    share_chain : (file : FileNo) (off : ℕ) (old : Option Run) (new : Run) → IsChain (works_of_share file off old new)
    share_chain file off (Some old) new = record {
      one = file.0;
      two = file.0;
      raised_once = omega arith;
      files = λ f it. one_file file.0 f (works_of_share file off (Some old) new) it (λ x y. rw (x, y) refl);
      order = order-cons _ _ (unmap_head file off old _ (λ b it. omega (arith, it))) (order-cons _ _ (map_head file off new _ (λ f o. refl))
          (order-cons _ _ (unpair_head _ off old _ (λ b it. omega (arith, it))) (order-cons _ _ (pair_head _ off new _)
          (order-cons _ _ (easy_head (Count Increase new) _ (λ f o. refl) (λ b. refl) refl) (order-cons _ _ (last_head old) order-none)))));
      short = omega arith;
      given_once = omega arith;
      apart = λ it. absurd (omega (arith, it));
    }
    share_chain file off None new = record {
      one = file.0;
      two = file.0;
      raised_once = omega arith;
      files = λ f it. one_file file.0 f (works_of_share file off None new) it (λ x y. rw (x, y) refl);
      order = order-cons _ _ (map_head file off new _ (λ f o. refl)) (order-cons _ _ (pair_head _ off new _)
          (order-cons _ _ (easy_head (Count Increase new) _ (λ f o. refl) (λ b. refl) refl) order-none));
      short = omega arith;
      given_once = omega arith;
      apart = λ it. absurd (omega (arith, it));
    }

    fresh_chain : (file : FileNo) (off : ℕ) (old : Option Run) (new : Run) → IsChain (works_of_fresh file off old new)
    fresh_chain file off (Some old) new = record {
      one = file.0;
      two = file.0;
      raised_once = omega arith;
      files = λ f it. one_file file.0 f (works_of_fresh file off (Some old) new) it (λ x y. rw (x, y) refl);
      order = order-cons _ _ (unmap_head file off old _ (λ b it. omega (arith, it))) (order-cons _ _ (map_head file off new _ (λ f o. refl))
          (order-cons _ _ (stage_off_head OWN_COW 0 new _ (λ b it. omega (arith, it)))
          (order-cons _ _ (unpair_head _ off old _ (λ b it. omega (arith, it))) (order-cons _ _ (pair_head _ off new _)
          (order-cons _ _ (easy_head (Count FreeCow new) _ (λ f o. refl) (λ b. refl) refl) (order-cons _ _ (last_head old) order-none))))));
      short = omega arith;
      given_once = omega arith;
      apart = λ it. absurd (omega (arith, it));
    }
    fresh_chain file off None new = record {
      one = file.0;
      two = file.0;
      raised_once = omega arith;
      files = λ f it. one_file file.0 f (works_of_fresh file off None new) it (λ x y. rw (x, y) refl);
      order = order-cons _ _ (map_head file off new _ (λ f o. refl)) (order-cons _ _ (stage_off_head OWN_COW 0 new _ (λ b it. omega (arith, it)))
          (order-cons _ _ (pair_head _ off new _) (order-cons _ _ (easy_head (Count FreeCow new) _ (λ f o. refl) (λ b. refl) refl) order-none)));
      short = omega arith;
      given_once = omega arith;
      apart = λ it. absurd (omega (arith, it));
    }
