-- A roll of an exchange keeps the balance.
use Rattle.std.proofs.Common.{◌≡◌, ℕ, ◌+◌, ◌<◌, ◌≤◌, List, ◌++◌, length, get_or, arith, refl, ap, sym, ◌∙◌, Bool, ⊎_elim, subst}
use Rattle.std.specs.Prelude.{sum_by, remove}
use Rattle.std.proofs.lemmas.Bool.{cases_lt, cases_eq}
use Rattle.std.proofs.lemmas.List.Sums.{sum_by-remove, get_or-le-sum_by}
use Rattle.std.proofs.lemmas.List.{length-map}
use Rattle.std.proofs.lemmas.List.Edits.{get_or-remove_below, get_or-remove_above, length-remove}
use Rattle.xr_maps.specs.FileMaps.{FileMaps}
use Rattle.xr_items.specs.declared.work.Work.{Work}
use Rattle.xr_items.specs.declared.work.Work.TheVariants.{Free, Own, Count, Map, Swap}
use Rattle.xr_items.specs.Valid.{IsWork}
use Rattle.xr_maps.specs.Holdings.{one_if}
use Rattle.xr_balance.specs.Chains.{IsChain, exchanging}
use Rattle.xr_balance.proofs.ExchangePremises.{RollsExchange}
use Rattle.xr_balance.specs.Rolls.{Rolls, in_lane}
use Rattle.xr_balance.specs.Settled.{Committed, IsPartedByLane, IsSettled, bringing, taking}
use Rattle.xr_balance.specs.Works.{Debt, exchanging_at, freed, lowered, mapping, mapping_at, naming, naming_file, pairing, pairing_at, raised, staging, staging_pair, staging_unpair, total, unmapping, unmapping_at, unpairing, unpairing_at, unstaging}
use Rattle.xr_balance.proofs.TotalLemmas.{total-rolls}
use Rattle.xr_balance.proofs.SumLemmas.{total-le, sum-le, mapping-le, unmapping-le, pairing-le, unpairing-le}
use Rattle.xr_balance.proofs.PartedLemmas.{NewAgree, get_or-new}
use Rattle.xr_balance.proofs.PartedRolls.{parted_counting, all_after}
use Rattle.xr_balance.proofs.OrderLemmas.{order-head}
use Rattle.xr_balance.proofs.FirstCommits.{count_same, owned_there}

-- what an exchange is none of
pub record OnlyExchanges (w : Work) : Type 0 where
  pub maps : (f o b : ℕ) → mapping f o b w + unmapping f o b w + pairing f o b w + unpairing f o b w ≡ 0
  pub at : (f o : ℕ) → mapping_at f o w + unmapping_at f o w + pairing_at f o w + unpairing_at f o w ≡ 0
  pub counts : (b : ℕ) → freed b w + raised b w + lowered b w + naming b w ≡ 0
  pub stages : (b : ℕ) → staging b w + unstaging b w + staging_pair b w + staging_unpair b w ≡ 0

only : (w : Work) → 0 < exchanging w → OnlyExchanges w
only (Swap file off other other_off len) is = record { maps = λ f o b. refl; at = λ f o. refl; counts = λ b. refl; stages = λ b. refl }
only (Free run) is = absurd (omega (arith, is))
only (Own kind owner off run) is = absurd (omega (arith, is))
only (Count kind run) is = absurd (omega (arith, is))
only (Map kind file off run) is = absurd (omega (arith, is))

-- works on one file stand in one lane, whichever of them comes first
pub same_lane : {P : List Debt} {i : ℕ} (f j : ℕ) (d e : Debt) → IsPartedByLane P → i < length P → ((x : Debt) → get_or P i x ≡ e) → j < length P → 0 < naming_file f (get_or P j d).work → 0 < naming_file f e.work → (get_or P j d).lane ≡ e.lane
same_lane {P} {i} f j d e parted inside is jl there here =
    let mine : 0 < naming_file f (get_or P i d).work = subst (λ (x : Debt). 0 < naming_file f x.work) (sym (is d)) here in
    ⊎_elim
    (λ below. (parted.agree j i d below inside).file f there mine ∙ ap (λ (x : Debt). x.lane) (is d))
    (λ above. ⊎_elim
    (λ same. ap (λ k. (get_or P k d).lane) same ∙ ap (λ (x : Debt). x.lane) (is d))
    (λ other. sym ((parted.agree i j d (omega (arith, above, other)) jl).file f mine there) ∙ ap (λ (x : Debt). x.lane) (is d))
    (cases_eq j i))
    (cases_lt j i)

pub exchange_roll_keeps : (C : Committed) (P P' : List Debt) (M B' : FileMaps) (Q : ℕ → Bool) (i lane : ℕ) (w : Work) (new : List Work)
    → (was : IsSettled C P M Q) → Rolls P i lane w new P' → RollsExchange C P M was.base i w new B' → IsSettled C P' M Q
exchange_roll_keeps C P P' M B' Q i lane w new was rolls it =
    let B : FileMaps = was.base in
    let e : Debt = in_lane lane w in
    let none = only w it.is in
    let more : (g : Work → ℕ) → total g P' + g w ≡ total g P + sum_by g new = λ g. total-rolls g rolls in
    let less : (g : Work → ℕ) → total g (remove P i) + g w ≡ total g P = λ g. omega (arith, sum_by-remove (λ (x : Debt). g x.work) P i e rolls.first.inside, ap (λ (x : Debt). g x.work) (rolls.first.is_work e)) in
    let Free' : (b : ℕ) → total (freed b) P' ≡ total (freed b) P = λ b. omega (arith, more (freed b), none.counts b, it.row.uncounted b) in
    let Raised : (b : ℕ) → total (raised b) P' ≡ total (raised b) P = λ b. omega (arith, more (raised b), none.counts b, it.row.uncounted b) in
    let Lowered : (b : ℕ) → total (lowered b) P' ≡ total (lowered b) P = λ b. omega (arith, more (lowered b), none.counts b, it.row.uncounted b) in
    let Staging : (b : ℕ) → total (staging b) P' ≡ total (staging b) P = λ b. omega (arith, more (staging b), none.stages b, it.row.unstaged b) in
    let Unstaging : (b : ℕ) → total (unstaging b) P' ≡ total (unstaging b) P = λ b. omega (arith, more (unstaging b), none.stages b, it.row.unstaged b) in
    let StagingPair : (b : ℕ) → total (staging_pair b) P' ≡ total (staging_pair b) P = λ b. omega (arith, more (staging_pair b), none.stages b, it.row.unstaged b) in
    let StagingUnpair : (b : ℕ) → total (staging_unpair b) P' ≡ total (staging_unpair b) P = λ b. omega (arith, more (staging_unpair b), none.stages b, it.row.unstaged b) in
    let part : (f o : ℕ) → exchanging_at f o w ≤ total (exchanging_at f o) P = λ f o. omega (arith, less (exchanging_at f o)) in
    let unmaps : (f o b : ℕ) → sum_by (unmapping f o b) new ≤ sum_by (unmapping_at f o) new = λ f o b. sum-le (unmapping f o b) (unmapping_at f o) new (unmapping-le f o b) in
    let maps : (f o b : ℕ) → sum_by (mapping f o b) new ≤ sum_by (mapping_at f o) new = λ f o b. sum-le (mapping f o b) (mapping_at f o) new (mapping-le f o b) in
    let quiet_off : (f o b : ℕ) → total (unmapping f o b) P ≤ total (unmapping_at f o) P = λ f o b. total-le (unmapping f o b) (unmapping_at f o) P (unmapping-le f o b) in
    let quiet_on : (f o b : ℕ) → total (mapping f o b) P ≤ total (mapping_at f o) P = λ f o b. total-le (mapping f o b) (mapping_at f o) P (mapping-le f o b) in
    let quiet_pair : (f o b : ℕ) → total (pairing f o b) P ≤ total (pairing_at f o) P = λ f o b. total-le (pairing f o b) (pairing_at f o) P (pairing-le f o b) in
    let quiet_unpair : (f o b : ℕ) → total (unpairing f o b) P ≤ total (unpairing_at f o) P = λ f o b. total-le (unpairing f o b) (unpairing_at f o) P (unpairing-le f o b) in
    record {
      base = B';
      good_base = it.good;
      good_maps = was.good_maps;
      maps = record {
        base = λ f o b. omega (arith, was.maps.base f o b, it.base f o b, more (mapping f o b), more (unmapping f o b), none.maps f o b);
        exchanged = λ f o b. omega (
          arith,
          was.maps.exchanged f o b,
          it.base f o b,
          it.moved f o b,
          more (taking B' f o b),
          more (bringing B' f o b),
          less (taking B' f o b),
          less (bringing B' f o b),
          less (taking B f o b),
          less (bringing B f o b),
          it.others_take f o b,
          it.others_bring f o b,
        );
      };
      staging = record {
        staged = λ b. omega (arith, was.staging.staged b, Staging b, Unstaging b);
        data_only = was.staging.data_only;
        unowned = was.staging.unowned;
      };
      pairs = record {
        owners = λ f o b. omega (arith, was.pairs.owners f o b, it.base f o b, more (pairing f o b), more (unpairing f o b), none.maps f o b, it.row.pairs_on f o b, it.row.pairs_off f o b);
        staging_pairs = λ b. omega (arith, was.pairs.staging_pairs b, StagingPair b, StagingUnpair b);
      };
      counts = λ b is_data. omega (arith, was.counts b is_data, count_same C P P' b (Free' b), Raised b, Lowered b);
      due = record {
        unmaps = λ f o b. ⊎_elim
            (λ some. omega (arith, some, it.unmaps_within f o, part f o, was.offsets.unmaps f o, quiet_off f o b, more (unmapping f o b), none.maps f o b, it.old_there f o b))
            (λ zero. omega (arith, zero, unmaps f o b, more (unmapping f o b), none.maps f o b, was.due.unmaps f o b))
            (cases_lt 0 (sum_by (unmapping_at f o) new));
        maps = λ f o. ⊎_elim
            (λ some. omega (arith, some, it.maps_within f o, part f o, was.offsets.maps f o, was.offsets.unmaps f o, more (mapping_at f o), more (unmapping_at f o), none.at f o, it.fills f o))
            (λ zero. omega (arith, zero, more (mapping_at f o), more (unmapping_at f o), none.at f o, was.due.maps f o))
            (cases_lt 0 (sum_by (mapping_at f o) new));
        removals = λ f o b. ⊎_elim
            (λ some. omega (
              arith,
              some,
              it.unmaps_within f o,
              part f o,
              was.offsets.removals f o,
              was.offsets.additions f o,
              was.offsets.maps f o,
              was.offsets.unmaps f o,
              quiet_unpair f o b,
              quiet_pair f o b,
              quiet_on f o b,
              quiet_off f o b,
              more (unpairing f o b),
              none.maps f o b,
              it.row.pairs_off f o b,
              it.old_there f o b,
              was.pairs.owners f o b,
              was.maps.base f o b,
            ))
            (λ zero. omega (arith, zero, unmaps f o b, it.row.pairs_off f o b, more (unpairing f o b), none.maps f o b, was.due.removals f o b))
            (cases_lt 0 (sum_by (unmapping_at f o) new));
        additions = λ f o b. ⊎_elim
            (λ some. omega (
              arith,
              some,
              it.maps_within f o,
              part f o,
              was.offsets.removals f o,
              was.offsets.additions f o,
              quiet_unpair f o b,
              quiet_pair f o b,
              more (pairing f o b),
              none.maps f o b,
              it.row.pairs_on f o b,
              it.others f o b,
              was.pairs.owners f o b,
            ))
            (λ zero. omega (arith, zero, maps f o b, it.row.pairs_on f o b, more (pairing f o b), none.maps f o b, was.due.additions f o b))
            (cases_lt 0 (sum_by (mapping_at f o) new));
        staging_removals = λ b. omega (arith, was.due.staging_removals b, StagingUnpair b);
        staging_additions = λ b. omega (arith, was.due.staging_additions b, StagingPair b);
        stagings = λ b some. was.due.stagings b (omega (arith, some, Staging b));
        unstagings = λ b. omega (arith, was.due.unstagings b, Unstaging b);
      };
      blocks = record {
        counted_some = was.blocks.counted_some;
        owned_data = was.blocks.owned_data;
        named_groups = λ b some. ⊎_elim
            (λ fresh. (was.blocks.owned_data b (it.there b fresh)).1)
            (λ zero. was.blocks.named_groups b (omega (arith, some, zero, more (naming b))))
            (cases_lt 0 (sum_by (naming b) new));
        counted_unstaged = λ b some. was.blocks.counted_unstaged b (omega (arith, some, Raised b, Lowered b));
        free_unnamed = λ b free. ⊎_elim
            (λ some. let there = it.there b some in absurd (omega (arith, ap one_if (sym free ∙ (owned_there b was (omega (arith, there))).0))))
            (λ zero. omega (arith, zero, more (naming b), none.counts b, was.blocks.free_unnamed b free))
            (cases_lt 0 (sum_by (naming b) new));
        free_unshared = was.blocks.free_unshared;
        freed_unshared = λ b some. was.blocks.freed_unshared b (omega (arith, some, Free' b));
        freed_once = λ b. omega (arith, Free' b, was.blocks.freed_once b);
        staged_once = λ b. omega (arith, Staging b, was.blocks.staged_once b);
        two_owners = λ b. omega (arith, Raised b, was.blocks.two_owners b);
      };
      offsets = record {
        unmaps = λ f o. omega (arith, was.offsets.unmaps f o, more (unmapping_at f o), more (exchanging_at f o), none.at f o, it.unmaps_within f o);
        maps = λ f o. omega (arith, was.offsets.maps f o, more (mapping_at f o), more (exchanging_at f o), none.at f o, it.maps_within f o);
        removals = λ f o. omega (arith, was.offsets.removals f o, more (unpairing_at f o), more (exchanging_at f o), none.at f o, it.unmaps_within f o, it.row.at_off f o);
        additions = λ f o. omega (arith, was.offsets.additions f o, more (pairing_at f o), more (exchanging_at f o), none.at f o, it.maps_within f o, it.row.at_on f o);
      };
      valid = all_after (λ d. IsWork d.work) rolls was.valid it.valid;
      parted = parted_counting was.parted rolls (record {
        agree = agrees;
        chain = λ works chain. subst (λ l. IsChain (l ++ new)) (sym ((order-head w works chain.order).exchanged_last it.is)) it.chain;
      });
    }
  where
    part_of : (f : Work → ℕ) (j : ℕ) (v : Work) → j < length new → f (get_or new j v) ≤ sum_by f new
    part_of f j v l = get_or-le-sum_by f new j v l

    no_gift : (b j : ℕ) (v : Work) → j < length new → freed b (get_or new j v) ≡ 0
    no_gift b j v l = omega (arith, part_of (freed b) j v l, it.row.uncounted b)

    agrees : NewAgree (remove P i) lane new
    agrees = record {
      old = λ k d j v kl jl.
          let len = length-remove P i rolls.first.inside in
          record {
            file = λ f x y.
                let mine : 0 < naming_file f w = it.files_within f (omega (arith, y, part_of (naming_file f) j v jl)) in
                ⊎_elim
                (λ below. ap (λ (z : Debt). z.lane) (get_or-remove_below P i d k below rolls.first.inside)
                ∙ same_lane f k d (in_lane lane w) was.parted rolls.first.inside rolls.first.is_work (omega (arith, below, rolls.first.inside)) (subst (λ (z : Debt). 0 < naming_file f z.work) (get_or-remove_below P i d k below rolls.first.inside) x) mine)
                (λ above. ap (λ (z : Debt). z.lane) (get_or-remove_above P i d k above rolls.first.inside)
                ∙ same_lane f (k + 1) d (in_lane lane w) was.parted rolls.first.inside rolls.first.is_work (omega (arith, kl, len)) (subst (λ (z : Debt). 0 < naming_file f z.work) (get_or-remove_above P i d k above rolls.first.inside) x) mine)
                (cases_lt k i);
            before = λ b x y. absurd (omega (arith, y, no_gift b j v jl));
            after = λ b given. ⊎_elim
                (λ some. let there = it.there b (omega (arith, some, part_of (naming b) j v jl)) in
                absurd (omega (
                  arith,
                  given,
                  (owned_there b was (omega (arith, there))).1,
                  get_or-le-sum_by (λ (x : Debt). freed b x.work) (remove P i) k d kl,
                  sum_by-remove (λ (x : Debt). freed b x.work) P i (in_lane lane w) rolls.first.inside,
                )))
                (λ zero. omega (arith, zero))
                (cases_lt 0 (naming b (get_or new j v)));
          };
      among = λ j k d less kl.
          let n = length-map new (in_lane lane) in
          rw (get_or-new lane new j d (omega (arith, less, kl, n)), get_or-new lane new k d (omega (arith, kl, n))) (record {
            file = λ f x y. refl;
            before = λ b x y. refl;
            after = λ b x. absurd (omega (arith, x, no_gift b j d.work (omega (arith, less, kl, n))));
          });
    }
