-- Parts of a transaction that are pushed one after another.
use Rattle.std.proofs.Common.{◌≡◌, ℕ, ◌+◌, ◌<◌, ◌≤◌, ◌≢◌, ◌∙◌, Bool, List, [], ◌∷◌, ◌++◌, length, take, drop, get_or, None, refl, sym, ap, subst, arith, eq-eqb}
use Rattle.std.specs.Prelude.{if◌then◌else◌, Result, Ok, Err, OnOk}
use Rattle.std.specs.List.{AllByRecursion, flat_map}
use Rattle.std.proofs.Math.Seq.{take-append_seam}
use Rattle.std.proofs.lemmas.Bool.{ne_eqb}
use Rattle.std.proofs.lemmas.List.{append-nil, append_assoc, map-append, take-append-drop, take_all}
use Rattle.std.proofs.lemmas.List.Concat.{flat_map-append}
use Rattle.xr_disk.specs.Disk.{DiskView}
use Rattle.xr_items.specs.declared.item.Item.{Item}
use Rattle.xr_items.specs.declared.trans.Logged.{Logged as Changed}
use Rattle.xr_items.specs.FieldLaws.{length-bytes_of_fields}
use Rattle.xr_items.specs.Fields.{widths}
use Rattle.xr_items.specs.Items.{following, item_body, item_bytes, item_fields}
use Rattle.xr_record.specs.Rules.{AtEntry, AtRegion, Phase}
use Rattle.xr_commit.specs.ItemLenLaws.{item_len_is}
use Rattle.xr_commit.specs.LoggedItems.{Logged, logged_regions}
use Rattle.xr_scan.specs.LoggedEntries.{IsWholeItem}
use Rattle.xr_log.specs.declared.fault.LogFault.{LogFault}
use Rattle.xr_log.specs.declared.held.Held.{Held}
use Rattle.xr_log.specs.declared.packing.Fill.{Fill}
use Rattle.xr_log.specs.declared.transaction.Planned.{Planned}
use Rattle.xr_log.specs.CommitSteps.{KeepsOpen, StepCommits, StepKeeps, StepRuns}
use Rattle.xr_log.specs.Filling.{Fills, HasSpace, HasSpaceFor, KeepsLimit, fill_of, filled_by, filled_region, filled_regions, filled_whole}
use Rattle.xr_log.specs.Held.{cycle_of}
use Rattle.xr_log.specs.TransactionItems.{image_at, logged_in, logged_of}
use Rattle.xr_log.specs.TransactionPushes.{IsPush, PushesItems, PushesRegions, PushesTransaction, StepLogs, region_after}
use Rattle.xr_log.specs.Writing.{IsStep}
use Rattle.xr_log.proofs.FillLemmas.{IsFilling, filled-append, from_middle, regions_filling, regions_of_more, shifted, whole_filling}
use Rattle.xr_log.proofs.ItemPartLemmas.{parts_are_items}
use Rattle.xr_log.proofs.RegionLemmas.{on_ok}
use Rattle.xr_log.proofs.SpaceLemmas.{space_cycle, space_less}
use Rattle.xr_log.proofs.StepLemmas.{rests_over, runs_then, step_then}

-- what was filled by some operations and then by others
fills_then : (old mid new : Held) (f g h : Fill) → h ≡ shifted f.records g → Fills old mid f → Fills mid new g → Fills old new h
fills_then old mid new f g h is first second = record {
  len = second.len ∙ sym (ap (λ (x : Fill). x.len) is);
  space = λ limit more has. second.space limit more (first.space limit (g.records + more)
      (subst (HasSpace limit old.growing.last) (let e = ap (λ (x : Fill). x.records) is in omega (arith, e)) has));
}

middle : (h : Fill → Fill) → IsFilling h → (old mid : Held) (f : Fill) → Fills old mid f → h f ≡ shifted f.records (h (fill_of mid))
middle h is old mid f fills = from_middle h is f (fill_of mid) fills.len refl

-- there is space for what comes first, and then for the rest
pub space_front : (h : Fill → Fill) → IsFilling h → (log : Held) (f : Fill) → HasSpaceFor log (h f) → HasSpaceFor log f
space_front h is log f (limit, has) = (limit, space_less limit log.growing.last (h f).records f.records (is.rises f) has)

space_rest : (h : Fill → Fill) → IsFilling h → (old mid : Held) (f : Fill) (limit : ℕ) → Fills old mid f → HasSpace limit old.growing.last (h f).records
    → HasSpace limit mid.growing.last (h (fill_of mid)).records
space_rest h is old mid f limit fills has =
    fills.space limit (h (fill_of mid)).records (subst (HasSpace limit old.growing.last) (ap (λ (x : Fill). x.records) (middle h is old mid f fills)) has)

pub space_then : (h : Fill → Fill) → IsFilling h → (old mid : Held) (f : Fill) → Fills old mid f → HasSpaceFor old (h f) → HasSpaceFor mid (h (fill_of mid))
space_then h is old mid f fills (limit, has) = (limit, space_rest h is old mid f limit fills has)

limit_then : (h : Fill → Fill) → IsFilling h → (old mid new : Held) (f : Fill) → Fills old mid f → KeepsLimit mid new (h (fill_of mid)) → KeepsLimit old new (h f)
limit_then h is old mid new f fills keeps limit has = keeps limit (space_rest h is old mid f limit fills has)

more_limit : (old new : Held) (f g : Fill) → f.records ≤ g.records → KeepsLimit old new f → KeepsLimit old new g
more_limit old new f g less keeps limit has = keeps limit (space_less limit old.growing.last g.records f.records less has)

-- what was pushed where a call answered Ok
made : (disk disk' : DiskView) (old new : Held) (p q : Phase) (f : Fill) (x : Unit {0}) (result : Result (Unit {0}) LogFault) → result ≡ Ok x
    → IsPush disk disk' old new p q f result → IsPush disk disk' old new p q f (Ok x)
made disk disk' old new p q f x result was = subst (λ (r : Result (Unit {0}) LogFault). IsPush disk disk' old new p q f r) was

pub made_fills : (disk disk' : DiskView) (old new : Held) (p q : Phase) (f : Fill) (x : Unit {0}) (result : Result (Unit {0}) LogFault) → result ≡ Ok x
    → IsPush disk disk' old new p q f result → Fills old new f
made_fills disk disk' old new p q f x result was pushed = (made disk disk' old new p q f x result was pushed).fills

pub made_up : (disk disk' : DiskView) (old new : Held) (p q : Phase) (f : Fill) (x : Unit {0}) (result : Result (Unit {0}) LogFault) → result ≡ Ok x
    → IsPush disk disk' old new p q f result → new.down ≡ None
made_up disk disk' old new p q f x result was pushed = (made disk disk' old new p q f x result was pushed).step.up

pub push_then : (h : Fill → Fill) → IsFilling h → (disk disk' disk'' : DiskView) (old mid new : Held) (p q r : Phase) (f : Fill) (x : Unit {0})
    (one two : Result (Unit {0}) LogFault) → one ≡ Ok x → IsPush disk disk' old mid p q f one → IsPush disk' disk'' mid new q r (h (fill_of mid)) two
    → IsPush disk disk'' old new p r (h f) two
push_then h is disk disk' disk'' old mid new p q r f x one two was begun second =
    let first = made disk disk' old mid p q f x one was begun in
    record {
      runs = λ now said next states k.
          runs_then disk disk' disk'' states (cycle_of mid) (cycle_of new) next second.step.cycle (first.runs now said next states k)
          (second.runs now said next states (first.kept now said next states k));
      kept = on_ok two (λ (kept : StepKeeps disk' mid q disk'' new r) now said next states k. kept now said next states (first.kept now said next states k)) second.kept;
      fills = on_ok two (fills_then old mid new f (h (fill_of mid)) (h f) (middle h is old mid f first.fills) first.fills) second.fills;
      limit = limit_then h is old mid new f first.fills second.limit;
      step = step_then disk disk' disk'' old mid new (Ok x) two first.step second.step;
    }

-- what comes first fails, so there is no rest
pub push_fails : (disk disk' : DiskView) (old new : Held) (p q r : Phase) (f g : Fill) (fault : LogFault) → f.records ≤ g.records
    → IsPush disk disk' old new p q f (Err fault) → IsPush disk disk' old new p r g (Err fault)
push_fails disk disk' old new p q r f g fault less first =
    record { runs = first.runs; kept = tt; fills = tt; limit = more_limit old new f g less first.limit; step = first.step }

-- Regions one after another

unchanged : (disk : DiskView) (log : Held) (x : Unit {0}) → log.down ≡ None → IsStep disk disk log log (let r : Result (Unit {0}) LogFault = Ok x in r)
unchanged disk log x up = record {
  same = record { uuid = refl; blocks = refl; dirty = refl; table = refl; next = refl; tid = refl; ends_open = refl };
  faults = omega arith;
  moment = omega arith;
  cycle = omega arith;
  fault = tt;
  up = up;
}

pub none_pushed : (disk : DiskView) (log : Held) (tid : ℕ) (x : Unit {0}) (none : List (List ℕ)) → log.down ≡ None → none ≡ []
    → PushesRegions disk disk log log tid none (Ok x)
none_pushed disk log tid x none up is = subst (λ (rs : List (List ℕ)). PushesRegions disk disk log log tid rs (Ok x)) (sym is) (λ count regions. record {
  runs = λ now said next states k. rests_over disk log now said next states (AtRegion tid count regions) k;
  kept = λ now said next states k.
      subst (λ (rs : List (List ℕ)). KeepsOpen disk log now said next states (AtRegion tid count rs)) (sym (append-nil regions)) k;
  fills = record { len = refl; space = λ limit more has. subst (HasSpace limit log.growing.last) (let e : 0 + more ≡ more = omega arith in e) has };
  limit = λ limit has. space_cycle limit log.growing.last 0 has;
  step = unchanged disk log x up;
})

pub one_pushed : (disk disk' : DiskView) (old new : Held) (tid : ℕ) (region : List ℕ) (pushed : List (List ℕ)) (result : Result (Unit {0}) LogFault)
    → pushed ≡ region ∷ [] → ((count : ℕ) (regions : List (List ℕ)) → StepRuns disk old (AtRegion tid count regions) disk' new)
    → OnOk result ((count : ℕ) (regions : List (List ℕ)) → StepKeeps disk old (AtRegion tid count regions) disk' new (AtRegion tid count (regions ++ region ∷ [])))
    → OnOk result (Fills old new (filled_region (length region) (fill_of old))) → KeepsLimit old new (filled_region (length region) (fill_of old))
    → IsStep disk disk' old new result → PushesRegions disk disk' old new tid pushed result
one_pushed disk disk' old new tid region pushed result is runs kept fills limit step =
    subst (λ (rs : List (List ℕ)). PushesRegions disk disk' old new tid rs result) (sym is) (λ count regions. record {
      runs = runs count regions;
      kept = on_ok result
          (λ (k : (count : ℕ) (regions : List (List ℕ)) → StepKeeps disk old (AtRegion tid count regions) disk' new (AtRegion tid count (regions ++ region ∷ []))). k count regions)
          kept;
      fills = fills;
      limit = limit;
      step = step;
    })

pub regions_then : (disk disk' disk'' : DiskView) (old mid new : Held) (tid : ℕ) (xs ys all : List (List ℕ)) (x : Unit {0}) (one result : Result (Unit {0}) LogFault)
    → one ≡ Ok x → all ≡ xs ++ ys → PushesRegions disk disk' old mid tid xs one → PushesRegions disk' disk'' mid new tid ys result
    → PushesRegions disk disk'' old new tid all result
regions_then disk disk' disk'' old mid new tid xs ys all x one result was is first second =
    subst (λ (rs : List (List ℕ)). PushesRegions disk disk'' old new tid rs result) (sym is) (λ count regions.
    subst (λ (f : Fill). IsPush disk disk'' old new (AtRegion tid count regions) (AtRegion tid count (regions ++ (xs ++ ys))) f result)
    (sym (filled-append xs ys (fill_of old)))
    (subst (λ (rs : List (List ℕ)). IsPush disk disk'' old new (AtRegion tid count regions) (AtRegion tid count rs) (filled_regions ys (filled_regions xs (fill_of old))) result)
    (append_assoc regions xs ys)
    (push_then (filled_regions ys) (regions_filling ys) disk disk' disk'' old mid new (AtRegion tid count regions) (AtRegion tid count (regions ++ xs))
    (AtRegion tid count ((regions ++ xs) ++ ys)) (filled_regions xs (fill_of old)) x one result was (first count regions) (second count (regions ++ xs)))))

pub regions_fills : (disk disk' : DiskView) (old new : Held) (tid : ℕ) (pushed : List (List ℕ)) (x : Unit {0}) (result : Result (Unit {0}) LogFault) → result ≡ Ok x
    → PushesRegions disk disk' old new tid pushed result → Fills old new (filled_regions pushed (fill_of old))
regions_fills disk disk' old new tid pushed x result was p =
    made_fills disk disk' old new (AtRegion tid 0 []) (AtRegion tid 0 ([] ++ pushed)) (filled_regions pushed (fill_of old)) x result was (p 0 [])

pub regions_up : (disk disk' : DiskView) (old new : Held) (tid : ℕ) (pushed : List (List ℕ)) (x : Unit {0}) (result : Result (Unit {0}) LogFault) → result ≡ Ok x
    → PushesRegions disk disk' old new tid pushed result → new.down ≡ None
regions_up disk disk' old new tid pushed x result was p =
    made_up disk disk' old new (AtRegion tid 0 []) (AtRegion tid 0 ([] ++ pushed)) (filled_regions pushed (fill_of old)) x result was (p 0 [])

-- a list of regions fills no less than its front
front_less : (xs ys all : List (List ℕ)) (f : Fill) → all ≡ xs ++ ys → (filled_regions xs f).records ≤ (filled_regions all f).records
front_less xs ys all f is =
    let e = ap (λ (rs : List (List ℕ)). (filled_regions rs f).records) is in
    let a = ap (λ (x : Fill). x.records) (filled-append xs ys f) in
    let r = (regions_filling ys).rises (filled_regions xs f) in
    omega (arith, e, a, r)

pub regions_fail : (disk disk' : DiskView) (old new : Held) (tid : ℕ) (xs ys all : List (List ℕ)) (fault : LogFault) → all ≡ xs ++ ys
    → PushesRegions disk disk' old new tid xs (Err fault) → PushesRegions disk disk' old new tid all (Err fault)
regions_fail disk disk' old new tid xs ys all fault is first = λ count regions.
    push_fails disk disk' old new (AtRegion tid count regions) (AtRegion tid count (regions ++ xs)) (AtRegion tid count (regions ++ all)) (filled_regions xs (fill_of old))
    (filled_regions all (fill_of old)) fault (front_less xs ys all (fill_of old) is) (first count regions)

pub regions_front : (log : Held) (xs ys all : List (List ℕ)) → all ≡ xs ++ ys → HasSpaceFor log (filled_regions all (fill_of log)) → HasSpaceFor log (filled_regions xs (fill_of log))
regions_front log xs ys all is (limit, has) =
    (limit, space_less limit log.growing.last (filled_regions all (fill_of log)).records (filled_regions xs (fill_of log)).records (front_less xs ys all (fill_of log) is) has)

pub regions_rest : (old mid : Held) (xs ys all : List (List ℕ)) → all ≡ xs ++ ys → Fills old mid (filled_regions xs (fill_of old))
    → HasSpaceFor old (filled_regions all (fill_of old)) → HasSpaceFor mid (filled_regions ys (fill_of mid))
regions_rest old mid xs ys all is fills has =
    space_then (filled_regions ys) (regions_filling ys) old mid (filled_regions xs (fill_of old)) fills
    (subst (HasSpaceFor old) (ap (λ (rs : List (List ℕ)). filled_regions rs (fill_of old)) is ∙ filled-append xs ys (fill_of old)) has)

-- The regions of one item

pub front_taken : (bytes rest out : List ℕ) (n : ℕ) → out ≡ bytes ++ rest → n ≡ length bytes → bytes ≡ take n out
front_taken bytes rest out n is long =
    sym (ap (λ (xs : List ℕ). take n xs) is ∙ ap (λ (m : ℕ). take m (bytes ++ rest)) long ∙ take-append_seam bytes rest)

pub item_some : (item : Item) (region : List ℕ) → item_bytes item ≡ region → 0 < length region
item_some item region is =
    let long : length (item_bytes item) ≡ 2 + (2 + widths (item_body item)) = length-bytes_of_fields (item_fields item) in
    let e = ap (λ (xs : List ℕ). length xs) is in
    omega (arith, long, e)

pub none_after : (l : Logged) (more : ℕ) → more ≡ following l.item → more ≡ 0 → region_after l ≡ []
none_after l more is none = ap (λ (b : Bool). if b then [] else (l.bytes ∷ [])) (eq-eqb (following l.item) 0 (sym is ∙ none))

pub some_after : (blocks : List Changed) (p : Planned) (more : ℕ) (region : List ℕ) → more ≡ following p.item → more ≢ 0 → region ≡ take more (image_at blocks p.block)
    → region_after (logged_of blocks p) ≡ region ∷ []
some_after blocks p more region is some taken =
    ap (λ (b : Bool). if b then [] else ((logged_of blocks p).bytes ∷ [])) (ne_eqb (following p.item) 0 (λ none. some (is ∙ none)))
    ∙ ap (λ (bytes : List ℕ). bytes ∷ []) (ap (λ (n : ℕ). take n (image_at blocks p.block)) (sym is) ∙ sym taken)

pub after_long : (blocks : List Changed) (p : Planned) (more : ℕ) (region : List ℕ) → more ≡ following p.item → region ≡ take more (image_at blocks p.block)
    → IsWholeItem (logged_of blocks p) → length region ≡ more
after_long blocks p more region is taken whole =
    ap (λ (xs : List ℕ). length xs) taken ∙ ap (λ (n : ℕ). length (take n (image_at blocks p.block))) is ∙ whole.long ∙ sym is

-- Items of a plan, one after another

regions_split : (blocks : List Changed) (plan : List Planned) (i : ℕ)
    → flat_map logged_regions (logged_in blocks plan)
    ≡ flat_map logged_regions (logged_in blocks (take i plan)) ++ flat_map logged_regions (logged_in blocks (drop i plan))
regions_split blocks plan i =
    ap (λ (ps : List Planned). flat_map logged_regions (logged_in blocks ps)) (sym (take-append-drop i plan))
    ∙ ap (λ (ls : List Logged). flat_map logged_regions ls) (map-append (logged_of blocks) (take i plan) (drop i plan))
    ∙ flat_map-append logged_regions (logged_in blocks (take i plan)) (logged_in blocks (drop i plan))

pub items_space : (disk disk' : DiskView) (old mid : Held) (tid : ℕ) (blocks : List Changed) (plan : List Planned) (i : ℕ) (d : Planned) (x : Unit {0})
    → i < length plan → PushesItems disk disk' old mid tid (logged_in blocks (take i plan)) (Ok x)
    → HasSpaceFor old (filled_regions (flat_map logged_regions (logged_in blocks plan)) (fill_of old))
    → HasSpaceFor mid (filled_regions (logged_regions (logged_of blocks (get_or plan i d))) (fill_of mid))
items_space disk disk' old mid tid blocks plan i d x below pushed has =
    let upto : ℕ → List (List ℕ) = λ n. flat_map logged_regions (logged_in blocks (take n plan)) in
    regions_rest old mid (upto i) (logged_regions (logged_of blocks (get_or plan i d))) (upto (i + 1)) (regions_of_more blocks plan i d below) (pushed 0 []).fills
    (regions_front old (upto (i + 1)) (flat_map logged_regions (logged_in blocks (drop (i + 1) plan))) (flat_map logged_regions (logged_in blocks plan))
    (regions_split blocks plan (i + 1)) has)

pub items_then : (disk disk' disk'' : DiskView) (old mid new : Held) (tid : ℕ) (blocks : List Changed) (plan : List Planned) (i : ℕ) (d : Planned)
    (x : Unit {0}) (result : Result (Unit {0}) LogFault) → i < length plan → PushesItems disk disk' old mid tid (logged_in blocks (take i plan)) (Ok x)
    → PushesRegions disk' disk'' mid new tid (logged_regions (logged_of blocks (get_or plan i d))) result
    → PushesItems disk disk'' old new tid (logged_in blocks (take (i + 1) plan)) result
items_then disk disk' disk'' old mid new tid blocks plan i d x result below first second =
    regions_then disk disk' disk'' old mid new tid (flat_map logged_regions (logged_in blocks (take i plan))) (logged_regions (logged_of blocks (get_or plan i d)))
    (flat_map logged_regions (logged_in blocks (take (i + 1) plan))) x (Ok x) result refl (regions_of_more blocks plan i d below) first second

pub items_fail : (disk disk' disk'' : DiskView) (old mid new : Held) (tid : ℕ) (blocks : List Changed) (plan : List Planned) (i : ℕ) (d : Planned)
    (x : Unit {0}) (fault : LogFault) → i < length plan → PushesItems disk disk' old mid tid (logged_in blocks (take i plan)) (Ok x)
    → PushesRegions disk' disk'' mid new tid (logged_regions (logged_of blocks (get_or plan i d))) (Err fault) → PushesItems disk disk'' old new tid (logged_in blocks plan) (Err fault)
items_fail disk disk' disk'' old mid new tid blocks plan i d x fault below first second =
    regions_fail disk disk'' old new tid (flat_map logged_regions (logged_in blocks (take (i + 1) plan))) (flat_map logged_regions (logged_in blocks (drop (i + 1) plan)))
    (flat_map logged_regions (logged_in blocks plan)) fault (regions_split blocks plan (i + 1))
    (items_then disk disk' disk'' old mid new tid blocks plan i d x (Err fault) below first second)

pub items_end : (disk disk' : DiskView) (old new : Held) (tid : ℕ) (blocks : List Changed) (plan : List Planned) (i : ℕ) (result : Result (Unit {0}) LogFault)
    → length plan ≤ i → PushesItems disk disk' old new tid (logged_in blocks (take i plan)) result → PushesItems disk disk' old new tid (logged_in blocks plan) result
items_end disk disk' old new tid blocks plan i result past =
    subst (λ (ps : List Planned). PushesItems disk disk' old new tid (logged_in blocks ps) result) (take_all i plan past)

-- The end of a transaction

pub ends_with : (disk disk' disk'' : DiskView) (old mid new : Held) (tid count : ℕ) (logged : List Logged) (f : Fill) (x : Unit {0})
    (one result : Result (Unit {0}) LogFault) → one ≡ Ok x → IsPush disk disk' old mid AtEntry (AtRegion tid count (flat_map logged_regions logged)) f one
    → filled_by logged (fill_of old) ≡ filled_whole 0 f → count ≡ length (flat_map logged_regions logged) → AllByRecursion IsWholeItem logged
    → ((phase : Phase) → StepRuns disk' mid phase disk'' new) → OnOk result (StepCommits disk' mid tid disk'' new)
    → OnOk result (Fills mid new (filled_whole 0 (fill_of mid))) → OnOk result (0 < length new.growing.packer.body)
    → KeepsLimit mid new (filled_whole 0 (fill_of mid)) → IsStep disk' disk'' mid new result → PushesTransaction disk disk'' old new logged result
ends_with disk disk' disk'' old mid new tid count logged f x one result was begun is number whole runs kept fills some limit step = record {
  runs = λ now said next states k.
      runs_then disk disk' disk'' states (cycle_of mid) (cycle_of new) next step.cycle (first.runs now said next states k)
      (runs (AtRegion tid count (flat_map logged_regions logged)) now said next states (first.kept now said next states k));
  kept = on_ok result (logs_all) kept;
  fills = subst (λ (g : Fill). OnOk result (Fills old new g)) (sym is)
      (on_ok result (fills_then old mid new f (filled_whole 0 (fill_of mid)) (filled_whole 0 f) (middle (filled_whole 0) (whole_filling 0) old mid f first.fills) first.fills) fills);
  some = some;
  limit = subst (KeepsLimit old new) (sym is) (limit_then (filled_whole 0) (whole_filling 0) old mid new f first.fills limit);
  step = step_then disk disk' disk'' old mid new (Ok x) result first.step step;
} where
  first : IsPush disk disk' old mid AtEntry (AtRegion tid count (flat_map logged_regions logged)) f (Ok x)
  first = made disk disk' old mid AtEntry (AtRegion tid count (flat_map logged_regions logged)) f x one was begun

  logs_all : StepCommits disk' mid tid disk'' new → StepLogs disk old logged disk'' new
  logs_all commits now said next next' states k good later ids =
      commits now said next next' states logged
      (subst (λ (n : ℕ). KeepsOpen disk' mid now said next states (AtRegion tid n (flat_map logged_regions logged))) number (first.kept now said next states k))
      (parts_are_items item_len_is logged whole) good whole later ids

pub transaction_fails : (disk disk' : DiskView) (old new : Held) (q : Phase) (f : Fill) (logged : List Logged) (fault : LogFault)
    → f.records ≤ (filled_by logged (fill_of old)).records → IsPush disk disk' old new AtEntry q f (Err fault) → PushesTransaction disk disk' old new logged (Err fault)
transaction_fails disk disk' old new q f logged fault less first = record {
  runs = first.runs;
  kept = tt;
  fills = tt;
  some = tt;
  limit = more_limit old new f (filled_by logged (fill_of old)) less first.limit;
  step = first.step;
}

-- what comes before its regions, and the regions, leave space for the rest

pub front_less_all : (regions : List (List ℕ)) (f : Fill) → f.records ≤ (filled_whole 0 (filled_regions regions f)).records
front_less_all regions f =
    let a = (regions_filling regions).rises f in let b = (whole_filling 0).rises (filled_regions regions f) in omega (arith, a, b)

pub before_items : (log : Held) (regions : List (List ℕ)) (f : Fill) → HasSpaceFor log (filled_whole 0 (filled_regions regions f)) → HasSpaceFor log f
before_items log regions f has =
    space_front (filled_regions regions) (regions_filling regions) log f (space_front (filled_whole 0) (whole_filling 0) log (filled_regions regions f) has)

pub for_items : (old mid : Held) (regions : List (List ℕ)) (f : Fill) → Fills old mid f → HasSpaceFor old (filled_whole 0 (filled_regions regions f))
    → HasSpaceFor mid (filled_regions regions (fill_of mid))
for_items old mid regions f fills has =
    space_then (filled_regions regions) (regions_filling regions) old mid f fills (space_front (filled_whole 0) (whole_filling 0) old (filled_regions regions f) has)

-- they are pushed
pub with_items : (disk disk' disk'' : DiskView) (old mid new : Held) (tid count : ℕ) (regions : List (List ℕ)) (f : Fill) (x : Unit {0})
    (one two : Result (Unit {0}) LogFault) → one ≡ Ok x → IsPush disk disk' old mid AtEntry (AtRegion tid count []) f one → PushesRegions disk' disk'' mid new tid regions two
    → IsPush disk disk'' old new AtEntry (AtRegion tid count regions) (filled_regions regions f) two
with_items disk disk' disk'' old mid new tid count regions f x one two was first second =
    push_then (filled_regions regions) (regions_filling regions) disk disk' disk'' old mid new AtEntry (AtRegion tid count []) (AtRegion tid count regions) f x one two was first
    (second count [])
