-- What the last operation of a transaction makes of what a log keeps.
use Rattle.std.proofs.Common.{◌≡◌, ℕ, ◌≤◌, Bool, true, List, [], ◌∷◌, ◌++◌, length, map, refl, sym, ap, subst, ◌∙◌, arith}
use Rattle.std.specs.List.{AllByRecursion, flat_map}
use Rattle.std.proofs.lemmas.List.{length-map}
use Rattle.xr_disk.specs.Disk.{DiskView}
use Rattle.xr_items.specs.declared.item.Item.{Item}
use Rattle.xr_items.specs.declared.item.Item.TheVariants.{Buf, Inode, Begin, Done}
use Rattle.xr_record.specs.Packing.{Packed}
use Rattle.xr_record.specs.Rules.{AtRegion, phase_of}
use Rattle.xr_record.specs.Stream.{Begun, Between, Cut, Inside, IsOpenPiece, IsTransaction, IsTransactionFront, Open, Written, are_items, commit, joined}
use Rattle.xr_commit.specs.GoodItems.{ItemsAreGood}
use Rattle.xr_commit.specs.LoggedItems.{Logged, logged_regions}
use Rattle.xr_scan.specs.LoggedEntries.{IsWholeItem, logged_items}
use Rattle.xr_scan.specs.NextId.{next_id}
use Rattle.xr_scan.specs.State.{State}
use Rattle.xr_log.specs.declared.held.Held.{Held}
use Rattle.xr_log.specs.CommitSteps.{KeepsOpen}
use Rattle.xr_log.specs.Gathered.{HasGathered, Said, needed, with_operation}
use Rattle.xr_log.specs.KeepsNow.{KeepsNow}
use Rattle.xr_log.specs.Pushes.{opened, said_after, state_with}
use Rattle.xr_log.proofs.OpenLemmas.{HasOneMore}
use Rattle.xr_log.proofs.PushLemmas.{gathers_all}

-- what is open where a region may come
record IsInside (o : Open) (tid count : ℕ) (regions : List (List ℕ)) : Type 0 where
  t : Written
  o_is : o ≡ Inside t
  tid_is : t.tid ≡ tid
  count_is : t.count ≡ count
  regions_are : map joined t.regions ≡ regions

inside : (o : Open) (tid count : ℕ) (regions : List (List ℕ)) → phase_of o ≡ AtRegion tid count regions → IsInside o tid count regions
inside Between tid count regions e = absurd (cc)
inside (Begun own) tid count regions e = absurd (cc)
inside (Inside t) tid count regions e = record { t = t; o_is = refl; tid_is = cc; count_is = cc; regions_are = cc }
inside (Cut t part parts) tid count regions e = absurd (cc)

-- ids of items one after another
item_ids : (n : ℕ) (item : Item) (xs ys : List Item) → (next_id xs ≤ n → next_id ys ≤ n) → next_id (item ∷ xs) ≤ n → next_id (item ∷ ys) ≤ n
item_ids n (Buf sector) xs ys f h = f h
item_ids n (Inode ino) xs ys f h = f h
item_ids n (Begin id work) xs ys f h = let k : next_id xs ≤ n = omega (arith, h) in let m = f k in omega (arith, h, m)
item_ids n (Done id of) xs ys f h = let k : next_id xs ≤ n = omega (arith, h) in let m = f k in omega (arith, h, m)

ids_append : (n : ℕ) (ls ms : List Logged) → next_id (logged_items ls) ≤ n → next_id (logged_items ms) ≤ n → next_id (logged_items (ls ++ ms)) ≤ n
ids_append n [] ms a b = b
ids_append n (l ∷ ls) ms a b = item_ids n l.item (logged_items ls) (logged_items (ls ++ ms)) (λ h. ids_append n ls ms h b) a

pub ends_transaction : (disk : DiskView) (old new : Held) (now : State) (said : Said) (next next' : ℕ) (states : List State) (tid : ℕ) (logged : List Logged)
    → KeepsOpen disk old now said next states (AtRegion tid (length (flat_map logged_regions logged)) (flat_map logged_regions logged)) → HasOneMore old new (commit tid)
    → are_items (flat_map logged_regions logged) ≡ true → ItemsAreGood now.uuid said.last logged → AllByRecursion IsWholeItem logged → next ≤ next'
    → next_id (logged_items logged) ≤ next'
    → (t : Written) × KeepsNow disk new.growing (state_with now said.logged logged) (said_after said t logged) next' states
ends_transaction disk old new now said next next' states tid logged k more items good whole later ids =
    let keeps = k.keeps in
    let i : IsInside k.o tid (length (flat_map logged_regions logged)) (flat_map logged_regions logged) =
    inside k.o tid (length (flat_map logged_regions logged)) (flat_map logged_regions logged) k.phase_is in
    let front : IsTransactionFront i.t = subst IsOpenPiece i.o_is keeps.gathered.stream.good in
    let is : IsTransaction i.t = record {
      front_is = front;
      number = i.count_is ∙ sym (ap length i.regions_are) ∙ length-map i.t.regions joined;
      items = ap are_items i.regions_are ∙ items;
    } in
    let gathered = gathers_all keeps.image keeps.durable keeps.holds (needed old.growing.anew keeps.holds.live_in.records) old.growing.packer now (opened said k.o) i.t
    logged keeps.gathered i.o_is is i.regions_are (subst (λ (uuid : List ℕ). ItemsAreGood uuid said.last logged) keeps.gathered.uuid good) whole in (
      i.t,
      record {
        image = keeps.image;
        rest = keeps.rest;
        long = keeps.long;
        durable = keeps.durable;
        among = keeps.among;
        holds = keeps.holds;
        last_is = keeps.last_is ∙ sym more.last;
        gathered = subst (λ (p : Packed). HasGathered keeps.image keeps.durable keeps.holds (needed new.growing.anew keeps.holds.live_in.records) p (state_with now said.logged logged) (said_after said i.t logged))
            (ap (λ (n : ℕ). with_operation old.growing.packer (commit n)) i.tid_is ∙ sym more.packer)
            (subst (λ (b : Bool). HasGathered keeps.image keeps.durable keeps.holds (needed b keeps.holds.live_in.records) (with_operation old.growing.packer (commit i.t.tid)) (state_with now said.logged logged) (said_after said i.t logged))
            (sym more.anew) gathered);
        durable_ids = (let d = keeps.durable_ids in omega (arith, d, later));
        ids = ids_append next' said.logged logged (let d = keeps.ids in omega (arith, d, later)) ids;
      },
    )
