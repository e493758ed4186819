-- Replaying entries, one after another.
use Rattle.std.proofs.Common.{◌≡◌, ◌∙◌, ℕ, suc, ◌+◌, ◌<◌, ◌≤◌, Bool, false, List, [], ◌∷◌, ◌++◌, length, get_or, drop, refl, sym, ap, subst, arith}
use Rattle.std.proofs.Math.Seq.{drop-cons}
use Rattle.std.specs.Global.{Vec}
use Rattle.std.proofs.lemmas.List.{append-nil, append_assoc, drop_all, get_or-map, length-map}
use Rattle.xr_items.specs.declared.item.Item.{Item}
use Rattle.xr_record.specs.declared.entry.Entry.{Entry}
use Rattle.xr_commit.specs.ItemsOf.{items_in}
use Rattle.xr_commit.specs.LoggedItems.{Logged}
use Rattle.xr_scan.specs.Replaying.{AreCopies, LogEach, LogsEntry, Replays}
use Rattle.xr_scan.specs.Scanned.{copy_number}
use Rattle.xr_scan.specs.CopyLaws.{replays_none, replays_then}

pub as_many_lists : (entries : List Entry) (lists : List (List Item)) (ls : List Logged) → LogEach entries lists ls → length lists ≡ length entries
as_many_lists [] [] ls each = refl
as_many_lists [] (items ∷ lists) ls each = absurd each
as_many_lists (e ∷ entries) [] ls each = absurd each
as_many_lists (e ∷ entries) (items ∷ lists) ls (first, later, is, logs, rest) = ap suc (as_many_lists entries lists later rest)

-- the items of the first of these entries were replayed
pub record IsReplayingEach (entries : List Entry) (lists : List (List Item)) (ls : List Logged) (i : ℕ) (old : List ℕ) (marks : List Bool) (now : List ℕ) (marks' : List Bool) : Type 0 where
  pub front : List Logged
  pub back : List Logged
  pub all : ls ≡ front ++ back
  pub left : LogEach (drop i entries) (drop i lists) back
  pub so_far : Replays front old marks now marks'

pub each_begins : (entries : List Entry) (lists : List (List Item)) (ls : List Logged) (old : List ℕ) (marks : List Bool) → LogEach entries lists ls → AreCopies old marks
    → IsReplayingEach entries lists ls 0 old marks old marks
each_begins entries lists ls old marks each copies = record { front = []; back = ls; all = refl; left = each; so_far = replays_none old marks copies }

-- the next entry, and what is replayed with it
pub record NextEntry (entries : List Entry) (lists : List (List Item)) (ls : List Logged) (i : ℕ) (e : Entry) (items : List Item) (old : List ℕ) (marks : List Bool) (now : List ℕ) (marks' : List Bool) : Type 0 where
  pub first : List Logged
  pub logs : LogsEntry e items first
  pub on : (new : List ℕ) (marks'' : List Bool) → Replays first now marks' new marks'' → IsReplayingEach entries lists ls (i + 1) old marks new marks''

pub next_entry : (entries : List Entry) (lists : List (List Item)) (ls : List Logged) (i : ℕ) (e : Entry) (items : List Item) (old : List ℕ) (marks : List Bool) (now : List ℕ) (marks' : List Bool)
    → i < length entries → length lists ≡ length entries → e ≡ get_or entries i e → items ≡ get_or lists i items
    → IsReplayingEach entries lists ls i old marks now marks' → NextEntry entries lists ls i e items old marks now marks'
next_entry entries lists ls i e items old marks now marks' below many e_is items_is t =
    step (subst (λ (es : List Entry). LogEach es (drop i lists) t.back) (drop-cons entries i e below) t.left) where
      step : LogEach (get_or entries i e ∷ drop (suc i) entries) (drop i lists) t.back → NextEntry entries lists ls i e items old marks now marks'
      step left = cut (subst (λ (xs : List (List Item)). LogEach (get_or entries i e ∷ drop (suc i) entries) xs t.back) (drop-cons lists i items (omega (arith, below, many))) left) where
        cut : LogEach (get_or entries i e ∷ drop (suc i) entries) (get_or lists i items ∷ drop (suc i) lists) t.back → NextEntry entries lists ls i e items old marks now marks'
        cut (first, later, is, logs, rest) = record {
          first = first;
          logs = subst (λ (x : Entry). LogsEntry x items first) (sym e_is) (subst (λ (xs : List Item). LogsEntry (get_or entries i e) xs first) (sym items_is) logs);
          on = λ new marks'' one. record {
            front = t.front ++ first;
            back = later;
            all = t.all ∙ ap (λ (xs : List Logged). t.front ++ xs) is ∙ sym (append_assoc t.front first later);
            left = subst (λ (n : ℕ). LogEach (drop n entries) (drop n lists) later) (let e : suc i ≡ i + 1 = omega arith in e) rest;
            so_far = replays_then t.front first old now new marks marks' marks'' t.so_far one;
          };
        }

pub each_ends : (entries : List Entry) (lists : List (List Item)) (ls : List Logged) (i : ℕ) (old : List ℕ) (marks : List Bool) (now : List ℕ) (marks' : List Bool)
    → length entries ≤ i → length lists ≡ length entries → IsReplayingEach entries lists ls i old marks now marks' → Replays ls old marks now marks'
each_ends entries lists ls i old marks now marks' past many t =
    let none : t.back ≡ [] = subst (λ (es : List Entry). LogEach es [] t.back) (drop_all i entries past)
    (subst (λ (xs : List (List Item)). LogEach (drop i entries) xs t.back) (drop_all i lists (omega (arith, past, many))) t.left) in
    subst (λ (xs : List Logged). Replays xs old marks now marks') (sym (t.all ∙ ap (λ (xs : List Logged). t.front ++ xs) none ∙ append-nil t.front)) t.so_far

-- the same of the vectors that hold the items
pub next_of : (entries : List Entry) (vecs : List (Vec Item)) (ls : List Logged) (i : ℕ) (e : Entry) (v : Vec Item) (items : List Item) (old : List ℕ) (marks : List Bool) (now : List ℕ) (marks' : List Bool)
    → LogEach entries (items_in vecs) ls → i < length entries → e ≡ get_or entries i e → v ≡ get_or vecs i v → items ≡ v.items
    → IsReplayingEach entries (items_in vecs) ls i old marks now marks' → NextEntry entries (items_in vecs) ls i e items old marks now marks'
next_of entries vecs ls i e v items old marks now marks' each below e_is v_is items_is t =
    let f : Vec Item → List Item = λ list. list.items in
    let many : length (items_in vecs) ≡ length entries = as_many_lists entries (items_in vecs) ls each in
    let here : i < length vecs = omega (arith, below, many, length-map vecs f) in
    next_entry entries (items_in vecs) ls i e items old marks now marks' below many e_is (items_is ∙ ap f v_is ∙ sym (get_or-map f vecs i v items here)) t

pub all_ends : (entries : List Entry) (lists : List (List Item)) (ls : List Logged) (i : ℕ) (old : List ℕ) (marks : List Bool) (now : List ℕ) (marks' : List Bool)
    → LogEach entries lists ls → length entries ≤ i → IsReplayingEach entries lists ls i old marks now marks' → Replays ls old marks now marks'
all_ends entries lists ls i old marks now marks' each past t = each_ends entries lists ls i old marks now marks' past (as_many_lists entries lists ls each) t
