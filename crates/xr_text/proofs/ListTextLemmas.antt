-- Printing lists one after another.
use Rattle.std.proofs.Common.{◌≡◌, ℕ, ◌+◌, ◌<◌, ◌≤◌, List, [], ◌∷◌, ◌++◌, length, get_or}
use Rattle.std.proofs.Common.{sym, ap, subst, ◌∙◌, refl, arith, ⊎_elim}
use Rattle.std.specs.List.{flat_map}
use Rattle.std.proofs.lemmas.List.{append-nil, append_assoc, length_push, get_or_append_left, get_or_push, flat_map_more}
use Rattle.std.proofs.lemmas.Bool.{cases_lt}
use Rattle.xr_maps.specs.declared.records.Extent.{Extent}
use Rattle.xr_text.specs.RecordText.{extents_text}
use Rattle.xr_text.specs.MapText.{AreListsOf, AppendsLists, files_text}

module _ {X : Type 0} (P : ℕ → List X → Type 0) where
  lists_more : (n : ℕ) (lists : List (List X)) (x : List X) → AreListsOf P n lists → P n x → AreListsOf P (n + 1) (lists ++ x ∷ [])
  lists_more n lists x are new = record {
    count = length_push lists x ∙ ap (λ k. k + 1) are.count;
    each = λ i h. ⊎_elim
        (λ (before : i < n). subst (P i) (sym (get_or_append_left lists (x ∷ []) [] i (let c = are.count in omega arith))) (are.each i before))
        (λ (last : n ≤ i).
        let e : i ≡ n = omega arith in
        subst (λ k. P k (get_or (lists ++ x ∷ []) k [])) (sym e) (subst (P n) (sym (get_or_push lists x [] n are.count)) new))
        (cases_lt i n);
  }

  pub no_lists : (print : List (List X) → List ℕ) (text : List ℕ) → print [] ≡ [] → AppendsLists P print 0 text text
  no_lists print text none = record {
    lists = [];
    are = record { count = refl; each = λ i h. absurd (omega arith) };
    printed = sym (ap (λ t. text ++ t) none ∙ append-nil text);
  }

  -- one more list is printed
  pub appends_more : (print : List (List X) → List ℕ) (n : ℕ) (old now new : List ℕ) (x : List X) (piece : List ℕ)
      → (so_far : AppendsLists P print n old now) → P n x
      → print (so_far.lists ++ x ∷ []) ≡ print so_far.lists ++ piece → new ≡ now ++ piece → AppendsLists P print (n + 1) old new
  appends_more print n old now new x piece so_far is more e = record {
    lists = so_far.lists ++ x ∷ [];
    are = lists_more n so_far.lists x so_far.are is;
    printed = e ∙ ap (λ t. t ++ piece) so_far.printed ∙ append_assoc old (print so_far.lists) piece ∙ ap (λ t. old ++ t) (sym more);
  }

pub flat_map-push : {X : Type 0} (f : X → List ℕ) (xs : List X) (x : X) → flat_map f (xs ++ x ∷ []) ≡ flat_map f xs ++ f x
flat_map-push f xs x = sym (flat_map_more f [] xs x)

files_text-from : (file : ℕ) (lists : List (List Extent)) (extents : List Extent)
    → files_text file (lists ++ extents ∷ []) ≡ files_text file lists ++ extents_text (file + length lists) extents
files_text-from file [] extents = append-nil (extents_text file extents) ∙ (let e : file ≡ file + 0 = omega arith in ap (λ n. extents_text n extents) e)
files_text-from file (l ∷ lists) extents =
    ap (λ t. extents_text file l ++ t) (files_text-from (file + 1) lists extents)
    ∙ sym (append_assoc (extents_text file l) (files_text (file + 1) lists) (extents_text (file + 1 + length lists) extents))
    ∙ (let e : file + 1 + length lists ≡ file + length (l ∷ lists) = omega arith in
    ap (λ n. files_text file (l ∷ lists) ++ extents_text n extents) e)

pub files_text-push : (n : ℕ) (lists : List (List Extent)) (extents : List Extent) → length lists ≡ n
    → files_text 0 (lists ++ extents ∷ []) ≡ files_text 0 lists ++ extents_text n extents
files_text-push n lists extents count =
    files_text-from 0 lists extents ∙ (let e : 0 + length lists ≡ n = omega arith in ap (λ k. files_text 0 lists ++ extents_text k extents) e)
