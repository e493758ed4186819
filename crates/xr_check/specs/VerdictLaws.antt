-- Maps and groups have one verdict.
use Rattle.std.specs.Prelude.{◌≡◌, ◌≢◌, ℕ, ◌<◌, ◌≤◌, List, [], ◌∷◌, ◌++◌}
use Rattle.std.specs.List.{All, Contains}
use Rattle.std.proofs.Common.{refl, sym, ap, ◌∙◌, subst, arith, ⊎_elim, get_or}
use Rattle.std.proofs.lemmas.Bool.{cases_eq, cases_lt}
use Rattle.std.proofs.lemmas.List.{append_cancel_left, get_or_default}
use Rattle.std.proofs.lemmas.List.Elements.{All-contains}
use Rattle.xr_base.specs.Address.{address_of}
use Rattle.xr_base.specs.declared.address.Addr.{Addr}
use Rattle.xr_base.specs.declared.address.GroupNo.{GroupNo}
use Rattle.xr_base.specs.declared.address.Run.{Run}
use Rattle.xr_check.specs.Differences.{DiffersAt, HeadsDiffer, IsLesserStart}
use Rattle.xr_check.specs.TreeOrderLaws.{counts_ordered, frees_ordered, owners_ordered, sizes_ordered}
use Rattle.xr_check.specs.TreeOrders.{IsTreeOrder}
use Rattle.xr_check.specs.Verdicts.{AreAllGroups, AreSizeRecords, AreTreesSound, DiffersFrom, IsFirstGroup, IsFirstTree, IsTreeDifference, IsTreeSound, IsVerdict, counted_start, rev_start, run_start, turn_of}
use Rattle.xr_check.specs.declared.verdict.TreeName.{TreeName}
use Rattle.xr_check.specs.declared.verdict.TreeName.TheVariants.{Free, Owners, Shared, Sizes}
use Rattle.xr_check.specs.declared.verdict.Verdict.{Verdict}
use Rattle.xr_check.specs.declared.verdict.Verdict.TheVariants.{Differs, Sound}
use Rattle.xr_group.specs.Group.{GroupState, group_no}
use Rattle.xr_group.specs.Next.{IsCountedBefore, IsShorter, StartsBefore, counteds_now, frees_now, revs_now, sizes_now}
use Rattle.xr_maps.specs.FileMaps.{FileMaps}
use Rattle.xr_maps.specs.RecordLaws.{free_are_determined, owners_are_determined, shared_are_determined}
use Rattle.xr_maps.specs.Records.{AreFreeRecords, AreReferenceRecords, AreReverseRecords, IsBefore}
use Rattle.xr_maps.specs.RunLaws.{same_sorted}

-- the law, as a contract states it
abbrev pub VerdictsAreDetermined : Type 0
VerdictsAreDetermined =
    (maps : FileMaps) (groups : List GroupState) (u v : Verdict) → AreAllGroups groups → IsVerdict maps groups u → IsVerdict maps groups v → u ≡ v

-- Differences

module _ {X : Type 0} (records : GroupState → List X) (Before : X → X → Type 0) (start : X → Addr) (order : IsTreeOrder records Before start) where
  lesser_is_one : (x y : X) (k l : Addr) → IsLesserStart Before start x y k → IsLesserStart Before start x y l → k ≡ l
  lesser_is_one x y k l one other = ⊎_elim
      (λ (same : k.0 ≡ l.0). ap address_of same)
      (λ (differ : k.0 ≢ l.0). absurd (
      let not_apart : ¬ (k ≡ l) = λ e. differ (ap (λ (a : Addr). a.0) e) in
      let before : ¬ (¬ (Before y x)) = λ no. not_apart (one.first no ∙ sym (other.first no)) in
      let after : ¬ (¬ (Before x y)) = λ no. not_apart (one.second no ∙ sym (other.second no)) in
      before (λ y_first. after (λ x_first. order.irreflexive x (order.transitive x y x x_first y_first)))))
      (cases_eq k.0 l.0)

  heads_are_one : (xs ys : List X) (k l : Addr) → HeadsDiffer Before start xs ys k → HeadsDiffer Before start xs ys l → k ≡ l
  heads_are_one [] [] k l one other = absurd one
  heads_are_one (x ∷ xs) [] k l one other = one ∙ sym other
  heads_are_one [] (y ∷ ys) k l one other = one ∙ sym other
  heads_are_one (x ∷ xs) (y ∷ ys) k l one other = lesser_is_one x y k l one other

  heads_are_apart : (xs : List X) (k : Addr) → ¬ (HeadsDiffer Before start xs xs k)
  heads_are_apart [] k heads = heads
  heads_are_apart (x ∷ xs) k heads = heads.differ refl

  same_head : (x : X) (xs ys ts us : List X) (k : Addr) → xs ≡ x ∷ ts → ys ≡ x ∷ us → ¬ (HeadsDiffer Before start xs ys k)
  same_head x xs ys ts us k first second heads =
      let at : HeadsDiffer Before start (x ∷ ts) (x ∷ us) k =
      subst (λ (zs : List X). HeadsDiffer Before start (x ∷ ts) zs k) second (subst (λ (zs : List X). HeadsDiffer Before start zs ys k) first heads) in
      at.differ refl

  place_is_one : (f g t u d e : List X) (k l : Addr) → f ++ t ≡ g ++ u → f ++ d ≡ g ++ e → HeadsDiffer Before start t d k → HeadsDiffer Before start u e l → k ≡ l
  place_is_one [] [] t u d e k l trees lists one other =
      heads_are_one u e k l (subst (λ (zs : List X). HeadsDiffer Before start u zs k) lists (subst (λ (zs : List X). HeadsDiffer Before start zs d k) trees one)) other
  place_is_one [] (y ∷ g) t u d e k l trees lists one other = absurd (same_head y t d (g ++ u) (g ++ e) k trees lists one)
  place_is_one (x ∷ f) [] t u d e k l trees lists one other = absurd (same_head x u e (f ++ t) (f ++ d) l (sym trees) (sym lists) other)
  place_is_one (x ∷ f) (y ∷ g) t u d e k l trees lists one other =
      let rest : f ++ t ≡ g ++ u = cc trees in
      let others : f ++ d ≡ g ++ e = cc lists in
      place_is_one f g t u d e k l rest others one other

  key_is_one : (tree xs ys : List X) (k l : Addr) → xs ≡ ys → DiffersAt Before start tree xs k → DiffersAt Before start tree ys l → k ≡ l
  key_is_one tree xs ys k l same one other =
      place_is_one one.front other.front one.tree_rest other.tree_rest one.defined_rest other.defined_rest k l
      (sym one.tree_is ∙ other.tree_is) (sym one.defined_is ∙ same ∙ other.defined_is) one.heads other.heads

  differ_somewhere : (tree defined : List X) (k : Addr) → DiffersAt Before start tree defined k → ¬ (tree ≡ defined)
  differ_somewhere tree defined k at same =
      let rests : at.tree_rest ≡ at.defined_rest = append_cancel_left at.front at.tree_rest at.defined_rest (sym at.tree_is ∙ same ∙ at.defined_is) in
      heads_are_apart at.tree_rest k (subst (λ (zs : List X). HeadsDiffer Before start at.tree_rest zs k) (sym rests) at.heads)

  module _ (Are : List X → Type 0) (determined : (xs ys : List X) → Are xs → Are ys → xs ≡ ys) (tree : List X) where
    one_key : (k l : Addr) → DiffersFrom Are Before start tree k → DiffersFrom Are Before start tree l → k ≡ l
    one_key k l one other = key_is_one tree one.defined other.defined k l (determined one.defined other.defined one.are_defined other.are_defined) one.differs other.differs

    not_both : (k : Addr) → Are tree → ¬ (DiffersFrom Are Before start tree k)
    not_both k are from = differ_somewhere tree from.defined k from.differs (determined tree from.defined are from.are_defined)

-- Trees

sizes_are_determined : (maps : FileMaps) (group : ℕ) (xs ys : List Run) → AreSizeRecords maps group xs → AreSizeRecords maps group ys → xs ≡ ys
sizes_are_determined maps group xs ys are others =
    let same = free_are_determined maps group are.by_start others.by_start are.are_free others.are_free in
    same_sorted IsShorter sizes_ordered.irreflexive sizes_ordered.transitive xs ys are.rising others.rising
    (λ r held. (others.same r).1 (subst (λ (zs : List Run). Contains zs r) same ((are.same r).0 held)))
    (λ r held. (are.same r).1 (subst (λ (zs : List Run). Contains zs r) (sym same) ((others.same r).0 held)))

module _ (maps : FileMaps) (g : GroupState) where
  key_of_tree : (tree : TreeName) (k l : Addr) → IsTreeDifference maps g tree k → IsTreeDifference maps g tree l → k ≡ l
  key_of_tree Owners = one_key revs_now IsBefore rev_start owners_ordered (AreReverseRecords maps g.number) (owners_are_determined maps g.number) (revs_now g)
  key_of_tree Shared =
      one_key counteds_now IsCountedBefore counted_start counts_ordered (AreReferenceRecords maps g.number) (shared_are_determined maps g.number) (counteds_now g)
  key_of_tree Free = one_key frees_now StartsBefore run_start frees_ordered (AreFreeRecords maps g.number) (free_are_determined maps g.number) (frees_now g)
  key_of_tree Sizes = one_key sizes_now IsShorter run_start sizes_ordered (AreSizeRecords maps g.number) (sizes_are_determined maps g.number) (sizes_now g)

  sound_or_not : (tree : TreeName) (k : Addr) → IsTreeSound maps g tree → ¬ (IsTreeDifference maps g tree k)
  sound_or_not Owners = not_both revs_now IsBefore rev_start owners_ordered (AreReverseRecords maps g.number) (owners_are_determined maps g.number) (revs_now g)
  sound_or_not Shared =
      not_both counteds_now IsCountedBefore counted_start counts_ordered (AreReferenceRecords maps g.number) (shared_are_determined maps g.number) (counteds_now g)
  sound_or_not Free = not_both frees_now StartsBefore run_start frees_ordered (AreFreeRecords maps g.number) (free_are_determined maps g.number) (frees_now g)
  sound_or_not Sizes = not_both sizes_now IsShorter run_start sizes_ordered (AreSizeRecords maps g.number) (sizes_are_determined maps g.number) (sizes_now g)

  no_later : (t u : TreeName) (k l : Addr) → IsFirstTree maps g t k → IsFirstTree maps g u l → turn_of u ≤ turn_of t
  no_later t u k l one other = ⊎_elim
      (λ (less : turn_of t < turn_of u). absurd (sound_or_not t k (other.earlier t less) one.differs))
      (λ (not_less : turn_of u ≤ turn_of t). not_less)
      (cases_lt (turn_of t) (turn_of u))

same_turn : (t u : TreeName) → turn_of t ≡ turn_of u → t ≡ u
same_turn Owners Owners e = refl
same_turn Owners Shared e = absurd (omega (arith, e))
same_turn Owners Free e = absurd (omega (arith, e))
same_turn Owners Sizes e = absurd (omega (arith, e))
same_turn Shared Owners e = absurd (omega (arith, e))
same_turn Shared Shared e = refl
same_turn Shared Free e = absurd (omega (arith, e))
same_turn Shared Sizes e = absurd (omega (arith, e))
same_turn Free Owners e = absurd (omega (arith, e))
same_turn Free Shared e = absurd (omega (arith, e))
same_turn Free Free e = refl
same_turn Free Sizes e = absurd (omega (arith, e))
same_turn Sizes Owners e = absurd (omega (arith, e))
same_turn Sizes Shared e = absurd (omega (arith, e))
same_turn Sizes Free e = absurd (omega (arith, e))
same_turn Sizes Sizes e = refl

first_tree_is_one : (maps : FileMaps) (g : GroupState) (t u : TreeName) (k l : Addr) → IsFirstTree maps g t k → IsFirstTree maps g u l → (t ≡ u) × (k ≡ l)
first_tree_is_one maps g t u k l one other =
    let later = no_later maps g t u k l one other in
    let earlier = no_later maps g u t l k other one in
    let same : t ≡ u = same_turn t u (omega (arith, later, earlier)) in
    (same, key_of_tree maps g u k l (subst (λ (s : TreeName). IsTreeDifference maps g s k) same one.differs) other.differs)

-- Groups

module _ (maps : FileMaps) (groups : List GroupState) (all : AreAllGroups groups) where
  place_of : (g : GroupState) → (held : Contains groups g) → g.number ≡ held.0
  place_of g held = let within = held.1 in
      sym (ap (λ (x : GroupState). x.number) held.2) ∙ all.numbers held.0 g (omega (arith, within, all.count))

  same_group : (g h : GroupState) → Contains groups g → Contains groups h → g.number ≡ h.number → g ≡ h
  same_group g h one other numbers =
      let at : one.0 ≡ other.0 = sym (place_of g one) ∙ numbers ∙ place_of h other in
      sym one.2 ∙ get_or_default groups one.0 g h one.1 ∙ ap (λ (k : ℕ). get_or groups k h) at ∙ other.2

  no_later_group : (t u : TreeName) (m n : ℕ) (k l : Addr) → IsFirstGroup maps groups t m k → IsFirstGroup maps groups u n l → n ≤ m
  no_later_group t u m n k l one other = ⊎_elim
      (λ (less : m < n). let number = one.is_number in
      absurd (sound_or_not maps one.group t k (other.earlier one.group one.held (omega (arith, less, number)) t) one.first.differs))
      (λ (not_less : n ≤ m). not_less)
      (cases_lt m n)

  differences_are_one : (t u : TreeName) (m n : GroupNo) (k l : Addr) → IsFirstGroup maps groups t m.0 k → IsFirstGroup maps groups u n.0 l
      → Differs t m k ≡ Differs u n l
  differences_are_one t u m n k l one other =
      let later = no_later_group t u m.0 n.0 k l one other in
      let earlier = no_later_group u t n.0 m.0 l k other one in
      let number : m.0 ≡ n.0 = omega (arith, later, earlier) in
      let group : one.group ≡ other.group = same_group one.group other.group one.held other.held (one.is_number ∙ number ∙ sym other.is_number) in
      let both = first_tree_is_one maps other.group t u k l (subst (λ (g : GroupState). IsFirstTree maps g t k) group one.first) other.first in
      let no : m ≡ n = ap group_no number in
      λ i. Differs (both.0 i) (no i) (both.1 i)

  sound_or_differs : (t : TreeName) (n : ℕ) (k : Addr) → All (AreTreesSound maps) groups → ¬ (IsFirstGroup maps groups t n k)
  sound_or_differs t n k sound first =
      sound_or_not maps first.group t k (All-contains (AreTreesSound maps) groups first.group sound first.held t) first.first.differs

pub verdicts_are_determined : VerdictsAreDetermined
verdicts_are_determined maps groups Sound Sound all one other = refl
verdicts_are_determined maps groups Sound (Differs t n k) all one other = absurd (sound_or_differs maps groups all t n.0 k one other)
verdicts_are_determined maps groups (Differs t n k) Sound all one other = absurd (sound_or_differs maps groups all t n.0 k other one)
verdicts_are_determined maps groups (Differs t m k) (Differs u n l) all one other = differences_are_one maps groups all t u m n k l one other
