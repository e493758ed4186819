-- The blocks of a transaction, laid over their copies one after another.
use Rattle.std.proofs.Common.{◌≡◌, ◌≢◌, ℕ, ◌+◌, ◌*◌, ◌/◌, ◌<◌, ◌≤◌, ◌∙◌, Bool, true, false, ◌||◌, ◌==◌, List, [], ◌∷◌, ◌++◌, length, take, drop, get_or, set, refl, sym, ap, subst, arith, inl, inr}
use Rattle.std.specs.Prelude.{if◌then◌else◌}
use Rattle.std.specs.List.{All, list_any}
use Rattle.std.proofs.lemmas.Bool.{eqb-true, ne_eqb}
use Rattle.std.proofs.lemmas.List.{append-nil, get_or-take, get_or_default, length-take-le, take-append-le, take_all, take_more}
use Rattle.std.proofs.lemmas.List.Elements.{All-head, All-tail}
use Rattle.xr_base.specs.Image.{overlaid}
use Rattle.xr_base.specs.declared.geometry.TheConstants.{BLOCK_BYTES, BLOCK_SECTORS}
use Rattle.xr_headers.specs.Padded.{zero_padded}
use Rattle.xr_headers.specs.PaddedLaws.{zero_padded_is}
use Rattle.xr_items.specs.declared.item.Item.{Item}
use Rattle.xr_items.specs.declared.item.Item.TheVariants.{Buf}
use Rattle.xr_items.specs.declared.trans.Logged.{Logged as Changed}
use Rattle.xr_items.specs.Transactions.{IsLogged, IsTrans, TransView}
use Rattle.xr_commit.specs.LoggedItems.{Logged}
use Rattle.xr_scan.specs.CopyLaws.{or_false, replays_one}
use Rattle.xr_scan.specs.Replaying.{AreCopies, IsStateBlock, LogsOnly}
use Rattle.xr_scan.specs.Scanned.{copy_number, copy_of}
use Rattle.xr_log.specs.Entering.{Lays, MayLay}
use Rattle.xr_log.specs.States.{block_after}

-- its image is the last one, since no other is of this block
after_more : (block : ℕ) (xs : List Changed) (l : Changed) (bytes : List ℕ) → All (λ (x : Changed). x.block ≢ l.block) xs
    → (if l.block == block then l.image else block_after block xs bytes) ≡ block_after block (xs ++ l ∷ []) bytes
after_more block [] l bytes apart = refl
after_more block (x ∷ xs) l bytes apart =
    by_test (x.block == block) refl (after_more block xs l bytes (All-tail (λ (y : Changed). y.block ≢ l.block) x xs apart)) where
      by_test : (b : Bool) → (x.block == block) ≡ b → (if l.block == block then l.image else block_after block xs bytes) ≡ block_after block (xs ++ l ∷ []) bytes
          → (if l.block == block then l.image else (if b then x.image else block_after block xs bytes)) ≡ (if b then x.image else block_after block (xs ++ l ∷ []) bytes)
      by_test true e rest =
          ap (λ (c : Bool). if c then l.image else x.image)
          (ne_eqb l.block block (λ same. All-head (λ (y : Changed). y.block ≢ l.block) x xs apart (eqb-true x.block block e ∙ sym same)))
      by_test false e rest = rest

abbrev is_block : ℕ → Changed → Bool
is_block block l = l.block == block

any_more : (block : ℕ) (xs : List Changed) (l : Changed) → (list_any (is_block block) xs || (l.block == block)) ≡ list_any (is_block block) (xs ++ l ∷ [])
any_more block [] l = sym (or_false (l.block == block))
any_more block (x ∷ xs) l = or_assoc (x.block == block) (list_any (is_block block) xs) (l.block == block) ∙ ap (λ (b : Bool). (x.block == block) || b) (any_more block xs l) where
  or_assoc : (a b c : Bool) → ((a || b) || c) ≡ (a || (b || c))
  or_assoc true b c = refl
  or_assoc false b c = refl

pub lays_none : (changed : List Changed) (old : List ℕ) (marks : List Bool) → AreCopies old marks → Lays (take 0 changed) old marks old marks
lays_none changed old marks copies =
    record { copies = copies; blocks = λ block there. refl; dirty = λ block there. sym (or_false (get_or marks (copy_number block) false)) }

lays_more : (xs : List Changed) (l : Changed) (old mid new : List ℕ) (marks marks' marks'' : List Bool) → Lays xs old marks mid marks' → IsStateBlock l.block
    → length l.image ≡ BLOCK_BYTES → All (λ (x : Changed). x.block ≢ l.block) xs → new ≡ overlaid (BLOCK_BYTES * copy_number l.block) (zero_padded BLOCK_BYTES l.image) mid
    → marks'' ≡ set marks' (copy_number l.block) true → Lays (xs ++ l ∷ []) old marks new marks''
lays_more xs l old mid new marks marks' marks'' lays known whole apart is are =
    let item : Item = Buf (BLOCK_SECTORS * l.block) in
    let logged : Logged = record { item = item; bytes = l.image } in
    let back : (BLOCK_SECTORS * l.block) / BLOCK_SECTORS ≡ l.block = omega arith in
    let only : LogsOnly item l.block = record { in_state = known; only = λ n. ap (λ (m : ℕ). m == n) back } in
    let one = replays_one item logged l.block l.image mid new marks' marks'' refl refl only lays.copies is are in
    let pad : zero_padded BLOCK_BYTES l.image ≡ l.image = zero_padded_is BLOCK_BYTES 0 l.image (omega (arith, whole)) ∙ append-nil l.image in
    record {
      copies = one.copies;
      blocks = λ n there. one.blocks n there ∙ ap (λ (b : Bool). if b then zero_padded BLOCK_BYTES l.image else copy_of mid n) (only.only n)
          ∙ ap (λ (bytes : List ℕ). if l.block == n then bytes else copy_of mid n) pad
          ∙ ap (λ (bytes : List ℕ). if l.block == n then l.image else bytes) (lays.blocks n there) ∙ after_more n xs l (copy_of old n) apart;
      dirty = λ n there. one.dirty n there ∙ ap (λ (b : Bool). get_or marks' (copy_number n) false || (b || false)) (only.only n)
          ∙ ap (λ (b : Bool). get_or marks' (copy_number n) false || b) (or_false (l.block == n)) ∙ ap (λ (b : Bool). b || (l.block == n)) (lays.dirty n there)
          ∙ or_assoc (get_or marks (copy_number n) false) (list_any (is_block n) xs) (l.block == n)
          ∙ ap (λ (b : Bool). get_or marks (copy_number n) false || b) (any_more n xs l);
    }
  where
    or_assoc : (a b c : Bool) → ((a || b) || c) ≡ (a || (b || c))
    or_assoc true b c = refl
    or_assoc false b c = refl

-- one block more
pub lays_next : (changed : List Changed) (i : ℕ) (l d : Changed) (old mid new : List ℕ) (marks marks' marks'' : List Bool) → MayLay changed → i < length changed
    → l ≡ get_or changed i d → Lays (take i changed) old marks mid marks' → new ≡ overlaid (BLOCK_BYTES * copy_number l.block) (zero_padded BLOCK_BYTES l.image) mid
    → marks'' ≡ set marks' (copy_number l.block) true → Lays (take (i + 1) changed) old marks new marks''
lays_next changed i l d old mid new marks marks' marks'' may below is lays laid marked =
    let here : l ≡ get_or changed i l = is ∙ get_or_default changed i d l below in
    let long = length-take-le i changed (omega (arith, below)) in
    subst (λ (xs : List Changed). Lays xs old marks new marks'') (sym (take_more changed i l below ∙ ap (λ (x : Changed). take i changed ++ x ∷ []) (sym here)))
    (lays_more (take i changed) l old mid new marks marks' marks'' lays
    (subst (λ (x : Changed). IsStateBlock x.block) (sym here) (may.known i l below)) (subst (λ (x : Changed). length x.image ≡ BLOCK_BYTES) (sym here) (may.whole i l below))
    (λ k e within.
    let before : k < i = omega (arith, within, long) in
    λ same. may.differ k i e before below (ap (λ (x : Changed). x.block) (sym (get_or-take i changed k e before)) ∙ same ∙ ap (λ (x : Changed). x.block) (is ∙ get_or_default changed i d e below)))
    laid marked)

pub lays_all : (changed : List Changed) (n : ℕ) (old new : List ℕ) (marks marks' : List Bool) → length changed ≤ n → Lays (take n changed) old marks new marks' → Lays changed old marks new marks'
lays_all changed n old new marks marks' most lays = subst (λ (xs : List Changed). Lays xs old marks new marks') (take_all n changed most) lays

-- the blocks of a transaction may be laid
known_block : (l : Changed) → IsLogged l → IsStateBlock l.block
known_block l (inl buffer) = inr buffer
known_block l (inr (core, image)) = inl core

pub may_lay : (trans : TransView) (changed : List Changed) → IsTrans trans → changed ≡ trans.blocks → MayLay changed
may_lay trans changed valid are = subst MayLay (sym are) record {
  known = λ k d within. known_block (get_or trans.blocks k d) (valid.logged_blocks k d within);
  whole = valid.whole_images;
  differ = valid.distinct;
}

-- what was lent comes back
back : {X : Type 0} (old new : List X) (n : ℕ) → length new ≡ n → take n (new ++ drop (length new) old) ≡ new
back old new n long = take-append-le n new (drop (length new) old) (omega (arith, long)) ∙ take_all n new (omega (arith, long))

pub laid_back : (changed : List Changed) (old lent new : List ℕ) (marks lent' marks' : List Bool) (m n : ℕ) → lent ≡ old → lent' ≡ marks → length new ≡ m → length marks' ≡ n
    → Lays changed lent lent' new marks' → Lays changed old marks (take m (new ++ drop (length new) old)) (take n (marks' ++ drop (length marks') marks))
laid_back changed old lent new marks lent' marks' m n is are long each lays =
    subst (λ (xs : List ℕ). Lays changed old marks xs (take n (marks' ++ drop (length marks') marks))) (sym (back old new m long))
    (subst (λ (ms : List Bool). Lays changed old marks new ms) (sym (back marks marks' n each))
    (subst (λ (xs : List ℕ). Lays changed xs marks new marks') is (subst (λ (ms : List Bool). Lays changed lent ms new marks') are lays)))
