-- An image that is laid over the copy of its block, where all other copies stay, and items that are replayed after others.
use Rattle.std.proofs.Common.{◌≡◌, ◌⊎◌, ◌∙◌, ◌||◌, ◌==◌, ℕ, ◌+◌, ◌-◌, ◌*◌, ◌/◌, ◌%◌, ◌<◌, ◌≤◌, Bool, true, false, if◌then◌else◌, List, [], ◌∷◌, ◌++◌, length, get_or, set, refl, sym, ap, inl, inr, arith}
use Rattle.std.proofs.lemmas.Bool.{cond-false, cond-true, eq-eqb, eqb-true, false≢true, le-ltb, lt-ltb}
use Rattle.std.proofs.lemmas.List.{get_or-set_other, get_or-set_same, length-set}
use Rattle.xr_base.specs.Image.{overlaid}
use Rattle.xr_base.specs.declared.geometry.TheConstants.{BLOCK_BYTES}
use Rattle.xr_base.specs.ImageLaws.{block_of-overlaid, block_of-overlaid_other, length-overlaid}
use Rattle.xr_headers.specs.Padded.{zero_padded}
use Rattle.xr_headers.specs.PaddedLaws.{length-zero_padded}
use Rattle.xr_items.specs.declared.item.Item.{Item}
use Rattle.xr_commit.specs.LoggedItems.{Logged}
use Rattle.xr_scan.specs.Replaying.{AreCopies, IsStateBlock, LogsOnly, Replays}
use Rattle.xr_scan.specs.Replayed.{is_logged, logs_block, replayed}
use Rattle.xr_scan.specs.ReplayLaws.{ReplayGoesOn}
use Rattle.xr_scan.specs.Scanned.{copy_number, copy_of}

-- each block has a copy of its own
pub record IsPlaced (block : ℕ) : Type 0 where
  pub within : copy_number block < 2304
  pub back : ((block < 776) × (520 ≤ block) × (copy_number block ≡ block - 520))
      ⊎ ((776 ≤ block) × ((block - 776) % 2048 < 512) × ((block - 776) / 2048 < 4) × (copy_number block ≡ 256 + 512 * ((block - 776) / 2048) + (block - 776) % 2048))

file_placed : (block : ℕ) → 520 ≤ block → block < 776 → IsPlaced block
file_placed block first last =
    let e : copy_number block ≡ block - 520 = cond-true _ _ _ (lt-ltb block 776 last) in
    record { within = omega (arith, e, first, last); back = inl (last, first, e) }

pub placed : (block : ℕ) → IsStateBlock block → IsPlaced block
placed block (inl core) = file_placed block core.first core.last
placed block (inr (inl pool)) = file_placed block pool.first pool.last
placed block (inr (inr group)) =
    let e : copy_number block ≡ 256 + 512 * ((block - 776) / 2048) + (block - 776) % 2048 = cond-false _ _ _ (le-ltb block 776 group.first) in
    let g = group.group in
    let d = group.before_data in
    record { within = omega (arith, e, g, d); back = inr (group.first, d, g, e) }

apart : (one two : ℕ) → IsStateBlock one → IsStateBlock two → copy_number one ≡ copy_number two → one ≡ two
apart one two a b same = elim (placed one a).back [
  | inl (p, q, r) ↦ elim (placed two b).back [ inl (s, t, u) ↦ omega (arith, p, q, r, s, t, u, same) | inr (s, t, u, v) ↦ absurd (omega (arith, p, q, r, v, same)) ]
  | inr (p, q, w, r) ↦ elim (placed two b).back [ inl (s, t, u) ↦ absurd (omega (arith, r, s, t, u, same)) | inr (s, t, u, v) ↦ omega (arith, p, q, w, r, s, t, u, v, same) ]
]

abbrev pub laid : ℕ → List ℕ → List ℕ → List ℕ
laid block image old = overlaid (4096 * copy_number block) (zero_padded 4096 image) old

pub one_copy : (block n : ℕ) (image old : List ℕ) → IsStateBlock block → IsStateBlock n → length old ≡ 9437184
    → copy_of (laid block image old) n ≡ (if block == n then zero_padded 4096 image else copy_of old n)
one_copy block n image old here there long = step (block == n) refl where
  fits : 4096 * (copy_number block + 1) ≤ length old
  fits = let h = (placed block here).within in omega (arith, h, long)

  step : (b : Bool) → (block == n) ≡ b → copy_of (laid block image old) n ≡ (if b then zero_padded 4096 image else copy_of old n)
  step true e = ap (λ (m : ℕ). copy_of (laid block image old) m) (sym (eqb-true block n e)) ∙ block_of-overlaid (copy_number block) (zero_padded 4096 image) old (length-zero_padded 4096 image) fits
  step false e = block_of-overlaid_other (copy_number n) (copy_number block) (zero_padded 4096 image) old
      (λ same. false≢true (sym e ∙ eq-eqb block n (apart block n here there (sym same)))) (length-zero_padded 4096 image) fits

or_true : (x : Bool) → (x || true) ≡ true
or_true true = refl
or_true false = refl

pub or_false : (x : Bool) → (x || false) ≡ x
or_false true = refl
or_false false = refl

pub one_mark : (block n : ℕ) (marks : List Bool) → IsStateBlock block → IsStateBlock n → length marks ≡ 2304
    → get_or (set marks (copy_number block) true) (copy_number n) false ≡ (get_or marks (copy_number n) false || (block == n))
one_mark block n marks here there long = step (block == n) refl where
  step : (b : Bool) → (block == n) ≡ b → get_or (set marks (copy_number block) true) (copy_number n) false ≡ (get_or marks (copy_number n) false || b)
  step true e = ap (λ (m : ℕ). get_or (set marks (copy_number block) true) (copy_number m) false) (sym (eqb-true block n e))
      ∙ get_or-set_same marks (copy_number block) true false (let h = (placed block here).within in omega (arith, h, long))
      ∙ sym (or_true (get_or marks (copy_number n) false))
  step false e = get_or-set_other marks (copy_number block) (copy_number n) true false
      (λ same. false≢true (sym e ∙ eq-eqb block n (apart block n here there (sym same)))) ∙ sym (or_false (get_or marks (copy_number n) false))

pub replays_one : (item : Item) (l : Logged) (block : ℕ) (image old new : List ℕ) (marks marks' : List Bool) → l.item ≡ item → image ≡ l.bytes → LogsOnly item block
    → AreCopies old marks → new ≡ laid block image old → marks' ≡ set marks (copy_number block) true → Replays (l ∷ []) old marks new marks'
replays_one item l block image old new marks marks' item_is image_is logs copies is are =
    let same : (n : ℕ) → logs_block n l.item ≡ (block == n) = λ n. ap (logs_block n) item_is ∙ logs.only n in
    let fits : 4096 * copy_number block + length (zero_padded 4096 image) ≤ length old =
    let h = (placed block logs.in_state).within in let w = copies.whole in omega (arith, h, w, length-zero_padded 4096 image) in
    record {
      copies = record {
        whole = ap length is ∙ length-overlaid (4096 * copy_number block) (zero_padded 4096 image) old fits ∙ copies.whole;
        each = ap length are ∙ length-set marks (copy_number block) true ∙ copies.each;
      };
      blocks = λ n there. ap (λ (xs : List ℕ). copy_of xs n) is ∙ one_copy block n image old logs.in_state there copies.whole
          ∙ ap (λ (b : Bool). if b then zero_padded 4096 image else copy_of old n) (sym (same n))
          ∙ ap (λ (xs : List ℕ). if logs_block n l.item then zero_padded 4096 xs else copy_of old n) image_is;
      dirty = λ n there. ap (λ (ms : List Bool). get_or ms (copy_number n) false) are ∙ one_mark block n marks logs.in_state there copies.each
          ∙ ap (λ (b : Bool). get_or marks (copy_number n) false || b) (sym (same n) ∙ sym (or_false (logs_block n l.item)));
    }

-- items after others
pub replay_goes_on : ReplayGoesOn
replay_goes_on block bytes [] ms = refl
replay_goes_on block bytes (l ∷ ls) ms = replay_goes_on block (if logs_block block l.item then zero_padded BLOCK_BYTES l.bytes else bytes) ls ms

or_assoc : (a b c : Bool) → ((a || b) || c) ≡ (a || (b || c))
or_assoc true b c = refl
or_assoc false b c = refl

logged_append : (block : ℕ) (ls ms : List Logged) → is_logged block (ls ++ ms) ≡ (is_logged block ls || is_logged block ms)
logged_append block [] ms = refl
logged_append block (l ∷ ls) ms =
    ap (λ (b : Bool). logs_block block l.item || b) (logged_append block ls ms) ∙ sym (or_assoc (logs_block block l.item) (is_logged block ls) (is_logged block ms))

pub replays_then : (ls ms : List Logged) (a b c : List ℕ) (m n o : List Bool) → Replays ls a m b n → Replays ms b n c o → Replays (ls ++ ms) a m c o
replays_then ls ms a b c m n o first second = record {
  copies = second.copies;
  blocks = λ block has. second.blocks block has ∙ ap (λ (bytes : List ℕ). replayed block bytes ms) (first.blocks block has)
      ∙ sym (replay_goes_on block (copy_of a block) ls ms);
  dirty = λ block has. second.dirty block has ∙ ap (λ (x : Bool). x || is_logged block ms) (first.dirty block has)
      ∙ or_assoc (get_or m (copy_number block) false) (is_logged block ls) (is_logged block ms)
      ∙ ap (λ (x : Bool). get_or m (copy_number block) false || x) (sym (logged_append block ls ms));
}

pub replays_none : (old : List ℕ) (marks : List Bool) → AreCopies old marks → Replays [] old marks old marks
replays_none old marks copies = record { copies = copies; blocks = λ block has. refl; dirty = λ block has. sym (or_false (get_or marks (copy_number block) false)) }
