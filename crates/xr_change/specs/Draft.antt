-- Of no public contract.
-- The blocks of a pool while some of them are edited, as they are once those that were edited have their checksums.
use Rattle.std.specs.Prelude.{◌≡◌, ℕ, suc, ◌<◌, Bool, true, if◌then◌else◌, List, [], ◌∷◌, drop, nat_eq}
use Rattle.std.specs.List.{All, list_any}
use Rattle.xr_kinds.specs.Form.{Form, header_size}
use Rattle.xr_pool.specs.Overlay.{Blocks, is_changed, pool_size}
use Rattle.xr_block.specs.TreeBlock.{count_in}
use Rattle.xr_block.specs.Edits.{sealed}
use Rattle.xr_block.specs.Checks.{left_in, right_in}

-- whether a block is one of these
abbrev pub is_edited : List ℕ → ℕ → Bool
is_edited edited n = list_any (λ (m : ℕ). nat_eq m n) edited

-- blocks, of which the first is the i-th, with a checksum in each that was edited
unfoldable pub sealed_from : {X : Type 0} → Form X → (ℕ → Bool) → ℕ → List (List ℕ) → List (List ℕ)
sealed_from form edited i [] = []
sealed_from form edited i (x ∷ xs) = (if edited i then sealed form x else x) ∷ sealed_from form edited (suc i) xs

abbrev pub all_sealed : {X : Type 0} → Form X → List ℕ → Blocks → Blocks
all_sealed form edited b = record b { current = sealed_from form (is_edited edited) 0 b.current }

-- what was edited is marked as changed
pub record AreEdited (b : Blocks) (edited : List ℕ) : Type 0 where
  pub within : All (λ (n : ℕ). n < pool_size b) edited
  pub changed : All (λ (n : ℕ). is_changed b n ≡ true) edited

-- bytes that say the same, whatever their checksums are
pub record ReadsAs {X : Type 0} (form : Form X) (bytes whole : List ℕ) : Type 0 where
  pub count : count_in bytes ≡ count_in whole
  pub items : drop (header_size form) bytes ≡ drop (header_size form) whole
  pub left : left_in form bytes ≡ left_in form whole
  pub right : right_in form bytes ≡ right_in form whole
  pub sealed : sealed form bytes ≡ sealed form whole
