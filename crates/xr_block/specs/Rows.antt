-- A tree by its rows: the blocks of each level from left to right, how they are linked, and how each node names the blocks
-- below it.
use Rattle.std.specs.Prelude.{◌≡◌, ℕ, zero, suc, ◌/◌, ◌≤◌, ⊤, Option, Some, None, List, [], ◌∷◌, ◌++◌, length, take, drop, map}
use Rattle.std.specs.List.{flat_map}
use Rattle.std.specs.Cmp.Lexicographic.{slice_cmp}
use Rattle.std.specs.Ordering.{is_lt, nat_cmp}
use Rattle.std.specs.Prelude.{if◌then◌else◌}
use Rattle.xr_kinds.specs.Form.{Form}
use Rattle.xr_block.specs.TreeBlock.{Entry, Place, Site, entries_in, leaf_bytes, node_bytes, records_in}

-- what each block holds, if it is a leaf, and if it is a node
pub record Held (X : Type 0) : Type 0 where
  pub records : ℕ → List X
  pub entries : ℕ → List Entry

abbrev pub held_in : {X : Type 0} → Form X → (ℕ → List ℕ) → Held X
held_in form at = record { records = λ n. records_in form (at n); entries = λ n. entries_in form (at n) }

-- the blocks that a node names
abbrev pub named_below : {X : Type 0} → Held X → ℕ → List ℕ
named_below held n = map (λ (e : Entry). e.child) (held.entries n)

-- the rows from one on down to the leaves, and the leaves
unfoldable pub rows_from : {X : Type 0} → Held X → ℕ → List ℕ → List (List ℕ)
rows_from held zero row = row ∷ []
rows_from held (suc level) row = row ∷ rows_from held level (flat_map (named_below held) row)

unfoldable pub leaves_from : {X : Type 0} → Held X → ℕ → List ℕ → List ℕ
leaves_from held zero row = row
leaves_from held (suc level) row = leaves_from held level (flat_map (named_below held) row)

-- the greatest of some keys of one length. Their numbers are big endian, so the order of the bytes is that of the numbers.
abbrev pub greater_key : List ℕ → List ℕ → List ℕ
greater_key a b = if is_lt (slice_cmp nat_cmp a b) then b else a

unfoldable pub greatest_key : List (List ℕ) → List ℕ
greatest_key [] = []
greatest_key (key ∷ keys) = greater_key key (greatest_key keys)

-- the key that a block gives to its parent: the low key of its first item, and the greatest high key of all
unfoldable pub key_of_records : {X : Type 0} → Form X → List X → List ℕ
key_of_records form [] = []
key_of_records form (r ∷ rs) = form.low_of r ++ greatest_key (map form.high_of (r ∷ rs))

unfoldable pub key_of_entries : {X : Type 0} → Form X → List Entry → List ℕ
key_of_entries form [] = []
key_of_entries form (e ∷ es) = take form.low e.key ++ greatest_key (map (λ (entry : Entry). drop form.low entry.key) (e ∷ es))

unfoldable pub key_held : {X : Type 0} → Form X → Held X → ℕ → ℕ → List ℕ
key_held form held zero n = key_of_records form (held.records n)
key_held form held (suc level) n = key_of_entries form (held.entries n)

-- the least number of items of a block that isn't the root
unfoldable pub min_records : {X : Type 0} → Form X → ℕ → ℕ
min_records form zero = form.leaf_max / 2
min_records form (suc level) = form.node_max / 2

-- a block holds some items, as many as it may, and nothing else
pub record IsWhole {I : Type 0} (least most : ℕ) (bytes_of : Place → List I → List ℕ) (items : List I) (place : Place) (bytes : List ℕ) : Type 0 where
  pub whole : bytes ≡ bytes_of place items
  pub least_items : least ≤ length items
  pub most_items : length items ≤ most

abbrev pub IsWholeLeaf : {X : Type 0} → Form X → Site → Held X → ℕ → Place → List ℕ → Type 0
IsWholeLeaf form site held least place bytes = IsWhole least form.leaf_max (leaf_bytes form site) (held.records place.number) place bytes

abbrev pub IsWholeNode : {X : Type 0} → Form X → Site → Held X → ℕ → Place → List ℕ → Type 0
IsWholeNode form site held least place bytes = IsWhole least form.node_max (node_bytes form site) (held.entries place.number) place bytes

-- the first of a row, or else what stands after it
abbrev pub first_of : List ℕ → Option ℕ → Option ℕ
first_of [] after = after
first_of (n ∷ ns) after = Some n

-- each block of a row has its place between its siblings
unfoldable pub AreLinked : (Place → List ℕ → Type 0) → (ℕ → List ℕ) → ℕ → Option ℕ → List ℕ → Option ℕ → Type 0
AreLinked P at level left [] right = ⊤
AreLinked P at level left (n ∷ ns) right =
    P (record { number = n; level = level; left = left; right = first_of ns right }) (at n) × AreLinked P at level (Some n) ns right

-- the nodes of a row give each block below the key that it has
unfoldable pub AreNamed : {X : Type 0} → Form X → Held X → ℕ → List ℕ → Type 0
AreNamed form held level [] = ⊤
AreNamed form held level (n ∷ ns) =
    (map (λ (e : Entry). e.key) (held.entries n) ≡ map (key_held form held level) (named_below held n)) × AreNamed form held level ns

-- the rows from one on are those of a tree
unfoldable pub AreRowsOf : {X : Type 0} → Form X → Site → (ℕ → List ℕ) → Held X → ℕ → ℕ → List ℕ → Type 0
AreRowsOf form site at held least zero row = AreLinked (IsWholeLeaf form site held least) at zero None row None
AreRowsOf form site at held least (suc level) row =
    AreLinked (IsWholeNode form site held least) at (suc level) None row None
    × AreNamed form held level row × AreRowsOf form site at held (min_records form level) level (flat_map (named_below held) row)
