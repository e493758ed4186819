-- What a whole block of an overlay says of its siblings, and what stays where they are others.
use Rattle.std.proofs.Common.{◌≡◌, ℕ, zero, suc, ◌+◌, ◌*◌, ◌^◌, ◌<◌, ◌≤◌, Bool, true, false, if◌then◌else◌, Option, Some, None, List, length, drop, refl, sym, ap, ◌∙◌, arith}
use Rattle.std.proofs.lemmas.List.{length-drop}
use Rattle.std.proofs.Math.Nat.{mul-le-mul_right}
use Rattle.std.specs.List.{flat_map}
use Rattle.xr_base.specs.declared.geometry.TheConstants.{BLOCK_BYTES}
use Rattle.xr_kinds.specs.BigEndianLaws.{dropped_bytes}
use Rattle.xr_block.specs.BlockLaws.{fields_fill, length-items}
use Rattle.xr_kinds.specs.Form.{Form, IsForm, header_size, pointer_size}
use Rattle.xr_pool.specs.Overlay.{Blocks, block_at, pool_size, AreKnown}
use Rattle.xr_block.specs.Rows.{Held}
use Rattle.xr_block.specs.Tree.{site_of, tree_held}
use Rattle.xr_block.specs.TreeBlock.{Place, Site, count_in, entries_in, header, leaf_bytes, sibling, node_bytes, node_items, records_in, tree_block}
use Rattle.xr_change.specs.Alters.{HoldsSame, IsWholeAt}
use Rattle.xr_block.specs.CheckLaws.{IsRead, Names, block_read, sibling_again}
use Rattle.xr_block.specs.ItemCheckLaws.{node_read}
use Rattle.xr_block.specs.Checks.{left_in, right_in}
use Rattle.xr_block.specs.NodeEntryLaws.{length-entries}

pub names_small : (long : Bool) (o : Option ℕ) → ((q : ℕ) → o ≡ Some q → q < 2 ^ 31) → Names (if long then 8 else 4) o
names_small long None small = tt
names_small true (Some q) small = omega (arith, small q refl)
names_small false (Some q) small = omega (arith, small q refl)

-- a block with its count and its items, of a leaf or of a node
pub record IsBlockAt {X : Type 0} (form : Form X) (site : Site) (place : Place) (bytes : List ℕ) : Type 0 where
  pub count : ℕ
  pub items : List ℕ
  pub block : bytes ≡ tree_block form site place count items
  pub small : count < 2 ^ 16
  pub room : header_size form + length items ≤ BLOCK_BYTES

module _ {X : Type 0} (form : Form X) (laws : IsForm form) (b : Blocks) (known : AreKnown b) where
  pub block_of : (least level : ℕ) (place : Place) → place.number < pool_size b
      → IsWholeAt form (site_of b) (tree_held form b) level least place (block_at b place.number) → IsBlockAt form (site_of b) place (block_at b place.number)
  unfolding IsWholeAt
  block_of least zero place within whole = record {
    count = length (records_in form (block_at b place.number));
    items = flat_map form.bytes_of (records_in form (block_at b place.number));
    block = whole.whole;
    small = omega (arith, whole.most_items, laws.leaf_few);
    room = omega (arith, laws.leaf_fits, mul-le-mul_right form.size whole.most_items, length-items form.bytes_of form.size (records_in form (block_at b place.number)) laws.sized);
  }
  block_of least (suc level) place within whole =
      let block = known.whole place.number within in
      let node = node_read form laws (site_of b) least place (block_at b place.number) known.identified block.long whole in
      let counted : length (entries_in form (block_at b place.number)) * pointer_size form ≡ pointer_size form * count_in (block_at b place.number) =
      ap (λ (n : ℕ). n * pointer_size form) (length-entries form (block_at b place.number)) ∙ omega arith in
      record {
        count = length (entries_in form (block_at b place.number));
        items = node_items form (entries_in form (block_at b place.number));
        block = whole.whole;
        small = omega (arith, whole.most_items, laws.node_few);
        room = omega (arith, laws.node_fits, mul-le-mul_right (pointer_size form) whole.most_items, counted, node.length_items);
      }

  pub read_of : (place : Place) (at : IsBlockAt form (site_of b) place (block_at b place.number))
      → IsRead form (site_of b) place at.count at.items (block_at b place.number)
  read_of place at = block_read form (site_of b) place at.count at.items (block_at b place.number) known.identified at.room at.block

  -- it names its right sibling
  pub right_read : (least level : ℕ) (place : Place) → place.number < pool_size b → ((q : ℕ) → place.right ≡ Some q → q < pool_size b)
      → IsWholeAt form (site_of b) (tree_held form b) level least place (block_at b place.number) → right_in form (block_at b place.number) ≡ place.right
  right_read least level place within small whole =
      let read = read_of place (block_of least level place within whole) in
      read.same_right (names_small form.long place.right (λ q is. omega (arith, small q is, known.small)))

  -- and both siblings have the bytes of those that it names, be they small or not
  pub links_read : (least level : ℕ) (place : Place) → place.number < pool_size b
      → IsWholeAt form (site_of b) (tree_held form b) level least place (block_at b place.number)
      → (sibling (pointer_size form) (left_in form (block_at b place.number)) ≡ sibling (pointer_size form) place.left)
      × (sibling (pointer_size form) (right_in form (block_at b place.number)) ≡ sibling (pointer_size form) place.right)
  links_read least level place within whole =
      let bytes : List ℕ = block_at b place.number in
      let p : ℕ = pointer_size form in
      let fill = fields_fill form.long in
      let block = known.whole place.number within in
      let read = read_of place (block_of least level place within whole) in (
        sym (sibling_again form.long (drop 8 bytes) (omega (arith, fill, block.long, length-drop 8 bytes)) (dropped_bytes 8 bytes block.are_bytes)) ∙ read.left_part,
        sym (sibling_again form.long (drop (8 + p) bytes) (omega (arith, fill, block.long, length-drop (8 + p) bytes)) (dropped_bytes (8 + p) bytes block.are_bytes))
            ∙ read.right_part,
      )

  -- a block whose siblings alone are others holds what it held
  pub with_left_holds : (after : Blocks) (place place' : Place) (at : IsBlockAt form (site_of b) place (block_at b place.number))
      → block_at after place.number ≡ tree_block form (site_of b) place' at.count at.items → HoldsSame form b after place.number
  with_left_holds after place place' at is =
      let was = read_of place at in
      let now = block_read form (site_of b) place' at.count at.items (block_at after place.number) known.identified at.room is in
      let count : count_in (block_at after place.number) ≡ count_in (block_at b place.number) = now.same_count at.small ∙ sym (was.same_count at.small) in
      let rest : drop (header_size form) (block_at after place.number) ≡ drop (header_size form) (block_at b place.number) = now.rest ∙ sym was.rest in
      record { same_records = rw (count, rest) refl; same_entries = rw (count, rest) refl }

-- a block that holds the same is whole at another place, or with other bytes
pub whole_as : {X : Type 0} (form : Form X) (site : Site) (held held' : Held X) (least level : ℕ) (place place' : Place) (bytes bytes' : List ℕ)
    → held'.records place'.number ≡ held.records place.number → held'.entries place'.number ≡ held.entries place.number
    → ((count : ℕ) (items : List ℕ) → bytes ≡ tree_block form site place count items → bytes' ≡ tree_block form site place' count items)
    → IsWholeAt form site held level least place bytes → IsWholeAt form site held' level least place' bytes'
unfolding IsWholeAt
whole_as form site held held' least zero place place' bytes bytes' records entries is whole = record {
  whole = is _ _ whole.whole ∙ ap (leaf_bytes form site place') (sym records);
  least_items = omega (arith, whole.least_items, ap length records);
  most_items = omega (arith, whole.most_items, ap length records);
}
whole_as form site held held' least (suc level) place place' bytes bytes' records entries is whole = record {
  whole = is _ _ whole.whole ∙ ap (node_bytes form site place') (sym entries);
  least_items = omega (arith, whole.least_items, ap length entries);
  most_items = omega (arith, whole.most_items, ap length entries);
}

-- a block's bytes tell of its siblings no more than theirs
pub whole_moved : {X : Type 0} (form : Form X) (site : Site) (held : Held X) (least level : ℕ) (place place' : Place) (bytes : List ℕ) → place'.number ≡ place.number
    → place'.level ≡ place.level → sibling (pointer_size form) place'.left ≡ sibling (pointer_size form) place.left
    → sibling (pointer_size form) place'.right ≡ sibling (pointer_size form) place.right → IsWholeAt form site held level least place bytes
    → IsWholeAt form site held level least place' bytes
unfolding tree_block header
whole_moved form site held least level place place' bytes number same left right =
    whole_as form site held held least level place place' bytes bytes (ap held.records number) (ap held.entries number) (λ count items is. rw (number, same, left, right) is)
