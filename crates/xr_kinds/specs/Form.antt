-- What a contract says of one kind of record: its numbers, its order, its bytes and keys.
use Rattle.xr_base.specs.Fields.{AreBytes}
use Rattle.std.specs.Prelude.{◌≡◌, ℕ, ◌+◌, ◌*◌, ◌^◌, ◌<◌, ◌≤◌, Bool, true, if◌then◌else◌, List, length, slice_index, Option, Some, None}
use Rattle.std.specs.declared.cmp.Ordering.{Ordering}
use Rattle.std.specs.Cmp.{IsTotalOrder}
use Rattle.xr_base.specs.declared.layout.TheConstants.{LONG_HEADER_BYTES, LONG_POINTER_BYTES, SHORT_HEADER_BYTES, SHORT_POINTER_BYTES}

pub record Form (X : Type 0) : Type 0 where
  -- the first word of a block, and whether its header is the long one
  pub magic : ℕ
  pub long : Bool
  -- bytes of a record, a key and a high key
  pub size : ℕ
  pub low : ℕ
  pub high : ℕ
  -- the greatest numbers of records in a leaf, of children of a node, and of records in a tree
  pub leaf_max : ℕ
  pub node_max : ℕ
  pub most : ℕ
  pub is_valid : X → Bool
  pub order : X → X → Ordering
  -- how a record stands to those with a key
  pub key_order : X → List ℕ → Ordering
  pub meet : X → X → Bool
  pub agree : X → X → Bool
  pub bytes_of : X → List ℕ
  pub low_of : X → List ℕ
  pub high_of : X → List ℕ
  pub taken : List ℕ → Option X

-- bytes of a block's header, of a pointer, and of what a node holds for a child
abbrev pub header_size : {X : Type 0} → Form X → ℕ
header_size form = if form.long then LONG_HEADER_BYTES else SHORT_HEADER_BYTES

abbrev pub pointer_size : {X : Type 0} → Form X → ℕ
pointer_size form = if form.long then LONG_POINTER_BYTES else SHORT_POINTER_BYTES

abbrev pub key_size : {X : Type 0} → Form X → ℕ
key_size form = form.low + form.high

-- a record, if it is valid
abbrev pub if_valid : {X : Type 0} → (X → Bool) → X → Option X
if_valid valid x = if valid x then Some x else None

-- the numbers that a kind of record gives are those of its form
pub record HasNumbers {X : Type 0} (form : Form X) (magic : ℕ) (long : Bool) (size low high leaf_max node_max most : ℕ) : Type 0 where
  pub same_magic : form.magic ≡ magic
  pub same_long : form.long ≡ long
  pub same_size : form.size ≡ size
  pub same_low : form.low ≡ low
  pub same_high : form.high ≡ high
  pub same_leaf_max : form.leaf_max ≡ leaf_max
  pub same_node_max : form.node_max ≡ node_max
  pub same_most : form.most ≡ most

-- the laws of a form
pub record IsForm {X : Type 0} (form : Form X) : Type 0 where
  pub total : IsTotalOrder form.order
  pub sized : (x : X) → length (form.bytes_of x) ≡ form.size
  pub low_sized : (x : X) → length (form.low_of x) ≡ form.low
  pub high_sized : (x : X) → length (form.high_of x) ≡ form.high
  pub keys_follow : (x y : X) → form.is_valid y ≡ true → form.key_order x (form.low_of y) ≡ form.order x y
  pub takes_back : (x : X) → form.is_valid x ≡ true → form.taken (form.bytes_of x) ≡ Some x
  pub takes_only : (bytes : List ℕ) (x : X) → length bytes ≡ form.size → AreBytes bytes → form.taken bytes ≡ Some x
      → (form.is_valid x ≡ true) × (form.bytes_of x ≡ bytes)
  pub meets_both : (x y : X) → form.meet x y ≡ form.meet y x
  pub agrees_both : (x y : X) → form.agree x y ≡ form.agree y x
  -- a full block fits, half of one has two items, a node has room for sixteen keys, and the numbers are small enough to be added up
  pub leaf_fits : header_size form + form.leaf_max * form.size ≤ 4096
  pub node_fits : header_size form + form.node_max * (key_size form + pointer_size form) ≤ 4096
  pub leaf_few : form.leaf_max < 2 ^ 16
  pub node_few : form.node_max < 2 ^ 16
  pub keys_small : key_size form < 2 ^ 16
  pub leaf_some : 4 ≤ form.leaf_max
  pub node_some : 16 ≤ form.node_max
  pub size_some : 1 ≤ form.size
  pub low_some : 1 ≤ form.low
