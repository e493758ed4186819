-- A block that is marked, and the key that it has.
use Rattle.std.proofs.Common.{◌≡◌, ◌↔◌, ◌≢◌, ℕ, zero, suc, ◌+◌, ◌*◌, ◌/◌, ◌<◌, ◌≤◌, drop, false, if◌then◌else◌, Bool, Option, List, [], ◌∷◌, ◌++◌, length, length-append, subst, refl, sym, ap, ◌∙◌, arith, ⊎_elim}
use Rattle.std.proofs.lemmas.Bool.{cases_eq, eq-eqb, ne_eqb}
use Rattle.std.proofs.lemmas.List.{length-set}
use Rattle.xr_pool.specs.Bits.{has_bit, with_bit}
use Rattle.xr_pool.specs.BitLaws.{bit_set, bit_set_other}
use Rattle.xr_kinds.specs.Form.{Form, header_size}
use Rattle.xr_block.specs.NodeEntryLaws.{length-entries}
use Rattle.xr_verify.specs.Ledger.{ArePassed}
use Rattle.xr_pool.specs.Overlay.{Blocks, block_at, pool_size}
use Rattle.xr_block.specs.Rows.{key_held, key_of_entries, key_of_records}
use Rattle.xr_block.specs.Tree.{AreRecords, tree_held}
use Rattle.xr_block.specs.TreeBlock.{Entry, count_in, entries_in, records_in}
use Rattle.xr_verify.specs.Visits.{AreMarked, IsEntered, IsLinked, mark, IsUnvisited, IsChecked}
use Rattle.xr_block.specs.ItemCheckLaws.{few_records}
use Rattle.xr_block.specs.Times.{times}

length-with_bit : (bits : List ℕ) (n : ℕ) → length (with_bit bits n) ≡ length bits
unfolding with_bit
length-with_bit bits n = length-set bits (n / 8) _

pub marks_one : (seen : List ℕ) (n : ℕ) → n < 8 * length seen → has_bit seen n ≡ false → AreMarked seen (n ∷ []) (with_bit seen n)
marks_one seen n within clear = record {
  long = length-with_bit seen n;
  marks = λ k. ⊎_elim
      (λ (same : n ≡ k).
      let now : mark (with_bit seen n) k ≡ 1 = ap (mark (with_bit seen n)) (sym same) ∙ ap (λ (bit : _). if bit then 1 else 0) (bit_set seen n within) in
      let before : mark seen k ≡ 0 = ap (mark seen) (sym same) ∙ ap (λ (bit : _). if bit then 1 else 0) clear in
      let once : times k (n ∷ []) ≡ 1 = rw (eq-eqb n k same) refl in
      omega (arith, now, before, once))
      (λ (other : n ≡ k → ⊥).
      let same : mark (with_bit seen n) k ≡ mark seen k = ap (λ (bit : _). if bit then 1 else 0) (bit_set_other seen n k within (λ equal. other (sym equal))) in
      let none : times k (n ∷ []) ≡ 0 = rw (ne_eqb n k other) refl in
      omega (arith, same, none))
      (cases_eq n k);
}

no_records : {X : Type 0} (form : Form X) (records : List X) → length records ≡ 0 → length (key_of_records form records) ≡ 0
unfolding key_of_records
no_records form [] none = refl
no_records form (r ∷ rs) none = absurd (omega (arith, none))

no_entries : {X : Type 0} (form : Form X) (entries : List Entry) → length entries ≡ 0 → length (key_of_entries form entries) ≡ 0
unfolding key_of_entries
no_entries form [] none = refl
no_entries form (e ∷ es) none = absurd (omega (arith, none))

module _ {X : Type 0} (form : Form X) (b : Blocks) (n : ℕ) (bytes : List ℕ) (is : bytes ≡ block_at b n) where
  pub no_key : (level : ℕ) → count_in bytes ≡ 0 → length (key_held form (tree_held form b) level n) ≡ 0
  unfolding key_held
  no_key zero none =
      let counted : count_in (block_at b n) ≡ 0 = ap count_in (sym is) ∙ none in
      no_records form (records_in form (block_at b n)) (omega (arith, counted, few_records form (count_in (block_at b n)) (drop (header_size form) (block_at b n))))
  no_key (suc level) none =
      no_entries form (entries_in form (block_at b n)) (length-entries form (block_at b n) ∙ ap count_in (sym is) ∙ none)

  pub leaf_key : (level : ℕ) → level ≡ 0 → key_of_records form (records_in form bytes) ≡ key_held form (tree_held form b) level n
  unfolding key_held
  leaf_key zero low = ap (λ (xs : List ℕ). key_of_records form (records_in form xs)) is
  leaf_key (suc level) low = absurd (omega (arith, low))

  pub node_key : (level : ℕ) → level ≢ 0 → key_of_entries form (entries_in form bytes) ≡ key_held form (tree_held form b) level n
  unfolding key_held
  node_key zero high = absurd (high refl)
  node_key (suc level) high = ap (λ (xs : List ℕ). key_of_entries form (entries_in form xs)) is

-- records that are passed, and whether the tree has room for them
passed_if : {X : Type 0} (form : Form X) (noted records : List X) (room count : ℕ) → room + length noted ≡ form.most → count ≡ length records
    → ArePassed form (noted ++ records) → (count ≤ room) ↔ AreRecords form (noted ++ records)
passed_if form noted records room count room_is count_is passed = (
  λ few. record {
    valid = passed.valid;
    ascend = passed.ascend;
    agree = passed.agree;
    few = omega (arith, few, room_is, count_is, length-append noted records);
  },
  λ all. omega (arith, all.few, room_is, count_is, length-append noted records),
)

-- a leaf that is open, that stands in its place and whose records are passed, keeps all rules where there is room for it
pub rules_of_leaf : {X : Type 0} (form : Form X) (b : Blocks) (least : ℕ) (left : Option ℕ) (last : Bool) (n : ℕ) (seen bytes : List ℕ) (noted : List X) (room count : ℕ) (Key Taken : Type 0)
    → 1 ≤ n → n < pool_size b → IsUnvisited b n seen × IsChecked form b least zero n → Key × IsLinked form b left last n → bytes ≡ block_at b n
    → ArePassed form (noted ++ records_in form bytes) → room + length noted ≡ form.most → count ≡ length (records_in form bytes) → (Taken ↔ (count ≤ room))
    → Taken ↔ (IsEntered form b least zero left last n seen × Key × AreRecords form (noted ++ records_in form (block_at b n)))
rules_of_leaf form b least left last n seen bytes noted room count Key Taken from within opened placed is passed room_is count_is enough =
    let both = passed_if form noted (records_in form bytes) room count room_is count_is passed in
    let entered : IsEntered form b least zero left last n seen = record {
      used = record { from = from; below = within; taken = opened.0.taken };
      unmarked = opened.0.unmarked;
      tested = opened.1;
      linked = placed.1;
    } in (
      λ taken. (entered, placed.0, subst (λ (xs : List ℕ). AreRecords form (noted ++ records_in form xs)) is (both.0 (enough.0 taken))),
      λ all. enough.1 (both.1 (subst (λ (xs : List ℕ). AreRecords form (noted ++ records_in form xs)) (sym is) all.2)),
    )
