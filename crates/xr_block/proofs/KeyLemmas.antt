-- The greatest of some keys of one length has that length.
use Rattle.std.proofs.Common.{◌≡◌, ℕ, ◌<◌, ◌≤◌, Bool, true, false, if◌then◌else◌, List, [], ◌∷◌, length, map, get_or, ap, ◌∙◌, arith}
use Rattle.std.proofs.lemmas.List.{length-drop}
use Rattle.std.proofs.lemmas.List.Elements.{All-tail}
use Rattle.std.specs.Cmp.Lexicographic.{slice_cmp}
use Rattle.std.specs.List.{All}
use Rattle.std.specs.Ordering.{is_lt, nat_cmp}
use Rattle.xr_base.specs.declared.geometry.TheConstants.{BLOCK_BYTES}
use Rattle.xr_kinds.specs.Form.{Form, IsForm}
use Rattle.xr_block.specs.Rows.{greatest_key}
use Rattle.xr_block.specs.TreeBlock.{Entry, count_in, entries_in}
use Rattle.xr_block.specs.KeyLaws.{length-key, nothing_less}
use Rattle.xr_block.specs.NodeEntries.{high_part}
use Rattle.xr_block.specs.NodeEntryLaws.{entry_read, length-entries}

length-chosen : (test : Bool) (a b : List ℕ) (n : ℕ) → length a ≡ n → length b ≡ n → length (if test then b else a) ≡ n
length-chosen true a b n long_a long_b = long_b
length-chosen false a b n long_a long_b = long_a

length-greatest : {I : Type 0} (key : I → List ℕ) (n : ℕ) (items : List I) → 0 < length items → All (λ (i : I). length (key i) ≡ n) items
    → length (greatest_key (map key items)) ≡ n
unfolding greatest_key
length-greatest key n [] some all = absurd (omega arith)
length-greatest key n (i ∷ []) some all = ap length (nothing_less (key i)) ∙ all 0 i (omega arith)
length-greatest key n (i ∷ (j ∷ js)) some all =
    let rest : List ℕ = greatest_key (map key (j ∷ js)) in
    length-chosen (is_lt (slice_cmp nat_cmp (key i) rest)) (key i) rest n (all 0 i (omega arith))
    (length-greatest key n (j ∷ js) (omega arith) (All-tail (λ (x : _). length (key x) ≡ n) i (j ∷ js) all))

pub length-greatest_high : {X : Type 0} (form : Form X) (laws : IsForm form) (bytes : List ℕ) → length bytes ≡ BLOCK_BYTES → 0 < count_in bytes
    → count_in bytes ≤ form.node_max → length (greatest_key (map (high_part form) (entries_in form bytes))) ≡ form.high
length-greatest_high form laws bytes long some few =
    let counted = length-entries form bytes in
    length-greatest (high_part form) form.high (entries_in form bytes) (omega (arith, counted, some))
    (λ k d within.
    let read = ap (λ (e : Entry). length e.key) (entry_read form bytes k d (omega (arith, counted, within))) in
    length-drop form.low (get_or (entries_in form bytes) k d).key
    ∙ omega (arith, read, length-key form laws k bytes long (omega (arith, counted, within, few))))
