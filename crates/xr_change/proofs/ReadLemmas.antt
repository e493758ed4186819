-- What is read of a block that may have no checksum: its items, keys and children are those of the block with its checksum.
use Rattle.std.proofs.Common.{◌≡◌, ℕ, ◌+◌, ◌*◌, IsSome, List, length, take, drop, refl, sym, ap, ◌∙◌, subst, arith}
use Rattle.std.proofs.lemmas.List.{drop-drop}
use Rattle.byteorder.specs.Endian.{big_number}
use Rattle.xr_base.specs.declared.geometry.TheConstants.{BLOCK_BYTES}
use Rattle.xr_kinds.specs.Form.{Form, header_size, key_size, pointer_size}
use Rattle.xr_block.specs.TreeBlock.{count_in, entries_from, entries_in, records_from, records_in}
use Rattle.xr_change.specs.Draft.{ReadsAs}
use Rattle.xr_change.specs.Regroups.{GivesKey}
use Rattle.xr_block.specs.Edits.{sealed}
use Rattle.xr_block.specs.SealLaws.{sealed_again, sealed_count, sealed_left, sealed_rest, sealed_right}
use Rattle.xr_block.specs.Checks.{AreZeros}
use Rattle.xr_block.specs.NodeEntries.{child_in, key_in}

module _ {X : Type 0} (form : Form X) (bytes whole : List ℕ) (reads : ReadsAs form bytes whole) where
  -- what stands after the header
  pub read_after : (m : ℕ) → drop (header_size form + m) bytes ≡ drop (header_size form + m) whole
  read_after m =
      sym (drop-drop m (header_size form) bytes) ∙ ap (drop m) reads.items ∙ drop-drop m (header_size form) whole

  pub read_records : records_in form bytes ≡ records_in form whole
  read_records =
      ap (λ (n : ℕ). records_from form n (drop (header_size form) bytes)) reads.count ∙ ap (records_from form (count_in whole)) reads.items

  pub read_entries : entries_in form bytes ≡ entries_in form whole
  read_entries =
      let entries = λ (n : ℕ) (rest : List ℕ). entries_from (key_size form) (pointer_size form) n rest (drop (form.node_max * key_size form) rest) in
      ap (λ (n : ℕ). entries n (drop (header_size form) bytes)) reads.count ∙ ap (entries (count_in whole)) reads.items

  pub read_key : (k : ℕ) → key_in form k bytes ≡ key_in form k whole
  read_key k = ap (take (key_size form)) (read_after (key_size form * k))

  pub read_child : (k : ℕ) → child_in form k bytes ≡ child_in form k whole
  read_child k =
      let at : header_size form + form.node_max * key_size form + pointer_size form * k
      ≡ header_size form + (form.node_max * key_size form + pointer_size form * k) = omega arith in
      ap (big_number (pointer_size form))
      (ap (λ (m : ℕ). drop m bytes) at ∙ read_after (form.node_max * key_size form + pointer_size form * k) ∙ ap (λ (m : ℕ). drop m whole) (sym at))

  pub read_keyed : (level : ℕ) → GivesKey form level whole → GivesKey form level bytes
  read_keyed level keyed = record {
    tested = λ leaf.
        let held = keyed.tested leaf in
        record {
          most_items = omega (arith, reads.count, held.most_items);
          records = record {
            valid = λ k within.
                subst (λ (rest : List ℕ). IsSome (form.taken (take form.size rest))) (sym (read_after (form.size * k)))
                (held.records.valid k (omega (arith, reads.count, within)));
            zeros = subst (λ (n : ℕ). AreZeros (drop (header_size form + form.size * n) bytes)) (sym reads.count)
                (subst AreZeros (sym (read_after (form.size * count_in whole))) held.records.zeros);
          };
        };
    some = omega (arith, reads.count, keyed.some);
    few = omega (arith, reads.count, keyed.few);
  }

-- bytes as they are, and with their checksum
pub reads_same : {X : Type 0} (form : Form X) (bytes : List ℕ) → ReadsAs form bytes bytes
reads_same form bytes = record { count = refl; items = refl; left = refl; right = refl; sealed = refl }

pub reads_sealed : {X : Type 0} (form : Form X) (bytes : List ℕ) → length bytes ≡ BLOCK_BYTES → ReadsAs form bytes (sealed form bytes)
reads_sealed form bytes long = record {
  count = sym (sealed_count form bytes long);
  items = sym (sealed_rest form bytes long);
  left = sym (sealed_left form bytes long);
  right = sym (sealed_right form bytes long);
  sealed = sym (sealed_again form bytes long);
}
