-- Printing entries one after another.
use Rattle.std.proofs.Common.{◌≡◌, ℕ, zero, suc, ◌<◌, List, [], ◌∷◌, ◌++◌, length, get_or, take, sym, ap, ◌∙◌, arith}
use Rattle.std.proofs.lemmas.List.{append-nil, append_assoc}
use Rattle.std.specs.Global.{Vec}
use Rattle.xr_items.specs.declared.item.Item.{Item}
use Rattle.xr_record.specs.declared.entry.Entry.{Entry}
use Rattle.xr_commit.specs.ItemsOf.{items_in}
use Rattle.xr_text.specs.LogText.{entries_text, entry_text}

abbrev pub text_upto : ℕ → List Entry → List (Vec Item) → List ℕ
text_upto i entries items = entries_text (take i entries) (items_in (take i items))

pub one_more : (i : ℕ) (entries : List Entry) (items : List (Vec Item)) (e : Entry) (v : Vec Item) → i < length entries → i < length items
    → text_upto (suc i) entries items ≡ text_upto i entries items ++ entry_text (get_or entries i e) (get_or items i v).items
one_more i [] items e v first second = absurd (omega arith)
one_more i (entry ∷ entries) [] e v first second = absurd (omega arith)
one_more zero (entry ∷ entries) (own ∷ items) e v first second = append-nil (entry_text entry own.items)
one_more (suc i) (entry ∷ entries) (own ∷ items) e v first second =
    ap (λ text. entry_text entry own.items ++ text) (one_more i entries items e v (omega arith) (omega arith))
    ∙ sym (append_assoc (entry_text entry own.items) (text_upto i entries items) (entry_text (get_or entries i e) (get_or items i v).items))
