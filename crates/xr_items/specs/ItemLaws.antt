-- A valid item is the only one that its bytes hold, and no rule refuses them.
use Rattle.std.proofs.Common.{◌≡◌, inl, inr, ℕ, ◌+◌, ◌<◌, ◌≤◌, ◌^◌, cond, eqb, List, ◌∷◌, length, slice_index, ◌≢◌, ◌-◌, ◌/◌, refl, sym, ap, subst, ◌∙◌, arith, ⊎_elim}
use Rattle.std.proofs.lemmas.List.{get_or-drop}
use Rattle.std.proofs.lemmas.Grind.{common_steps}
use Rattle.xr_base.specs.Address.{IsData, IsGoodRun, address_of}
use Rattle.std.proofs.lemmas.Bool.{cases_lt}
use Rattle.xr_base.specs.declared.address.Run.{Run}
use Rattle.xr_base.specs.declared.address.FileNo.{FileNo}
use Rattle.xr_headers.specs.FirstWrong.{IsFirst}
use Rattle.xr_items.specs.declared.work.OwnKind.{OwnKind}
use Rattle.xr_items.specs.declared.work.OwnKind.TheVariants as own_kind
use Rattle.xr_items.specs.declared.work.CountKind.{CountKind}
use Rattle.xr_items.specs.declared.work.CountKind.TheVariants.{Increase, Decrease, AllocCow, FreeCow}
use Rattle.xr_items.specs.declared.work.MapKind.{MapKind}
use Rattle.xr_items.specs.declared.work.MapKind.TheVariants as map_kind
use Rattle.xr_items.specs.declared.work.Work.TheVariants.{Free, Own, Count, Map, Swap}
use Rattle.xr_items.specs.declared.item.Item.{Item}
use Rattle.xr_items.specs.declared.item.Item.TheVariants.{Buf, Inode, Begin, Done}
use Rattle.xr_items.specs.declared.item.DoneOf.TheVariants.{Efd, Rud, Cud, Bud, Xmd}
use Rattle.xr_items.specs.declared.item.ItemKind.{ItemKind}
use Rattle.xr_items.specs.declared.item.ItemKind.TheVariants as item_kind
use Rattle.xr_items.specs.declared.item.ItemFault.{ItemFault}
use Rattle.xr_items.specs.declared.item.ItemFault.TheVariants.{ItemType, Size, Field}
use Rattle.xr_items.specs.declared.fields.Field.TheVariants.{Half}
use Rattle.xr_base.specs.declared.geometry.TheConstants.{FIRST_INODE}
use Rattle.xr_items.specs.declared.layout.TheConstants.{LONGEST_REGION, BUF_TYPE, INODE_TYPE, EFI_TYPE, EFD_TYPE, RUI_TYPE, RUD_TYPE, CUI_TYPE, CUD_TYPE, BUI_TYPE, BUD_TYPE, XMI_TYPE, XMD_TYPE}
use Rattle.xr_items.specs.Fields.{AreFields, widths}
use Rattle.xr_base.specs.Fields.{AreBytes, le64_at, le32_at, le_at}
use Rattle.xr_items.specs.FirstBroken.{IsOfKind, NamesSwapRange, NamesFreeField, NamesNone, NamesRule, run_of, NamesZeros, NamesItemField, RefusesItem, IsItemFramed}
use Rattle.xr_items.specs.Taking.{IsBodyOf}
use Rattle.xr_items.specs.Items.{HoldsBody, item_body, item_bytes, item_fields, kind_of, mapping_body, run_body, short_body, length_of, regions_of, type_code, own_code, count_code, map_code}
use Rattle.xr_items.specs.Valid.{IsBufferSector, IsItem, IsId, IsInode, SuitsOwner, KeepsOffsets}
use Rattle.xr_items.specs.FieldLaws.{Fit, fields_from_bytes, bytes_from_fields, length-bytes_of_fields}

pub length-item : (item : Item) → widths (item_fields item) ≡ length_of (kind_of item)
length-item (Buf sector) = refl
length-item (Inode ino) = refl
length-item (Begin id (Free run)) = refl
length-item (Begin id (Own kind owner off run)) = refl
length-item (Begin id (Count kind run)) = refl
length-item (Begin id (Map kind file off run)) = refl
length-item (Begin id (Swap file off other other_off len)) = refl
length-item (Done id (Efd run)) = refl
length-item (Done id Rud) = refl
length-item (Done id Cud) = refl
length-item (Done id Bud) = refl
length-item (Done id Xmd) = refl

-- where a good run begins, and how far it may go
good_start : (run : Run) → IsGoodRun run → IsData run.start
good_start run good = let first : IsData (address_of (run.start.0 + 0)) = good.data_blocks 0 good.some in record { group = omega arith; block = omega arith }

record IsNear (run : Run) : Type 0 where
  start : run.start.0 < 2 ^ 13
  len : run.len ≤ 2 ^ 11

near : (run : Run) → IsGoodRun run → IsNear run
near run good =
    let first = good_start run good in
    let last : (run.start.0 + (run.len - 1)) / 2048 ≡ run.start.0 / 2048 = good.one_group (run.len - 1) (omega (arith, good.some)) in
    record { start = omega arith; len = omega (arith, good.some) }

fit_short : (code regions n : ℕ) → code < 2 ^ 16 → regions < 2 ^ 16 → n < 2 ^ 64 → Fit (Half code ∷ Half regions ∷ short_body n)
fit_short code regions n one two three = (one, (two, (omega arith, (three, tt))))

fit_run : (code id flags : ℕ) (run : Run) → code < 2 ^ 16 → IsId id → IsGoodRun run → flags < 2 ^ 32 → Fit (Half code ∷ Half 1 ∷ run_body id run flags)
fit_run code id flags run one some good four =
    let bound = near run good in (one, (omega arith, (omega arith, (omega arith, (omega arith, (omega arith, (four, tt)))))))

fit_mapping : (code id owner off flags : ℕ) (run : Run) → code < 2 ^ 16 → IsId id → owner < 2 ^ 64 → off < 2 ^ 64 → IsGoodRun run → flags < 2 ^ 32
    → Fit (Half code ∷ Half 1 ∷ mapping_body id owner off run flags)
fit_mapping code id owner off flags run one some whose at good four =
    let bound = near run good in (one, (omega arith, (omega arith, (omega arith, (whose, (omega arith, (at, (omega arith, (four, tt)))))))))

own_fits : (kind : OwnKind) (owner off len : ℕ) → SuitsOwner kind owner → KeepsOffsets owner off len → (owner < 2 ^ 64) × (off < 2 ^ 64) × (own_code kind < 2 ^ 32)
own_fits own_kind.MapShared owner off len suits keeps = (omega arith, omega (arith, keeps.0 suits), omega arith)
own_fits own_kind.UnmapShared owner off len suits keeps = (omega arith, omega (arith, keeps.0 suits), omega arith)
own_fits own_kind.Alloc owner off len suits keeps = (omega arith, omega (arith, keeps.1 suits), omega arith)
own_fits own_kind.Free owner off len suits keeps = (omega arith, omega (arith, keeps.1 suits), omega arith)

count_fits : (kind : CountKind) → count_code kind < 2 ^ 32
count_fits kind = grind (arith, common_steps)

map_fits : (kind : MapKind) → map_code kind < 2 ^ 32
map_fits kind = grind (arith, common_steps)

sector_fits : (sector : ℕ) → IsBufferSector sector → sector < 2 ^ 64
sector_fits sector (whole, inl pool) = omega (arith, pool.last)
sector_fits sector (whole, inr group) = omega (arith, group.first, group.group)

pub fit_item : (item : Item) → IsItem item → Fit (item_fields item)
fit_item (Buf sector) valid =
    (omega arith, (omega arith, (omega arith, (omega arith, (sector_fits sector valid, (omega arith, (omega arith, tt)))))))
fit_item (Inode ino) valid = fit_short INODE_TYPE 2 ino (omega arith) (omega arith) (omega arith)
fit_item (Begin id (Free run)) valid = fit_run EFI_TYPE id 0 run (omega arith) valid.0 valid.1 (omega arith)
fit_item (Begin id (Own kind owner off run)) valid =
    let fits = own_fits kind owner off run.len valid.1.1 valid.1.2 in
    fit_mapping RUI_TYPE id owner off (own_code kind) run (omega arith) valid.0 fits.0 fits.1 valid.1.0 fits.2
fit_item (Begin id (Count kind run)) valid = fit_run CUI_TYPE id (count_code kind) run (omega arith) valid.0 valid.1 (count_fits kind)
fit_item (Begin id (Map kind file off run)) valid =
    fit_mapping BUI_TYPE id (FIRST_INODE + file.0) off (map_code kind) run (omega arith) valid.0 (omega arith) (omega arith) valid.1.0 (map_fits kind)
fit_item (Begin id (Swap file off other other_off len)) valid =
    (omega arith, (omega arith, (omega arith, (omega arith, (omega arith, (omega arith, (omega arith, (omega arith, (omega arith, tt)))))))))
fit_item (Done id (Efd run)) valid = fit_run EFD_TYPE id 0 run (omega arith) valid.0 valid.1 (omega arith)
fit_item (Done id Rud) valid = fit_short RUD_TYPE 1 id (omega arith) (omega arith) (omega arith)
fit_item (Done id Cud) valid = fit_short CUD_TYPE 1 id (omega arith) (omega arith) (omega arith)
fit_item (Done id Bud) valid = fit_short BUD_TYPE 1 id (omega arith) (omega arith) (omega arith)
fit_item (Done id Xmd) valid = fit_short XMD_TYPE 1 id (omega arith) (omega arith) (omega arith)

-- a word is zero where its bytes are
zero_word : (at : ℕ) (bytes : List ℕ) (place : ℕ) → le32_at bytes at ≡ 0 → IsFirst (λ (k : ℕ). (at ≤ k) × (k < at + 4) × (slice_index bytes k ≢ 0)) place → ⊥
unfolding le_at
zero_word at bytes place zero first =
    let one = get_or-drop at bytes 0 0 in
    let two = get_or-drop at bytes 1 0 in
    let three = get_or-drop at bytes 2 0 in
    let four = get_or-drop at bytes 3 0 in
    let from : at ≤ place = first.here.0 in
    let to : place < at + 4 = first.here.1 in
    let wrong : slice_index bytes place ≢ 0 = first.here.2 in
    grind (arith, common_steps)

pub kept_rules : (item : Item) (bytes : List ℕ) (place : ℕ) → IsItem item → HoldsBody (item_body item) bytes → NamesItemField (kind_of item) bytes place → ⊥
kept_rules (Buf sector) bytes place valid held broken = grind (arith, common_steps)
kept_rules (Inode ino) bytes place valid held broken = let zero = zero_word 4 bytes place in grind (arith, common_steps)
kept_rules (Begin id (Free run)) bytes place valid held broken =
    let start = good_start run valid.1 in let zero = zero_word 28 bytes place in grind (arith, common_steps)
kept_rules (Begin id (Own kind owner off run)) bytes place valid held broken = let start = good_start run valid.1.0 in grind (arith, common_steps)
kept_rules (Begin id (Count kind run)) bytes place valid held broken = let start = good_start run valid.1 in grind (arith, common_steps)
kept_rules (Begin id (Map kind file off run)) bytes place valid held broken = let start = good_start run valid.1.0 in grind (arith, common_steps)
kept_rules (Begin id (Swap file off other other_off len)) bytes place valid held broken = let zero = zero_word 4 bytes place in grind (arith, common_steps)
kept_rules (Done id (Efd run)) bytes place valid held broken =
    let start = good_start run valid.1 in let zero = zero_word 28 bytes place in grind (arith, common_steps)
kept_rules (Done id Rud) bytes place valid held broken = let zero = zero_word 4 bytes place in grind (arith, common_steps)
kept_rules (Done id Cud) bytes place valid held broken = let zero = zero_word 4 bytes place in grind (arith, common_steps)
kept_rules (Done id Bud) bytes place valid held broken = let zero = zero_word 4 bytes place in grind (arith, common_steps)
kept_rules (Done id Xmd) bytes place valid held broken = let zero = zero_word 4 bytes place in grind (arith, common_steps)

-- the kind with a type
kind_with : ℕ → ItemKind
kind_with n =
    cond (eqb n BUF_TYPE) item_kind.Buf (cond (eqb n INODE_TYPE) item_kind.Inode (cond (eqb n EFI_TYPE) item_kind.Efi (cond (eqb n EFD_TYPE) item_kind.Efd
    (cond (eqb n RUI_TYPE) item_kind.Rui (cond (eqb n RUD_TYPE) item_kind.Rud (cond (eqb n CUI_TYPE) item_kind.Cui (cond (eqb n CUD_TYPE) item_kind.Cud
    (cond (eqb n BUI_TYPE) item_kind.Bui (cond (eqb n BUD_TYPE) item_kind.Bud (cond (eqb n XMI_TYPE) item_kind.Xmi item_kind.Xmd))))))))))

kind_with-type : (kind : ItemKind) → kind_with (type_code kind) ≡ kind
unfolding kind_with
kind_with-type item_kind.Buf = refl
kind_with-type item_kind.Inode = refl
kind_with-type item_kind.Efi = refl
kind_with-type item_kind.Efd = refl
kind_with-type item_kind.Rui = refl
kind_with-type item_kind.Rud = refl
kind_with-type item_kind.Cui = refl
kind_with-type item_kind.Cud = refl
kind_with-type item_kind.Bui = refl
kind_with-type item_kind.Bud = refl
kind_with-type item_kind.Xmi = refl
kind_with-type item_kind.Xmd = refl

same_kind : (one two : ItemKind) → type_code one ≡ type_code two → one ≡ two
same_kind one two is = sym (kind_with-type one) ∙ ap kind_with is ∙ kind_with-type two

-- the kinds of work with a number
own_with : ℕ → OwnKind
own_with n = cond (eqb n 2) own_kind.MapShared (cond (eqb n 4) own_kind.UnmapShared (cond (eqb n 7) own_kind.Alloc own_kind.Free))

own_with-code : (kind : OwnKind) → own_with (own_code kind) ≡ kind
unfolding own_with
own_with-code own_kind.MapShared = refl
own_with-code own_kind.UnmapShared = refl
own_with-code own_kind.Alloc = refl
own_with-code own_kind.Free = refl

count_with : ℕ → CountKind
count_with n = cond (eqb n 1) Increase (cond (eqb n 2) Decrease (cond (eqb n 3) AllocCow FreeCow))

count_with-code : (kind : CountKind) → count_with (count_code kind) ≡ kind
unfolding count_with
count_with-code Increase = refl
count_with-code Decrease = refl
count_with-code AllocCow = refl
count_with-code FreeCow = refl

map_with : ℕ → MapKind
map_with n = cond (eqb n 1) map_kind.Map map_kind.Unmap

map_with-code : (kind : MapKind) → map_with (map_code kind) ≡ kind
unfolding map_with
map_with-code map_kind.Map = refl
map_with-code map_kind.Unmap = refl

file_with : ℕ → FileNo
file_with ino = record { 0 = ino - FIRST_INODE }

file_with-ino : (file : FileNo) → file_with (FIRST_INODE + file.0) ≡ file
unfolding file_with
file_with-ino file = let same : FIRST_INODE + file.0 - FIRST_INODE ≡ file.0 = omega arith in rw same refl

-- the item of a kind that some bytes hold
abbrev item_with : ItemKind → List ℕ → Item
item_with item_kind.Buf bytes = Buf (le64_at bytes 8)
item_with item_kind.Inode bytes = Inode (le64_at bytes 8)
item_with item_kind.Efi bytes = Begin (le64_at bytes 8) (Free (run_of (le64_at bytes 16) (le32_at bytes 24)))
item_with item_kind.Efd bytes = Done (le64_at bytes 8) (Efd (run_of (le64_at bytes 16) (le32_at bytes 24)))
item_with item_kind.Rui bytes =
    Begin (le64_at bytes 8) (Own (own_with (le32_at bytes 44)) (le64_at bytes 16) (le64_at bytes 32) (run_of (le64_at bytes 24) (le32_at bytes 40)))
item_with item_kind.Rud bytes = Done (le64_at bytes 8) Rud
item_with item_kind.Cui bytes = Begin (le64_at bytes 8) (Count (count_with (le32_at bytes 28)) (run_of (le64_at bytes 16) (le32_at bytes 24)))
item_with item_kind.Cud bytes = Done (le64_at bytes 8) Cud
item_with item_kind.Bui bytes =
    Begin (le64_at bytes 8) (Map (map_with (le32_at bytes 44)) (file_with (le64_at bytes 16)) (le64_at bytes 32) (run_of (le64_at bytes 24) (le32_at bytes 40)))
item_with item_kind.Bud bytes = Done (le64_at bytes 8) Bud
item_with item_kind.Xmi bytes =
    Begin (le64_at bytes 8) (Swap (file_with (le64_at bytes 16)) (le64_at bytes 32) (file_with (le64_at bytes 24)) (le64_at bytes 40) (le64_at bytes 48))
item_with item_kind.Xmd bytes = Done (le64_at bytes 8) Xmd

item_is : (item : Item) (bytes : List ℕ) → HoldsBody (item_body item) bytes → item_with (kind_of item) bytes ≡ item
item_is (Buf sector) bytes held = rw held.1.1.0 refl
item_is (Inode ino) bytes held = rw held.1.0 refl
item_is (Begin id (Free run)) bytes held = rw (held.1.0, held.1.1.0, held.1.1.1.0) refl
item_is (Begin id (Own kind owner off run)) bytes held =
    rw (held.1.0, held.1.1.0, held.1.1.1.0, held.1.1.1.1.0, held.1.1.1.1.1.0, held.1.1.1.1.1.1.0, own_with-code kind) refl
item_is (Begin id (Count kind run)) bytes held = rw (held.1.0, held.1.1.0, held.1.1.1.0, held.1.1.1.1.0, count_with-code kind) refl
item_is (Begin id (Map kind file off run)) bytes held =
    rw (held.1.0, held.1.1.0, held.1.1.1.0, held.1.1.1.1.0, held.1.1.1.1.1.0, held.1.1.1.1.1.1.0, map_with-code kind, file_with-ino file) refl
item_is (Begin id (Swap file off other other_off len)) bytes held =
    rw (held.1.0, held.1.1.0, held.1.1.1.0, held.1.1.1.1.0, held.1.1.1.1.1.0, held.1.1.1.1.1.1.0, file_with-ino file, file_with-ino other) refl
item_is (Done id (Efd run)) bytes held = rw (held.1.0, held.1.1.0, held.1.1.1.0) refl
item_is (Done id Rud) bytes held = rw held.1.0 refl
item_is (Done id Cud) bytes held = rw held.1.0 refl
item_is (Done id Bud) bytes held = rw held.1.0 refl
item_is (Done id Xmd) bytes held = rw held.1.0 refl

pub same_item : (one two : Item) (bytes : List ℕ) → kind_of one ≡ kind_of two → HoldsBody (item_body one) bytes → HoldsBody (item_body two) bytes → one ≡ two
same_item one two bytes kind first second =
    sym (item_is one bytes first) ∙ ap (λ (of : ItemKind). item_with of bytes) kind ∙ item_is two bytes second

longest : (kind : ItemKind) → length_of kind ≤ LONGEST_REGION
longest kind = grind (arith, common_steps)

pub item_within : (item : Item) → length (item_bytes item) ≤ LONGEST_REGION
item_within item = omega (arith, length-bytes_of_fields (item_fields item), length-item item, longest (kind_of item))

pub same_kind_of : (bytes : List ℕ) (one two : ItemKind) → IsOfKind one bytes → IsOfKind two bytes → one ≡ two
same_kind_of bytes one two first second = same_kind one two (first.type_is ∙ sym second.type_is)

room_of : (kind : ItemKind) → 4 ≤ length_of kind
room_of kind = grind (arith, common_steps)

-- a region names one place
first_once : (Fact : ℕ → Type 0) (one two : ℕ) → IsFirst Fact one → IsFirst Fact two → one ≡ two
first_once Fact one two first second = ⊎_elim
    (λ (below : one < two). absurd (second.none_before one below first.here))
    (λ (above : two ≤ one). ⊎_elim (λ (below : two < one). absurd (first.none_before two below second.here)) (λ (same : one ≤ two). omega arith) (cases_lt two one))
    (cases_lt one two)

zeros_once : (at : ℕ) (bytes : List ℕ) (Later : ℕ → Type 0) (one two : ℕ) → (Later one → Later two → one ≡ two)
    → NamesZeros at bytes Later one → NamesZeros at bytes Later two → one ≡ two
zeros_once at bytes Later one two later (inl first) (inl second) = first_once _ one two first second
zeros_once at bytes Later one two later (inl first) (inr second) = absurd (zero_word at bytes one second.0 first)
zeros_once at bytes Later one two later (inr first) (inl second) = absurd (zero_word at bytes two first.0 second)
zeros_once at bytes Later one two later (inr first) (inr second) = later first.1 second.1

short_once : (bytes : List ℕ) (Kept : Type 0) (one two : ℕ) → NamesZeros 4 bytes (NamesRule 8 Kept NamesNone) one → NamesZeros 4 bytes (NamesRule 8 Kept NamesNone) two → one ≡ two
short_once bytes Kept one two first second =
    zeros_once 4 bytes (NamesRule 8 Kept NamesNone) one two (λ (a : NamesRule 8 Kept NamesNone one) (b : NamesRule 8 Kept NamesNone two). grind (arith, common_steps)) first second

six_once : (A B C D E F : Type 0) (a b c d e f one two : ℕ) → NamesRule a A (NamesRule b B (NamesRule c C (NamesRule d D (NamesRule e E (NamesRule f F NamesNone))))) one
    → NamesRule a A (NamesRule b B (NamesRule c C (NamesRule d D (NamesRule e E (NamesRule f F NamesNone))))) two → one ≡ two
six_once A B C D E F a b c d e f one two first second = grind (arith, common_steps)

free_once : (bytes : List ℕ) (one two : ℕ) → NamesFreeField bytes one → NamesFreeField bytes two → one ≡ two
free_once bytes one two first second =
    let flags = zeros_once 28 bytes NamesNone one two (λ (a : ⊥) (b : ⊥). absurd a) in grind (arith, common_steps)

pub rules_once : (kind : ItemKind) (bytes : List ℕ) (one two : ℕ) → NamesItemField kind bytes one → NamesItemField kind bytes two → one ≡ two
rules_once item_kind.Buf bytes one two first second = grind (arith, common_steps)
rules_once item_kind.Inode bytes one two first second = short_once bytes (IsInode (le64_at bytes 8)) one two first second
rules_once item_kind.Efi bytes one two first second = free_once bytes one two first second
rules_once item_kind.Efd bytes one two first second = free_once bytes one two first second
rules_once item_kind.Rui bytes one two first second = grind (arith, common_steps)
rules_once item_kind.Cui bytes one two first second = grind (arith, common_steps)
rules_once item_kind.Bui bytes one two first second = grind (arith, common_steps)
rules_once item_kind.Xmi bytes one two first second =
    zeros_once 4 bytes (NamesSwapRange bytes) one two (six_once _ _ _ _ _ _ 8 16 24 32 40 48 one two) first second
rules_once item_kind.Rud bytes one two first second = short_once bytes (IsId (le64_at bytes 8)) one two first second
rules_once item_kind.Cud bytes one two first second = short_once bytes (IsId (le64_at bytes 8)) one two first second
rules_once item_kind.Bud bytes one two first second = short_once bytes (IsId (le64_at bytes 8)) one two first second
rules_once item_kind.Xmd bytes one two first second = short_once bytes (IsId (le64_at bytes 8)) one two first second

-- a valid item's bytes, and bytes that hold one
pub held_item : (item : Item) (bytes : List ℕ) → IsItem item → bytes ≡ item_bytes item → AreFields (item_fields item) 0 bytes
held_item item bytes valid is = fields_from_bytes (item_fields item) 0 bytes (fit_item item valid) is

pub framed_item : (item : Item) (bytes : List ℕ) → IsItem item → bytes ≡ item_bytes item → IsItemFramed (kind_of item) bytes
framed_item item bytes valid is =
    let held = held_item item bytes valid is in
    let long : length bytes ≡ length_of (kind_of item) = ap length is ∙ length-bytes_of_fields (item_fields item) ∙ length-item item in
    record { of_kind = record { room = omega (arith, long, room_of (kind_of item)); type_is = sym held.0 }; long = long; regions = held.1.0 }

pub item_from : (item : Item) (kind : ItemKind) (bytes : List ℕ) → AreBytes bytes → IsItemFramed kind bytes → IsBodyOf kind bytes item → bytes ≡ item_bytes item
item_from item kind bytes all framed body =
    let long : length bytes ≡ 0 + widths (item_fields item) = framed.long ∙ ap length_of (sym body.of_kind) ∙ sym (length-item item) ∙ omega arith in
    bytes_from_fields (item_fields item) 0 bytes all long
    (sym framed.of_kind.type_is ∙ ap type_code (sym body.of_kind), (framed.regions ∙ ap regions_of (sym body.of_kind), body.fields))

-- a region is refused in one way, and never where it is an item's
pub refused_once : (bytes : List ℕ) (one two : ItemFault) → RefusesItem bytes one → RefusesItem bytes two → one ≡ two
refused_once bytes (ItemType p) (ItemType q) first second = let same : p ≡ q = first.0 ∙ sym second.0 in ap ItemType same
refused_once bytes (ItemType p) (Size q) first (inl second) = absurd (first.1 second.0 second.1)
refused_once bytes (ItemType p) (Size q) first (inr second) = absurd (first.1 second.0 second.1)
refused_once bytes (ItemType p) (Field q) first second = absurd (first.1 second.0 second.1.of_kind)
refused_once bytes (Size p) (ItemType q) (inl first) second = absurd (second.1 first.0 first.1)
refused_once bytes (Size p) (ItemType q) (inr first) second = absurd (second.1 first.0 first.1)
refused_once bytes (Size p) (Size q) (inl first) (inl second) = let same : p ≡ q = first.3 ∙ sym second.3 in ap Size same
refused_once bytes (Size p) (Size q) (inl first) (inr second) = let same = same_kind_of bytes first.0 second.0 first.1 second.1 in absurd (first.2 (second.2 ∙ ap length_of (sym same)))
refused_once bytes (Size p) (Size q) (inr first) (inl second) = let same = same_kind_of bytes first.0 second.0 first.1 second.1 in absurd (second.2 (first.2 ∙ ap length_of same))
refused_once bytes (Size p) (Size q) (inr first) (inr second) = let same : p ≡ q = first.4 ∙ sym second.4 in ap Size same
refused_once bytes (Size p) (Field q) (inl first) second = let same = same_kind_of bytes first.0 second.0 first.1 second.1.of_kind in absurd (first.2 (second.1.long ∙ ap length_of (sym same)))
refused_once bytes (Size p) (Field q) (inr first) second = let same = same_kind_of bytes first.0 second.0 first.1 second.1.of_kind in absurd (first.3 (second.1.regions ∙ ap regions_of (sym same)))
refused_once bytes (Field p) (ItemType q) first second = absurd (second.1 first.0 first.1.of_kind)
refused_once bytes (Field p) (Size q) first (inl second) = let same = same_kind_of bytes first.0 second.0 first.1.of_kind second.1 in absurd (second.2 (first.1.long ∙ ap length_of same))
refused_once bytes (Field p) (Size q) first (inr second) = let same = same_kind_of bytes first.0 second.0 first.1.of_kind second.1 in absurd (second.3 (first.1.regions ∙ ap regions_of same))
refused_once bytes (Field p) (Field q) first second =
    let same = same_kind_of bytes first.0 second.0 first.1.of_kind second.1.of_kind in
    ap Field (rules_once second.0 bytes p q (subst (λ (kind : ItemKind). NamesItemField kind bytes p) same first.2) second.2)

pub never_refused : (item : Item) (bytes : List ℕ) (fault : ItemFault) → IsItem item → bytes ≡ item_bytes item → RefusesItem bytes fault → ⊥
never_refused item bytes (ItemType place) valid is refused = refused.1 (kind_of item) (framed_item item bytes valid is).of_kind
never_refused item bytes (Size place) valid is (inl refused) =
    let framed = framed_item item bytes valid is in
    let same = same_kind_of bytes refused.0 (kind_of item) refused.1 framed.of_kind in
    refused.2 (framed.long ∙ ap length_of (sym same))
never_refused item bytes (Size place) valid is (inr refused) =
    let framed = framed_item item bytes valid is in
    let same = same_kind_of bytes refused.0 (kind_of item) refused.1 framed.of_kind in
    refused.3 (framed.regions ∙ ap regions_of (sym same))
never_refused item bytes (Field place) valid is refused =
    let same = same_kind_of bytes refused.0 (kind_of item) refused.1.of_kind (framed_item item bytes valid is).of_kind in
    kept_rules item bytes place valid (held_item item bytes valid is).1.1 (subst (λ (kind : ItemKind). NamesItemField kind bytes place) same refused.2)
