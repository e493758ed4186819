-- What is read at a place of a node is the entry that the node holds there.
use Rattle.std.proofs.Common.{◌≡◌, ℕ, zero, suc, ◌+◌, ◌-◌, ◌*◌, ◌^◌, ◌<◌, ◌≤◌, Bool, true, false, if◌then◌else◌, List, ◌++◌, length, take, drop, replicate, get_or, refl, sym, ap, ◌∙◌, arith}
use Rattle.std.proofs.lemmas.List.{drop-drop, length-append, length-replicate}
use Rattle.byteorder.specs.Endian.{big_bytes, big_number}
use Rattle.byteorder.specs.Numbers.{big_from-take}
use Rattle.xr_base.specs.Image.{part}
use Rattle.xr_base.specs.ImageLaws.{part_below}
use Rattle.xr_base.specs.declared.geometry.TheConstants.{BLOCK_BYTES}
use Rattle.xr_kinds.specs.BigEndianLaws.{reads_alone}
use Rattle.xr_kinds.specs.Form.{Form, header_size, key_size, pointer_size}
use Rattle.xr_block.specs.NodeEntries.{child_in, key_in}
use Rattle.xr_block.specs.TreeBlock.{Entry, Place, Site, count_in, entries_from, entries_in, zero_filled, header, crc_place, tree_block}
use Rattle.xr_base.specs.Checksum.{sum_bytes, with_crc}

after_count : (long : Bool) → (let sum : ℕ = if long then 64 else 52 in (8 ≤ sum) × (sum + 4 ≤ BLOCK_BYTES))
after_count true = (omega arith, omega arith)
after_count false = (omega arith, omega arith)

length-entries_from : (key width n : ℕ) (keys pointers : List ℕ) → length (entries_from key width n keys pointers) ≡ n
unfolding entries_from
length-entries_from key width zero keys pointers = refl
length-entries_from key width (suc n) keys pointers = ap suc (length-entries_from key width n (drop key keys) (drop width pointers))

pub length-entries : {X : Type 0} (form : Form X) (bytes : List ℕ) → length (entries_in form bytes) ≡ count_in bytes
length-entries form bytes = length-entries_from (key_size form) (pointer_size form) (count_in bytes) _ _

entry_from : (key width n : ℕ) (keys pointers : List ℕ) (k : ℕ) (d : Entry) → k < n
    → get_or (entries_from key width n keys pointers) k d
    ≡ record { key = take key (drop (key * k) keys); child = big_number width (drop (width * k) pointers) }
unfolding entries_from
entry_from key width zero keys pointers k d within = absurd (omega arith)
entry_from key width (suc n) keys pointers zero d within =
    let none : key * 0 ≡ 0 = omega arith in
    let nothing : width * 0 ≡ 0 = omega arith in
    rw (none, nothing) refl
entry_from key width (suc n) keys pointers (suc k) d within =
    let next : key * suc k ≡ key + key * k = omega arith in
    let further : width * suc k ≡ width + width * k = omega arith in
    rw (next, further, ← drop-drop (key * k) key keys, ← drop-drop (width * k) width pointers)
    (entry_from key width n (drop key keys) (drop width pointers) k d (omega arith))

pub entry_read : {X : Type 0} (form : Form X) (bytes : List ℕ) (k : ℕ) (d : Entry) → k < count_in bytes
    → get_or (entries_in form bytes) k d ≡ record { key = key_in form k bytes; child = child_in form k bytes }
entry_read form bytes k d within =
    let keys : List ℕ = drop (header_size form) bytes in
    let after : ℕ = form.node_max * key_size form in
    let place : ℕ = pointer_size form * k in
    let sum : header_size form + (after + place) ≡ header_size form + after + place = omega arith in
    entry_from (key_size form) (pointer_size form) (count_in bytes) keys (drop after keys) k d within
    ∙ rw (drop-drop (key_size form * k) (header_size form) bytes, drop-drop place after keys, drop-drop (after + place) (header_size form) bytes, sum) refl

-- the count of a block that was built is the one that was written, whatever it is made of
pub count_of_block : {X : Type 0} (form : Form X) (site : Site) (place : Place) (count : ℕ) (items : List ℕ) → count < 2 ^ 16
    → count_in (tree_block form site place count items) ≡ count
unfolding tree_block header with_crc
count_of_block form site place count items small =
    let fields : List ℕ = header form site place count ++ items in
    let sum : List ℕ = sum_bytes (crc_place form) (zero_filled BLOCK_BYTES fields) in
    let sum_after : (8 ≤ crc_place form) × (crc_place form + 4 ≤ BLOCK_BYTES) = after_count form.long in
    let long : BLOCK_BYTES ≤ length (zero_filled BLOCK_BYTES fields) =
    omega (arith, length-append fields (replicate {A = ℕ} (BLOCK_BYTES - length fields) 0), length-replicate {A = ℕ} (BLOCK_BYTES - length fields) 0) in
    let field : part 6 2 (tree_block form site place count items) ≡ big_bytes 2 count =
    part_below (crc_place form) 2 6 sum (zero_filled BLOCK_BYTES fields) (omega (arith, sum_after.0)) (omega (arith, sum_after.1, long)) in
    sym (big_from-take 0 2 2 (drop 6 (tree_block form site place count items)) (omega arith))
    ∙ ap (big_number 2) field ∙ reads_alone 2 count small
