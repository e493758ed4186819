-- The fields of a header hold the value that it was written of, so that equal headers are those of one value.
use Rattle.std.proofs.Common.{◌≡◌, ◌∙◌, ◌+◌, ◌-◌, ◌^◌, ◌<◌, ◌++◌, ℕ, List, [], ◌∷◌, length, take, drop, get_or, refl, sym, ap, arith}
use Rattle.std.proofs.lemmas.List.{append-nil, append_assoc, length-append}
use Rattle.std.proofs.lemmas.List.Elements.{All-cons, All-nil, All-from_get_or}
use Rattle.byteorder.specs.Endian.{big_bytes, big_number}
use Rattle.byteorder.specs.Numbers.{big_number-reads_back}
use Rattle.xr_base.specs.Image.{part}
use Rattle.xr_base.specs.declared.address.GroupNo.{GroupNo}
use Rattle.xr_base.specs.declared.geometry.TheConstants.{BLOCK_BYTES, FIRST_INODE, UUID_BYTES}
use Rattle.xr_headers.specs.declared.layout.TheConstants.{BLOCK_CRC, CORE_BYTES, CORE_MAGIC, CORE_ROOT_PLACE, CORE_CRC, FREE_MAP_BYTES, FREE_MAP_PLACE, GROUP_MAGIC, GROUP_PLACE, INODE_PLACE, LEVELS_PLACE, ROOTS_PLACE, UUID_PLACE, VERSION}
use Rattle.xr_headers.specs.declared.superblock.Super.{Super}
use Rattle.xr_headers.specs.declared.group_head.GroupHead.{GroupHead}
use Rattle.xr_headers.specs.declared.file_core.Core.{Core}
use Rattle.xr_headers.specs.Headers.{AreWords, IsSuper, IsGroupHead, IsCore, super_in, super_block, super_fields, super_opening, super_geometry, group_in, group_block, group_fields, group_opening, core_in, core_bytes, core_block, core_fields, core_numbers}
use Rattle.xr_headers.specs.Padded.{numbers_in, words}
use Rattle.xr_headers.specs.PaddedLaws.{length-words}
use Rattle.xr_headers.specs.PaddingLaws.{front_from_padded}
use Rattle.xr_headers.specs.HeaderLaws.{length-core_bytes}
use Rattle.xr_headers.specs.ReadBackLaws.{numbers_in-words, read_back}

-- a number with so many bytes is known by them
number_by_bytes : (size one two : ℕ) → one < 256 ^ size → two < 256 ^ size → big_bytes size one ≡ big_bytes size two → one ≡ two
number_by_bytes size one two small least same =
    sym (big_number-reads_back size one [] small) ∙ ap (λ (bytes : List ℕ). big_number size (bytes ++ [])) same ∙ big_number-reads_back size two [] least

-- The superblock

pub super_in-super_block : (s : Super) → IsSuper s → super_in (super_block s) ≡ s
unfolding super_fields
super_in-super_block s valid =
    let made : List ℕ → Super = λ (bytes : List ℕ). record { uuid = bytes } in
    ap made (read_back BLOCK_CRC BLOCK_BYTES UUID_PLACE UUID_BYTES (super_fields s) super_opening s.uuid super_geometry refl refl valid.uuid (omega arith) (omega arith))

pub one_super : (one two : Super) → IsSuper one → IsSuper two → super_block one ≡ super_block two → one ≡ two
one_super one two valid least same = sym (super_in-super_block one valid) ∙ ap super_in same ∙ super_in-super_block two least

-- The header of a group

after_second : (a b c d e : List ℕ) → a ++ b ++ c ++ d ++ e ≡ a ++ b ++ (c ++ d ++ e)
after_second a b c d e = simp append_assoc

group_front : GroupHead → List ℕ
group_front head = group_opening head ++ head.uuid

length-group_front : (head : GroupHead) → length head.uuid ≡ UUID_BYTES → length (group_front head) ≡ ROOTS_PLACE
unfolding group_front
length-group_front head whole = length-append (group_opening head) head.uuid ∙ omega arith

length-four_words : (numbers : List ℕ) → length numbers ≡ 4 → length (words numbers) ≡ 16
length-four_words numbers four = length-words numbers ∙ omega arith

number_at : (head : GroupHead) → part GROUP_PLACE 4 (group_block head) ≡ big_bytes 4 head.group.0
unfolding group_fields
number_at head =
    read_back BLOCK_CRC BLOCK_BYTES GROUP_PLACE 4 (group_fields head) (words (GROUP_MAGIC ∷ VERSION ∷ [])) (big_bytes 4 head.group.0) (drop 12 (group_fields head))
    refl refl refl (omega arith) (omega arith)

uuid_at : (head : GroupHead) → length head.uuid ≡ UUID_BYTES → part UUID_PLACE UUID_BYTES (group_block head) ≡ head.uuid
unfolding group_fields
uuid_at head whole =
    read_back BLOCK_CRC BLOCK_BYTES UUID_PLACE UUID_BYTES (group_fields head) (group_opening head) head.uuid (words head.roots ++ words head.levels ++ head.free)
    (after_second (group_opening head) head.uuid (words head.roots) (words head.levels) head.free) refl whole (omega arith) (omega arith)

roots_at : (head : GroupHead) → IsGroupHead head → length head.uuid ≡ UUID_BYTES → part ROOTS_PLACE 16 (group_block head) ≡ words head.roots
unfolding group_front group_fields
roots_at head valid whole =
    read_back BLOCK_CRC BLOCK_BYTES ROOTS_PLACE 16 (group_fields head) (group_front head) (words head.roots) (words head.levels ++ head.free)
    (append_assoc (group_front head ++ words head.roots) (words head.levels) head.free) (length-group_front head whole)
    (length-four_words head.roots valid.four_roots) (omega arith) (omega arith)

length-up_to_levels : (head : GroupHead) → IsGroupHead head → length head.uuid ≡ UUID_BYTES → length (group_front head ++ words head.roots) ≡ LEVELS_PLACE
length-up_to_levels head valid whole =
    length-append (group_front head) (words head.roots)
    ∙ omega (arith, length-group_front head whole, length-four_words head.roots valid.four_roots)

levels_at : (head : GroupHead) → IsGroupHead head → length head.uuid ≡ UUID_BYTES → part LEVELS_PLACE 16 (group_block head) ≡ words head.levels
unfolding group_front group_fields
levels_at head valid whole =
    read_back BLOCK_CRC BLOCK_BYTES LEVELS_PLACE 16 (group_fields head) (group_front head ++ words head.roots) (words head.levels) head.free refl
    (length-up_to_levels head valid whole) (length-four_words head.levels valid.four_levels) (omega arith) (omega arith)

free_at : (head : GroupHead) → IsGroupHead head → length head.uuid ≡ UUID_BYTES → part FREE_MAP_PLACE FREE_MAP_BYTES (group_block head) ≡ head.free
unfolding group_front group_fields
free_at head valid whole =
    read_back BLOCK_CRC BLOCK_BYTES FREE_MAP_PLACE FREE_MAP_BYTES (group_fields head) (group_front head ++ words head.roots ++ words head.levels) head.free []
    (sym (append-nil (group_fields head)))
    (length-append (group_front head ++ words head.roots) (words head.levels)
    ∙ omega (arith, length-up_to_levels head valid whole, length-four_words head.levels valid.four_levels))
    valid.map_bytes (omega arith) (omega arith)

four_numbers : (numbers bytes : List ℕ) → AreWords numbers → length numbers ≡ 4 → bytes ≡ words numbers → numbers_in 4 bytes ≡ numbers
four_numbers numbers bytes all four is =
    ap (numbers_in 4) is ∙ ap (λ (n : ℕ). numbers_in n (words numbers)) (sym four) ∙ numbers_in-words numbers all

are_roots : (head : GroupHead) → IsGroupHead head → AreWords head.roots
are_roots head valid =
    All-from_get_or (λ (number : ℕ). number < 2 ^ 32) head.roots 0 (λ k within. let root = valid.pool.roots k within in omega arith)

pub group_in-group_block : (head : GroupHead) → IsGroupHead head → length head.uuid ≡ UUID_BYTES → group_in (group_block head) head.group head.uuid ≡ head
group_in-group_block head valid whole =
    let made : List ℕ → List ℕ → List ℕ → GroupHead =
    λ (roots levels free : List ℕ). record { group = head.group; uuid = head.uuid; roots = roots; levels = levels; free = free } in
    let bytes : List ℕ = group_block head in
    let roots : numbers_in 4 (part ROOTS_PLACE 16 bytes) ≡ head.roots =
    four_numbers head.roots _ (are_roots head valid) valid.four_roots (roots_at head valid whole) in
    let levels : numbers_in 4 (part LEVELS_PLACE 16 bytes) ≡ head.levels = four_numbers head.levels _ valid.levels valid.four_levels (levels_at head valid whole) in
    rw (roots, levels, free_at head valid whole) refl

pub one_group : (one two : GroupHead) → IsGroupHead one → IsGroupHead two → length one.uuid ≡ UUID_BYTES → length two.uuid ≡ UUID_BYTES
    → group_block one ≡ group_block two → one ≡ two
one_group one two valid least whole long same =
    let number : one.group.0 ≡ two.group.0 =
    number_by_bytes 4 one.group.0 two.group.0 (let g = valid.group in omega arith) (let g = least.group in omega arith)
    (sym (number_at one) ∙ ap (part GROUP_PLACE 4) same ∙ number_at two) in
    let group : one.group ≡ two.group = let made : ℕ → GroupNo = λ (n : ℕ). record { 0 = n } in ap made number in
    let uuid : one.uuid ≡ two.uuid = sym (uuid_at one whole) ∙ ap (part UUID_PLACE UUID_BYTES) same ∙ uuid_at two long in
    sym (group_in-group_block one valid whole)
    ∙ ap (λ (bytes : List ℕ). group_in bytes one.group one.uuid) same
    ∙ ap (λ (g : GroupNo). group_in (group_block two) g one.uuid) group
    ∙ ap (group_in (group_block two) two.group) uuid
    ∙ group_in-group_block two least long

-- The core of a file

core_numbers_are : (core : Core) → IsCore core → AreWords (core_numbers core)
core_numbers_are core valid =
    let below : ℕ → Type 0 = λ (number : ℕ). number < 2 ^ 32 in
    All-cons below core.root (core.level ∷ core.free ∷ []) (omega arith)
    (All-cons below core.level (core.free ∷ []) valid.level (All-cons below core.free [] (omega arith) (All-nil below)))

core_front : Core → List ℕ
core_front core = words (CORE_MAGIC ∷ VERSION ∷ []) ++ big_bytes 8 core.ino

inode_at : (core : Core) → part INODE_PLACE 8 (core_bytes core) ≡ big_bytes 8 core.ino
unfolding core_fields core_front
inode_at core =
    read_back CORE_CRC CORE_BYTES INODE_PLACE 8 (core_fields core) (words (CORE_MAGIC ∷ VERSION ∷ [])) (big_bytes 8 core.ino)
    (core.uuid ++ words (core_numbers core)) (append_assoc (core_front core) core.uuid (words (core_numbers core))) refl refl (omega arith) (omega arith)

core_uuid_at : (core : Core) → length core.uuid ≡ UUID_BYTES → part UUID_PLACE UUID_BYTES (core_bytes core) ≡ core.uuid
unfolding core_fields core_front
core_uuid_at core whole =
    read_back CORE_CRC CORE_BYTES UUID_PLACE UUID_BYTES (core_fields core) (core_front core) core.uuid (words (core_numbers core))
    refl refl whole (omega arith) (omega arith)

numbers_at : (core : Core) → length core.uuid ≡ UUID_BYTES → part CORE_ROOT_PLACE 12 (core_bytes core) ≡ words (core_numbers core)
unfolding core_fields core_front
numbers_at core whole =
    read_back CORE_CRC CORE_BYTES CORE_ROOT_PLACE 12 (core_fields core) (core_front core ++ core.uuid) (words (core_numbers core)) []
    (sym (append-nil (core_fields core))) (length-append (core_front core) core.uuid ∙ omega arith) refl (omega arith) (omega arith)

pub core_in-core_bytes : (core : Core) (file : ℕ) → IsCore core → length core.uuid ≡ UUID_BYTES → core.ino ≡ FIRST_INODE + file
    → core_in (core_bytes core) file core.uuid ≡ core
core_in-core_bytes core file valid whole inode =
    let made : ℕ → List ℕ → Core =
    λ (ino : ℕ) (numbers : List ℕ).
    record { ino = ino; uuid = core.uuid; root = get_or numbers 0 0; level = get_or numbers 1 0; free = get_or numbers 2 0 } in
    let numbers : numbers_in 3 (part CORE_ROOT_PLACE 12 (core_bytes core)) ≡ core_numbers core =
    ap (numbers_in 3) (numbers_at core whole) ∙ numbers_in-words (core_numbers core) (core_numbers_are core valid) in
    ap (made (FIRST_INODE + file)) numbers ∙ ap (λ (ino : ℕ). made ino (core_numbers core)) (sym inode)

pub take-core_block : (core : Core) → take CORE_BYTES (core_block core) ≡ core_bytes core
take-core_block core = front_from_padded BLOCK_BYTES CORE_BYTES (core_block core) (core_bytes core) (length-core_bytes core) (omega arith) refl

pub core_in-core_block : (core : Core) (file : ℕ) → IsCore core → length core.uuid ≡ UUID_BYTES → core.ino ≡ FIRST_INODE + file
    → core_in (take CORE_BYTES (core_block core)) file core.uuid ≡ core
core_in-core_block core file valid whole inode =
    ap (λ (bytes : List ℕ). core_in bytes file core.uuid) (take-core_block core) ∙ core_in-core_bytes core file valid whole inode

pub one_core : (one two : Core) → IsCore one → IsCore two → length one.uuid ≡ UUID_BYTES → length two.uuid ≡ UUID_BYTES
    → core_bytes one ≡ core_bytes two → one ≡ two
one_core one two valid least whole long same =
    let inode : one.ino ≡ two.ino =
    number_by_bytes 8 one.ino two.ino (omega (arith, valid.last_inode)) (omega (arith, least.last_inode))
    (sym (inode_at one) ∙ ap (part INODE_PLACE 8) same ∙ inode_at two) in
    let uuid : one.uuid ≡ two.uuid = sym (core_uuid_at one whole) ∙ ap (part UUID_PLACE UUID_BYTES) same ∙ core_uuid_at two long in
    let file : ℕ = one.ino - FIRST_INODE in
    let first : one.ino ≡ FIRST_INODE + file = let f = valid.first_inode in omega arith in
    sym (core_in-core_bytes one file valid whole first)
    ∙ ap (λ (bytes : List ℕ). core_in bytes file one.uuid) same
    ∙ ap (core_in (core_bytes two) file) uuid
    ∙ core_in-core_bytes two file least long (sym inode ∙ first)

pub one_core_block : (one two : Core) → IsCore one → IsCore two → length one.uuid ≡ UUID_BYTES → length two.uuid ≡ UUID_BYTES
    → core_block one ≡ core_block two → one ≡ two
one_core_block one two valid least whole long same =
    one_core one two valid least whole long (sym (take-core_block one) ∙ ap (take CORE_BYTES) same ∙ take-core_block two)
