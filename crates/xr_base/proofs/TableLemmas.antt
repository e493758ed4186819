-- The tables, held against the bitwise definition by computing.
use Rattle.std.proofs.Common.{◌≡◌, ℕ, zero, suc, ◌+◌, ◌*◌, ◌<◌, Bool, true, ◌&&◌, eqb, [], get_or, refl}
use Rattle.std.proofs.lemmas.Bool.Decides.{Decides-below_and, Decides-eqb}
use Rattle.xr_base.specs.declared.tables.TheConstants.{TABLES}
use Rattle.xr_base.specs.Checksum.{after_bits}

abbrev entry : ℕ → ℕ → ℕ
entry table byte = get_or (get_or TABLES table []) byte 0

abbrev entries_match : ℕ → ℕ → Bool
entries_match table zero = true
entries_match table (suc byte) = eqb (entry table byte) (after_bits (8 * (table + 1)) byte) && entries_match table byte

abbrev tables_match : ℕ → Bool
tables_match zero = true
tables_match (suc table) = entries_match table 256 && tables_match table

tables_matched : tables_match 8 ≡ true
unfolding after_bits
tables_matched = refl

abbrev AreEntries : ℕ → Type 0
AreEntries table = (byte : ℕ) → byte < 256 → entry table byte ≡ after_bits (8 * (table + 1)) byte

-- what each entry of each table is
pub entry_is : (table : ℕ) → table < 8 → AreEntries table
entry_is =
    (Decides-below_and (λ table. entries_match table 256) AreEntries tables_match (λ table.
    Decides-below_and (λ byte. eqb (entry table byte) (after_bits (8 * (table + 1)) byte)) (λ byte. entry table byte ≡ after_bits (8 * (table + 1)) byte)
    (entries_match table) (λ byte. Decides-eqb _ _) refl (λ _. refl) 256)
    refl (λ _. refl) 8).0 tables_matched
