-- What is told of a refusal of the log.
use Rattle.std.proofs.Common.{◌≡◌, ℕ, refl, sym, subst}
use Rattle.xr_check.specs.LoadRefusals.{HasRisen, told_of_scan}
use Rattle.xr_check.specs.declared.fault.Broken.{Broken}
use Rattle.xr_check.specs.declared.fault.Broken.TheVariants as broken
use Rattle.xr_check.specs.declared.fault.CheckFault.{CheckFault}
use Rattle.xr_check.specs.declared.fault.CheckFault.TheVariants.{DiskFault, Foreign, NoMemory}
use Rattle.xr_commit.specs.DiskFaults.{WasCounted}
use Rattle.xr_commit.specs.Refusals.{OrNoMemory, OrOutside}
use Rattle.xr_commit.specs.declared.fault.ScanFault.{ScanFault}
use Rattle.xr_commit.specs.declared.fault.ScanFault.TheVariants as of_scan

-- a refusal that names a block: what is said of those alone is said of it
pub record NamesBlock (cause : ScanFault) (block : ℕ) (rule : Broken) : Type 1 where
  pub told : told_of_scan cause ≡ Foreign block rule
  pub in_memory : (P : ScanFault → Type 0) → OrNoMemory P cause → P cause
  pub inside : (P : ScanFault → Type 0) → OrOutside P cause → P cause

pub scan_cases : (R : ScanFault → Type 0) → R of_scan.NoMemory → ((n : ℕ) → R (of_scan.DiskFault n))
    → ((cause : ScanFault) (block : ℕ) (rule : Broken) → NamesBlock cause block rule → R cause) → (cause : ScanFault) → R cause
scan_cases R none fault named (of_scan.Magic b) = named (of_scan.Magic b) b broken.Magic record { told = refl; in_memory = λ P p. p; inside = λ P p. p }
scan_cases R none fault named (of_scan.Version b) = named (of_scan.Version b) b broken.Version record { told = refl; in_memory = λ P p. p; inside = λ P p. p }
scan_cases R none fault named (of_scan.Length b) = named (of_scan.Length b) b broken.Length record { told = refl; in_memory = λ P p. p; inside = λ P p. p }
scan_cases R none fault named (of_scan.Checksum b) = named (of_scan.Checksum b) b broken.Checksum record { told = refl; in_memory = λ P p. p; inside = λ P p. p }
scan_cases R none fault named (of_scan.Place b) = named (of_scan.Place b) b broken.Place record { told = refl; in_memory = λ P p. p; inside = λ P p. p }
scan_cases R none fault named (of_scan.Operation b) = named (of_scan.Operation b) b broken.Operation record { told = refl; in_memory = λ P p. p; inside = λ P p. p }
scan_cases R none fault named (of_scan.ItemType b) = named (of_scan.ItemType b) b broken.ItemType record { told = refl; in_memory = λ P p. p; inside = λ P p. p }
scan_cases R none fault named (of_scan.Size b) = named (of_scan.Size b) b broken.Size record { told = refl; in_memory = λ P p. p; inside = λ P p. p }
scan_cases R none fault named (of_scan.Field b) = named (of_scan.Field b) b broken.Field record { told = refl; in_memory = λ P p. p; inside = λ P p. p }
scan_cases R none fault named (of_scan.Debt b) = named (of_scan.Debt b) b broken.Debt record { told = refl; in_memory = λ P p. p; inside = λ P p. p }
scan_cases R none fault named (of_scan.Header b) = named (of_scan.Header b) b broken.Header record { told = refl; in_memory = λ P p. p; inside = λ P p. p }
scan_cases R none fault named (of_scan.DiskFault n) = fault n
scan_cases R none fault named of_scan.NoMemory = none

-- what is so of each fault that may be told of a log
pub told_in_memory : (P : ScanFault → Type 0) (R : CheckFault → Type 0) → R NoMemory → ((n : ℕ) → P (of_scan.DiskFault n) → R (DiskFault n))
    → ((cause : ScanFault) (block : ℕ) (rule : Broken) → P cause → told_of_scan cause ≡ Foreign block rule → R (Foreign block rule))
    → (cause : ScanFault) → OrNoMemory P cause → R (told_of_scan cause)
told_in_memory P R none fault named = scan_cases (λ cause. OrNoMemory P cause → R (told_of_scan cause)) (λ _. none) fault
    (λ cause block rule names p. subst R (sym names.told) (named cause block rule (names.in_memory P p) names.told))

-- and of an image, of which two things are so
pub told_of_image : (P Q : ScanFault → Type 0) (R : CheckFault → Type 0) → R NoMemory → ((n : ℕ) → R (DiskFault n))
    → ((cause : ScanFault) (block : ℕ) (rule : Broken) → P cause → Q cause → told_of_scan cause ≡ Foreign block rule → R (Foreign block rule))
    → (cause : ScanFault) → OrOutside P cause → OrOutside Q cause → R (told_of_scan cause)
told_of_image P Q R none fault named = scan_cases (λ cause. OrOutside P cause → OrOutside Q cause → R (told_of_scan cause)) (λ _ _. none) (λ n _ _. fault n)
    (λ cause block rule names p q. subst R (sym names.told) (named cause block rule (names.inside P p) (names.inside Q q) names.told))

-- a fault that was counted is told with its count
pub told_counted : (before after : ℕ) (cause : ScanFault) → WasCounted before after cause → HasRisen before after (told_of_scan cause)
told_counted before after = scan_cases (λ cause. WasCounted before after cause → HasRisen before after (told_of_scan cause)) (λ _. tt) (λ n was. was)
    (λ cause block rule names was. subst (HasRisen before after) (sym names.told) tt)
