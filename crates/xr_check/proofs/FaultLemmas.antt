-- What the refusal of a part makes of that of the whole.
use Rattle.std.proofs.Common.{◌≡◌, ℕ, ◌≤◌, List, refl, arith}
use Rattle.xr_check.specs.LoadRefusals.{BreaksFirst, HasRisen, Layer, OfImage, RefusesLoad, told_of_open}
use Rattle.xr_check.specs.Reading.{NamesRule}
use Rattle.xr_check.specs.declared.fault.Broken.{Broken}
use Rattle.xr_check.specs.declared.fault.CheckFault.{CheckFault}
use Rattle.xr_check.specs.declared.fault.CheckFault.TheVariants.{Dirty, DiskFault, Foreign, NoMemory}
use Rattle.xr_open.specs.declared.fault.OpenFault.{OpenFault}
use Rattle.xr_open.specs.declared.fault.OpenFault.TheVariants.{Header, NoMemory as NoMemoryToOpen, Tree}

pub names_more : (P Q : ℕ → Broken → Type 0) → ((block : ℕ) (rule : Broken) → P block rule → Q block rule) → (fault : CheckFault) → NamesRule P fault → NamesRule Q fault
names_more P Q more (Foreign block rule) p = more block rule p
names_more P Q more (Dirty lsn) p = absurd p
names_more P Q more (DiskFault n) p = tt
names_more P Q more NoMemory p = tt

pub names_refused : (image : List ℕ) (P : ℕ → Broken → Type 0) → ((block : ℕ) (rule : Broken) → P block rule → (layer : Layer) × BreaksFirst image layer block rule)
    → (fault : CheckFault) → NamesRule P fault → RefusesLoad image fault
names_refused image P more (Foreign block rule) p = more block rule p
names_refused image P more (Dirty lsn) p = absurd p
names_refused image P more (DiskFault n) p = tt
names_refused image P more NoMemory p = tt

pub of_image : (P : CheckFault → Type 0) (fault : CheckFault) → P fault → OfImage P fault
of_image P (Dirty lsn) p = p
of_image P (Foreign block rule) p = p
of_image P (DiskFault n) p = tt
of_image P NoMemory p = tt

-- a file or a group that isn't opened
pub not_opened : (P : OpenFault → Type 0) (cause : OpenFault) → P cause
    → NamesRule (λ block rule. (why : OpenFault) × P why × (told_of_open why ≡ Foreign block rule)) (told_of_open cause)
not_opened P (Header fault) p = (Header fault, p, refl)
not_opened P (Tree fault) p = (Tree fault, p, refl)
not_opened P NoMemoryToOpen p = tt

pub not_counted : (before after : ℕ) (cause : OpenFault) → HasRisen before after (told_of_open cause)
not_counted before after (Header fault) = tt
not_counted before after (Tree fault) = tt
not_counted before after NoMemoryToOpen = tt

-- a count that rose later rose
pub risen_before : (before mid after : ℕ) (fault : CheckFault) → before ≤ mid → HasRisen mid after fault → HasRisen before after fault
risen_before before mid after (DiskFault n) less rose = let r = rose.0 in (omega (arith, less, r), rose.1)
risen_before before mid after (Dirty lsn) less rose = tt
risen_before before mid after (Foreign block rule) less rose = tt
risen_before before mid after NoMemory less rose = tt
