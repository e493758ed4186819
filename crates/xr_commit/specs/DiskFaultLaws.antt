-- A log's refusals are not the disk's.
use Rattle.std.proofs.Common.{◌≡◌, ℕ, List, inl, inr}
use Rattle.xr_items.specs.declared.item.ItemFault.{ItemFault}
use Rattle.xr_items.specs.declared.item.ItemFault.TheVariants as of_item
use Rattle.xr_record.specs.declared.head.Head.{Head}
use Rattle.xr_record.specs.declared.unsealing.SealFault.{SealFault}
use Rattle.xr_record.specs.declared.unsealing.SealFault.TheVariants as seal
use Rattle.xr_commit.specs.BadItems.{refusal_at}
use Rattle.xr_commit.specs.DiskFaults.{WasCounted}
use Rattle.xr_commit.specs.Refusals.{LeadsNowhere, OrNoMemory, RefusesLog, fault_of}
use Rattle.xr_commit.specs.declared.fault.ScanFault.{ScanFault}
use Rattle.xr_commit.specs.declared.fault.ScanFault.TheVariants.{Magic, Version, Length, Checksum, Place, Operation, ItemType, Size, Field, Debt, Header, DiskFault, NoMemory}

-- no layer names a fault of the disk
not_of_seal : (broken : SealFault) (n : ℕ) → DiskFault n ≡ fault_of broken → ⊥
not_of_seal (seal.Magic sector) n e = cc
not_of_seal (seal.Version sector) n e = cc
not_of_seal (seal.Length sector) n e = cc
not_of_seal (seal.Checksum sector) n e = cc
not_of_seal (seal.Place sector) n e = cc

not_of_items : (why : ItemFault) (block n : ℕ) → DiskFault n ≡ refusal_at why block → ⊥
not_of_items (of_item.ItemType place) block n e = cc
not_of_items (of_item.Size place) block n e = cc
not_of_items (of_item.Field place) block n e = cc

not_of_chain : (uuid log : List ℕ) (head last : Head) (n : ℕ) → LeadsNowhere uuid log head last (DiskFault n) → ⊥
not_of_chain uuid log head last n (inl named) = let e = named.1 in cc
not_of_chain uuid log head last n (inr (inl lost)) = not_of_seal lost.0 n lost.2
not_of_chain uuid log head last n (inr (inr astray)) = let e = astray.1 in cc

not_of_disk : (uuid log : List ℕ) (n : ℕ) → RefusesLog uuid log (DiskFault n) → ⊥
not_of_disk uuid log n (inl none) = let e = none.1 in cc
not_of_disk uuid log n (inr (head, newest, inl broken)) = not_of_chain uuid log head.head broken.last.head n broken.nowhere
not_of_disk uuid log n (inr (head, newest, inr (records, chain, inl cramped))) = let e = cramped.1 in cc
not_of_disk uuid log n (inr (head, newest, inr (records, chain, inr (reserve, inl company)))) = let e = company.named in cc
not_of_disk uuid log n (inr (head, newest, inr (records, chain, inr (reserve, inr (alone, inl wrong))))) = let e = wrong.named in cc
not_of_disk uuid log n (inr (head, newest, inr (records, chain, inr (reserve, inr (alone, inr bad))))) = not_of_items bad.why bad.block n bad.named

-- so whatever the disk counted, they say nothing else
pub uncounted : (uuid log : List ℕ) (before after : ℕ) (fault : ScanFault) → OrNoMemory (RefusesLog uuid log) fault → WasCounted before after fault
uncounted uuid log before after (Magic b) refused = tt
uncounted uuid log before after (Version b) refused = tt
uncounted uuid log before after (Length b) refused = tt
uncounted uuid log before after (Checksum b) refused = tt
uncounted uuid log before after (Place b) refused = tt
uncounted uuid log before after (Operation b) refused = tt
uncounted uuid log before after (ItemType b) refused = tt
uncounted uuid log before after (Size b) refused = tt
uncounted uuid log before after (Field b) refused = tt
uncounted uuid log before after (Header b) refused = tt
uncounted uuid log before after (Debt b) refused = tt
uncounted uuid log before after (DiskFault n) refused = elim (not_of_disk uuid log n refused) [ ]
uncounted uuid log before after NoMemory refused = tt
