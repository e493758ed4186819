-- When a scan is refused, and that it isn't where something is found.
use Rattle.std.proofs.Common.{◌≡◌, ◌∙◌, ℕ, List, Option, Result, Ok, Err, refl, sym, ap, subst, inl, inr}
use Rattle.std.specs.Prelude.{IfErr}
use Rattle.xr_base.specs.Fields.{AreBytes}
use Rattle.xr_disk.specs.Seen.{WasSeen}
use Rattle.xr_record.specs.declared.head.Head.{Head}
use Rattle.xr_record.specs.declared.unsealing.SealFault.{SealFault}
use Rattle.xr_record.specs.declared.unsealing.SealFault.TheVariants as seal
use Rattle.xr_items.specs.declared.item.ItemFault.{ItemFault}
use Rattle.xr_items.specs.declared.item.ItemFault.TheVariants as item
use Rattle.xr_commit.specs.BadItems.{refusal_at}
use Rattle.xr_commit.specs.declared.fault.ScanFault.{ScanFault}
use Rattle.xr_commit.specs.declared.fault.ScanFault.TheVariants.{Debt, DiskFault, NoMemory}
use Rattle.xr_commit.specs.LogRecords.{log_of}
use Rattle.xr_commit.specs.Refusals.{IsReadable, LeadsNowhere, OrNoMemory, OrOutside, RefusesImage, RefusesLog, fault_of}
use Rattle.xr_commit.specs.declared.live_stream.Live.{Live}
use Rattle.xr_commit.specs.LiveStream.{IsLiveStream}
use Rattle.xr_scan.specs.Scan.{IsNeverRefused, IsNeverScanned, PreventsScan}
use Rattle.xr_scan.specs.ScanLaws.{IsOneScanRefusal}
use Rattle.xr_scan.specs.Scanned.{HasTooMany, IsScanned}
use Rattle.xr_scan.specs.declared.scanned.Scanned.{Scanned}
use Rattle.xr_scan.specs.Scanning.{OwesTooMuch}
use Rattle.xr_scan.specs.declared.scanning.LiveItems.{LiveItems}
use Rattle.xr_scan.specs.LoggedItemLaws.{live_logs_items}
use Rattle.xr_scan.proofs.RefusalLemmas.{live_is_taken, one_refusal}
use Rattle.xr_scan.proofs.ScannedLemmas.{scanned_has_few}

-- what has P has Q
pub outside_more : (P Q : ScanFault → Type 0) → ((fault : ScanFault) → P fault → Q fault) → (fault : ScanFault) → OrOutside P fault → OrOutside Q fault
outside_more P Q more NoMemory p = tt
outside_more P Q more (DiskFault n) p = tt
outside_more P Q more fault p = more fault p

pub outside_too : (P Q : ScanFault → Type 0) → ((fault : ScanFault) → P fault → Q fault) → (fault : ScanFault) → OrNoMemory P fault → OrOutside Q fault
outside_too P Q more NoMemory p = tt
outside_too P Q more (DiskFault n) p = tt
outside_too P Q more fault p = more fault p

-- no layer of a live stream counts its works
not_of_seal : (broken : SealFault) (n : ℕ) → Debt n ≡ fault_of broken → ⊥
not_of_seal (seal.Magic sector) n e = cc
not_of_seal (seal.Version sector) n e = cc
not_of_seal (seal.Length sector) n e = cc
not_of_seal (seal.Checksum sector) n e = cc
not_of_seal (seal.Place sector) n e = cc

not_of_items : (why : ItemFault) (block n : ℕ) → Debt n ≡ refusal_at why block → ⊥
not_of_items (item.ItemType place) block n e = cc
not_of_items (item.Size place) block n e = cc
not_of_items (item.Field place) block n e = cc

not_of_chain : (uuid log : List ℕ) (head last : Head) (n : ℕ) → LeadsNowhere uuid log head last (Debt n) → ⊥
not_of_chain uuid log head last n (inl named) = let e = named.1 in cc
not_of_chain uuid log head last n (inr (inl lost)) = not_of_seal lost.0 n lost.2
not_of_chain uuid log head last n (inr (inr astray)) = let e = astray.1 in cc

not_of_log : (uuid log : List ℕ) (n : ℕ) → RefusesLog uuid log (Debt n) → ⊥
not_of_log uuid log n (inl none) = let e = none.1 in cc
not_of_log uuid log n (inr (head, newest, inl broken)) = not_of_chain uuid log head.head broken.last.head n broken.nowhere
not_of_log uuid log n (inr (head, newest, inr (records, chain, inl cramped))) = let e = cramped.1 in cc
not_of_log uuid log n (inr (head, newest, inr (records, chain, inr (reserve, inl company)))) = let e = company.named in cc
not_of_log uuid log n (inr (head, newest, inr (records, chain, inr (reserve, inr (alone, inl wrong))))) = let e = wrong.named in cc
not_of_log uuid log n (inr (head, newest, inr (records, chain, inr (reserve, inr (alone, inr bad))))) = not_of_items bad.why bad.block n bad.named

not_of_image : (image : List ℕ) (n : ℕ) → RefusesImage image (Debt n) → ⊥
not_of_image image n (inl none) = let e = none.1 in cc
not_of_image image n (inr (uuid, superblock, refused)) = not_of_log uuid (log_of image) n refused

pub prevents_scan : (image : List ℕ) (fault : ScanFault) → RefusesImage image fault → PreventsScan image fault
prevents_scan image (Debt n) refused = absurd (not_of_image image n refused)
prevents_scan image fault refused = refused

pub seen_refused : (seen : Option (List ℕ)) (fault : ScanFault) → OrOutside (λ (f : ScanFault). WasSeen seen (λ image. RefusesImage image f)) fault
    → OrOutside (λ (f : ScanFault). WasSeen seen (λ image. PreventsScan image f)) fault
seen_refused seen fault refused =
    outside_more (λ (f : ScanFault). WasSeen seen (λ image. RefusesImage image f)) (λ (f : ScanFault). WasSeen seen (λ image. PreventsScan image f))
    (λ f was image at. prevents_scan image f (was image at)) fault refused

too_many : (image : List ℕ) (live : Live) (fault : ScanFault) → IsLiveStream image live → OwesTooMuch live.entries.items fault → PreventsScan image fault
too_many image live fault is owes =
    let some = live_logs_items live.uuid (log_of image) live.heads.items live.entries.items is.live_in in
    subst (PreventsScan image) (sym owes.named) (
      record {
        uuid = live.uuid;
        superblock = is.superblock;
        heads = live.heads.items;
        entries = live.entries.items;
        live_in = is.live_in;
        logged = some.0;
        log_all = some.1;
        many = owes.many some.0 some.1;
      },
      refl,
    )

pub owes_refused : (seen : Option (List ℕ)) (live : Live) (result : Result LiveItems ScanFault) → WasSeen seen (λ image. IsLiveStream image live)
    → IfErr result (OrNoMemory (OwesTooMuch live.entries.items)) → IfErr result (OrOutside (λ (f : ScanFault). WasSeen seen (λ image. PreventsScan image f)))
owes_refused seen live (Ok found) is owes = tt
owes_refused seen live (Err fault) is owes =
    outside_too (OwesTooMuch live.entries.items) (λ (f : ScanFault). WasSeen seen (λ image. PreventsScan image f)) (λ f o image at. too_many image live f (is image at) o) fault owes

-- what is found is never refused, and what is refused is never found
pub never_refused : (image : List ℕ) (scanned : Scanned) → AreBytes (log_of image) → IsScanned image scanned → IsNeverRefused image
never_refused image scanned small is (Debt n) refused = scanned_has_few image scanned is refused.0
never_refused image scanned small is fault refused = live_is_taken image scanned.uuid is.heads is.entries fault small is.superblock is.live_in refused

never_scanned : (image : List ℕ) (fault : ScanFault) → IsReadable image → PreventsScan image fault → IsNeverScanned image
never_scanned image fault readable refused = λ scanned is. elim readable [
  | inl none ↦ none scanned.uuid is.superblock
  | inr small ↦ never_refused image scanned small is fault refused
]

pub seen_never : (seen : Option (List ℕ)) (fault : ScanFault) → OrOutside (λ (f : ScanFault). WasSeen seen (λ image. PreventsScan image f)) fault → OrOutside (λ (f : ScanFault). WasSeen seen IsReadable) fault
    → OrOutside (λ (f : ScanFault). WasSeen seen IsNeverScanned) fault
seen_never seen NoMemory refused readable = tt
seen_never seen (DiskFault n) refused readable = tt
seen_never seen fault refused readable = λ image at. never_scanned image fault (readable image at) (refused image at)

pub owes_never : (seen : Option (List ℕ)) (live : Live) (result : Result LiveItems ScanFault) → WasSeen seen (λ image. IsLiveStream image live) → WasSeen seen (λ image. AreBytes (log_of image))
    → IfErr result (OrNoMemory (OwesTooMuch live.entries.items)) → IfErr result (OrOutside (λ (f : ScanFault). WasSeen seen IsNeverScanned))
owes_never seen live (Ok found) is small owes = tt
owes_never seen live (Err fault) is small owes =
    outside_too (OwesTooMuch live.entries.items) (λ (f : ScanFault). WasSeen seen IsNeverScanned)
    (λ f o image at. never_scanned image f (inr (small image at)) (too_many image live f (is image at) o)) fault owes

-- an image that owes too much isn't refused in another way
not_owed : (image : List ℕ) (fault : ScanFault) → IsReadable image → HasTooMany image → RefusesImage image fault → ⊥
not_owed image fault (inl none) many refused = none many.uuid many.superblock
not_owed image fault (inr small) many refused = live_is_taken image many.uuid many.heads many.entries fault small many.superblock many.live_in refused

-- a scan is refused in one way at most
pub one_scan_refusal : IsOneScanRefusal
one_scan_refusal image (Debt m) (Debt n) readable a b = ap Debt (a.1 ∙ sym b.1)
one_scan_refusal image (Debt m) two readable a b = absurd (not_owed image two readable a.0 b)
one_scan_refusal image one (Debt n) readable a b = absurd (not_owed image one readable b.0 a)
one_scan_refusal image one two readable a b = one_refusal image one two readable a b

-- what holds of any image that was read, whatever its refusal
where_read : (P : Type 0) → P → (fault : ScanFault) → OrOutside (λ (f : ScanFault). P) fault
where_read P p NoMemory = tt
where_read P p (DiskFault n) = tt
where_read P p fault = p

pub owes_readable : (seen : Option (List ℕ)) (result : Result LiveItems ScanFault) → WasSeen seen (λ image. AreBytes (log_of image))
    → IfErr result (OrOutside (λ (f : ScanFault). WasSeen seen IsReadable))
owes_readable seen (Ok found) small = tt
owes_readable seen (Err fault) small = where_read (WasSeen seen IsReadable) (λ image at. inr (small image at)) fault
