-- A fresh image grows block by block.
use Rattle.std.proofs.Common.{◌≡◌, ◌≢◌, ℕ, ◌+◌, ◌*◌, ◌<◌, ◌≤◌, ◌∙◌, Some, List, length, Result, Ok, Err, refl, ap, sym, subst, arith, ⊎_elim}
use Rattle.std.specs.Prelude.{OnOk}
use Rattle.std.proofs.lemmas.Bool.{cases_eq}
use Rattle.xr_base.specs.Image.{block_of, overlaid}
use Rattle.xr_base.specs.ImageLaws.{length-overlaid, block_of-overlaid, block_of-overlaid_other, image_of_blocks}
use Rattle.xr_base.specs.declared.geometry.TheConstants.{BLOCK_BYTES, BLOCKS, SECTOR_BYTES, SECTORS}
use Rattle.xr_disk.specs.Crash.{Crash}
use Rattle.xr_disk.specs.Disk.{DiskView, IsAtRest, IsCall, MayTear}
use Rattle.xr_disk.specs.Runs.{Runs, begin}
use Rattle.xr_headers.specs.FreshImage.{fresh_block_of, fresh_image}
use Rattle.xr_headers.specs.FreshImageLaws.{length-fresh_block_of}
use Rattle.xr_cmd.specs.Fresh.{HasFreshBlocks}
use Rattle.xr_disk.specs.Seen.{WasSeen}
use Rattle.xr_cmd.specs.MkfsSteps.{IsLong, RestsOnFreshBody, SeesAfter}
use Rattle.xr_cmd.proofs.MkfsCrashLemmas.{first_kept}

-- one block more
fresh_more : (uuid : List ℕ) (cycle first n : ℕ) (image : List ℕ) → IsLong image → n < BLOCKS → HasFreshBlocks uuid cycle first n image
    → HasFreshBlocks uuid cycle first (n + 1) (overlaid (BLOCK_BYTES * n) (fresh_block_of uuid cycle n) image)
fresh_more uuid cycle first n image long below fresh k after before =
    let bytes : List ℕ = fresh_block_of uuid cycle n in
    let size : length bytes ≡ BLOCK_BYTES = length-fresh_block_of uuid cycle n in
    ⊎_elim
    (λ (here : k ≡ n). ap (block_of (overlaid (BLOCK_BYTES * n) bytes image)) here ∙ block_of-overlaid n bytes image size (omega arith) ∙ ap (fresh_block_of uuid cycle) (sym here))
    (λ (elsewhere : k ≢ n). block_of-overlaid_other k n bytes image elsewhere size (omega arith) ∙ fresh k after (omega arith))
    (cases_eq k n)

-- what the loop keeps: of an image of the disk's size, the blocks from the second to below n are fresh
pub record IsMaking (uuid : List ℕ) (cycle n : ℕ) (old new : DiskView) : Type 0 where
  pub seen : (s : List ℕ) → old.seen ≡ Some s → IsLong s → (t : List ℕ) × (new.seen ≡ Some t) × IsLong t × HasFreshBlocks uuid cycle 1 n t
  pub later : 1 ≤ n
  pub faults : new.faults ≡ old.faults
  pub first : (s : List ℕ) → IsAtRest s old → Runs old new (λ c. block_of c.image 0 ≡ block_of s 0)

pub making_begins : (uuid : List ℕ) (cycle : ℕ) (disk : DiskView) → IsMaking uuid cycle 1 disk disk
making_begins uuid cycle disk = record {
  seen = λ s seen long. (s, seen, long, λ k after before. absurd (omega arith));
  later = omega arith;
  faults = omega arith;
  first = λ s rest. begin {P = λ (c : Crash). block_of c.image 0 ≡ block_of s 0} rest refl;
}

pub making_more : {T E : Type 0} (uuid : List ℕ) (cycle n : ℕ) (old mid new : DiskView) (result : Result T E) → n < BLOCKS → IsMaking uuid cycle n old mid
    → SeesAfter (overlaid (BLOCK_BYTES * n) (fresh_block_of uuid cycle n)) mid new → new.faults ≡ mid.faults → IsCall mid new result
    → MayTear (BLOCK_BYTES * n) (fresh_block_of uuid cycle n) mid new → IsMaking uuid cycle (n + 1) old new
making_more uuid cycle n old mid new result below making written kept call tear = record {
  seen = λ s seen long.
      let before = making.seen s seen long in
      let t : List ℕ = before.0 in
      let is_long : IsLong t = before.2 in
      let size : length (fresh_block_of uuid cycle n) ≡ BLOCK_BYTES = length-fresh_block_of uuid cycle n in (
        overlaid (BLOCK_BYTES * n) (fresh_block_of uuid cycle n) t,
        written t before.1,
        length-overlaid (BLOCK_BYTES * n) (fresh_block_of uuid cycle n) t (omega arith) ∙ is_long,
        fresh_more uuid cycle 1 n t is_long below before.3,
      );
  faults = let first = making.faults in omega arith;
  later = omega (arith, making.later);
  first = λ s rest. first_kept (block_of s 0) n (fresh_block_of uuid cycle n) old mid new result making.later (making.first s rest) call tear;
}

-- the superblock comes last, and the image is whole
pub made_whole : (uuid : List ℕ) (cycle : ℕ) (image : List ℕ) → IsLong image → HasFreshBlocks uuid cycle 1 BLOCKS image
    → overlaid (BLOCK_BYTES * 0) (fresh_block_of uuid cycle 0) image ≡ fresh_image uuid cycle
unfolding fresh_image
made_whole uuid cycle image long fresh =
    let bytes : List ℕ = fresh_block_of uuid cycle 0 in
    let size : length bytes ≡ BLOCK_BYTES = length-fresh_block_of uuid cycle 0 in
    image_of_blocks (fresh_block_of uuid cycle) BLOCKS (overlaid (BLOCK_BYTES * 0) bytes image)
    (length-overlaid (BLOCK_BYTES * 0) bytes image (omega arith) ∙ omega arith)
    (λ k below. ⊎_elim
    (λ (first : k ≡ 0). ap (block_of (overlaid (BLOCK_BYTES * 0) bytes image)) first ∙ block_of-overlaid 0 bytes image size (omega arith) ∙ ap (fresh_block_of uuid cycle) (sym first))
    (λ (later : k ≢ 0). block_of-overlaid_other k 0 bytes image later size (omega arith) ∙ fresh k (omega arith) below)
    (cases_eq k 0))

-- What a disk reads is as long as what a crash may leave of it.
pub seen_is_long : (disk : DiskView) (s : List ℕ) → ((t : List ℕ) → disk.seen ≡ Some t → (c : Crash) × (c.image ≡ t) × disk.may_leave c)
    → ((c : Crash) → disk.may_leave c → length c.image ≡ SECTOR_BYTES * SECTORS) → disk.seen ≡ Some s → IsLong s
seen_is_long disk s stays sized seen = let left = stays s seen in ap length (sym left.1) ∙ sized left.0 left.2

pub settles_whole : {T E : Type 0} (uuid : List ℕ) (cycle : ℕ) (old mid new : DiskView) (result : Result T E)
    → SeesAfter (overlaid (BLOCK_BYTES * 0) (fresh_block_of uuid cycle 0)) old mid → OnOk result (WasSeen mid.seen (λ t. IsAtRest t new))
    → OnOk result (RestsOnFreshBody uuid cycle old → IsAtRest (fresh_image uuid cycle) new)
settles_whole uuid cycle old mid new (Err e) written durable = tt
settles_whole uuid cycle old mid new (Ok v) written durable = λ rests.
    subst (λ (t : List ℕ). IsAtRest t new) (made_whole uuid cycle rests.image rests.long rests.body) (durable _ (written rests.image rests.rest.seen))

-- the three steps, where each of them answered Ok
pub made_at_rest : {T E : Type 0} (uuid : List ℕ) (cycle : ℕ) (start cleared filled whole : DiskView) (changed : List ℕ → List ℕ) (result : Result T E)
    → WasSeen start.seen (λ s. IsAtRest (changed s) cleared) → ((s : List ℕ) → IsAtRest s cleared → RestsOnFreshBody uuid cycle filled)
    → OnOk result (RestsOnFreshBody uuid cycle filled → IsAtRest (fresh_image uuid cycle) whole)
    → OnOk result (WasSeen start.seen (λ _. IsAtRest (fresh_image uuid cycle) whole))
made_at_rest uuid cycle start cleared filled whole changed (Err e) clears fills sets = tt
made_at_rest uuid cycle start cleared filled whole changed (Ok v) clears fills sets = λ s seen. sets (fills (changed s) (clears s seen))
