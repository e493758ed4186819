-- Some image has a log and the blocks of a state, whichever they are.
use Rattle.std.proofs.Common.{◌≡◌, ◌∙◌, ℕ, zero, suc, ◌+◌, ◌-◌, ◌*◌, ◌<◌, ◌≤◌, List, length, ap, sym, subst, inl, inr, arith}
use Rattle.std.proofs.lemmas.Bool.{cases_lt}
use Rattle.xr_base.specs.Image.{overlaid, part}
use Rattle.xr_base.specs.ImageLaws.{length-overlaid, part-overlaid, part_below}
use Rattle.xr_base.specs.declared.geometry.TheConstants.{UUID_BYTES}
use Rattle.xr_headers.specs.FreshImage.{fresh_image}
use Rattle.xr_headers.specs.FreshImageLaws.{block_of-fresh_image, length-fresh_image}
use Rattle.xr_headers.specs.FreshLaws.{fresh_block_of-super}
use Rattle.xr_commit.specs.LogRecords.{HasSuper, log_of}
use Rattle.xr_scan.specs.Homes.{AreHomes, AreHomesBelow}
use Rattle.xr_scan.specs.Replaying.{IsStateBlock}
use Rattle.xr_scan.specs.Scanned.{copy_number}
use Rattle.xr_scan.proofs.BlockRunLemmas.{length-part}
use Rattle.xr_scan.proofs.HomeLemmas.{all_read, file_home, group_home, laid_inside, piece}
use Rattle.xr_scan.specs.CopyLaws.{placed}

-- an image with this log and the first of these blocks
record HasBelow (uuid log homes : List ℕ) (n : ℕ) (image : List ℕ) : Type 0 where
  pub long : length image ≡ 36732928
  pub superblock : HasSuper image uuid
  pub log_is : log ≡ log_of image
  pub at_home : AreHomesBelow image n homes

-- the blocks of a run are laid behind those of the runs before it
lay_run : (uuid log homes image : List ℕ) (first a n : ℕ) → length homes ≡ 9437184 → a + n ≤ 2304 → 520 ≤ first → first + n ≤ 8968
    → ((block : ℕ) → IsStateBlock block → copy_number block < a → block < first)
    → ((block : ℕ) → IsStateBlock block → a ≤ copy_number block → copy_number block < a + n → block ≡ first + (copy_number block - a))
    → HasBelow uuid log homes a image → HasBelow uuid log homes (a + n) (overlaid (4096 * first) (part (4096 * a) (4096 * n) homes) image)
lay_run uuid log homes image first a n whole few from within before home has =
    let out : List ℕ = part (4096 * a) (4096 * n) homes in
    let size = has.long in
    let long : length out ≡ 4096 * n = length-part (4096 * a) (4096 * n) homes (omega (arith, whole, few)) in
    let fits : 4096 * first + length out ≤ length image = omega (arith, long, within, size) in
    let room : 4096 * first ≤ length image = omega (arith, within, size) in
    let at_home = has.at_home in
    record {
      long = length-overlaid (4096 * first) out image fits ∙ size;
      superblock = record { whole = has.superblock.whole; block = part_below (4096 * first) 4096 0 out image (omega (arith, from)) room ∙ has.superblock.block };
      log_is = has.log_is ∙ sym (part_below (4096 * first) 2097152 32768 out image (omega (arith, from)) room);
      at_home = λ block in_state below. elim (cases_lt (copy_number block) a) [
        | inl less ↦ (let b = before block in_state less in at_home block in_state less ∙ sym (part_below (4096 * first) 4096 (4096 * block) out image (omega (arith, b)) room))
        | inr more ↦ (
            let d : ℕ = copy_number block - a in
            let h : block ≡ first + d = home block in_state more below in
            let w : 4096 * d + 4096 ≤ 4096 * n = omega (arith, more, below) in
            let e : 4096 * block ≡ 4096 * first + 4096 * d = omega (arith, h) in
            let f : 4096 * a + 4096 * d ≡ 4096 * copy_number block = omega (arith, more) in
            ap (λ (k : ℕ). part k 4096 homes) (sym f) ∙ sym (piece (4096 * a) (4096 * n) (4096 * d) 4096 homes w) ∙ sym (laid_inside (4096 * first) (4096 * d) 4096 out image room (omega (arith, long, w)))
            ∙ ap (λ (k : ℕ). part k 4096 (overlaid (4096 * first) out image)) (sym e)
            )
      ];
    }

group_before : (group block : ℕ) → IsStateBlock block → copy_number block < 256 + 512 * group → block < 776 + 2048 * group
group_before group block has below = elim (placed block has).back [ inl (p, q, r) ↦ omega (arith, p) | inr (p, q, w, r) ↦ omega (arith, p, q, r, below) ]

record SomeImage (uuid log homes : List ℕ) (n : ℕ) : Type 0 where
  pub image : List ℕ
  pub has : HasBelow uuid log homes n image

lay_groups : (uuid log homes : List ℕ) (groups : ℕ) → groups ≤ 4 → length homes ≡ 9437184 → SomeImage uuid log homes 256 → SomeImage uuid log homes (256 + 512 * groups)
lay_groups uuid log homes zero few whole files = files
lay_groups uuid log homes (suc groups) few whole files =
    let some = lay_groups uuid log homes groups (omega (arith, few)) whole files in
    let e : 256 + 512 * groups + 512 ≡ 256 + 512 * suc groups = omega arith in
    subst (SomeImage uuid log homes) e record {
      image = overlaid (4096 * (776 + 2048 * groups)) (part (4096 * (256 + 512 * groups)) (4096 * 512) homes) some.image;
      has = lay_run uuid log homes some.image (776 + 2048 * groups) (256 + 512 * groups) 512 whole (omega (arith, few)) (omega arith) (omega (arith, few))
          (group_before groups) (group_home groups) some.has;
    }

lay_log : (uuid log homes : List ℕ) → length uuid ≡ UUID_BYTES → length log ≡ 2097152 → HasBelow uuid log homes 0 (overlaid 32768 log (fresh_image uuid 1))
lay_log uuid log homes whole long =
    let fresh : List ℕ = fresh_image uuid 1 in
    let size : length fresh ≡ 36732928 = length-fresh_image uuid 1 in
    record {
      long = length-overlaid 32768 log fresh (omega (arith, long, size)) ∙ size;
      superblock = record {
        whole = whole;
        block = part_below 32768 4096 0 log fresh (omega arith) (omega (arith, size)) ∙ block_of-fresh_image uuid 1 0 (omega arith) ∙ fresh_block_of-super uuid 1;
      };
      log_is = sym (part-overlaid 32768 2097152 log fresh long (omega (arith, size)));
      at_home = λ block in_state below. absurd (omega (arith, below));
    }

-- an image that could have been read
pub record IsImageOf (uuid log homes image : List ℕ) : Type 0 where
  pub superblock : HasSuper image uuid
  pub log_is : log ≡ log_of image
  pub at_home : AreHomes image homes

pub some_image : (uuid log homes : List ℕ) → length uuid ≡ UUID_BYTES → length log ≡ 2097152 → length homes ≡ 9437184 → (image : List ℕ) × IsImageOf uuid log homes image
some_image uuid log homes whole long size =
    let begun : List ℕ = overlaid 32768 log (fresh_image uuid 1) in
    let files : SomeImage uuid log homes 256 = record {
      image = overlaid (4096 * 520) (part (4096 * 0) (4096 * 256) homes) begun;
      has = lay_run uuid log homes begun 520 0 256 size (omega arith) (omega arith) (omega arith) (λ block in_state below. absurd (omega (arith, below)))
          (λ block in_state from below. file_home block in_state below) (lay_log uuid log homes whole long);
    } in
    let all = lay_groups uuid log homes 4 (omega arith) size files in
    (all.image, record { superblock = all.has.superblock; log_is = all.has.log_is; at_home = all_read all.image homes all.has.at_home })
