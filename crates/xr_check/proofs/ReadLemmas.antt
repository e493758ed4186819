-- Calls that only read, one after another, and the bytes that one read.
use Rattle.std.proofs.Common.{◌≡◌, ◌∙◌, ℕ, ◌+◌, ◌*◌, ◌≤◌, List, ◌++◌, length, take, drop, ap, arith}
use Rattle.std.proofs.lemmas.List.{take-append-le, take_all}
use Rattle.xr_base.specs.Image.{part}
use Rattle.xr_check.specs.Reading.{ReadsAtMost}
use Rattle.xr_disk.specs.Disk.{DiskView}
use Rattle.xr_disk.specs.Runs.{nothing_read, read_on}

pub none_read : (disk : DiskView) → ReadsAtMost 0 disk disk
none_read disk = record { reads = nothing_read disk; clock = omega arith; kept = omega arith }

pub then_reads : (old mid new : DiskView) (m n k : ℕ) → m + n ≤ k → ReadsAtMost m old mid → ReadsAtMost n mid new → ReadsAtMost k old new
then_reads old mid new m n k sum first second = record {
  reads = read_on {old = old} {mid = mid} {new = new} first.reads second.reads;
  clock = omega (arith, sum, first.clock, second.clock);
  kept = omega (arith, first.kept, second.kept);
}

-- the blocks that were read into a vector
pub blocks_read : (old new image : List ℕ) (n first count at long : ℕ) → length new ≡ n → at ≡ first * 8 → long ≡ 4096 * count → new ≡ part (512 * at) long image
    → take n (new ++ drop (length new) old) ≡ part (4096 * first) (4096 * count) image
blocks_read old new image n first count at long size place bytes read =
    take-append-le n new (drop (length new) old) (omega (arith, size)) ∙ take_all n new (omega (arith, size)) ∙ read
    ∙ ap (λ (k : ℕ). part k long image) (omega (arith, place)) ∙ ap (λ (k : ℕ). part (4096 * first) k image) bytes
