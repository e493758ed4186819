-- What a crash while a disk is formatted may leave.
use Rattle.std.proofs.Common.{◌≡◌, ℕ, ◌+◌, ◌-◌, ◌*◌, ◌≤◌, ◌∙◌, Some, List, [], length, take, drop, replicate, get_or, Result, Ok, Err, refl, ap, sym, subst, inl, inr, arith}
use Rattle.std.specs.Prelude.{OnOk, OnErr}
use Rattle.std.proofs.lemmas.List.{drop-drop, take-take}
use Rattle.byteorder.specs.Endian.{big_bytes}
use Rattle.xr_base.specs.Image.{block_of, overlaid, part}
use Rattle.xr_base.specs.ImageLaws.{block_of-overlaid}
use Rattle.xr_base.specs.declared.geometry.TheConstants.{BLOCK_BYTES}
use Rattle.xr_disk.specs.Crash.{Crash, SameOutside}
use Rattle.xr_disk.specs.CrashLaws.{unchanged_outside}
use Rattle.xr_disk.specs.Disk.{CoversNoMore, DiskView, IsAtRest, IsCall, LeavesOnly, MayTear}
use Rattle.xr_disk.specs.Runs.{Runs, after_sync, and_then, leaves_more, then_write}
use Rattle.xr_disk.specs.Seen.{WasSeen}
use Rattle.xr_headers.specs.declared.superblock.Super.{Super}
use Rattle.xr_headers.specs.declared.layout.TheConstants.{BLOCK_CRC, SUPER_MAGIC}
use Rattle.xr_headers.specs.Headers.{super_block, super_fields}
use Rattle.xr_headers.specs.ReadBackLaws.{read_back}
use Rattle.xr_commit.specs.Refusals.{HasNoSuper}
use Rattle.xr_cmd.specs.Mkfs.{HasFreshBody, KeepsBody}
use Rattle.xr_cmd.specs.MkfsSteps.{IsLong, RestsOnFreshBody, SeesAfter}

-- a call, after which a crash leaves only what has P
pub one_call : {T E : Type 0} {old mid new : DiskView} {result : Result T E} {P : Crash → Type 0}
    → LeavesOnly old mid P → IsCall mid new result → ((c : Crash) → new.may_leave c → P c) → LeavesOnly old new P
one_call so_far call now = and_then so_far (leaves_more call.time now)

-- a sync, where each image that a crash may leave before it has Q
pub sync_keeps : {T E : Type 0} (Q : List ℕ → Type 0) (mid new : DiskView) (s : List ℕ) (result : Result T E)
    → ((c : Crash) → mid.may_leave c → Q c.image) → OnOk result (WasSeen mid.seen (λ t. IsAtRest t new)) → OnErr result (CoversNoMore mid new)
    → mid.seen ≡ Some s → ((t : List ℕ) → mid.seen ≡ Some t → (c : Crash) × (c.image ≡ t) × mid.may_leave c) → (c : Crash) → new.may_leave c → Q c.image
sync_keeps Q mid new s result before durable failed seen stays =
    let left = stays s seen in
    after_sync {P = λ (c : Crash). Q c.image} mid new s result before durable failed seen (subst Q left.1 (before left.0 left.2))

-- a write on the first block leaves the others
pub torn_keeps : (bytes : List ℕ) (old mid : DiskView) → length bytes ≡ BLOCK_BYTES → MayTear (BLOCK_BYTES * 0) bytes old mid
    → (c : Crash) → mid.may_leave c → KeepsBody old c.image
torn_keeps bytes old mid size tear c may = elim (tear.crash c may) [
  | inl before ↦ record { left = c; may = before; others = unchanged_outside 0 BLOCK_BYTES c.image }
  | inr (d, before, over) ↦ record { left = d; may = before; others = subst (λ (n : ℕ). SameOutside 0 n d.image c.image) size over.outside }
]

-- a write on a later block leaves the first
first_same : (at n : ℕ) (old new : List ℕ) → BLOCK_BYTES ≤ at → SameOutside at n old new → block_of new 0 ≡ block_of old 0
first_same at n old new after same =
    sym (take-take BLOCK_BYTES at new after) ∙ ap (take BLOCK_BYTES) same.below ∙ take-take BLOCK_BYTES at old after

pub first_kept : {T E : Type 0} (first : List ℕ) (n : ℕ) (bytes : List ℕ) (old mid new : DiskView) (result : Result T E) → 1 ≤ n
    → Runs old mid (λ c. block_of c.image 0 ≡ first) → IsCall mid new result → MayTear (BLOCK_BYTES * n) bytes mid new
    → Runs old new (λ c. block_of c.image 0 ≡ first)
first_kept first n bytes old mid new result later runs call tear =
    then_write {P = λ (c : Crash). block_of c.image 0 ≡ first} (BLOCK_BYTES * n) bytes runs call tear
    (λ d c before over. first_same (BLOCK_BYTES * n) (length bytes) d.image c.image (omega arith) over.outside ∙ runs.now d before)

-- a write on the first block leaves a fresh body
later_same : (old new : List ℕ) (k : ℕ) → 1 ≤ k → SameOutside 0 BLOCK_BYTES old new → block_of new k ≡ block_of old k
later_same old new k later same =
    let n : ℕ = BLOCK_BYTES * k - BLOCK_BYTES in
    let place : BLOCK_BYTES * k ≡ BLOCK_BYTES + n = omega arith in
    ap (take BLOCK_BYTES) (ap (λ (m : ℕ). drop m new) place ∙ sym (drop-drop n BLOCK_BYTES new) ∙ ap (drop n) same.above ∙ drop-drop n BLOCK_BYTES old
    ∙ ap (λ (m : ℕ). drop m old) (sym place))

body_same : (uuid : List ℕ) (cycle : ℕ) (old new : List ℕ) → SameOutside 0 BLOCK_BYTES old new → HasFreshBody uuid cycle old → HasFreshBody uuid cycle new
body_same uuid cycle old new same body k after before = later_same old new k after same ∙ body k after before

pub body_kept : (uuid : List ℕ) (cycle : ℕ) (bytes : List ℕ) (old mid : DiskView) → length bytes ≡ BLOCK_BYTES → RestsOnFreshBody uuid cycle old
    → MayTear (BLOCK_BYTES * 0) bytes old mid → (c : Crash) → mid.may_leave c → HasFreshBody uuid cycle c.image
body_kept uuid cycle bytes old mid size rests tear c may =
    let keeps = torn_keeps bytes old mid size tear c may in
    let image_is = ap (λ (d : Crash). d.image) (rests.rest.alone keeps.left keeps.may) in
    body_same uuid cycle keeps.left.image c.image keeps.others (subst (HasFreshBody uuid cycle) (sym image_is) rests.body)

-- zeros are no superblock
magic_at : (s : Super) → part 0 4 (super_block s) ≡ big_bytes 4 SUPER_MAGIC
unfolding super_fields
magic_at s = read_back BLOCK_CRC BLOCK_BYTES 0 4 (super_fields s) [] (big_bytes 4 SUPER_MAGIC) (drop 4 (super_fields s)) refl refl refl (omega arith) (omega arith)

pub zeros_no_super : (image s : List ℕ) → IsLong s → block_of image 0 ≡ block_of (overlaid 0 (replicate BLOCK_BYTES 0) s) 0 → HasNoSuper image
zeros_no_super image s long is uuid super =
    let zeros : block_of image 0 ≡ replicate BLOCK_BYTES 0 = is ∙ block_of-overlaid 0 (replicate BLOCK_BYTES 0) s refl (omega arith) in
    let magic : part 0 4 (replicate BLOCK_BYTES 0) ≡ big_bytes 4 SUPER_MAGIC = ap (part 0 4) (sym zeros ∙ super.block) ∙ magic_at (record { uuid = uuid }) in
    let byte = ap (λ (bytes : List ℕ). get_or bytes 0 0) magic in
    omega (arith, byte)

-- a write and a sync leave what was written
pub settles : {T E : Type 0} (changed : List ℕ → List ℕ) (old mid new : DiskView) (result : Result T E) → SeesAfter changed old mid
    → OnOk result (WasSeen mid.seen (λ t. IsAtRest t new)) → OnOk result (WasSeen old.seen (λ s. IsAtRest (changed s) new))
settles changed old mid new (Err e) written durable = tt
settles changed old mid new (Ok v) written durable = λ s seen. durable (changed s) (written s seen)

pub settles_body : {T E : Type 0} (uuid : List ℕ) (cycle : ℕ) (old mid new : DiskView) (result : Result T E) → ((s : List ℕ) → old.seen ≡ Some s → IsLong s)
    → ((s : List ℕ) → old.seen ≡ Some s → IsLong s → (t : List ℕ) × (mid.seen ≡ Some t) × IsLong t × HasFreshBody uuid cycle t)
    → OnOk result (WasSeen mid.seen (λ t. IsAtRest t new)) → OnOk result ((s : List ℕ) → IsAtRest s old → RestsOnFreshBody uuid cycle new)
settles_body uuid cycle old mid new (Err e) long written durable = tt
settles_body uuid cycle old mid new (Ok v) long written durable = λ s rest.
    let body = written s rest.seen (long s rest.seen) in
    record { image = body.0; rest = durable body.0 body.1; long = body.2; body = body.3 }
