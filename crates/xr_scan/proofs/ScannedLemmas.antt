-- What a scan found is what the image holds.
use Rattle.std.proofs.Common.{◌≡◌, ℕ, List, length, ap, subst, arith}
use Rattle.std.proofs.lemmas.List.{length-map}
use Rattle.xr_commit.specs.LiveStream.{IsLiveIn}
use Rattle.xr_commit.specs.LogRecords.{log_of}
use Rattle.xr_commit.specs.LoggedItems.{Logged}
use Rattle.xr_commit.specs.declared.pending.Pending.{Pending}
use Rattle.xr_commit.specs.Pending.{pending}
use Rattle.xr_scan.specs.LoggedEntries.{logged_items}
use Rattle.xr_scan.specs.ScannedLaws.{ScannedHasFew, TooManyAreHeld}
use Rattle.xr_scan.proofs.StateLemmas.{one_logged, one_super}

pub scanned_has_few : ScannedHasFew
scanned_has_few image scanned is many =
    let uuid : many.uuid ≡ scanned.uuid = one_super image many.uuid scanned.uuid many.superblock is.superblock in
    let logged : many.logged ≡ is.logged = one_logged image scanned.uuid many.heads is.heads many.entries is.entries many.logged is.logged
    (subst (λ (u : List ℕ). IsLiveIn u (log_of image) many.heads many.entries) uuid many.live_in) is.live_in many.log_all is.log_all in
    let few = is.few in
    let over = many.many in
    omega (arith, few, over, ap length is.pending_are, ap (λ (ls : List Logged). length (pending (logged_items ls))) logged)

pub too_many_are_held : TooManyAreHeld
too_many_are_held image state holds many =
    let uuid : many.uuid ≡ state.uuid = one_super image many.uuid state.uuid many.superblock holds.superblock in
    let logged : many.logged ≡ holds.logged = one_logged image state.uuid many.heads holds.heads many.entries holds.entries many.logged holds.logged
    (subst (λ (u : List ℕ). IsLiveIn u (log_of image) many.heads many.entries) uuid many.live_in) holds.live_in many.log_all holds.log_all in
    let over = many.many in
    omega (
      arith,
      over,
      ap length holds.works,
      length-map (pending (logged_items holds.logged)) (λ (p : Pending). p.work),
      ap (λ (ls : List Logged). length (pending (logged_items ls))) logged,
    )
