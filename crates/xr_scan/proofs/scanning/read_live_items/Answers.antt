use Rattle.std.proofs.lemmas.Result.{err_from_is_err_and}
use Rattle.xr_scan.proofs.FoundItemLemmas.{was_found}
use Rattle.xr_scan.proofs.ScanRefusalLemmas.{owes_never, owes_readable, owes_refused, seen_never, seen_refused}
use Rattle.xr_scan.proofs.scanning.read_live_items.Goals as goal

pub returns-in_err-live-clause-refused : goal.returns-in_err-live-clause-refused
returns-in_err-live-clause-refused g c =
    let p = err_from_is_err_and c.from_residual.result c.from_residual.ensures.1 in
    rw (p.1, p.2) (seen_refused _ _ c.in_err-live.ensures.refused)

pub returns-clause-found : goal.returns-clause-found
returns-clause-found g c = was_found _ c.in_ok-live.live c.find_items.result c.in_ok-live.ensures.read c.in_ok-live.ensures.live c.find_items.ensures.found c.find_items.ensures.live

pub returns-clause-refused : goal.returns-clause-refused
returns-clause-refused g c = owes_refused _ c.in_ok-live.live c.find_items.result c.in_ok-live.ensures.live c.find_items.ensures.debt

pub returns-in_err-live-clause-never : goal.returns-in_err-live-clause-never
returns-in_err-live-clause-never g c =
    let p = err_from_is_err_and c.from_residual.result c.from_residual.ensures.1 in
    rw (p.1, p.2) (seen_never _ _ (seen_refused _ _ c.in_err-live.ensures.refused) c.in_err-live.ensures.readable)

pub returns-clause-never : goal.returns-clause-never
returns-clause-never g c = owes_never _ c.in_ok-live.live c.find_items.result c.in_ok-live.ensures.live c.in_ok-live.ensures.bytes c.find_items.ensures.debt

pub returns-clause-readable : goal.returns-clause-readable
returns-clause-readable g c = owes_readable _ c.find_items.result c.in_ok-live.ensures.bytes
