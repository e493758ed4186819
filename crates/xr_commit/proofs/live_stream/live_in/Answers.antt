use Rattle.std.proofs.Common.{◌∙◌, List, refl, sym, subst, inl, inr}
use Rattle.std.proofs.lemmas.Bool.{false≢true}
use Rattle.std.proofs.lemmas.Result.{err_from_is_err_and}
use Rattle.xr_record.specs.declared.entry.Entry.{Entry}
use Rattle.xr_record.specs.declared.head.Head.{Head}
use Rattle.xr_commit.specs.Entries.{HasEntries}
use Rattle.xr_commit.specs.GoodItems.{EntriesAreGood}
use Rattle.xr_commit.specs.ChainHeaders.{HasNoChain}
use Rattle.xr_commit.specs.LogRecords.{AreIn, LogRecord}
use Rattle.xr_commit.specs.Refusals.{BreaksOperations, RefusesLog}
use Rattle.xr_commit.proofs.ChainLemmas.{or_no_memory, no_memory_too}
use Rattle.xr_commit.proofs.LayerLemmas.{bodies_refused, chain_refused, is_live, no_reserve, top}
use Rattle.xr_commit.proofs.WholeRecordLemmas.{all_within, chain_in, newest_within}
use Rattle.xr_commit.specs.WholeRecordLaws.{chain_stands}
use Rattle.xr_commit.proofs.live_stream.live_in.Goals as goal

pub returns-in_err-heads-clause-refused : goal.returns-in_err-heads-clause-refused
returns-in_err-heads-clause-refused c =
    let uuid = c.args.uuid in let log = c.args.log.now in let head = c.in-Some.head in
    let p = err_from_is_err_and c.from_residual-in_err-heads.result c.from_residual-in_err-heads.ensures.1 in
    rw (p.1, p.2) (no_memory_too (HasNoChain uuid log head) (RefusesLog uuid log) (λ fault none. chain_refused uuid log head fault c.in-Some.ensures (none (top uuid log head c.in-Some.ensures) refl)) _ c.in_err-heads.ensures.broken)

pub has_reserve-requires-clause-newest : goal.has_reserve-requires-clause-newest
has_reserve-requires-clause-newest c = newest_within c.args.uuid c.args.log.now c.in-Some.head c.requires c.in-Some.ensures

pub has_reserve-requires-clause-heads : goal.has_reserve-requires-clause-heads
has_reserve-requires-clause-heads c =
    let chain = c.in_ok-heads.ensures.chain (top _ _ _ c.in-Some.ensures) refl in
    all_within _ _ _ c.requires (chain_in _ _ _ _ _ c.in-Some.ensures.newest chain c.deref.ensures.value)

pub returns-then-not-has_reserve-clause-refused : goal.returns-then-not-has_reserve-clause-refused
returns-then-not-has_reserve-clause-refused c =
    let chain = c.in_ok-heads.ensures.chain (top _ _ _ c.in-Some.ensures) refl in
    rw c.log_block_of.ensures (no_reserve c.args.uuid c.args.log.now c.in-Some.head _ _ c.in-Some.ensures chain c.deref.ensures.value
    (λ reserve. false≢true (sym c.if-not-has_reserve.true ∙ c.has_reserve.ensures.1 reserve)))

pub check_unmounts-requires-clause-records : goal.check_unmounts-requires-clause-records
check_unmounts-requires-clause-records c =
    let chain = c.in_ok-heads.ensures.chain (top _ _ _ c.in-Some.ensures) refl in
    (chain.records, chain_in _ _ _ _ _ c.in-Some.ensures.newest chain c.deref-2.ensures.value)

pub returns-in_err-check_unmounts-clause-refused : goal.returns-in_err-check_unmounts-clause-refused
returns-in_err-check_unmounts-clause-refused c =
    let chain = c.in_ok-heads.ensures.chain (top _ _ _ c.in-Some.ensures) refl in
    let p = err_from_is_err_and c.from_residual-in_err-check_unmounts.result c.from_residual-in_err-check_unmounts.ensures.1 in
    let records = chain_in _ _ _ _ _ c.in-Some.ensures.newest chain c.deref-2.ensures.value in
    rw (p.1, p.2) (or_no_memory (RefusesLog c.args.uuid c.args.log.now) _ (bodies_refused _ _ _ _ _ _ c.in-Some.ensures chain c.deref.ensures.value
    (c.has_reserve.ensures.0 c.if-not-has_reserve.false) (inl (c.in_err-check_unmounts.ensures chain.records records))))

pub read_entries-requires-clause-records : goal.read_entries-requires-clause-records
read_entries-requires-clause-records c =
    let chain = c.in_ok-heads.ensures.chain (top _ _ _ c.in-Some.ensures) refl in
    (chain.records, chain_in _ _ _ _ _ c.in-Some.ensures.newest chain c.deref-3.ensures.value)

pub returns-in_err-entries-clause-refused : goal.returns-in_err-entries-clause-refused
returns-in_err-entries-clause-refused c =
    let chain = c.in_ok-heads.ensures.chain (top _ _ _ c.in-Some.ensures) refl in
    let p = err_from_is_err_and c.from_residual-in_err-entries.result c.from_residual-in_err-entries.ensures.1 in
    let records = chain_in _ _ _ _ _ c.in-Some.ensures.newest chain c.deref-3.ensures.value in
    let keep = c.in_ok-check_unmounts.ensures chain.records (chain_in _ _ _ _ _ c.in-Some.ensures.newest chain c.deref-2.ensures.value) in
    rw (p.1, p.2) (no_memory_too (λ fault. (rs : List LogRecord) → AreIn c.args.log.now c.deref-3.result.now rs → BreaksOperations rs fault) (RefusesLog c.args.uuid c.args.log.now) (λ fault broken. bodies_refused _ _ _ _ _ _ c.in-Some.ensures chain c.deref.ensures.value
    (c.has_reserve.ensures.0 c.if-not-has_reserve.false) (inr (keep, inl (broken chain.records records)))) _ c.in_err-entries.ensures.broken)

pub check_items-requires-clause-records : goal.check_items-requires-clause-records
check_items-requires-clause-records c =
    let chain = c.in_ok-heads.ensures.chain (top _ _ _ c.in-Some.ensures) refl in
    (chain.records, chain_in _ _ _ _ _ c.in-Some.ensures.newest chain c.deref-4.ensures.value)

pub check_items-requires-clause-said : goal.check_items-requires-clause-said
check_items-requires-clause-said c records are =
    subst (HasEntries records) (sym c.deref-5.ensures.value) (c.in_ok-entries.ensures.entries records
    (subst (λ (hs : List Head). AreIn c.args.log.now hs records) (c.deref-4.ensures.value ∙ sym c.deref-3.ensures.value) are))

pub returns-in_err-check_items-clause-refused : goal.returns-in_err-check_items-clause-refused
returns-in_err-check_items-clause-refused c =
    let chain = c.in_ok-heads.ensures.chain (top _ _ _ c.in-Some.ensures) refl in
    let p = err_from_is_err_and c.from_residual-in_err-check_items.result c.from_residual-in_err-check_items.ensures.1 in
    let records = chain_in _ _ _ _ _ c.in-Some.ensures.newest chain c.deref-4.ensures.value in
    let keep = c.in_ok-check_unmounts.ensures chain.records (chain_in _ _ _ _ _ c.in-Some.ensures.newest chain c.deref-2.ensures.value) in
    rw (p.1, p.2) (or_no_memory (RefusesLog c.args.uuid c.args.log.now) _ (bodies_refused _ _ _ _ _ _ c.in-Some.ensures chain c.deref.ensures.value
    (c.has_reserve.ensures.0 c.if-not-has_reserve.false) (inr (keep, inr (c.in_err-check_items.ensures.bad chain.records records)))))

pub returns-clause-live : goal.returns-clause-live
returns-clause-live c =
    let chain = c.in_ok-heads.ensures.chain (top _ _ _ c.in-Some.ensures) refl in
    let items = c.in_ok-check_items.ensures.good in
    is_live _ _ _ _ _ _ c.in-Some.ensures chain c.deref.ensures.value (c.has_reserve.ensures.0 c.if-not-has_reserve.false)
    (c.in_ok-check_unmounts.ensures chain.records (chain_in _ _ _ _ _ c.in-Some.ensures.newest chain c.deref-2.ensures.value))
    (c.in_ok-entries.ensures.entries chain.records (chain_in _ _ _ _ _ c.in-Some.ensures.newest chain c.deref-3.ensures.value)) items.0 (subst (λ (es : List Entry). EntriesAreGood c.args.uuid 0 es items.0) c.deref-5.ensures.value items.1)

pub returns-clause-ends : goal.returns-clause-ends
returns-clause-ends c live =
    c.in_ok-entries.ensures.ends live.records
    record { each = chain_stands _ _ _ _ live.newest live.chain; heads_are = c.deref-3.ensures.value ∙ live.heads_are } live.entries_are
