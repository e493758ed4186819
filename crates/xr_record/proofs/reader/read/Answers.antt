use Rattle.std.proofs.Common.{◌≡◌, subst, arith, take, drop, List, ℕ, option_to_list}
use Rattle.std.proofs.lemmas.List.{length-drop, take-append-drop, take_all, take_rest}
use Rattle.std.proofs.lemmas.Result.{err_from_is_err_and}
use Rattle.xr_record.specs.ReaderFields.{reader_state}
use Rattle.xr_record.specs.ReaderSteps.{FailsOn}
use Rattle.xr_record.specs.OverlayLaws.{take-add}
use Rattle.xr_record.proofs.StreamLemmas.{fails_more, takes_more}
use Rattle.xr_record.proofs.reader.read.Goals as goal

pub returns-in_err-advance-clause-fault : goal.returns-in_err-advance-clause-fault
returns-in_err-advance-clause-fault c =
    let p = err_from_is_err_and c.from_residual.result c.from_residual.ensures.1 in
    let done = c.loop-done.done in
    let piece = c.args.piece.now in
    let fault = c.in_err-advance.field-0.0 in
    rw (p.1, p.2)
    (subst (λ (xs : List ℕ). FailsOn (reader_state c.args.reader.now) xs fault) (take-append-drop done piece)
    (fails_more _ (reader_state c.loop-done.reader) (take done piece) (drop done piece) _ fault c.loop-done.invariant.reads (rw (take_rest piece done) at c.in_err-advance.ensures.fault)))

pub loop-done-preserved : goal.loop-done-preserved
loop-done-preserved c =
    let done = c.loop-done.done in
    let n = c.in_ok-advance.advance.taken in
    let piece = c.args.piece.now in
    let is = c.loop-done.invariant in
    let count = rw (take_rest piece done) at c.in_ok-advance.ensures.count in
    let taken = rw (take_rest piece done) at c.in_ok-advance.ensures.reads in
    let more = takes_more (reader_state c.args.reader.now) (reader_state c.loop-done.reader) (reader_state c.take_operation.new.reader) (take done piece) (take n (drop done piece))
    c.loop-done.entries.items (option_to_list c.in_ok-advance.advance.entry) is.reads taken in
    record {
      awaits = c.in_ok-advance.ensures.awaits;
      within = omega (arith, length-drop done piece, count.1, is.within);
      reads = rw (take-add done n piece, c.in_ok-push_entry.ensures) more;
    }

pub returns-clause-reads : goal.returns-clause-reads
returns-clause-reads c =
    let all : take c.loop-done.done c.args.piece.now ≡ c.args.piece.now = take_all c.loop-done.done c.args.piece.now (omega arith) in
    rw all at c.loop-done.invariant.reads
