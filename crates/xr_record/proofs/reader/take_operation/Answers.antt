use Rattle.std.proofs.Common.{◌++◌, subst, take, drop, List, ℕ}
use Rattle.std.proofs.lemmas.List.{take-append-drop}
use Rattle.std.proofs.lemmas.Result.{err_from_is_err_and}
use Rattle.xr_record.specs.Reading.{IsFaultOf}
use Rattle.xr_record.proofs.StreamLemmas.{fails_on, settles_reads}
use Rattle.xr_record.proofs.reader.take_operation.Goals as goal

pub returns-in_err-entry-clause-fault : goal.returns-in_err-entry-clause-fault
returns-in_err-entry-clause-fault c =
    let p = err_from_is_err_and c.from_residual-in_err-entry.result c.from_residual-in_err-entry.ensures.1 in
    let grown = c.in_ok-taken.ensures.grown in
    let n = c.in_ok-taken.taken in
    let piece = c.args.piece.now in
    rw (p.1, p.2)
    (λ before es r. subst (λ (xs : List ℕ). IsFaultOf (before ++ xs) c.in_err-entry.field-0.0) (take-append-drop n piece)
    (fails_on before es _ _ (take n piece) (drop n piece) c.in_err-entry.field-0.0 r grown.place grown.phase grown.rest c.in_err-entry.ensures.fault))

pub returns-clause-reads : goal.returns-clause-reads
returns-clause-reads c =
    let grown = c.in_ok-taken.ensures.grown in
    settles_reads _ _ _ _ _ grown.place grown.phase grown.rest c.in_ok-entry.ensures.settles
