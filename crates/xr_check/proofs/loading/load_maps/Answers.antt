use Rattle.std.proofs.Common.{◌+◌, ◌∙◌, refl, arith}
use Rattle.std.proofs.lemmas.Result.{err_from_is_err_and}
use Rattle.xr_check.proofs.FaultLemmas.{risen_before}
use Rattle.xr_check.proofs.FileLemmas.{file_more, first_refused, maps_are_of_image, none_from_next, none_mapped, right_more}
use Rattle.xr_check.proofs.ReadLemmas.{none_read, then_reads}
use Rattle.xr_check.proofs.loading.load_maps.Goals as goal

pub loop-number-init : goal.loop-number-init
loop-number-init g c = record {
  have = λ image at f o below. absurd (omega (arith, below));
  none = none_mapped c.in_ok-maps.maps c.in_ok-maps.ensures.empty;
  right = λ image at f below. absurd (omega (arith, below));
  reads = none_read _;
}

pub returns-in_err-file-clause-refused : goal.returns-in_err-file-clause-refused
returns-in_err-file-clause-refused g c =
    let p = err_from_is_err_and c.from_residual-in_err-file.result c.from_residual-in_err-file.ensures.1 in
    let so_far = c.loop-number.invariant in
    rw (p.1, p.2) (λ image at. first_refused image c.args.uuid.now c.loop-number.number c.in_err-file.field-0.0 c.loop-number-test.true (so_far.right image at)
    (c.in_err-file.ensures.refused image (so_far.reads.reads.same.seen ∙ at)))

pub loop-number-preserved : goal.loop-number-preserved
loop-number-preserved g c =
    let so_far = c.loop-number.invariant in
    let n = c.loop-number.number in
    let uuid = c.args.uuid.now in
    let old = c.loop-number.maps in
    let new = c.take_file.new.maps in
    let others = c.take_file.ensures.others in
    let same = so_far.reads.reads.same.seen in
    record {
      have = λ image at. file_more old new n others image uuid c.in_ok-file.file (c.in_ok-file.ensures.opened image (same ∙ at)) c.take_file.ensures.taken
          (so_far.have image at);
      none = none_from_next old new n others so_far.none;
      right = λ image at. right_more image uuid n (so_far.right image at) (c.in_ok-file.ensures.right image (same ∙ at));
      reads = then_reads _ _ _ n 1 (n + 1) (omega arith) so_far.reads c.load_file.ensures.reads;
    }

pub returns-clause-maps : goal.returns-clause-maps
returns-clause-maps g c image at =
    let last = c.loop-number-test.false in
    maps_are_of_image c.loop-number.maps image c.args.uuid.now c.map_only_data_blocks.ensures
    (λ f o below known. c.loop-number.invariant.have image at f o (omega (arith, below, last)) known)
