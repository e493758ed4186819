use Rattle.std.proofs.Common.{◌+◌, ◌∙◌, List, refl, sym, subst, arith}
use Rattle.std.proofs.lemmas.Result.{err_from_is_err_and}
use Rattle.xr_base.specs.declared.geometry.TheConstants.{GROUPS}
use Rattle.xr_check.proofs.GroupLemmas.{first_refused, group_more, groups_are_first, none_loaded, right_more}
use Rattle.xr_check.proofs.JudgeLemmas.{one_group_more}
use Rattle.xr_check.proofs.ReadLemmas.{none_read, then_reads}
use Rattle.xr_check.specs.Verdicts.{AreFirstGroups}
use Rattle.xr_group.specs.Group.{GroupState}
use Rattle.xr_check.proofs.loading.load_groups.Goals as goal

pub loop-number-init : goal.loop-number-init
loop-number-init g c =
    let none = c.in_ok-groups.ensures.items in
    record {
      all = subst (λ (gs : List GroupState). AreFirstGroups gs 0) (sym none) (record { count = refl; numbers = λ k d below. absurd (omega (arith, below)) });
      groups = λ image at. none ∙ none_loaded image c.args.uuid.now;
      right = λ image at k below. absurd (omega (arith, below));
      reads = none_read _;
    }

pub returns-in_err-group-clause-refused : goal.returns-in_err-group-clause-refused
returns-in_err-group-clause-refused g c =
    let p = err_from_is_err_and c.from_residual-in_err-group.result c.from_residual-in_err-group.ensures.1 in
    let so_far = c.loop-number.invariant in
    rw (p.1, p.2) (λ image at. first_refused image c.args.uuid.now c.loop-number.number c.in_err-group.field-0.0 c.loop-number-test.true (so_far.right image at)
    (c.in_err-group.ensures.refused image (so_far.reads.reads.same.seen ∙ at)))

pub returns-in_err-push-clause-reads : goal.returns-in_err-push-clause-reads
returns-in_err-push-clause-reads g c =
    let some = c.loop-number-test.true in
    then_reads _ _ _ c.loop-number.number 1 GROUPS (omega (arith, some)) c.loop-number.invariant.reads c.load_group.ensures.reads

pub loop-number-preserved : goal.loop-number-preserved
loop-number-preserved g c =
    let so_far = c.loop-number.invariant in
    let n = c.loop-number.number in
    let uuid = c.args.uuid.now in
    let groups = c.loop-number.groups.items in
    let group = c.in_ok-group.group in
    let more = c.in_ok-push.ensures.items in
    let same = so_far.reads.reads.same.seen in
    record {
      all = subst (λ (gs : List GroupState). AreFirstGroups gs (n + 1)) (sym more) (one_group_more groups n group so_far.all c.in_ok-group.ensures.number);
      groups = λ image at. more ∙ group_more image uuid n groups group (so_far.groups image at) (c.in_ok-group.ensures.opened image (same ∙ at));
      right = λ image at. right_more image uuid n (so_far.right image at) (c.in_ok-group.ensures.right image (same ∙ at));
      reads = then_reads _ _ _ n 1 (n + 1) (omega arith) so_far.reads c.load_group.ensures.reads;
    }
