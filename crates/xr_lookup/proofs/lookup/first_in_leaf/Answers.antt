use Rattle.std.proofs.Common.{◌≡◌, ◌∙◌, ◌+◌, ℕ, suc, drop, sym, ap, arith}
use Rattle.std.proofs.lemmas.List.{drop_all}
use Rattle.std.specs.List.{find}
use Rattle.xr_lookup.specs.Lookup.{is_wanted}
use Rattle.xr_pool.specs.Overlay.{block_at}
use Rattle.xr_block.specs.TreeBlock.{records_in}
use Rattle.xr_lookup.proofs.DescentLemmas.{after_in_leaf}
use Rattle.xr_block.specs.PartLaws.{found_here, passed_here, present}
use Rattle.xr_lookup.proofs.lookup.first_in_leaf.Goals as goal

pub loop-k-init : goal.loop-k-init
loop-k-init g c = after_in_leaf g.R.Record.form c.args.over.now c.args.n c.args.wanted.now c.records_before-k.result c.records_before-k.ensures

pub returns-in_err-record : goal.returns-in_err-record
returns-in_err-record g c =
    absurd (present (records_in g.R.Record.form (block_at c.args.over.now c.args.n)) c.loop-k.k (omega arith) (sym c.record_of.ensures ∙ c.in_err-record.was))

pub returns-then-takes : goal.returns-then-takes
returns-then-takes g c =
    found_here (is_wanted g.R.Record.form c.args.wanted.now) (records_in g.R.Record.form (block_at c.args.over.now c.args.n)) c.loop-k.k c.in_ok-record.record
    (sym c.record_of.ensures ∙ c.in_ok-record.was) (sym c.takes.ensures ∙ c.if-takes.true) ∙ c.loop-k.invariant

pub loop-k-preserved : goal.loop-k-preserved
loop-k-preserved g c =
    let records = records_in g.R.Record.form (block_at c.args.over.now c.args.n) in
    let next : c.loop-k.k + 1 ≡ suc c.loop-k.k = omega arith in
    ap (λ (k : ℕ). find (is_wanted g.R.Record.form c.args.wanted.now) (drop k records)) next
    ∙ passed_here (is_wanted g.R.Record.form c.args.wanted.now) records c.loop-k.k c.in_ok-record.record
    (sym c.record_of.ensures ∙ c.in_ok-record.was) (sym c.takes.ensures ∙ c.if-takes.false) ∙ c.loop-k.invariant

pub returns : goal.returns
returns g c =
    ap (find (is_wanted g.R.Record.form c.args.wanted.now))
    (sym (drop_all c.loop-k.k (records_in g.R.Record.form (block_at c.args.over.now c.args.n)) (omega arith))) ∙ c.loop-k.invariant
