use Rattle.std.proofs.Common.{◌≡◌, ◌∙◌, List, Option, ◌++◌, [], ap, refl, subst, sym, arith, length, ◌≤◌}
use Rattle.std.proofs.lemmas.Bool.{false≢true}
use Rattle.xr_balance.specs.Rows.{works_of_exchange_rest, works_of_piece}
use Rattle.xr_base.specs.declared.address.Run.{Run}
use Rattle.xr_chain.proofs.ExchangeLemmas.{passes_all, passes_on, takes_piece}
use Rattle.xr_chain.specs.Events.{trans_with}
use Rattle.xr_chain.specs.ExchangeParts.{LeavesWorks}
use Rattle.xr_items.specs.Transactions.{TransView}
use Rattle.xr_items.specs.declared.work.Work.{Work}
use Rattle.xr_chain.proofs.exchange.ask_exchange.Goals as goal

pub ask_piece-requires-clause-empty : goal.ask_piece-requires-clause-empty
ask_piece-requires-clause-empty c = c.fronts.invariant.empty

pub returns-then-not-are_alike-clause-leaves : goal.returns-then-not-are_alike-clause-leaves
returns-then-not-are_alike-clause-leaves c =
    let r = c.fronts.rest in
    let p = c.lookup-first.result in
    let q = c.lookup-second.result in
    let n = c.shorter-size.result in
    let rest : List Work = works_of_exchange_rest r.file r.off r.other r.other_off r.len n in
    let works : Option Run → Option Run → List Work = λ one two. works_of_piece r.file r.off one r.other r.other_off two ++ rest in
    let asked : c.ask_rest.new.trans.works ≡ works c.front_run.result c.front_run-then-not-are_alike.result =
    ap (λ (t : TransView). t.works) c.ask_rest.ensures.asked ∙ ap (λ (t : TransView). t.works ++ rest) c.ask_piece.ensures.asked in
    let same = asked ∙ ap (λ one. works one c.front_run-then-not-are_alike.result) c.front_run.ensures ∙ ap (works _) c.front_run-then-not-are_alike.ensures in
    subst (LeavesWorks c.args.one.now c.args.two.now c.args.ranges.now) (sym same)
    (c.fronts.invariant.leads _
    (takes_piece c.args.one.now c.args.two.now r p q n c.lookup-first.ensures.piece c.lookup-second.ensures.piece c.shorter-size.ensures
    (λ alike. false≢true (sym c.if-not-are_alike.true ∙ c.are_alike.ensures.1 alike))
    c.lookup-first.ensures.good c.lookup-second.ensures.good))

pub returns-then-size-rest-clause-leaves : goal.returns-then-size-rest-clause-leaves
returns-then-size-rest-clause-leaves c =
    subst (LeavesWorks c.args.one.now c.args.two.now c.args.ranges.now) (sym (ap (λ (t : TransView). t.works) c.fronts.invariant.empty))
    (c.fronts.invariant.leads []
    (passes_all c.args.one.now c.args.two.now c.fronts.rest c.lookup-first.result c.lookup-second.result c.shorter-size.result c.lookup-first.ensures.piece c.lookup-second.ensures.piece c.shorter-size.ensures
    (c.are_alike.ensures.0 c.if-not-are_alike.false)
    c.if-size-rest.true))

pub returns-then-size-rest-clause-few : goal.returns-then-size-rest-clause-few
returns-then-size-rest-clause-few c = subst (λ (t : TransView). length t.works ≤ 9) (sym c.fronts.invariant.empty) (omega arith)

pub returns-then-size-rest-clause-only : goal.returns-then-size-rest-clause-only
returns-then-size-rest-clause-only c = subst (λ (t : TransView). t ≡ trans_with [] t.works []) (sym c.fronts.invariant.empty) refl

pub fronts-preserved : goal.fronts-preserved
fronts-preserved c =
    passes_on c.args.one.now c.args.two.now c.fronts.rest c.lookup-first.result c.lookup-second.result c.shorter-size.result c.lookup-first.ensures.piece c.lookup-second.ensures.piece c.shorter-size.ensures
    c.args.ranges.now c.behind-rest.result c.fronts.trans c.fronts.invariant (c.are_alike.ensures.0 c.if-not-are_alike.false) c.behind-rest.ensures.is c.behind-rest.ensures.ranges
