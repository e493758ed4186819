use Rattle.std.proofs.Common.{◌≡◌, ◌∙◌, sym, true, eqb, false, arith}
use Rattle.std.proofs.lemmas.Bool.Decides.{nat_tests}
use Rattle.xr_record.specs.HeaderRuleLaws.{client_fault, come_fault, len_fault, no_sort_fault, right_header, tid_fault, zeros_fault}
use Rattle.xr_record.proofs.rules.sort_in.Goals as goal

pub returns-then-not-is_client : goal.returns-then-not-is_client
returns-then-not-is_client c regions body h = client_fault _ _ (sym c.is_client.ensures ∙ c.if-not-is_client.true)

pub returns-in-None : goal.returns-in-None
returns-in-None c regions body h = no_sort_fault _ _ (sym c.is_client.ensures ∙ c.if-not-is_client.false) (sym c.sort_of.ensures ∙ c.in-None.is)

pub returns-then-not-may_come : goal.returns-then-not-may_come
returns-then-not-may_come c regions body h =
    come_fault _ _ _ (sym c.is_client.ensures ∙ c.if-not-is_client.false) (sym c.sort_of.ensures ∙ c.in-Some.is) (sym (c.may_come.ensures regions body) ∙ c.if-not-may_come.true)

pub returns-then-f-ne0 : goal.returns-then-f-ne0
returns-then-f-ne0 c regions body h =
    let z : eqb c.args.f.now.zeros 0 ≡ false = grind (arith, nat_tests) in
    zeros_fault _ _ _ (sym c.is_client.ensures ∙ c.if-not-is_client.false) (sym c.sort_of.ensures ∙ c.in-Some.is) (sym (c.may_come.ensures regions body) ∙ c.if-not-may_come.false) z

pub returns-then-not-is_tid : goal.returns-then-not-is_tid
returns-then-not-is_tid c regions body h =
    let z : eqb c.args.f.now.zeros 0 ≡ true = grind (arith, nat_tests) in
    tid_fault _ _ _ (sym c.is_client.ensures ∙ c.if-not-is_client.false) (sym c.sort_of.ensures ∙ c.in-Some.is) (sym (c.may_come.ensures regions body) ∙ c.if-not-may_come.false) z
    (sym (c.is_tid.ensures regions body) ∙ c.if-not-is_tid.true)

pub returns-then-not-is_len : goal.returns-then-not-is_len
returns-then-not-is_len c regions body h =
    let z : eqb c.args.f.now.zeros 0 ≡ true = grind (arith, nat_tests) in
    len_fault _ _ _ (sym c.is_client.ensures ∙ c.if-not-is_client.false) (sym c.sort_of.ensures ∙ c.in-Some.is) (sym (c.may_come.ensures regions body) ∙ c.if-not-may_come.false) z
    (sym (c.is_tid.ensures regions body) ∙ c.if-not-is_tid.false) (sym (c.is_len.ensures regions body h) ∙ c.if-not-is_len.true)

pub returns : goal.returns
returns c regions body h =
    let z : eqb c.args.f.now.zeros 0 ≡ true = grind (arith, nat_tests) in (
      right_header _ _ _ (sym c.is_client.ensures ∙ c.if-not-is_client.false) (sym c.sort_of.ensures ∙ c.in-Some.is) (sym (c.may_come.ensures regions body) ∙ c.if-not-may_come.false) z
          (sym (c.is_tid.ensures regions body) ∙ c.if-not-is_tid.false) (sym (c.is_len.ensures regions body h) ∙ c.if-not-is_len.false),
      sym c.sort_of.ensures ∙ c.in-Some.is,
    )
