use Rattle.std.proofs.Common.{◌≡◌, ap, ◌∙◌}
use Rattle.xr_record.specs.declared.head.Head.{Head}
use Rattle.xr_commit.proofs.ChainLemmas.{told_apart}
use Rattle.xr_commit.proofs.head.own_at.Goals as goal
use Rattle.xr_commit.proofs.head.own_at.Goals.{in_default-via-in-Ok+else-eq, in_default-via-in_default}

pub returns-in_default : goal.returns-in_default
returns-in_default c = elim c.in_default.branch [
  | in_default-via-in-Ok+else-eq w ↦ λ head. (λ some. absurd (cc), λ at. let h = c.open_at.ensures.every (record { head = head; body = at.body }) at.at.stands in absurd (told_apart _ _ _ w.eq.ensures w.if-eq.false (ap (λ (x : Head). x.uuid) (let e : w.in-Ok.head ≡ head = (let is = w.in-Ok.is in cc) in e) ∙ at.at.own)))
  | in_default-via-in_default w ↦ λ head. (λ some. absurd (cc), λ at. let h = c.open_at.ensures.every (record { head = head; body = at.body }) at.at.stands in absurd (w.in_default.not-Ok head h))
]
