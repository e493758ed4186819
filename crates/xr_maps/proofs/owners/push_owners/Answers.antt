use Rattle.std.proofs.Common.{◌≡◌, length, sym, ◌∙◌, subst, rules, eq-eqb}
use Rattle.xr_maps.specs.Extents.{IsNextExtent, AreHoles}
use Rattle.xr_maps.proofs.OwnerLemmas.{owners_more, owners_passed, owners_rest, unjoined_after}
use Rattle.xr_maps.proofs.owners.push_owners.Goals as goal
use Rattle.xr_maps.proofs.owners.push_owners.Goals.{then-eq+in_ok-push, else-eq}

pub loop-extent-preserved : goal.loop-extent-preserved
loop-extent-preserved c =
    let table = c.index-tables-file.result in
    let so_far = c.loop-extent.invariant in
    let next = subst (λ t. IsNextExtent t c.loop-extent.place c.in-Some.extent) c.deref.ensures.value c.in-Some.ensures in (
      next.extent.within,
      elim c.if-eq.branch [
        | then-eq+in_ok-push w ↦ rw (w.records-is, w.in_ok-push.ensures.items, w.owned.ensures) (
            owners_more c.args.tables.now c.args.file table c.requires.tables c.requires.file c.index-tables-file.is c.args.group.0 c.loop-extent.place
            c.loop-extent.records.items so_far.1 c.in-Some.extent next so_far.2
            (let same : c.group_of.result.0 ≡ c.args.group.0 = search rules in sym c.group_of.ensures.group ∙ same))
        | else-eq w ↦ rw w.records-is (
            owners_passed c.args.tables.now c.args.file table c.requires.tables c.requires.file c.index-tables-file.is c.args.group.0 c.loop-extent.place
            c.loop-extent.records.items so_far.1 c.in-Some.extent next
            (λ same. let e : c.group_of.result.0 ≡ c.args.group.0 = c.group_of.ensures.group ∙ same in let t = eq-eqb c.group_of.result.0 c.args.group.0 e in let f = w.if-eq.ensures in cc))
      ],
      unjoined_after c.args.tables.now c.args.file table c.requires.tables c.requires.file c.index-tables-file.is c.args.group.0 c.loop-extent.place
          c.loop-extent.records.items so_far.1 c.in-Some.extent next,
    )

pub returns : goal.returns
returns c =
    owners_rest c.args.tables.now c.args.file c.index-tables-file.result c.requires.tables c.requires.file c.index-tables-file.is c.args.group.0 c.loop-extent.place
    c.loop-extent.records.items c.loop-extent.invariant.1
    (subst (λ t. AreHoles t c.loop-extent.place (length t)) c.deref.ensures.value c.in_default.ensures) c.loop-extent.invariant.0
