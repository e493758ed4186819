use Rattle.std.proofs.Common.{refl, ◌≡◌, ◌<◌, List, ℕ, true, ap, sym, subst, ◌∙◌, arith}
use Rattle.xr_pool.specs.Overlay.{Blocks, block_at, pool_size, with_block}
use Rattle.xr_change.proofs.SealLemmas.{block_reads, edited_more, edited_others, lent}
use Rattle.xr_change.specs.Draft.{ReadsAs, all_sealed, is_edited}
use Rattle.xr_block.specs.Edits.{sealed}
use Rattle.xr_change.proofs.draft.note.Goals as goal

pub returns-then-contains-clause-reads : goal.returns-then-contains-clause-reads
returns-then-contains-clause-reads g c =
    block_reads g.R.Record.form c.args.over.now c.args.edited.now.items c.args.n c.requires.within (c.has_blocks.ensures.blocks c.args.n c.requires.within).long

pub returns-then-contains-clause-lent : goal.returns-then-contains-clause-lent
returns-then-contains-clause-lent g c = λ w.
    let noted : is_edited c.args.edited.now.items c.args.n ≡ true =
    ap (λ (es : List ℕ). is_edited es c.args.n) (sym c.deref.ensures.0) ∙ sym c.contains.ensures.value ∙ c.if-contains.true in
    lent g.R.Record.form c.args.over.now c.args.edited.now.items c.args.n w c.requires.within c.args.edited.now.items (λ m apart. refl) noted

pub returns-clause-reads : goal.returns-clause-reads
returns-clause-reads g c =
    let form = g.R.Record.form in
    let b = c.make_room.new.over in
    let n = c.args.n in
    let within : n < pool_size b = omega (arith, c.make_room.ensures.pool, c.requires.within) in
    subst (λ (z : Blocks). ReadsAs form (block_at b n) (block_at z n)) c.make_room.ensures.same
    (block_reads form b c.make_room.new.edited.items n within (c.has_blocks-2.ensures.blocks n within).long)

pub returns-clause-lent : goal.returns-clause-lent
returns-clause-lent g c = λ w.
    let form = g.R.Record.form in
    let b = c.make_room.new.over in
    let n = c.args.n in
    ap (λ (es : List ℕ). all_sealed form es (with_block b n w)) c.push.ensures.items
    ∙ lent form b c.make_room.new.edited.items n w (omega (arith, c.make_room.ensures.pool, c.requires.within)) _ (edited_others c.make_room.new.edited.items n)
    (edited_more c.make_room.new.edited.items n)
    ∙ ap (λ (z : Blocks). with_block z n (sealed form w)) c.make_room.ensures.same
