-- Each tree is opened over the marks of those before.
use Rattle.std.proofs.Common.{[], refl, inl, inr, arith}
use Rattle.std.proofs.lemmas.Result.{err_from_is_err_and}
use Rattle.xr_group.proofs.OpenLemmas.{trees_found, trees_part}
use Rattle.xr_group.specs.Group.{trees_of_head}
use Rattle.xr_group.specs.OpenGroup.{AreApartTrees, blocks_of_three, blocks_of_trees}
use Rattle.xr_open.specs.MarkedLaws.{marks_are_used, zeros_mark_none}
use Rattle.xr_space.specs.Space.{IsSpace, block_blocks, space_blocks}
use Rattle.xr_group.proofs.open.open_trees.Goals as goal

pub returns-in_err-by_block-clause-refused : goal.returns-in_err-by_block-clause-refused
returns-in_err-by_block-clause-refused c =
    let t = trees_of_head c.args.head.now in
    let p = err_from_is_err_and c.from_residual.result c.from_residual.ensures.1 in
    rw (p.1, p.2) (inl (c.in_err-by_block.ensures.next [] (zeros_mark_none 64)))

pub returns-in_err-by_size-clause-refused : goal.returns-in_err-by_size-clause-refused
returns-in_err-by_size-clause-refused c =
    let t = trees_of_head c.args.head.now in
    let one = c.in_ok-by_block.ensures.next [] (zeros_mark_none 64) in
    let p = err_from_is_err_and c.from_residual-in_err-by_size.result c.from_residual-in_err-by_size.ensures.1 in
    rw (p.1, p.2) (inr (inl (one.1.0, c.in_err-by_size.ensures.next (block_blocks c.args.over.now t.space) one.2)))

pub returns-in_err-reverse-clause-refused : goal.returns-in_err-reverse-clause-refused
returns-in_err-reverse-clause-refused c =
    let t = trees_of_head c.args.head.now in
    let one = c.in_ok-by_block.ensures.next [] (zeros_mark_none 64) in
    let two = c.in_ok-by_size.ensures.next (block_blocks c.args.over.now t.space) one.2 in
    let space : IsSpace c.args.over.now t.space = record { blocks = one.1.0; sizes = two.1.0; separate = λ n first. two.1.1 n first } in
    let p = err_from_is_err_and c.from_residual-in_err-reverse.result c.from_residual-in_err-reverse.ensures.1 in
    rw (p.1, p.2) (inr (inr (inl (space, c.in_err-reverse.ensures.next (space_blocks c.args.over.now t.space) two.2))))

pub returns-in_err-reference-clause-refused : goal.returns-in_err-reference-clause-refused
returns-in_err-reference-clause-refused c =
    let t = trees_of_head c.args.head.now in
    let one = c.in_ok-by_block.ensures.next [] (zeros_mark_none 64) in
    let two = c.in_ok-by_size.ensures.next (block_blocks c.args.over.now t.space) one.2 in
    let space : IsSpace c.args.over.now t.space = record { blocks = one.1.0; sizes = two.1.0; separate = λ n first. two.1.1 n first } in
    let three = c.in_ok-reverse.ensures.next (space_blocks c.args.over.now t.space) two.2 in
    let p = err_from_is_err_and c.from_residual-in_err-reference.result c.from_residual-in_err-reference.ensures.1 in
    rw (p.1, p.2) (inr (inr (inr (space, three.1, c.in_err-reference.ensures.next (blocks_of_three c.args.over.now t) three.2))))

pub returns-then-are_all_marked-clause-trees : goal.returns-then-are_all_marked-clause-trees
returns-then-are_all_marked-clause-trees c =
    let t = trees_of_head c.args.head.now in
    let one = c.in_ok-by_block.ensures.next [] (zeros_mark_none 64) in
    let two = c.in_ok-by_size.ensures.next (block_blocks c.args.over.now t.space) one.2 in
    let space : IsSpace c.args.over.now t.space = record { blocks = one.1.0; sizes = two.1.0; separate = λ n first. two.1.1 n first } in
    let three = c.in_ok-reverse.ensures.next (space_blocks c.args.over.now t.space) two.2 in
    let four = c.in_ok-reference.ensures.next (blocks_of_three c.args.over.now t) three.2 in
    let apart : AreApartTrees c.args.over.now t = record { space = space; rmap = three.1; counts = four.1 } in
    let used = marks_are_used c.args.over.now (blocks_of_trees c.args.over.now t) c.open_tree-4.new.seen four.2 in
    trees_found c.args.over.now c.args.head.now _ _ _ _ one.0 two.0 three.0 four.0
    (trees_part c.args.over.now t apart c.requires.pool (used.0 (c.are_all_marked.ensures.0 c.if-are_all_marked.true)))

pub returns-else-are_all_marked-clause-refused : goal.returns-else-are_all_marked-clause-refused
returns-else-are_all_marked-clause-refused c =
    let t = trees_of_head c.args.head.now in
    let one = c.in_ok-by_block.ensures.next [] (zeros_mark_none 64) in
    let two = c.in_ok-by_size.ensures.next (block_blocks c.args.over.now t.space) one.2 in
    let space : IsSpace c.args.over.now t.space = record { blocks = one.1.0; sizes = two.1.0; separate = λ n first. two.1.1 n first } in
    let three = c.in_ok-reverse.ensures.next (space_blocks c.args.over.now t.space) two.2 in
    let four = c.in_ok-reference.ensures.next (blocks_of_three c.args.over.now t) three.2 in
    let apart : AreApartTrees c.args.over.now t = record { space = space; rmap = three.1; counts = four.1 } in
    let used = marks_are_used c.args.over.now (blocks_of_trees c.args.over.now t) c.open_tree-4.new.seen four.2 in (
      omega (arith, c.place.ensures),
      (apart, λ hold. let all = c.are_all_marked.ensures.1 (used.1 hold) in let not_all = c.if-are_all_marked.false in absurd cc, refl),
    )
