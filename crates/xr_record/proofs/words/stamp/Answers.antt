use Rattle.std.proofs.Common.{◌≡◌, ◌+◌, ◌-◌, ◌*◌, ◌∙◌, arith, refl, length, take, drop}
use Rattle.std.proofs.lemmas.List.{length-take-le, length-drop}
use Rattle.xr_record.specs.OverlayLaws.{drop_words, moved_more, stamped_more}
use Rattle.xr_record.proofs.words.stamp.Goals as goal

pub loop-i-preserved : goal.loop-i-preserved
loop-i-preserved c =
    let four : 512 * c.loop-i.i + 4 - 512 * c.loop-i.i ≡ 4 = omega arith in
    let word : length (take (512 * c.loop-i.i + 4 - 512 * c.loop-i.i) (drop (512 * c.loop-i.i) c.loop-i.body)) ≡ 4 =
    length-take-le _ (drop (512 * c.loop-i.i) c.loop-i.body) (omega (arith, length-drop (512 * c.loop-i.i) c.loop-i.body)) ∙ four in
    let put = rw c.word_bytes-stamp.ensures at c.put-in-loop-i.ensures in
    let is = c.loop-i.invariant in
    record {
      len = omega arith;
      body = stamped_more _ _ _ c.loop-i.body _ _ c.loop-i-test.true refl (omega arith) put is.body;
      words = moved_more _ _ _ _ c.loop-i.words c.loop-i.body _ _ _ c.loop-i-test.true refl (omega arith) (omega arith) four c.put.ensures put is.words;
      rest = drop_words _ _ 4 _ _ _ c.loop-i-test.true word (omega arith) c.put.ensures ∙ is.rest;
    }
