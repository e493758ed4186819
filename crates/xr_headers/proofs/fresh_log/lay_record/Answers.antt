use Rattle.std.proofs.Common.{[], ◌∷◌, length, refl, arith}
use Rattle.xr_headers.specs.Padded.{words}
use Rattle.xr_headers.proofs.FieldLemmas.{laid_none, laid_next, laid_after}
use Rattle.xr_headers.specs.FreshImage.{first_lsn, record_opening, unmount_fields, stamped_unmount}
use Rattle.xr_headers.specs.declared.layout.TheConstants.{MISSING}
use Rattle.xr_base.specs.declared.layout.TheConstants.{MAX_BODY_BYTES, RECORD_FORMAT}
use Rattle.xr_headers.proofs.fresh_log.lay_record.Goals as goal

pub returns : goal.returns
unfolding unmount_fields
returns c =
    let n = length c.args.out.now in
    let lsn = first_lsn c.args.cycle in
    let none = laid_none n c.clear.new.out c.clear.ensures in
    let opening = laid_next n 0 16 _ (record_opening c.args.cycle) _ _ none c.put_words.ensures refl (omega arith) in
    let place = laid_next n 16 8 _ lsn _ _ opening c.put_first_lsn.ensures refl (omega arith) in
    let tail = laid_next n 24 8 _ lsn _ _ place c.put_first_lsn-2.ensures refl (omega arith) in
    let first = laid_next n 32 12 _ (words (0 ∷ MISSING ∷ 1 ∷ [])) _ _ tail c.put_words-2.ensures refl (omega arith) in
    let format = laid_after n 44 256 4 _ (words (RECORD_FORMAT ∷ [])) _ _ first c.put_words-3.ensures refl (omega arith) in
    let uuid = laid_next n 304 16 _ c.args.uuid.now _ _ format c.put_uuid.ensures.placed c.put_uuid.ensures.whole (omega arith) in
    let size = laid_next n 320 4 _ (words (MAX_BODY_BYTES ∷ [])) _ _ uuid c.put_words-4.ensures refl (omega arith) in
    laid_after n 324 188 20 _ (stamped_unmount c.args.cycle) _ _ size c.put_words-5.ensures refl (omega arith)
