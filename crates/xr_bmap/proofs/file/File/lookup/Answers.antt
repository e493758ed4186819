use Rattle.xr_bmap.proofs.FileCallLemmas.{piece_same, slots_are}
use Rattle.xr_bmap.specs.Bmap.{slot_in}
use Rattle.xr_bmap.specs.File.{slot_of_file}
use Rattle.xr_bmap.proofs.file.File.lookup.Goals as goal

pub returns-clause-piece : goal.returns-clause-piece
returns-clause-piece c =
    let f = c.self.inside in
    piece_same (slot_in f.over f.bmap) (slot_of_file c.args.self.now) c.args.off c.args.max c.lookup.result
    (slots_are f.number.0 f.uuid f.over f.bmap c.self.invariant.now_file c.args.self.now c.self.view_is) c.lookup.ensures.piece
