use Rattle.std.proofs.Common.{subst}
use Rattle.xr_bmap.proofs.FileCallLemmas.{changes_read, punches_read, run_same, slots_are}
use Rattle.xr_bmap.specs.Bmap.{slot_in}
use Rattle.xr_bmap.specs.File.{ChangesFile, FileState, slot_of_file}
use Rattle.xr_bmap.specs.Parts.{file_state_of}
use Rattle.xr_bmap.proofs.file.File.unmap.Goals as goal

pub unmap_in-requires-clause-mapped : goal.unmap_in-requires-clause-mapped
unmap_in-requires-clause-mapped c =
    let f = c.self.inside in
    run_same (slot_in f.over f.bmap) (slot_of_file c.args.self.now) c.args.off c.args.len
    (slots_are f.number.0 f.uuid f.over f.bmap c.self.invariant.now_file c.args.self.now c.self.view_is) c.requires.mapped

pub returns-clause-unmapped : goal.returns-clause-unmapped
returns-clause-unmapped c =
    let f = c.self.inside in
    punches_read f.number.0 f.uuid f.over c.unmap_in.new.over f.bmap c.unmap_in.new.bmap c.args.self.now c.self.view_is c.self.invariant.now_file
    c.unmap_in.ensures.file c.args.off c.args.len c.unmap_in.ensures.unmapped

pub returns-clause-change : goal.returns-clause-change
returns-clause-change c =
    let f = c.self.inside in
    subst (λ (g : FileState). ChangesFile g (file_state_of f.number.0 f.uuid c.unmap_in.new.over)) c.self.view_is
    (changes_read f.number.0 f.uuid f.over c.unmap_in.new.over f.bmap c.self.invariant.now_file c.unmap_in.ensures.change)
