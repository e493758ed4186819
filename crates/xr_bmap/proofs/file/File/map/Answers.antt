use Rattle.std.proofs.Common.{subst, ◌∙◌}
use Rattle.xr_bmap.proofs.FileCallLemmas.{changes_read, remaps_read, slots_are}
use Rattle.xr_bmap.specs.File.{ChangesFile, FileState}
use Rattle.xr_bmap.specs.Parts.{file_state_of}
use Rattle.xr_bmap.proofs.file.File.map.Goals as goal

pub map_in-requires-clause-hole : goal.map_in-requires-clause-hole
map_in-requires-clause-hole c o within =
    let f = c.self.inside in
    slots_are f.number.0 f.uuid f.over f.bmap c.self.invariant.now_file c.args.self.now c.self.view_is o ∙ c.requires.hole o within

pub returns-clause-mapped : goal.returns-clause-mapped
returns-clause-mapped c =
    let f = c.self.inside in
    remaps_read f.number.0 f.uuid f.over c.map_in.new.over f.bmap c.map_in.new.bmap c.args.self.now c.self.view_is c.self.invariant.now_file
    c.map_in.ensures.file c.args.off c.args.run.now.len c.args.run.now.start c.map_in.ensures.mapped

pub returns-clause-change : goal.returns-clause-change
returns-clause-change c =
    let f = c.self.inside in
    subst (λ (g : FileState). ChangesFile g (file_state_of f.number.0 f.uuid c.map_in.new.over)) c.self.view_is
    (changes_read f.number.0 f.uuid f.over c.map_in.new.over f.bmap c.self.invariant.now_file c.map_in.ensures.change)
