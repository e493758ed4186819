use Rattle.xr_open.specs.MarkedLaws.{marks_add_up, marks_are_used, zeros_mark_none}
use Rattle.xr_open.proofs.laws.marks_are_of_blocks.Goals as goal

pub returns : goal.returns
returns c = record { none = zeros_mark_none; more = marks_add_up; used = marks_are_used }
