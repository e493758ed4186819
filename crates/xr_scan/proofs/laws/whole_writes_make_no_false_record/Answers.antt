use Rattle.xr_scan.proofs.FalseRecordLemmas.{done_is_sound, off_log_is_sound, rest_is_sound, undone_is_sound}
use Rattle.xr_scan.proofs.laws.whole_writes_make_no_false_record.Goals as goal

pub returns-clause-rest : goal.returns-clause-rest
returns-clause-rest c = rest_is_sound

pub returns-clause-done : goal.returns-clause-done
returns-clause-done c = done_is_sound

pub returns-clause-undone : goal.returns-clause-undone
returns-clause-undone c = undone_is_sound

pub returns-clause-off : goal.returns-clause-off
returns-clause-off c = off_log_is_sound
