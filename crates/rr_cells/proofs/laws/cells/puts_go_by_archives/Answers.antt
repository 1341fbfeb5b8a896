use Rattle.rr_cells.proofs.PutLaws.{put_goes_by_archives, put_leaves_other_keys, put_is_trimmed, dead_leave_no_trace}
use Rattle.rr_cells.proofs.laws.cells.puts_go_by_archives.Goals as goal

pub returns-clause-here : goal.returns-clause-here
returns-clause-here c = put_goes_by_archives

pub returns-clause-nowhere_else : goal.returns-clause-nowhere_else
returns-clause-nowhere_else c = put_leaves_other_keys

pub returns-clause-dead : goal.returns-clause-dead
returns-clause-dead c = dead_leave_no_trace

pub returns-clause-trimmed : goal.returns-clause-trimmed
returns-clause-trimmed c = put_is_trimmed
