use Rattle.std.proofs.Common.{rules}
use Rattle.rr_config.specs.Habits.{habits_in}
use Rattle.rr_config.proofs.habits.habits_in.Goals as goal

pub returns-in_err-quiet : goal.returns-in_err-quiet
unfolding habits_in
returns-in_err-quiet c = search rules

pub returns-in_err-status : goal.returns-in_err-status
unfolding habits_in
returns-in_err-status c = search rules

pub returns : goal.returns
unfolding habits_in
returns c = search rules
