use Rattle.rr_key.proofs.EscapeLemmas.{name_len-escape, unescape-escape, escape-unescape}
use Rattle.rr_key.proofs.laws.a_name_is_written_in_one_way.Goals as goal

pub returns-clause-back : goal.returns-clause-back
returns-clause-back c = unescape-escape c.args.class

pub returns-clause-ends : goal.returns-clause-ends
returns-clause-ends c = name_len-escape c.args.class

pub returns-clause-units : goal.returns-clause-units
returns-clause-units c = escape-unescape c.args.class
