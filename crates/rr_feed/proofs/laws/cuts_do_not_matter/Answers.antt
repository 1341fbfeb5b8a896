use Rattle.rr_feed.proofs.FedLemmas.{IsFed-new, IsFed-push, IsFed-next_line, IsFed-end, IsFed-all}
use Rattle.rr_feed.proofs.laws.cuts_do_not_matter.Goals as goal

pub returns-clause-new_feed : goal.returns-clause-new_feed
returns-clause-new_feed c = IsFed-new

pub returns-clause-push : goal.returns-clause-push
returns-clause-push c = IsFed-push

pub returns-clause-next_line : goal.returns-clause-next_line
returns-clause-next_line c = IsFed-next_line

pub returns-clause-end : goal.returns-clause-end
returns-clause-end c = IsFed-end

pub returns-clause-all : goal.returns-clause-all
returns-clause-all c = IsFed-all
