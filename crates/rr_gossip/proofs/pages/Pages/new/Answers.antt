use Rattle.rr_gossip.proofs.PagesLemmas.{all_left}
use Rattle.rr_gossip.proofs.pages.Pages.new.Goals as goal

pub invariant_of-result : goal.invariant_of-result
invariant_of-result c = all_left c.args.schema c.args.cells.items c.requires.of_schema c.requires.ascending

pub returns-clause-fits : goal.returns-clause-fits
returns-clause-fits c = all_left c.args.schema c.args.cells.items c.requires.of_schema c.requires.ascending
