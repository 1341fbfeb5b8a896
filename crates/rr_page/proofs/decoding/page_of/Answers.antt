use Rattle.std.proofs.Common.{rules}
use Rattle.rr_page.proofs.decoding.page_of.Goals as goal

pub returns-after-eq : goal.returns-after-eq
returns-after-eq c = search rules
