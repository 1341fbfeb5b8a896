use Rattle.std.proofs.Common.{rules}
use Rattle.rr_page.proofs.cells.mask_of.Goals as goal

pub returns-in_ok-mask-in-One : goal.returns-in_ok-mask-in-One
returns-in_ok-mask-in-One c = search rules
