use Rattle.rr_archive.proofs.FewLive.{cells_are_few}
use Rattle.rr_archive.proofs.laws.live_cells_are_few.Goals as goal

pub returns : goal.returns
returns c = cells_are_few
