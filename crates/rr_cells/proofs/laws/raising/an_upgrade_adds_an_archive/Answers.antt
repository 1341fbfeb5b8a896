use Rattle.rr_cells.proofs.Upgrading.{upgrade_adds}
use Rattle.rr_cells.proofs.laws.raising.an_upgrade_adds_an_archive.Goals as goal

pub returns : goal.returns
returns c = upgrade_adds
