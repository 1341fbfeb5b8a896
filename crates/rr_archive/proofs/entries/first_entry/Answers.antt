use Rattle.std.proofs.Common.{None}
use Rattle.rr_archive.specs.declared.change.Change.{Change}
use Rattle.rr_archive.specs.declared.change.Change.TheVariants.{Put, Join}
use Rattle.rr_archive.specs.Changes.{Fits}
use Rattle.rr_archive.proofs.entries.first_entry.Goals as goal

-- each change fits if there is no entry
fits : (change : Change) → Fits None change
fits (Put x) = tt
fits (Join c) = tt

pub contribution_after-requires : goal.contribution_after-requires
contribution_after-requires c = fits c.args.change.now
