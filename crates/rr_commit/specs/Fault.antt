-- Faults of a journal as those of a keeper's changes.
use Rattle.rr_journal.specs.declared.committing.CommitFault.{CommitFault}
use Rattle.rr_journal.specs.declared.committing.CommitFault.TheVariants as journal
use Rattle.rr_commit.specs.declared.fault.ChangesFault.{ChangesFault}
use Rattle.rr_commit.specs.declared.fault.ChangesFault.TheVariants as changes

abbrev pub of_commit : CommitFault → ChangesFault
of_commit journal.NotWritten = changes.NotWritten
of_commit journal.NotSynced = changes.NotSynced
