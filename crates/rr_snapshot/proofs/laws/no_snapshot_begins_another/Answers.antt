use Rattle.rr_snapshot.proofs.SnapshotLemmas.{no_snapshot_begins_another}
use Rattle.rr_snapshot.proofs.laws.no_snapshot_begins_another.Goals as goal

pub returns : goal.returns
returns c = no_snapshot_begins_another
