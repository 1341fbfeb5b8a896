use Rattle.rr_snapshot.proofs.SnapshotLemmas.{snapshots_are_their_text}
use Rattle.rr_snapshot.proofs.laws.snapshots_are_their_text.Goals as goal

pub returns : goal.returns
returns c = snapshots_are_their_text
