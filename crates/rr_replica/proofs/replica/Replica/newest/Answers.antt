use Rattle.std.proofs.Common.{rules, ◌≡◌}
use Rattle.std.specs.FinMap.{empty}
use Rattle.rr_cells.specs.Cells.{archive_cells}
use Rattle.rr_replica.proofs.Keeping.{newest_of-empty}
use Rattle.rr_replica.proofs.replica.Replica.newest.Goals as goal

pub returns-in-None : goal.returns-in-None
returns-in-None g c =
    let none : archive_cells c.args.self.now.cells c.args.key.now c.args.archive ≡ empty = search rules in
    newest_of-empty (archive_cells c.args.self.now.cells c.args.key.now c.args.archive) none
