use Rattle.std.proofs.lemmas.List.Elements.{All-from_recursion}
use Rattle.rr_cells.proofs.HeldCells.{all_held}
use Rattle.rr_desk.specs.KeeperState.{own_replica}
use Rattle.rr_desk.proofs.sides.KeeperTarget.schema.Goals as goal

pub returns-clause-of_schema : goal.returns-clause-of_schema
returns-clause-of_schema g c = All-from_recursion _ _ (all_held (own_replica c.args.self.now) c.schema.ensures.holds)
