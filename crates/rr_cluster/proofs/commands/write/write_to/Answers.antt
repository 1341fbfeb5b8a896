-- A line that is refused changes nothing.
use Rattle.std.proofs.lemmas.Result.{err_from_is_err_and}
use Rattle.rr_replica.specs.ReplicaWithRoom.{replica_state}
use Rattle.rr_cluster.proofs.CommandsLemmas.Write.{stopped_line}
use Rattle.rr_cluster.proofs.commands.write.write_to.Goals as goal

pub returns-in_err-parse_line : goal.returns-in_err-parse_line
returns-in_err-parse_line g c =
    let given = err_from_is_err_and c.from_residual.result c.from_residual.ensures.1 in
    rw given.1 (stopped_line (replica_state c.args.replica.now) c.args.clock c.args.lead c.args.line.now
    c.in_err-parse_line.field-0.0 given.0 given.2 c.in_err-parse_line.ensures.read)
