use Rattle.std.proofs.Common.{◌≡◌, Ok, Err, IfSome, subst}
use Rattle.std.proofs.lemmas.Result.{err_from_is_err_and}
use Rattle.rr_io.specs.Counted.{inner_of}
use Rattle.rr_cells.specs.ReplicaState.{ReplicaState}
use Rattle.rr_replica.specs.ReplicaWithRoom.{ReplicaWithRoom, replica_state}
use Rattle.rr_snapshot.specs.Loading.{GivesIfRead, loaded_at}
use Rattle.rr_snapshot.proofs.loading.load.Goals as goal

pub returns-in_err-load_into-clause-read : goal.returns-in_err-load_into-clause-read
returns-in_err-load_into-clause-read g c =
    let old = g.R.Read.remaining (inner_of c.args.input.now) in
    let p = err_from_is_err_and c.from_residual-in_err-load_into.result c.from_residual-in_err-load_into.ensures.1 in
    rw (p.1, p.2) (subst (λ (h : ReplicaState). IfSome old
    (λ bytes. GivesIfRead {A = ReplicaWithRoom} replica_state (Err c.in_err-load_into.field-0.0)
    (loaded_at c.args.schema.now h.origin bytes))) c.in_ok-replica.ensures c.in_err-load_into.ensures.read)

pub returns-clause-read : goal.returns-clause-read
returns-clause-read g c =
    let old = g.R.Read.remaining (inner_of c.args.input.now) in
    subst (λ (h : ReplicaState). IfSome old (λ bytes. loaded_at c.args.schema.now h.origin bytes
    ≡ Ok (replica_state c.load_into.new.replica))) c.in_ok-replica.ensures c.in_ok-load_into.ensures.read
