use Rattle.std.proofs.Common.{◌≡◌, length, Err, ap, sym, rules}
use Rattle.std.specs.Int.{w64}
use Rattle.std.proofs.Math.Facts.{to_z-of_z}
use Rattle.std.proofs.lemmas.List.{length-map}
use Rattle.std.proofs.lemmas.Result.{err_from_is_err_and}
use Rattle.rr_point.specs.Point.{point_view}
use Rattle.rr_replica.specs.declared.fault.WriteFault.{WriteFault}
use Rattle.rr_replica.specs.ReplicaWithRoom.{replica_state}
use Rattle.rr_cluster.proofs.CommandsLemmas.Write.{point_written, point_refused}
use Rattle.rr_cluster.proofs.commands.write.write_point.Goals as goal

pub returns-in_err-write : goal.returns-in_err-write
returns-in_err-write g c =
    let p = point_view c.args.point.now in
    let many : length c.args.point.now.fields.items ≡ length p.fields =
    sym (length-map c.args.point.now.fields.items _) in
    let back = to_z-of_z {w = w64} {z = c.args.clock} (search rules) in
    let refused = rw back at c.in_err-write.ensures.refused in
    let ahead = rw back at c.in_err-write.ensures.ahead in
    let spent = rw back at c.in_err-write.ensures.spent in
    let given = err_from_is_err_and c.from_residual.result c.from_residual.ensures.1 in
    rw given.1 (point_refused (replica_state c.args.replica.now) (replica_state c.write.new.self) c.args.clock
    c.args.lead p (length c.args.point.now.fields.items) many c.in_err-write.field-0.0 given.0 given.2 refused
    (λ e. ahead.0 (ap (λ (fault : WriteFault). Err fault) e)) (λ e. spent.0 (ap (λ (fault : WriteFault). Err fault) e)))

pub returns : goal.returns
returns g c =
    let p = point_view c.args.point.now in
    let many : length c.args.point.now.fields.items ≡ length p.fields =
    sym (length-map c.args.point.now.fields.items _) in
    let back = to_z-of_z {w = w64} {z = c.args.clock} (search rules) in
    let ahead = rw back at c.in_ok-write.ensures.ahead in
    let spent = rw back at c.in_ok-write.ensures.spent in
    let put = rw back at c.in_ok-write.ensures.put in
    point_written (replica_state c.args.replica.now) (replica_state c.write.new.self) c.args.clock c.args.lead p
    (length c.args.point.now.fields.items) many
    (λ e. let no = ahead.1 e in absurd cc) (λ e. let no = spent.1 e in absurd cc) put
