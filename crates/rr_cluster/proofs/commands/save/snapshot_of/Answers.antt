use Rattle.std.proofs.Common.{ℕ, ◌∙◌, ap, Err}
use Rattle.std.specs.Global.{Vec}
use Rattle.std.proofs.lemmas.Result.{err_from_is_err_and}
use Rattle.rr_snapshot.specs.declared.fault.SaveFault.{SaveFault}
use Rattle.rr_replica.specs.ReplicaWithRoom.{replica_state}
use Rattle.rr_cluster.proofs.CommandsLemmas.Save.{save_refused, saved}
use Rattle.rr_cluster.proofs.commands.save.snapshot_of.Goals as goal

pub returns-in_err-save : goal.returns-in_err-save
returns-in_err-save g c =
    let given = err_from_is_err_and c.from_residual.result c.from_residual.ensures.1 in
    rw given.1 (save_refused (replica_state c.args.replica.now) c.in_err-save.field-0.0 given.0 given.2
    (λ e. c.in_err-save.ensures.too_many.0 (ap (λ (fault : SaveFault). Err fault) e)))

pub returns : goal.returns
returns g c =
    let whole = rw (c.new-output.ensures.inner, c.new.ensures.items) at c.in_ok-save.ensures.saves.whole in
    saved (replica_state c.args.replica.now) c.in_ok-save.ensures.holds c.into_inner.result
    (λ many. let no = c.in_ok-save.ensures.too_many.1 many in absurd cc)
    (ap (λ (v : Vec ℕ). v.items) c.into_inner.ensures ∙ whole)
