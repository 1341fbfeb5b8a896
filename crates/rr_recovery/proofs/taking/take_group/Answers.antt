use Rattle.std.proofs.Common.{sym, ap, subst}
use Rattle.rr_schema.specs.Schema.{Layout}
use Rattle.rr_cells.specs.ReplicaState.{ReplicaState}
use Rattle.rr_journal.specs.Body.{packed_cells}
use Rattle.rr_recovery.specs.Found.{found_state}
use Rattle.rr_recovery.specs.Joining.{group_cells}
use Rattle.rr_recovery.specs.Taking.{IsCheckedGroup, Takes, recovery, taken_cells}
use Rattle.rr_recovery.proofs.TakingLemmas.{recovery_of}
use Rattle.rr_recovery.proofs.taking.take_group.Goals as goal

pub take_cells-requires-clause-checked : goal.take_cells-requires-clause-checked
take_cells-requires-clause-checked g c =
    subst (λ (s : Layout). IsCheckedGroup s (packed_cells c.args.group.now))
    (sym (ap (λ (h : ReplicaState). h.schema) c.in_ok-series.ensures.unchanged)) c.requires

pub returns : goal.returns
returns g c =
    let f = found_state c.args.found.now in
    subst (λ (h : ReplicaState). Takes (recovery_of h f) (recovery c.take_cells.new.replica c.take_cells.new.found)
    (taken_cells (recovery_of h f) (group_cells (packed_cells c.args.group.now))) c.take_cells.result)
    c.in_ok-series.ensures.unchanged c.take_cells.ensures
