use Rattle.std.proofs.Common.{rules, ◌≡◌, ◌<◌, ◌↔◌, Err, OnOk, subst, ap, ◌∙◌}
use Rattle.std.specs.FinMap.{entries, len}
use Rattle.std.specs.Io.KnownBytes.{Appends}
use Rattle.rr_io.specs.Counted.{inner_of}
use Rattle.rr_io.specs.Stream.{AppendsPrefix}
use Rattle.rr_page.specs.Version.{latest}
use Rattle.rr_cells.specs.Cells.{Cells}
use Rattle.rr_cells.specs.ReplicaState.{ReplicaState}
use Rattle.rr_snapshot.specs.Snapshot.{snapshot_text}
use Rattle.rr_snapshot.specs.declared.fault.SaveFault.TheVariants.{TooManyCells}
use Rattle.rr_snapshot.specs.declared.heading.TheConstants.{MAX_SNAPSHOT_CELLS}
use Rattle.rr_desk.specs.KeeperState.{cells_of, own_replica}
use Rattle.rr_desk.proofs.keeper.Keeper.save.Goals as goal

pub returns-clause-saves : goal.returns-clause-saves
returns-clause-saves g c = record {
  whole =
      subst (λ (h : ReplicaState). OnOk c.save.result
      (Appends (g.W.Write.contents (inner_of c.args.output.now)) (g.W.Write.contents (inner_of c.save.new.output))
      (snapshot_text latest h.schema h.origin (entries h.cells))))
      (c.replica.ensures.state ∙ ap own_replica c.self.view_is) c.save.ensures.saves.whole;
  prefix =
      subst (λ (h : ReplicaState). AppendsPrefix (g.W.Write.contents (inner_of c.args.output.now))
      (g.W.Write.contents (inner_of c.save.new.output)) (snapshot_text latest h.schema h.origin (entries h.cells)))
      (c.replica.ensures.state ∙ ap own_replica c.self.view_is) c.save.ensures.saves.prefix;
  failures_never_fall = search rules;
  failed = search rules;
}

pub returns-clause-too_many : goal.returns-clause-too_many
returns-clause-too_many g c =
    subst (λ (m : Cells). (c.save.result ≡ Err TooManyCells) ↔ (MAX_SNAPSHOT_CELLS < len m))
    (c.replica.ensures.cells ∙ ap cells_of c.self.view_is) c.save.ensures.too_many
