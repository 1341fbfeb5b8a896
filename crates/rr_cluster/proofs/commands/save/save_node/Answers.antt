use Rattle.std.proofs.Common.{None, refl, sym}
use Rattle.std.proofs.lemmas.Result.{err_from_is_err_and}
use Rattle.rr_cluster.specs.Commands.Save.{snapshot_of}
use Rattle.rr_cluster.specs.Meaning.{node_in}
use Rattle.rr_cluster.specs.Model.{cell_model}
use Rattle.rr_cluster.proofs.CommandsLemmas.Save.{bad_name, no_node, node_is_saved, save_is_refused, represents_with_snapshot}
use Rattle.rr_cluster.proofs.MeaningLemmas.{bytes_inserted, node_at}
use Rattle.rr_cluster.proofs.commands.save.save_node.Goals as goal

pub returns-then-not-is_name : goal.returns-then-not-is_name
returns-then-not-is_name g c = λ m is.
    (bad_name cell_model m c.args.name.now c.args.node.now (sym c.if-not-is_name.ensures), is)

pub returns-in_default : goal.returns-in_default
returns-in_default g c = λ m is.
    let none = node_at c.args.cluster.now m is c.args.node.now None (sym c.in_default.ensures.value) in
    (no_node cell_model m c.args.name.now c.args.node.now (sym c.if-not-is_name.ensures) none, is)

pub returns-in_err-snapshot : goal.returns-in_err-snapshot
returns-in_err-snapshot g c = λ m is.
    let p = err_from_is_err_and c.from_residual.result c.from_residual.ensures.1 in
    rw (p.1, p.2) (save_is_refused c.args.cluster.now m is c.args.name.now c.args.node.now
    (sym c.if-not-is_name.ensures) c.in-Some.replica.now (sym c.in-Some.ensures.value) c.in_err-snapshot.field-0.0
    c.in_err-snapshot.ensures)

pub returns : goal.returns
returns g c = λ m is.
    let old = c.args.cluster.now in
    let name = c.args.name.now in
    let node = c.args.node.now in
    let h = c.in-Some.replica.now in
    let here = sym c.in-Some.ensures.value in
    let named = sym c.if-not-is_name.ensures in
    let x = snapshot_of cell_model (node_in h) in
    let bytes = c.in_ok-snapshot.snapshot in
    let put = rw c.in_ok-name.ensures.items at (bytes_inserted old.snapshots c.insert.new.self c.in_ok-name.name bytes
    c.in_ok-insert.ensures.entries) in
    let has = c.in_ok-snapshot.ensures in (
      _,
      node_is_saved old m is name node named h here bytes c.in_ok-snapshot.ensures,
      represents_with_snapshot old _ m name bytes.items x is refl refl refl refl refl refl put has,
    )
