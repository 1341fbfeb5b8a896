use Rattle.std.proofs.Common.{None, Some, refl, sym}
use Rattle.std.proofs.lemmas.Result.{err_from_is_err_and}
use Rattle.rr_cluster.specs.Meaning.{node_in}
use Rattle.rr_cluster.specs.Model.{cell_model}
use Rattle.rr_cluster.proofs.CommandsLemmas.Load.{no_snapshot, bad_name_here, bad_origin_here, load_is_refused, snapshot_of_script, replica_is_loaded}
use Rattle.rr_cluster.proofs.MeaningLemmas.{bytes_found, no_snapshot_at, represents_same}
use Rattle.rr_cluster.proofs.commands.load.load_node.Goals as goal

pub returns-in_default : goal.returns-in_default
returns-in_default g c = λ m is.
    let none = bytes_found c.args.cluster.now.snapshots c.args.name.now None c.in_default.ensures.value in (
      no_snapshot cell_model m c.args.name.now c.args.node.now c.args.origin.now
          (no_snapshot_at c.args.cluster.now m is c.args.name.now none),
      represents_same c.args.cluster.now _ m (record
          { schema = refl; clock = refl; lead = refl; pages = refl; snapshots = refl; origins = refl }) is refl,
    )

pub returns-then-not-is_name : goal.returns-then-not-is_name
returns-then-not-is_name g c = λ m is.
    let kept = bytes_found c.args.cluster.now.snapshots c.args.name.now (Some c.in-Some.snapshot.now)
    c.in-Some.ensures.value in (
      bad_name_here c.args.cluster.now m is c.args.name.now c.args.node.now c.args.origin.now
          c.in-Some.snapshot.now.items kept (sym c.if-not-is_name.ensures),
      represents_same c.args.cluster.now _ m (record
          { schema = refl; clock = refl; lead = refl; pages = refl; snapshots = refl; origins = refl }) is refl,
    )

pub returns-in_err-origin : goal.returns-in_err-origin
returns-in_err-origin g c = λ m is.
    let kept = bytes_found c.args.cluster.now.snapshots c.args.name.now (Some c.in-Some.snapshot.now)
    c.in-Some.ensures.value in
    let p = err_from_is_err_and c.from_residual.result c.from_residual.ensures.1 in
    rw (p.1, p.2) (
      bad_origin_here c.args.cluster.now m is c.args.name.now c.args.node.now c.args.origin.now
          c.in-Some.snapshot.now.items kept (sym c.if-not-is_name.ensures) c.in_err-origin.field-0.0
          (sym (c.in_err-origin.ensures m.origins is.origins)),
      represents_same c.args.cluster.now _ m (record
          { schema = refl; clock = refl; lead = refl; pages = refl; snapshots = refl; origins = refl }) is refl,
    )

pub loaded-requires-clause-layout : goal.loaded-requires-clause-layout
loaded-requires-clause-layout g c = c.args.cluster.now.within

pub loaded-requires-clause-snapshot : goal.loaded-requires-clause-snapshot
loaded-requires-clause-snapshot g c =
    let kept = bytes_found c.args.cluster.now.snapshots c.args.name.now (Some c.in-Some.snapshot.now)
    c.in-Some.ensures.value in
    rw c.deref.ensures.value (snapshot_of_script c.args.cluster.now c.requires.0 c.requires.1 c.args.name.now
    c.args.node.now c.args.origin.now c.in-Some.snapshot.now.items kept)

pub returns-in_err-replica : goal.returns-in_err-replica
returns-in_err-replica g c = λ m is.
    let old = c.args.cluster.now in
    let kept = bytes_found old.snapshots c.args.name.now (Some c.in-Some.snapshot.now) c.in-Some.ensures.value in
    let same = represents_same old _ m (record {
      schema = refl;
      clock = refl;
      lead = refl;
      pages = refl;
      snapshots =
          refl;
      origins = refl;
    }) is refl in
    let p = err_from_is_err_and c.from_residual-in_err-replica.result c.from_residual-in_err-replica.ensures.1 in
    let loads = rw c.deref.ensures.value at c.in_err-replica.ensures in
    rw (p.1, p.2) (load_is_refused old m is c.args.name.now c.args.node.now c.args.origin.now
    c.in-Some.snapshot.now.items kept (sym c.if-not-is_name.ensures) c.in_ok-origin.origin
    (sym (c.in_ok-origin.ensures m.origins is.origins)) node_in c.in_err-replica.field-0.0 loads _ same)

pub returns : goal.returns
returns g c = λ m is.
    let old = c.args.cluster.now in
    let kept = bytes_found old.snapshots c.args.name.now (Some c.in-Some.snapshot.now) c.in-Some.ensures.value in
    let same = represents_same old _ m (record {
      schema = refl;
      clock = refl;
      lead = refl;
      pages = refl;
      snapshots =
          refl;
      origins = refl;
    }) is refl in
    let loads = rw c.deref.ensures.value at c.in_ok-replica.ensures in
    let loaded = replica_is_loaded old m is c.args.name.now c.args.node.now c.args.origin.now
    c.in-Some.snapshot.now.items kept (sym c.if-not-is_name.ensures) c.in_ok-origin.origin
    (sym (c.in_ok-origin.ensures m.origins is.origins)) c.in_ok-replica.replica loads in
    rw loaded.1 (c.put_node.ensures m same loaded.0)
