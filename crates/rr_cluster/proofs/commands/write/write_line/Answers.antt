use Rattle.std.proofs.Common.{◌≡◌, None, refl, sym, ap, rules}
use Rattle.std.specs.Int.{w64}
use Rattle.std.specs.Option.{is_some}
use Rattle.std.proofs.Math.Facts.{to_z-of_z}
use Rattle.rr_cluster.specs.Model.{cell_model}
use Rattle.rr_cluster.proofs.CommandsLemmas.Write.{no_node, leaves_written}
use Rattle.rr_cluster.proofs.MeaningLemmas.{changed, node_at, represents_same}
use Rattle.rr_cluster.proofs.commands.write.write_line.Goals as goal

pub returns-in-Some : goal.returns-in-Some
returns-in-Some g c = λ m is.
    let old = c.args.cluster.now in
    let name = c.args.node.now in
    let here = sym c.in-Some.ensures.value in
    let written = (c.get_mut.follows.holds c.write_to.new.replica).0 in
    let back = to_z-of_z {w = w64} {z = old.clock} (search rules) in
    leaves_written old _ m (record {
      schema = refl;
      clock = refl;
      lead = refl;
      pages = refl;
      snapshots = refl;
      origins =
          refl;
    }) is name c.in-Some.replica.now c.write_to.new.replica here
    (changed old.nodes (c.get_mut.follows.lender c.write_to.new.replica) name c.write_to.new.replica written
    (ap is_some here)) c.args.line.now c.write_to.result (rw back at c.write_to.ensures)

pub returns-in-None : goal.returns-in-None
returns-in-None g c = λ m is.
    let same : c.get_mut.follows.lender-at-none ≡ c.args.cluster.now.nodes = c.get_mut.follows.holds-at-none in (
      no_node cell_model m c.args.node.now c.args.line.now
          (node_at c.args.cluster.now m is c.args.node.now None (sym c.in-None.ensures.value)),
      represents_same c.args.cluster.now _ m (record
          { schema = refl; clock = refl; lead = refl; pages = refl; snapshots = refl; origins = refl }) is same,
    )
