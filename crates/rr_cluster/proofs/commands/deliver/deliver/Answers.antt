use Rattle.std.proofs.Common.{◌≡◌, None, Some, refl, sym, ap}
use Rattle.std.specs.Option.{is_some}
use Rattle.rr_cluster.specs.Model.{cell_model}
use Rattle.rr_cluster.proofs.CommandsLemmas.Deliver.{no_page, no_node, page_of_replica, leaves_joined}
use Rattle.rr_cluster.proofs.MeaningLemmas.{changed, node_at, no_page_at, bytes_found, page_there, represents_same}
use Rattle.rr_cluster.proofs.commands.deliver.deliver.Goals as goal

pub returns-in_default : goal.returns-in_default
returns-in_default g c = λ m is.
    let old = c.args.cluster.now in
    let none = bytes_found old.pages c.args.name.now None c.in_default.ensures.value in (
      no_page cell_model m c.args.name.now c.args.node.now (no_page_at old m is c.args.name.now none),
      represents_same old _ m (record {
        schema = refl;
        clock = refl;
        lead = refl;
        pages = refl;
        snapshots =
            refl;
        origins = refl;
      }) is refl,
    )

pub join_page-requires : goal.join_page-requires
join_page-requires g c =
    let kept = bytes_found c.args.cluster.now.pages c.args.name.now (Some c.in-Some.page.now) c.in-Some.ensures.value in
    let here = sym c.in-Some-get_mut.ensures.value in
    let page = page_of_replica c.args.cluster.now c.requires.0 c.requires.1 c.args.name.now c.args.node.now
    c.in-Some.page.now.items kept c.in-Some-get_mut.replica.now here in
    rw c.deref.ensures.value (page.0, page.2)

pub returns-in-Some-get_mut : goal.returns-in-Some-get_mut
returns-in-Some-get_mut g c = λ m is.
    let old = c.args.cluster.now in
    let kept = bytes_found c.args.cluster.now.pages c.args.name.now (Some c.in-Some.page.now) c.in-Some.ensures.value in
    let here = sym c.in-Some-get_mut.ensures.value in
    let written = (c.get_mut.follows.holds c.join_page.new.replica).0 in
    leaves_joined old m is c.args.name.now c.args.node.now c.in-Some.page.now.items kept c.in-Some-get_mut.replica.now
    here
    _ (record { schema = refl; clock = refl; lead = refl; pages = refl; snapshots = refl; origins = refl })
    c.join_page.new.replica
    (changed old.nodes (c.get_mut.follows.lender c.join_page.new.replica) c.args.node.now c.join_page.new.replica
    written (ap is_some here))
    c.join_page.result (rw c.deref.ensures.value at c.join_page.ensures)

pub returns-in-None : goal.returns-in-None
returns-in-None g c = λ m is.
    let old = c.args.cluster.now in
    let kept = bytes_found c.args.cluster.now.pages c.args.name.now (Some c.in-Some.page.now) c.in-Some.ensures.value in
    let page = page_there old m is c.args.name.now c.in-Some.page.now.items kept in
    let same : c.get_mut.follows.lender-at-none ≡ old.nodes = c.get_mut.follows.holds-at-none in (
      no_node cell_model m c.args.name.now c.args.node.now page.0 page.1
          (node_at old m is c.args.node.now None (sym c.in-None.ensures.value)),
      represents_same old _ m (record {
        schema = refl;
        clock = refl;
        lead = refl;
        pages = refl;
        snapshots =
            refl;
        origins = refl;
      }) is same,
    )
