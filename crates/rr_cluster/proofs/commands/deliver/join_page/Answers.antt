use Rattle.std.proofs.Common.{ap, ◌∙◌}
use Rattle.std.specs.FinMap.{entries}
use Rattle.rr_page.proofs.HeadLemmas.{masks_wide}
use Rattle.rr_page.specs.Version.{latest}
use Rattle.rr_replica.specs.ReplicaWithRoom.{replica_state}
use Rattle.rr_cluster.specs.Meaning.{node_of}
use Rattle.rr_cluster.proofs.CommandsLemmas.Deliver.{page_joined}
use Rattle.rr_cluster.proofs.commands.deliver.join_page.Goals as goal

pub returns : goal.returns
returns g c = λ page has.
    let read = rw c.schema-schema.ensures.value at c.in-Ok.ensures.only (entries page) in
    let within = rw c.schema-schema.ensures.value at c.archives-archives.ensures.within in
    let joined = rw c.deref.ensures.value at c.in_ok-join_cells.ensures.joined in
    ap node_of joined ∙ page_joined (replica_state c.args.replica.now) c.in-Ok.cells.items page
    (read has.page (record {
      version = latest;
      wide =
          masks_wide (replica_state c.args.replica.now).schema within;
      text = has.text;
    }))

pub join_cells-requires : goal.join_cells-requires
join_cells-requires g c = rw c.deref.ensures.value (rw c.schema-schema.ensures.value at c.in-Ok.ensures.cells)
