use Rattle.std.proofs.lemmas.Result.{IfOk-weaker}
use Rattle.rr_replica.specs.ReplicaWithRoom.{replica_state}
use Rattle.rr_cluster.proofs.CommandsLemmas.Page.{cells_are_page, page_is_text}
use Rattle.rr_cluster.proofs.commands.page.page_of.Goals as goal

pub encode-requires : goal.encode-requires
encode-requires g c =
    rw (c.deref.ensures.value, c.in_ok-cells.ensures.listed, c.schema.ensures.value)
    (cells_are_page (replica_state c.args.replica.now) c.schema.ensures.holds c.args.from c.args.count c.requires)

pub returns : goal.returns
returns g c =
    IfOk-weaker c.encode.result _ _ (λ page written. page_is_text (replica_state c.args.replica.now)
    c.schema.ensures.holds c.args.from c.args.count c.requires page.items
    (rw (c.deref.ensures.value, c.in_ok-cells.ensures.listed, c.schema.ensures.value) at written)) c.encode.ensures
