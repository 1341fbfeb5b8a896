use Rattle.std.proofs.Common.{sym, ap, ◌∙◌, arith, pos}
use Rattle.std.specs.FinMap.{entries}
use Rattle.rr_replica.specs.Keys.{first_behind, lent_key}
use Rattle.rr_replica.specs.ReplicaWithRoom.{replica_state}
use Rattle.rr_replica.proofs.KeysLemmas.{behind, first_of_all}
use Rattle.rr_replica.proofs.replica.Replica.first_behind.Goals as goal

pub returns-in-Some : goal.returns-in-Some
returns-in-Some g c =
    let h = replica_state c.args.self.now in
    c.next_cell.ensures.listed
    ∙ behind h c.schema-schema.ensures.holds c.in-Some.key.now 255 (pos 9223372036854775807) c.origin.result (omega
    arith)
    ∙ ap (λ o. first_behind (lent_key o) (entries h.cells)) (sym c.in-Some.is)

pub returns-in-None : goal.returns-in-None
returns-in-None g c =
    let es = entries (replica_state c.args.self.now).cells in
    c.cell_at.ensures.listed ∙ first_of_all es ∙ ap (λ o. first_behind (lent_key o) es) (sym c.in-None.is)
