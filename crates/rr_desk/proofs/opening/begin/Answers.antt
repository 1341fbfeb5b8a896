use Rattle.std.proofs.Common.{rules, ◌≡◌, All, subst}
use Rattle.left_right.specs.Sides.{view}
use Rattle.rr_schema.specs.Schema.{Layout}
use Rattle.rr_replica.specs.ReplicaWithRoom.{replica_state}
use Rattle.rr_desk.specs.declared.rule.View.{View}
use Rattle.rr_desk.specs.Rule.{keeper_of}
use Rattle.rr_desk.specs.ReaderState.{HasSeen}
use Rattle.rr_desk.proofs.opening.begin.Goals as goal

pub returns-in-Ok-clause-seen : goal.returns-in-Ok-clause-seen
returns-in-Ok-clause-seen g c =
    let v = view c.in_ok-writer.writer.desk.place in
    let place : v ≡ keeper_of (replica_state c.args.replica.now) c.started_writer.new.book.desk = search rules in
    let schema : c.schema.result.now ≡ c.args.replica.now.schema = c.schema.ensures.value in
    subst (λ (z : Layout × View). All (HasSeen z.1.desk z.0 z.1.seen) c.in-Ok.all.items) (λ i. (schema i, place i))
    c.in-Ok.ensures.seen
