use Rattle.rr_desk.specs.Writers.{changes}
use Rattle.rr_desk.proofs.RuleLemmas.{publishes_changes, published}
use Rattle.rr_desk.proofs.writing.publish_batch.Goals as goal

pub publish_as-requires : goal.publish_as-requires
publish_as-requires g c next is views kept at =
    let ready = c.requires.ready in
    publishes_changes _ _ _ _ (changes c.args.writer) (g.K.Batch.batch) c.requires.batch ready.writes ready.joined
    ready.accepted ready.ended ready.desk is views kept at

pub returns : goal.returns
returns g c = published c.publish_as.result.1 (changes c.args.writer) (g.K.Batch.batch) _ _ _ _ _ _ _ c.requires.batch
    c.publish_as.ensures.values c.publish_as.ensures.rule
