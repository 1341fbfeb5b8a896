use Rattle.std.proofs.Common.{◌∙◌}
use Rattle.rr_replica.proofs.NumberedLemmas.{known_by_index}
use Rattle.rr_replica.proofs.replica.Replica.knows.Goals as goal

pub returns : goal.returns
returns g c =
    let r = c.self.inside in
    rw (← c.self.view_is) (c.is_some.ensures ∙ known_by_index r.series.indexed c.args.key.now c.find.result
    c.find.ensures)
