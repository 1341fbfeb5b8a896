use Rattle.std.proofs.Common.{rules, ◌≡◌, ◌<◌, Some, length, slice_get, sym, ap, ◌∙◌}
use Rattle.std.proofs.lemmas.Option.{slice_get-get_or}
use Rattle.rr_replica.proofs.NumberedLemmas.{first_numbered}
use Rattle.rr_replica.proofs.replica.Replica.key_numbered.Goals as goal

pub returns-clause-key : goal.returns-clause-key
returns-clause-key g c =
    let r = c.self.inside in
    let within : c.args.series < length r.series.keys.items = search rules in
    rw (← c.self.view_is) (slice_get-get_or r.series.keys.items c.args.series c.index.result.now within
    ∙ ap (λ k. Some k) (sym c.index.ensures))

pub returns-clause-first : goal.returns-clause-first
returns-clause-first g c =
    let r = c.self.inside in
    let within : c.args.series < length r.series.keys.items = search rules in
    let at : slice_get r.series.keys.items c.args.series ≡ Some c.index.result.now =
    slice_get-get_or r.series.keys.items c.args.series c.index.result.now within
    ∙ ap (λ k. Some k) (sym c.index.ensures) in
    rw (← c.self.view_is) (first_numbered r.series.indexed c.args.series c.index.result.now at)
