use Rattle.std.proofs.Common.{rules, ◌++◌, ◌≤◌, length, sym, ap, ◌∙◌}
use Rattle.std.proofs.lemmas.List.{append-nil}
use Rattle.std.proofs.lemmas.Option.{slice_get_past}
use Rattle.rr_changes.specs.Tracking.{series_of}
use Rattle.rr_changes.proofs.by_number.push_series.Goals as goal

pub returns-then-number-key_count : goal.returns-then-number-key_count
returns-then-number-key_count g c =
    let past : length c.args.replica.now.keys ≤ c.args.number = search rules in
    sym (ap (λ o. c.args.list.now.items ++ series_of c.args.number c.args.times.now o)
    (slice_get_past c.args.replica.now.keys c.args.number past) ∙ append-nil c.args.list.now.items)
