use Rattle.std.proofs.Common.{[], refl, ap, ◌∙◌}
use Rattle.std.specs.Prelude.{Ok}
use Rattle.rr_commit.proofs.GroupingLemmas.{group_has}
use Rattle.rr_commit.proofs.grouping.group_of.Goals as goal

pub returns-clause-cells : goal.returns-clause-cells
returns-clause-cells c =
    let entries = c.deref.ensures.value ∙ c.in_ok-entries.ensures in
    group_has c.args.first.now c.args.cells.now
    (record { key = c.in_ok-copy.field-0; archive = c.args.first.now.archive; packed = c.in_ok-encode.field-0 })
    c.requires.like c.in_ok-copy.ensures refl
    (c.in_ok-encode.ensures.read ∙ ap (λ es. Ok (es, [])) entries)
