use Rattle.std.proofs.Common.{rules, ◌≡◌}
use Rattle.left_right.specs.Sides.{view}
use Rattle.rr_desk.proofs.RuleLemmas.{sees}
use Rattle.rr_desk.proofs.answers.walked.Goals as goal

pub enter_as-requires : goal.enter_as-requires
enter_as-requires g c x = sees _ _ _

pub returns-in-Ok : goal.returns-in-Ok
returns-in-Ok g c =
    let same : c.get.result.now.replica.schema ≡ (view c.args.handle.inner.place).schema = search rules in
    record {
      seen = search rules;
      answer = record {
        newer = search rules;
        ascending = search rules;
        of_schema = rw (← same) c.next_cells-cells.ensures.of_schema;
      };
    }
