use Rattle.std.proofs.Common.{rules, ◌≡◌}
use Rattle.left_right.specs.Sides.{view}
use Rattle.rr_desk.proofs.RuleLemmas.{sees}
use Rattle.rr_desk.proofs.answers.lacking.Goals as goal

pub enter_as-requires : goal.enter_as-requires
enter_as-requires g c x = sees _ _ _

pub returns-in-Some : goal.returns-in-Some
returns-in-Some g c =
    let same : c.in-Some.copy.schema ≡ (view c.args.handle.inner.place).schema = search rules in
    record {
      seen = search rules;
      answer = record {
        newer = search rules;
        ascending = search rules;
        of_schema = rw (← same) c.difference.ensures.of_schema;
      };
    }

pub returns-in-None : goal.returns-in-None
returns-in-None g c =
    let same : c.get-in-None.result.now.replica.schema ≡ (view c.args.handle.inner.place).schema = search rules in
    record {
      seen = search rules;
      answer = record {
        newer = search rules;
        ascending = search rules;
        of_schema = rw (← same) c.difference-cells.ensures.of_schema;
      };
    }
