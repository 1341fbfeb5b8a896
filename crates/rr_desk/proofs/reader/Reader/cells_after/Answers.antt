use Rattle.std.proofs.Common.{rules, ◌≡◌}
use Rattle.left_right.specs.Sides.{view}
use Rattle.rr_desk.proofs.reader.Reader.cells_after.Goals as goal

pub returns : goal.returns
returns g c =
    let same : (view c.in-Some.handle.inner.place).schema ≡ c.self.inside.schema = search rules in
    record {
      seen = search rules;
      answer = record {
        newer = search rules;
        ascending = search rules;
        of_schema = rw (← same) c.walked-handle.ensures.answer.of_schema;
      };
    }
