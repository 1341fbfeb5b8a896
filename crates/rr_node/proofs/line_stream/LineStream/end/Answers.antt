use Rattle.std.proofs.Common.{take, ap, ◌∙◌}
use Rattle.rr_node.proofs.LineStreamLemmas.{all_taken}
use Rattle.rr_node.proofs.AmongLemmas.{EndsAmong-ended}
use Rattle.rr_node.proofs.line_stream.LineStream.end.Goals as goal

pub returns-clause-ended : goal.returns-clause-ended
returns-clause-ended g c =
    let served = c.in_ok-write_lines.ensures.served in (
      served.0,
      served.1,
      served.2,
      c.truncate.ensures.items ∙ ap (take c.args.limit) served.3,
      λ start came given answered has. rw c.report.ensures (all_taken c.args.self.connection c.end.new.self
          c.write_lines.new.self start c.args.keeper.now _ came answered served.1 given served.0 c.end.ensures.feed
          (record {
            lines = c.end.ensures.lines;
            report = c.end.ensures.report;
            rules = c.end.ensures.rules;
          }) served.4 has),
    )

pub returns-clause-among : goal.returns-clause-among
returns-clause-among g c =
    let served = c.in_ok-write_lines.ensures.among in (
      served.0,
      served.1,
      served.2,
      served.3,
      c.truncate.ensures.items ∙ ap (take c.args.limit) served.4,
      rw c.report.ensures (EndsAmong-ended c.args.self.connection c.end.new.self c.write_lines.new.self
          c.args.keeper.now _ served.0 served.1 served.2 c.end.ensures.feed (record {
            lines = c.end.ensures.lines;
            report = c.end.ensures.report;
            rules = c.end.ensures.rules;
          }) served.5),
    )
