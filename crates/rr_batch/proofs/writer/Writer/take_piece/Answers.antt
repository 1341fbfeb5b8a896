use Rattle.std.proofs.Common.{◌-◌, ◌∙◌, rules}
use Rattle.rr_host.proofs.ClockLemmas.{HasGiven-trans}
use Rattle.rr_batch.proofs.PieceLemmas.{kept_both, kept_first}
use Rattle.rr_batch.proofs.writer.Writer.take_piece.Goals as goal

pub returns-then-not-piece-clause-taken : goal.returns-then-not-piece-clause-taken
returns-then-not-piece-clause-taken g c =
    let among = c.in-Ok.ensures.among in
    record {
      adds = (
        search rules,
        record {
          stream = c.stream-stream.result;
          after = c.take.new.self;
          goes_on = c.stream-stream.ensures.goes_on;
          handed = among.0;
          moments = among.1;
          answers = among.2;
          gave = among.3;
          taken = rw c.deref.ensures.value at among.5;
          kept = kept_first 18446744073709551615 _ _ among.2 c.new-refusals.ensures.items among.4;
          stays = c.in_ok-keep.ensures.kept;
        },
      );
      others = λ other differs. rw c.in_ok-count.ensures.streams at (c.in_ok-keep.ensures.others other differs)
          ∙ c.stream-stream.ensures.others other differs;
    }

pub returns-then-not-piece-clause-counted : goal.returns-then-not-piece-clause-counted
returns-then-not-piece-clause-counted g c =
    let counted = rw (c.deref-then-not-piece.ensures.value, c.stream-stream.ensures.refused) at
    c.in_ok-count.ensures.refused in (
      c.report.result.refused - c.report-before.result.refused,
      rw c.in_ok-keep.ensures.refused counted,
    )

pub returns-in_ok-count-in-Ok-end-clause-taken : goal.returns-in_ok-count-in-Ok-end-clause-taken
returns-in_ok-count-in-Ok-end-clause-taken g c =
    let among = c.in-Ok.ensures.among in
    let ended = c.in-Ok-end.ensures.among in
    record {
      adds = (
        search rules,
        record {
          stream = c.stream-stream.result;
          after = c.take.new.self;
          goes_on = c.stream-stream.ensures.goes_on;
          between = c.take.new.keeper;
          handed = among.0;
          last = ended.0;
          moments = among.1;
          later = ended.1;
          answers = among.2;
          more = ended.2;
          gave = HasGiven-trans _ _ _ among.1 ended.1 among.3 ended.3;
          taken = rw c.deref.ensures.value at among.5;
          ended = ended.5;
          kept = kept_both 18446744073709551615 _ _ _ among.2 ended.2 c.new-refusals.ensures.items among.4 ended.4;
          over = rw c.in_ok-count-in-Ok-end.ensures.streams c.stream-stream.ensures.gone;
        },
      );
      others = λ other differs. rw c.in_ok-count-in-Ok-end.ensures.streams
          (c.stream-stream.ensures.others other differs);
    }

pub returns-in_ok-count-in-Ok-end-clause-counted : goal.returns-in_ok-count-in-Ok-end-clause-counted
returns-in_ok-count-in-Ok-end-clause-counted g c = (
  c.in-Ok-end.report.refused - c.report-before.result.refused,
  rw (c.deref-in-Ok-end.ensures.value, c.stream-stream.ensures.refused) at
      c.in_ok-count-in-Ok-end.ensures.refused,
)
