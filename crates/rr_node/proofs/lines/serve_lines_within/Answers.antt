use Rattle.std.proofs.Common.{◌≡◌, [], ◌++◌, false, take, refl, ap, ◌∙◌, arith, rules}
use Rattle.std.proofs.KnownBytes.{Consumes-nil, Consumes-trans, Appends-nil, Appends-trans}
use Rattle.std.proofs.lemmas.Result.{err_from_is_err_and}
use Rattle.rr_io.proofs.CountLemmas.{no_call, HasRisenBy-more, one_more_at_most}
use Rattle.rr_io.specs.Counted.{inner_of}
use Rattle.rr_feed.specs.Feed.{FeedState, items_left}
use Rattle.rr_node.specs.Lines.{Run}
use Rattle.rr_host.proofs.ClockLemmas.{HasGiven-nil, HasGiven-trans}
use Rattle.rr_node.proofs.ConnectionLemmas.{HasServed-push}
use Rattle.rr_node.proofs.LinesLemmas.{served_finally, served_whole, serving_still, stopped_before, stopped_between, stopped_finally, stopped_left}
use Rattle.rr_node.proofs.lines.serve_lines_within.Goals as goal

pub loop-init : goal.loop-init
loop-init g c = record {
  serving = record {
    taken = [];
    moments = [];
    text = [];
    consumed = Consumes-nil _;
    gave = HasGiven-nil _;
    served = c.new-connection.ensures.nothing c.args.keeper.now;
    appended = Appends-nil _;
  };
  going = ap (λ (s : FeedState). s.ended) c.new-connection.ensures.feed;
  whole = ap items_left c.new-connection.ensures.feed;
  rules = c.new-connection.ensures.rules;
  pieces = omega (arith, c.new-connection.ensures.pieces);
  made = no_call _;
  few = omega arith;
  ends = refl;
  flushed = λ e. e;
  renewals = omega arith;
  in_count = omega arith;
  out_count = omega arith;
}

pub returns-in_err-given-clause-serves : goal.returns-in_err-given-clause-serves
returns-in_err-given-clause-serves g c = record {
  lines = record {
    served = search rules;
    stopped =
        let given = err_from_is_err_and c.from_residual.result c.from_residual.ensures.1 in
        let left = g.R.Read.remaining (inner_of c.read_once.new.input) in
        rw given.1 (rw c.loop.invariant.rules at (stopped_left _ _ left (stopped_between c.loop.connection _
        c.loop.invariant.going c.loop.invariant.serving)));
    at_once =
        let given = err_from_is_err_and c.from_residual.result c.from_residual.ensures.1 in
        let serving = serving_still _ _ (g.R.Read.remaining (inner_of c.read_once.new.input))
        c.loop.invariant.serving c.in_err-given.ensures.bytes in
        rw given.1 (λ reading. rw c.loop.invariant.rules at (served_whole c.loop.connection _ c.loop.invariant.going
        c.loop.invariant.whole serving));
    flushed = search rules;
    stays_flushed = search rules;
    faults = search rules;
    write_failed = search rules;
  };
  reads = search rules;
}

pub returns-in_err-push-clause-serves : goal.returns-in_err-push-clause-serves
returns-in_err-push-clause-serves g c = record {
  lines = record {
    served = search rules;
    stopped =
        let given = err_from_is_err_and c.from_residual-in_err-push.result c.from_residual-in_err-push.ensures.1 in
        let left = g.R.Read.remaining (inner_of c.read_once.new.input) in
        rw given.1 (rw c.loop.invariant.rules at (stopped_left _ _ left (stopped_between c.loop.connection _
        c.loop.invariant.going c.loop.invariant.serving)));
    at_once = search rules;
    flushed = search rules;
    stays_flushed = search rules;
    faults = search rules;
    write_failed = search rules;
  };
  reads = search rules;
}

pub returns-clause-serves : goal.returns-clause-serves
returns-clause-serves g c = record {
  lines = record {
    served = search rules;
    stopped =
        rw c.loop.invariant.rules at (stopped_between c.loop.connection _ c.loop.invariant.going
        c.loop.invariant.serving);
    at_once = λ reading. rw c.loop.invariant.rules at (served_whole c.loop.connection _ c.loop.invariant.going
        c.loop.invariant.whole c.loop.invariant.serving);
    flushed = search rules;
    stays_flushed = search rules;
    faults = search rules;
    write_failed = search rules;
  };
  reads = search rules;
}

pub returns-then-given-eq0-clause-serves : goal.returns-then-given-eq0-clause-serves
returns-then-given-eq0-clause-serves g c = record {
  lines = record {
    served =
        let so_far = c.loop.invariant.serving in
        let read = rw c.in-Some.is at c.in_ok-given.ensures.bytes in
        let run : Run = record {
          old = c.args.keeper.now;
          new = c.finish.new.keeper;
          given = g.C.Clock.given c.args.clock.now;
          given_since = g.C.Clock.given c.finish.new.clock;
          input = g.R.Read.remaining (inner_of c.args.input.now);
          left = g.R.Read.remaining (inner_of c.read_once.new.input);
          written = g.W.Write.contents (inner_of c.args.output.now);
          written_since = g.W.Write.contents (inner_of c.finish.new.output);
        } in
        rw c.loop.invariant.rules at (served_finally c.finish.result c.loop.connection run c.loop.keeper _ _ _ _
        c.read_once.new.buf c.in-Some.given (record {
          taken = so_far.taken;
          moments = so_far.moments;
          text = so_far.text;
          consumed = so_far.consumed;
          gave = so_far.gave;
          served = so_far.served;
          appended = so_far.appended;
          read = read.1;
          none = c.if-given-eq0.true;
          end = read.2 c.if-given-eq0.true (search rules);
        }) c.finish.ensures.served);
    stopped =
        let so_far = c.loop.invariant.serving in
        let read = rw c.in-Some.is at c.in_ok-given.ensures.bytes in
        let run : Run = record {
          old = c.args.keeper.now;
          new = c.finish.new.keeper;
          given = g.C.Clock.given c.args.clock.now;
          given_since = g.C.Clock.given c.finish.new.clock;
          input = g.R.Read.remaining (inner_of c.args.input.now);
          left = g.R.Read.remaining (inner_of c.read_once.new.input);
          written = g.W.Write.contents (inner_of c.args.output.now);
          written_since = g.W.Write.contents (inner_of c.finish.new.output);
        } in
        rw c.loop.invariant.rules at (stopped_finally c.finish.result c.loop.connection run c.loop.keeper _ _ _ _
        c.read_once.new.buf c.in-Some.given (record {
          taken = so_far.taken;
          moments = so_far.moments;
          text = so_far.text;
          consumed = so_far.consumed;
          gave = so_far.gave;
          served = so_far.served;
          appended = so_far.appended;
          read = read.1;
          none = c.if-given-eq0.true;
          end = read.2 c.if-given-eq0.true (search rules);
        }) c.finish.ensures.stopped);
    at_once = search rules;
    flushed = search rules;
    stays_flushed = search rules;
    faults = search rules;
    write_failed = search rules;
  };
  reads = search rules;
}

pub returns-in_err-answer_lines-clause-serves : goal.returns-in_err-answer_lines-clause-serves
returns-in_err-answer_lines-clause-serves g c = record {
  lines = record {
    served = search rules;
    stopped =
        let given = err_from_is_err_and c.from_residual-in_err-answer_lines.result
        c.from_residual-in_err-answer_lines.ensures.1 in
        let so_far = c.loop.invariant.serving in
        let read = rw c.in-Some.is at c.in_ok-given.ensures.bytes in
        let piece = take c.in-Some.given c.read_once.new.buf in
        let takes = c.in_ok-push.ensures in
        let going : c.push.new.self.feed.ended ≡ false = ap (λ (s : FeedState). s.ended) takes.feed
        ∙ c.loop.invariant.going in
        let pushed = HasServed-push c.loop.connection c.push.new.self c.args.keeper.now c.loop.keeper so_far.taken piece
        so_far.text so_far.moments c.loop.invariant.going takes so_far.served in
        let stopped = c.in_err-answer_lines.ensures.stopped in
        let run : Run = record {
          old = c.args.keeper.now;
          new = c.answer_lines.new.keeper;
          given = g.C.Clock.given c.args.clock.now;
          given_since = g.C.Clock.given c.answer_lines.new.clock;
          input = g.R.Read.remaining (inner_of c.args.input.now);
          left = g.R.Read.remaining (inner_of c.read_once.new.input);
          written = g.W.Write.contents (inner_of c.args.output.now);
          written_since = g.W.Write.contents (inner_of c.answer_lines.new.output);
        } in
        let same = takes.rules ∙ c.loop.invariant.rules in
        rw given.1 (rw same at (stopped_before c.push.new.self c.push.new.self.rules run (so_far.taken ++ piece) _
        (so_far.moments ++ stopped.0) going (Consumes-trans _ _ _ _ _ so_far.consumed read.1)
        (HasGiven-trans _ _ _ so_far.moments stopped.0 so_far.gave stopped.1)
        (stopped.2 c.args.keeper.now (so_far.taken ++ piece) so_far.moments so_far.text _ pushed so_far.appended)));
    at_once = search rules;
    flushed = search rules;
    stays_flushed = search rules;
    faults = search rules;
    write_failed = search rules;
  };
  reads = search rules;
}

pub loop-preserved : goal.loop-preserved
loop-preserved g c =
    let so_far = c.loop.invariant.serving in
    let read = rw c.in-Some.is at c.in_ok-given.ensures.bytes in
    let piece = take c.in-Some.given c.read_once.new.buf in
    let takes = c.in_ok-push.ensures in
    let pushed = HasServed-push c.loop.connection c.push.new.self c.args.keeper.now c.loop.keeper so_far.taken piece
    so_far.text so_far.moments c.loop.invariant.going takes so_far.served in
    let more = c.in_ok-answer_lines.ensures.served in
    record {
      serving = record {
        taken = so_far.taken ++ piece;
        moments = so_far.moments ++ more.0;
        text = so_far.text ++ more.1;
        consumed = Consumes-trans _ _ _ _ _ so_far.consumed read.1;
        gave = HasGiven-trans _ _ _ so_far.moments more.0 so_far.gave more.2;
        served = more.4.items.served c.args.keeper.now (so_far.taken ++ piece) so_far.moments so_far.text pushed;
        appended = Appends-trans _ _ _ _ _ so_far.appended more.3;
      };
      going = more.4.items.ended ∙ ap (λ (s : FeedState). s.ended) takes.feed ∙ c.loop.invariant.going;
      whole = more.4.all_taken;
      rules = more.4.items.rules ∙ takes.rules ∙ c.loop.invariant.rules;
      pieces = omega (arith, more.4.items.pieces, takes.pieces, c.loop.invariant.pieces);
      made = HasRisenBy-more c.loop.counter _ _ _ c.loop.invariant.made c.in_ok-given.ensures.reads;
      few = one_more_at_most c.loop.counter _ _ _ c.loop.invariant.few c.in_ok-given.ensures.reads;
      ends = search rules;
      flushed = search rules;
      renewals = search rules;
      in_count = omega (arith, c.loop.invariant.in_count, c.in_ok-given.ensures.failures.failures_never_fall);
      out_count = omega (arith, c.loop.invariant.out_count, c.in_ok-answer_lines.ensures.writes.failures_never_fall);
    }
