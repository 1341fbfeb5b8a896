use Rattle.std.proofs.Common.{◌≡◌, refl, [], ◌++◌, false, take, List, ℕ, ap, ◌∙◌, arith, rules}
use Rattle.std.proofs.Math.Facts.{to_z-of_z}
use Rattle.std.specs.Int.{w64}
use Rattle.std.proofs.KnownBytes.{Consumes-nil, Consumes-trans, Appends-nil, Appends-trans}
use Rattle.std.proofs.lemmas.Result.{on_ok_weaker, IfOk-weaker}
use Rattle.std.specs.Io.KnownBytes.{Appends}
use Rattle.rr_io.proofs.CountLemmas.{no_call, HasRisenBy-more, one_more_at_most}
use Rattle.rr_io.specs.Counted.{inner_of}
use Rattle.rr_io.specs.Stream.{AppendsPrefix}
use Rattle.rr_feed.specs.Feed.{FeedState}
use Rattle.rr_process.specs.Report.{report_of, refused_count}
use Rattle.rr_process.proofs.ReportLemmas.{HasReported-push}
use Rattle.rr_process.proofs.StreamLemmas.{prefix_so_far, of_all_bytes, of_all_taken, may_come}
use Rattle.rr_process.proofs.check.check_lines_within.Goals as goal

pub returns-in_err-given : goal.returns-in_err-given
returns-in_err-given g c = record {
  printed = record {
    whole = search rules;
    prefix =
        let now = c.loop.invariant.now ∙ to_z-of_z {w = w64} {z = c.args.now} (search rules) in
        rw (c.loop.invariant.precision, now) at (prefix_so_far c.loop.checker _ _ _ _ c.loop.invariant.going
        c.loop.invariant.written);
    read = search rules;
    write_failed = search rules;
  };
  refused = search rules;
  flushed = search rules;
}

pub returns-then-given-eq0 : goal.returns-then-given-eq0
returns-then-given-eq0 g c = record {
  printed = record {
    whole =
        let so_far = c.loop.invariant.written in
        let start = g.W.Write.contents (inner_of c.args.output.now) in
        let P : List ℕ → Type 0 = λ bytes. Appends start (g.W.Write.contents (inner_of c.finish.new.output))
        (report_of c.args.precision c.args.now bytes) in
        let read = rw c.in-Some.is at c.in_ok-given.ensures.bytes in
        let now = c.loop.invariant.now ∙ to_z-of_z {w = w64} {z = c.args.now} (search rules) in
        on_ok_weaker c.finish.result (λ report. of_all_taken _ _ _ so_far.taken c.read_once.new.buf c.in-Some.given P
        so_far.consumed read.1 c.if-given-eq0.true (read.2 c.if-given-eq0.true (search rules))
        (rw (c.loop.invariant.precision, now) at (report so_far.taken so_far.text start so_far.reported
        so_far.appended))) c.finish.ensures.reported;
    prefix =
        let so_far = c.loop.invariant.written in
        let start = g.W.Write.contents (inner_of c.args.output.now) in
        let P : List ℕ → Type 0 = λ bytes. AppendsPrefix start (g.W.Write.contents (inner_of c.finish.new.output))
        (report_of c.args.precision c.args.now bytes) in
        let read = rw c.in-Some.is at c.in_ok-given.ensures.bytes in
        let now = c.loop.invariant.now ∙ to_z-of_z {w = w64} {z = c.args.now} (search rules) in
        let prefix = rw (c.loop.invariant.precision, now) at
        (c.finish.ensures.prefix so_far.taken so_far.text start so_far.reported so_far.appended) in
        of_all_taken _ _ _ so_far.taken c.read_once.new.buf c.in-Some.given P so_far.consumed read.1 c.if-given-eq0.true
        (read.2 c.if-given-eq0.true (search rules)) prefix;
    read = search rules;
    write_failed = search rules;
  };
  refused =
      let so_far = c.loop.invariant.written in
      let read = rw c.in-Some.is at c.in_ok-given.ensures.bytes in
      IfOk-weaker c.finish.result _ _ (λ refused count. of_all_taken _ _ _ so_far.taken c.read_once.new.buf
      c.in-Some.given (λ bytes. refused ≡ refused_count c.args.precision bytes) so_far.consumed read.1
      c.if-given-eq0.true (read.2 c.if-given-eq0.true (search rules))
      (rw c.loop.invariant.precision at (count so_far.taken so_far.text so_far.reported))) c.finish.ensures.refused;
  flushed = search rules;
}

pub returns-in_err-push : goal.returns-in_err-push
returns-in_err-push g c = record {
  printed = record {
    whole = search rules;
    prefix =
        let now = c.loop.invariant.now ∙ to_z-of_z {w = w64} {z = c.args.now} (search rules) in
        rw (c.loop.invariant.precision, now) at (prefix_so_far c.loop.checker _ _ _ _ c.loop.invariant.going
        c.loop.invariant.written);
    read = search rules;
    write_failed = search rules;
  };
  refused = search rules;
  flushed = search rules;
}

pub returns-in_err-write_items : goal.returns-in_err-write_items
returns-in_err-write_items g c = record {
  printed = record {
    whole = search rules;
    prefix =
        let so_far = c.loop.invariant.written in
        let start = g.W.Write.contents (inner_of c.args.output.now) in
        let P : List ℕ → Type 0 = λ bytes. AppendsPrefix start (g.W.Write.contents (inner_of c.write_items.new.output))
        (report_of c.args.precision c.args.now bytes) in
        let piece = take c.in-Some.given c.read_once.new.buf in
        let takes = c.in_ok-push.ensures in
        let pushed = HasReported-push c.loop.checker c.push.new.self so_far.taken piece so_far.text
        c.loop.invariant.going
        takes so_far.reported in
        let precision = takes.precision ∙ c.loop.invariant.precision in
        let now = takes.now ∙ c.loop.invariant.now ∙ to_z-of_z {w = w64} {z = c.args.now} (search rules) in
        let going : c.push.new.self.feed.ended ≡ false = ap (λ (s : FeedState). s.ended) takes.feed
        ∙ c.loop.invariant.going in
        of_all_bytes _ _ (so_far.taken ++ piece) P (Consumes-trans _ _ _ _ _ so_far.consumed
        (rw c.in-Some.is at c.in_ok-given.ensures.bytes).1)
        (λ more. rw (precision, now) at (c.in_err-write_items.ensures.prefix (so_far.taken ++ piece) so_far.text more
        start pushed so_far.appended (may_come c.push.new.self more going)));
    read = search rules;
    write_failed = search rules;
  };
  refused = search rules;
  flushed = search rules;
}

pub loop-init : goal.loop-init
loop-init g c = record {
  written = record {
    taken = [];
    text = [];
    consumed = Consumes-nil _;
    reported =
        c.new-checker.ensures.nothing;
    appended = Appends-nil _;
  };
  going = ap (λ (s : FeedState). s.ended) c.new-checker.ensures.feed;
  precision = c.new-checker.ensures.precision;
  now = c.new-checker.ensures.now;
  pieces = omega (arith, c.new-checker.ensures.pieces);
  made = no_call _;
  ends = refl;
  few = omega arith;
  in_count = omega arith;
  out_count = omega arith;
}

pub loop-preserved : goal.loop-preserved
loop-preserved g c =
    let so_far = c.loop.invariant.written in
    let read = rw c.in-Some.is at c.in_ok-given.ensures.bytes in
    let piece = take c.in-Some.given c.read_once.new.buf in
    let takes = c.in_ok-push.ensures in
    let pushed = HasReported-push c.loop.checker c.push.new.self so_far.taken piece so_far.text c.loop.invariant.going
    takes so_far.reported in
    let more = c.in_ok-write_items.ensures.reported in
    record {
      written = record {
        taken = so_far.taken ++ piece;
        text = so_far.text ++ more.0;
        consumed = Consumes-trans _ _ _ _ _ so_far.consumed read.1;
        reported = more.1.reports.reported (so_far.taken ++ piece) so_far.text pushed;
        appended = Appends-trans _ _ _ _ _ so_far.appended more.2;
      };
      going = more.1.reports.ended ∙ ap (λ (s : FeedState). s.ended) takes.feed ∙ c.loop.invariant.going;
      precision = more.1.reports.precision ∙ takes.precision ∙ c.loop.invariant.precision;
      now = more.1.reports.now ∙ takes.now ∙ c.loop.invariant.now;
      pieces = omega (arith, more.1.reports.pieces, takes.pieces, c.loop.invariant.pieces);
      made = HasRisenBy-more c.loop.counter _ _ _ c.loop.invariant.made c.in_ok-given.ensures.reads;
      ends = search rules;
      few = one_more_at_most c.loop.counter _ _ _ c.loop.invariant.few c.in_ok-given.ensures.reads;
      in_count = omega (arith, c.loop.invariant.in_count, c.in_ok-given.ensures.failures.failures_never_fall);
      out_count = omega (arith, c.loop.invariant.out_count, c.in_ok-write_items.ensures.writes.failures_never_fall);
    }

pub returns : goal.returns
returns g c = record {
  printed = record {
    whole = search rules;
    prefix =
        let now = c.loop.invariant.now ∙ to_z-of_z {w = w64} {z = c.args.now} (search rules) in
        rw (c.loop.invariant.precision, now) at (prefix_so_far c.loop.checker _ _ _ _ c.loop.invariant.going
        c.loop.invariant.written);
    read = search rules;
    write_failed = search rules;
  };
  refused = search rules;
  flushed = search rules;
}
