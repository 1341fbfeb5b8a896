use Rattle.std.proofs.Common.{◌∷◌, ◌++◌, [], true, refl, ap, ◌∙◌, arith, rules}
use Rattle.std.proofs.lemmas.Result.{err_from_is_err_and, on_err_weaker}
use Rattle.rr_io.proofs.CountLemmas.{no_call, HasRisenBy-more, one_more_at_most}
use Rattle.rr_io.specs.Counted.{inner_of}
use Rattle.rr_feed.specs.Feed.{FeedState}
use Rattle.rr_node.specs.Fetches.{sight, HasAnswered, HasAnsweredSome}
use Rattle.rr_node.proofs.FetchesLemmas.{on_either, on_err, on_ok_both, seen_more, seen_same}
use Rattle.rr_node.proofs.ServingLemmas.{all_answered, prefix_of_some, prefix_so_far, none_answered, of_all_taken, of_each, seen_in_some, seen_in_written, seen_so_far, so_far_answered, so_far_first, so_far_pushed, so_far_same, some_answered, whole_so_far}
use Rattle.rr_node.proofs.reader.answer_lines.Goals as goal

pub returns-in_err-push-clause-part_written : goal.returns-in_err-push-clause-part_written
returns-in_err-push-clause-part_written g c =
    on_err c.from_residual.result _ (of_each (g.R.Read.remaining (inner_of c.args.input.now)) _
    (λ rest. none_answered (c.args.first ∷ rest) (sight c.args.reader.now (g.G.Gate.calls c.args.gate.now)) _))

pub returns-in_err-answer_items-clause-part_written : goal.returns-in_err-answer_items-clause-part_written
returns-in_err-answer_items-clause-part_written g c =
    let is = c.in_ok-push.ensures ∙ ap (λ (s : FeedState). record s { left = s.left ++ c.args.first ∷ [] })
    c.new-feed.ensures in
    on_err _ _ (prefix_of_some c.args.first _ _ (g.R.Read.remaining (inner_of c.args.input.now)) _ _ _ _ _ _ _
    (so_far_first c.args.first _ _ _ _ is) (ap (λ (s : FeedState). s.ended) is)
    c.in_err-answer_items.ensures.part_written)

pub returns-in_err-answer_items-clause-seen : goal.returns-in_err-answer_items-clause-seen
returns-in_err-answer_items-clause-seen g c = seen_in_some _ _ _ _ _ _ c.in_err-answer_items.ensures.part_written

pub loop-init : goal.loop-init
loop-init g c =
    let is = c.in_ok-push.ensures ∙ ap (λ (s : FeedState). record s { left = s.left ++ c.args.first ∷ [] })
    c.new-feed.ensures in
    let answered = c.in_ok-answer_items.ensures.answered in
    record {
      so_far = so_far_answered c.args.first _ _ _ _ _ _ _ _ _ _ (so_far_first c.args.first _ _ _ _ is) answered;
      going = answered.handed.ended ∙ ap (λ (s : FeedState). s.ended) is;
      whole = c.in_ok-answer_items.ensures.all_taken;
      flushed = c.in_ok-answer_items.ensures.flushed;
      made = no_call _;
      few = omega arith;
      ends = refl;
      in_count = omega arith;
      out_count = omega (arith, c.in_ok-answer_items.ensures.writes.failures_never_fall);
    }

pub returns-in_err-given-clause-part_written : goal.returns-in_err-given-clause-part_written
returns-in_err-given-clause-part_written g c =
    on_err _ _ (prefix_so_far c.args.first _ _ _ _ _ _ _ _ c.loop.invariant.so_far c.loop.invariant.going (seen_same _))

pub returns-in_err-given-clause-at_once : goal.returns-in_err-given-clause-at_once
returns-in_err-given-clause-at_once g c =
    let given = err_from_is_err_and c.from_residual-in_err-given.result c.from_residual-in_err-given.ensures.1 in
    let now = so_far_same c.args.first _ _ (g.R.Read.remaining (inner_of c.loop.input)) _ _ _ _ _
    c.loop.invariant.so_far c.in_err-given.ensures.bytes in
    rw given.1 (λ reading. whole_so_far c.args.first _ _ _ _ _ _ _ now c.loop.invariant.going c.loop.invariant.whole)

pub returns-in_err-given-clause-seen : goal.returns-in_err-given-clause-seen
returns-in_err-given-clause-seen g c = seen_so_far c.args.first _ _ _ _ _ _ _ c.loop.invariant.so_far

pub loop-preserved-in_default : goal.loop-preserved-in_default
loop-preserved-in_default g c =
    let keeps = rw c.in_default.is at c.in_ok-given.ensures.bytes in
    record {
      so_far = so_far_same c.args.first _ _ _ _ _ _ _ _ c.loop.invariant.so_far keeps;
      going = c.loop.invariant.going;
      whole = c.loop.invariant.whole;
      flushed = c.loop.invariant.flushed;
      made = HasRisenBy-more c.loop.counter _ _ _ c.loop.invariant.made c.in_ok-given.ensures.reads;
      few = one_more_at_most c.loop.counter _ _ _ c.loop.invariant.few c.in_ok-given.ensures.reads;
      ends = search rules;
      in_count = omega (arith, c.loop.invariant.in_count, c.in_ok-given.ensures.failures.failures_never_fall);
      out_count = c.loop.invariant.out_count;
    }

pub returns-then-given-eq0-clause-answered : goal.returns-then-given-eq0-clause-answered
returns-then-given-eq0-clause-answered g c =
    let last = c.answer_items-then-given-eq0 in
    let old = sight c.args.reader.now (g.G.Gate.calls c.args.gate.now) in
    let new = sight last.new.reader (g.G.Gate.calls last.new.gate) in
    let before = g.W.Write.contents (inner_of c.args.output.now) in
    let after = g.W.Write.contents (inner_of last.new.output) in
    let read = rw c.in-Some.is at c.in_ok-given.ensures.bytes in
    let now = c.loop.invariant.so_far in
    on_ok_both last.result _ _ _ (λ more nothing.
    of_all_taken _ _ _ now.taken c.read_once.new.buf c.in-Some.given
    (λ rest. HasAnswered true (c.args.first ∷ rest) old new before after)
    now.consumed read.1 c.if-given-eq0.true (read.2 c.if-given-eq0.true (search rules))
    (all_answered c.args.first _ _ _ _ _ _ _ _ _ _ _ now c.end.ensures more nothing)) last.ensures.answered
    last.ensures.all_taken

pub returns-then-given-eq0-clause-part_written : goal.returns-then-given-eq0-clause-part_written
returns-then-given-eq0-clause-part_written g c =
    let last = c.answer_items-then-given-eq0 in
    let old = sight c.args.reader.now (g.G.Gate.calls c.args.gate.now) in
    let before = g.W.Write.contents (inner_of c.args.output.now) in
    let after = g.W.Write.contents (inner_of last.new.output) in
    let read = rw c.in-Some.is at c.in_ok-given.ensures.bytes in
    let now = c.loop.invariant.so_far in
    on_err_weaker last.result (λ some.
    of_all_taken _ _ _ now.taken c.read_once.new.buf c.in-Some.given
    (λ rest. HasAnsweredSome (c.args.first ∷ rest) old last.new.reader before after)
    now.consumed read.1 c.if-given-eq0.true (read.2 c.if-given-eq0.true (search rules))
    (some_answered c.args.first _ _ _ _ _ _ _ _ _ _ _ now c.end.ensures some)) last.ensures.part_written

pub returns-then-given-eq0-clause-seen : goal.returns-then-given-eq0-clause-seen
returns-then-given-eq0-clause-seen g c =
    seen_more _ _ _ (seen_so_far c.args.first _ _ _ _ _ _ _ c.loop.invariant.so_far)
    (on_either c.answer_items-then-given-eq0.result _ _ _ (seen_in_written _ _ _ _ _ _) (seen_in_some _ _ _ _ _ _)
    c.answer_items-then-given-eq0.ensures.answered c.answer_items-then-given-eq0.ensures.part_written)

pub returns-in_err-push-2-clause-part_written : goal.returns-in_err-push-2-clause-part_written
returns-in_err-push-2-clause-part_written g c =
    on_err _ _ (prefix_so_far c.args.first _ _ _ _ _ _ _ _ c.loop.invariant.so_far c.loop.invariant.going (seen_same _))

pub returns-in_err-push-2-clause-seen : goal.returns-in_err-push-2-clause-seen
returns-in_err-push-2-clause-seen g c = seen_so_far c.args.first _ _ _ _ _ _ _ c.loop.invariant.so_far

pub returns-in_err-answer_items-2-clause-part_written : goal.returns-in_err-answer_items-2-clause-part_written
returns-in_err-answer_items-2-clause-part_written g c =
    let going = c.loop.invariant.going in
    let read = rw c.in-Some.is at c.in_ok-given.ensures.bytes in
    let now = so_far_pushed c.args.first _ _ _ _ _ _ _ _ _ _ c.loop.invariant.so_far going read.1
    c.in_ok-push-2.ensures in
    on_err _ _ (prefix_of_some c.args.first _ _ _ _ _ _ _ _ _ _ now
    (ap (λ (s : FeedState). s.ended) c.in_ok-push-2.ensures ∙ going) c.in_err-answer_items-2.ensures.part_written)

pub returns-in_err-answer_items-2-clause-seen : goal.returns-in_err-answer_items-2-clause-seen
returns-in_err-answer_items-2-clause-seen g c =
    seen_more _ _ _ (seen_so_far c.args.first _ _ _ _ _ _ _ c.loop.invariant.so_far)
    (seen_in_some _ _ _ _ _ _ c.in_err-answer_items-2.ensures.part_written)

pub loop-preserved : goal.loop-preserved
loop-preserved g c =
    let going = c.loop.invariant.going in
    let read = rw c.in-Some.is at c.in_ok-given.ensures.bytes in
    let now = so_far_pushed c.args.first _ _ _ _ _ _ _ _ _ _ c.loop.invariant.so_far going read.1
    c.in_ok-push-2.ensures in
    let answered = c.in_ok-answer_items-2.ensures.answered in
    record {
      so_far = so_far_answered c.args.first _ _ _ _ _ _ _ _ _ _ now answered;
      going = answered.handed.ended ∙ ap (λ (s : FeedState). s.ended) c.in_ok-push-2.ensures ∙ going;
      whole = c.in_ok-answer_items-2.ensures.all_taken;
      flushed = c.in_ok-answer_items-2.ensures.flushed;
      made = HasRisenBy-more c.loop.counter _ _ _ c.loop.invariant.made c.in_ok-given.ensures.reads;
      few = one_more_at_most c.loop.counter _ _ _ c.loop.invariant.few c.in_ok-given.ensures.reads;
      ends = search rules;
      in_count = omega (arith, c.loop.invariant.in_count, c.in_ok-given.ensures.failures.failures_never_fall);
      out_count = omega (arith, c.loop.invariant.out_count, c.in_ok-answer_items-2.ensures.writes.failures_never_fall);
    }

pub returns-clause-part_written : goal.returns-clause-part_written
returns-clause-part_written g c = prefix_so_far c.args.first _ _ _ _ _ _ _ _ c.loop.invariant.so_far
    c.loop.invariant.going (seen_same _)

pub returns-clause-at_once : goal.returns-clause-at_once
returns-clause-at_once g c = λ reading. whole_so_far c.args.first _ _ _ _ _ _ _ c.loop.invariant.so_far
    c.loop.invariant.going c.loop.invariant.whole

pub returns-clause-seen : goal.returns-clause-seen
returns-clause-seen g c = seen_so_far c.args.first _ _ _ _ _ _ _ c.loop.invariant.so_far
