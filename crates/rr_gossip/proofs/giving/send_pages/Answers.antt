use Rattle.std.proofs.Common.{rules, ◌++◌, ◌∷◌, [], length, refl, sym, ap, subst, ◌∙◌, inr, arith}
use Rattle.std.specs.Io.KnownBytes.{Appends}
use Rattle.std.proofs.KnownBytes.{Appends-kept, Appends-nil, Appends-trans}
use Rattle.std.proofs.lemmas.Result.{err_from_is_err_and}
use Rattle.rr_io.proofs.StreamLemmas.{prefix_kept}
use Rattle.rr_gossip.specs.Session.{reply_left}
use Rattle.rr_gossip.proofs.GivingLemmas.{all_replied, cannot_reply, first_replies, one_replied, reply_unwritten}
use Rattle.rr_gossip.proofs.SendLemmas.{concat_more, frames_before, frames_prefix, frames_whole}
use Rattle.rr_gossip.proofs.StepLemmas.{err_is}
use Rattle.rr_gossip.proofs.giving.send_pages.Goals as goal

pub loop-frame-init : goal.loop-frame-init
loop-frame-init g c =
    record {
      before = [];
      replies = first_replies c.args.giver.now c.requires.giving c.requires.fresh;
      written =
          Appends-nil _;
      source = refl;
      count = omega arith;
    }

pub returns-in_err-frame-clause-sent : goal.returns-in_err-frame-clause-sent
returns-in_err-frame-clause-sent g c = record {
  whole = search rules;
  few = search rules;
  prefix =
      let so_far = c.loop-frame.invariant in
      frames_before _ _ _ _ so_far.before _ so_far.replies.all_are so_far.replies.few so_far.written;
  flushed = search rules;
  failures_never_fall = search rules;
  failed =
      λ e.
      let so_far = c.loop-frame.invariant in
      let p = err_from_is_err_and c.from_residual.result c.from_residual.ensures.1 in
      let cause = cannot_reply (reply_left c.args.giver.now.stage) c.args.giver.now.limit c.loop-frame.giver
      so_far.before
      c.in_err-frame.field-0.0 so_far.replies c.in_err-frame.ensures.sent.given in
      absurd (reply_unwritten (reply_left c.args.giver.now.stage) c.args.giver.now.limit c.in_err-frame.field-0.0 cause
      (sym p.2 ∙ err_is {A = Unit {0}} p.0 _ (sym p.1 ∙ e)));
}

pub returns-in_err-frame-clause-refused : goal.returns-in_err-frame-clause-refused
returns-in_err-frame-clause-refused g c =
    let so_far = c.loop-frame.invariant in
    let p = err_from_is_err_and c.from_residual.result c.from_residual.ensures.1 in
    rw (p.1, p.2) (inr (cannot_reply (reply_left c.args.giver.now.stage) c.args.giver.now.limit c.loop-frame.giver
    so_far.before c.in_err-frame.field-0.0 so_far.replies c.in_err-frame.ensures.sent.given))

pub returns-in_err-write_all-clause-sent : goal.returns-in_err-write_all-clause-sent
returns-in_err-write_all-clause-sent g c = record {
  whole = search rules;
  few = search rules;
  prefix =
      let so_far = c.loop-frame.invariant in
      let frame = c.in-Some.frame.items in
      let one = one_replied (reply_left c.args.giver.now.stage) c.args.giver.now.limit c.loop-frame.giver
      c.next_frame.new.self so_far.before frame so_far.replies (rw c.in-Some.is at c.in_ok-frame.ensures.sent.given) in
      frames_prefix _ _ _ _ _ so_far.before one.left frame one.all_are one.few so_far.written
      (rw c.deref.ensures.value at c.in_err-write_all.ensures.prefix);
  flushed = search rules;
  failures_never_fall = search rules;
  failed = search rules;
}

pub loop-frame-smaller : goal.loop-frame-smaller
loop-frame-smaller g c =
    let so_far = c.loop-frame.invariant in
    let one = one_replied (reply_left c.args.giver.now.stage) c.args.giver.now.limit c.loop-frame.giver
    c.next_frame.new.self so_far.before c.in-Some.frame.items so_far.replies
    (rw c.in-Some.is at c.in_ok-frame.ensures.sent.given) in
    omega (arith, one.room, one.count, one.limit_is)

pub loop-frame-preserved : goal.loop-frame-preserved
loop-frame-preserved g c =
    let so_far = c.loop-frame.invariant in
    let frame = c.in-Some.frame.items in
    let one = one_replied (reply_left c.args.giver.now.stage) c.args.giver.now.limit c.loop-frame.giver
    c.next_frame.new.self so_far.before frame so_far.replies (rw c.in-Some.is at c.in_ok-frame.ensures.sent.given) in
    record {
      before = so_far.before ++ frame ∷ [];
      replies = one.replies;
      written = subst (Appends _ _) (sym (concat_more so_far.before frame))
          (Appends-trans _ _ _ _ _ so_far.written (rw c.deref.ensures.value at c.in_ok-write_all.ensures.whole));
      source = c.in_ok-frame.ensures.unchanged ∙ so_far.source;
      count = omega (arith, so_far.count, c.in_ok-write_all.ensures.failures_never_fall);
    }

pub returns-in_err-flush-clause-sent : goal.returns-in_err-flush-clause-sent
returns-in_err-flush-clause-sent g c = record {
  whole = search rules;
  few = search rules;
  prefix =
      let so_far = c.loop-frame.invariant in
      prefix_kept _ _ _ _ (frames_before _ _ _ _ so_far.before _ so_far.replies.all_are so_far.replies.few
      so_far.written)
      c.flush.ensures.bytes;
  flushed = search rules;
  failures_never_fall = search rules;
  failed = search rules;
}

pub returns-clause-sent : goal.returns-clause-sent
returns-clause-sent g c = record {
  whole =
      let so_far = c.loop-frame.invariant in
      let all = all_replied (reply_left c.args.giver.now.stage) c.args.giver.now.limit c.loop-frame.giver
      c.next_frame.new.self so_far.before so_far.replies (rw c.in_default.is at c.in_ok-frame.ensures.sent.given) in
      Appends-kept _ _ _ _ (frames_whole _ _ _ so_far.before all so_far.written) c.flush.ensures.bytes;
  few =
      let so_far = c.loop-frame.invariant in
      let all = all_replied (reply_left c.args.giver.now.stage) c.args.giver.now.limit c.loop-frame.giver
      c.next_frame.new.self so_far.before so_far.replies (rw c.in_default.is at c.in_ok-frame.ensures.sent.given) in
      omega (arith, so_far.replies.few, ap length all);
  prefix =
      let so_far = c.loop-frame.invariant in
      prefix_kept _ _ _ _ (frames_before _ _ _ _ so_far.before _ so_far.replies.all_are so_far.replies.few
      so_far.written)
      c.flush.ensures.bytes;
  flushed = search rules;
  failures_never_fall = search rules;
  failed = search rules;
}
