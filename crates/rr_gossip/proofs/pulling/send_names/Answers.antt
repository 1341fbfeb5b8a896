use Rattle.std.proofs.Common.{rules, ◌++◌, ◌∷◌, [], length, sym, ap, subst, ◌∙◌, arith}
use Rattle.std.specs.Io.KnownBytes.{Appends}
use Rattle.std.proofs.KnownBytes.{Appends-kept, Appends-nil, Appends-trans}
use Rattle.std.proofs.lemmas.Result.{err_from_is_err_and}
use Rattle.rr_io.proofs.StreamLemmas.{prefix_kept}
use Rattle.rr_gossip.proofs.SendLemmas.{all_sent, cannot_send, concat_more, first_sends, frames_before, frames_prefix, frames_whole, not_written, one_sent}
use Rattle.rr_gossip.proofs.StepLemmas.{err_is}
use Rattle.rr_gossip.proofs.pulling.send_names.Goals as goal

pub loop-frame-init : goal.loop-frame-init
loop-frame-init g c =
    let m = g.T.Target.cells c.args.target.now in
    let s = g.T.Target.layout c.args.target.now in
    record {
      before = [];
      sends = first_sends m s c.args.puller.now c.requires;
      written = Appends-nil _;
      count =
          omega arith;
    }

pub returns-in_err-frame-clause-sent : goal.returns-in_err-frame-clause-sent
returns-in_err-frame-clause-sent g c = record {
  whole = search rules;
  few = search rules;
  prefix =
      let so_far = c.loop-frame.invariant in
      frames_before _ _ _ _ so_far.before _ so_far.sends.all so_far.sends.few so_far.written;
  flushed = search rules;
  failures_never_fall = search rules;
  failed =
      λ e.
      let m = g.T.Target.cells c.args.target.now in
      let s = g.T.Target.layout c.args.target.now in
      let p = err_from_is_err_and c.from_residual.result c.from_residual.ensures.1 in
      absurd (not_written m s c.loop-frame.puller c.in_err-frame.field-0.0 c.in_err-frame.ensures.given
      (sym p.2 ∙ err_is {A = Unit {0}} p.0 _ (sym p.1 ∙ e)));
}

pub returns-in_err-frame-clause-refused : goal.returns-in_err-frame-clause-refused
returns-in_err-frame-clause-refused g c =
    let so_far = c.loop-frame.invariant in
    let m = g.T.Target.cells c.args.target.now in
    let s = g.T.Target.layout c.args.target.now in
    let p = err_from_is_err_and c.from_residual.result c.from_residual.ensures.1 in
    rw (p.1, p.2) (cannot_send m s c.args.puller.now.limit c.loop-frame.puller so_far.before c.in_err-frame.field-0.0
    so_far.sends c.in_err-frame.ensures.given)

pub returns-in_err-write_all-clause-sent : goal.returns-in_err-write_all-clause-sent
returns-in_err-write_all-clause-sent g c = record {
  whole = search rules;
  few = search rules;
  prefix =
      let so_far = c.loop-frame.invariant in
      let m = g.T.Target.cells c.args.target.now in
      let s = g.T.Target.layout c.args.target.now in
      let frame = c.in-Some.frame.items in
      let one = one_sent m s c.args.puller.now.limit c.loop-frame.puller c.next_frame.new.self so_far.before frame
      so_far.sends (rw c.in-Some.is at c.in_ok-frame.ensures.given) in
      frames_prefix _ _ _ _ _ so_far.before one.left frame one.all one.few so_far.written
      (rw c.deref.ensures.value at c.in_err-write_all.ensures.prefix);
  flushed = search rules;
  failures_never_fall = search rules;
  failed = search rules;
}

pub loop-frame-smaller : goal.loop-frame-smaller
loop-frame-smaller g c =
    let so_far = c.loop-frame.invariant in
    let m = g.T.Target.cells c.args.target.now in
    let s = g.T.Target.layout c.args.target.now in
    let one = one_sent m s c.args.puller.now.limit c.loop-frame.puller c.next_frame.new.self so_far.before
    c.in-Some.frame.items so_far.sends (rw c.in-Some.is at c.in_ok-frame.ensures.given) in
    omega (arith, one.room, one.count, one.limit_is)

pub loop-frame-preserved : goal.loop-frame-preserved
loop-frame-preserved g c =
    let so_far = c.loop-frame.invariant in
    let m = g.T.Target.cells c.args.target.now in
    let s = g.T.Target.layout c.args.target.now in
    let frame = c.in-Some.frame.items in
    let one = one_sent m s c.args.puller.now.limit c.loop-frame.puller c.next_frame.new.self so_far.before frame
    so_far.sends (rw c.in-Some.is at c.in_ok-frame.ensures.given) in
    record {
      before = so_far.before ++ frame ∷ [];
      sends = one.sends;
      written = subst (Appends _ _) (sym (concat_more so_far.before frame))
          (Appends-trans _ _ _ _ _ so_far.written (rw c.deref.ensures.value at c.in_ok-write_all.ensures.whole));
      count = omega (arith, so_far.count, c.in_ok-write_all.ensures.failures_never_fall);
    }

pub returns-in_err-flush-clause-sent : goal.returns-in_err-flush-clause-sent
returns-in_err-flush-clause-sent g c = record {
  whole = search rules;
  few = search rules;
  prefix =
      let so_far = c.loop-frame.invariant in
      prefix_kept _ _ _ _ (frames_before _ _ _ _ so_far.before _ so_far.sends.all so_far.sends.few so_far.written)
      c.flush.ensures.bytes;
  flushed = search rules;
  failures_never_fall = search rules;
  failed = search rules;
}

pub returns-clause-sent : goal.returns-clause-sent
returns-clause-sent g c = record {
  whole =
      let so_far = c.loop-frame.invariant in
      let m = g.T.Target.cells c.args.target.now in
      let s = g.T.Target.layout c.args.target.now in
      let all = all_sent m s c.args.puller.now.limit c.loop-frame.puller c.next_frame.new.self so_far.before
      so_far.sends
      (rw c.in_default.is at c.in_ok-frame.ensures.given) in
      Appends-kept _ _ _ _ (frames_whole _ _ _ so_far.before all.0 so_far.written) c.flush.ensures.bytes;
  few =
      let so_far = c.loop-frame.invariant in
      let m = g.T.Target.cells c.args.target.now in
      let s = g.T.Target.layout c.args.target.now in
      let all = all_sent m s c.args.puller.now.limit c.loop-frame.puller c.next_frame.new.self so_far.before
      so_far.sends
      (rw c.in_default.is at c.in_ok-frame.ensures.given) in
      omega (arith, so_far.sends.few, ap length all.0);
  prefix =
      let so_far = c.loop-frame.invariant in
      prefix_kept _ _ _ _ (frames_before _ _ _ _ so_far.before _ so_far.sends.all so_far.sends.few so_far.written)
      c.flush.ensures.bytes;
  flushed = search rules;
  failures_never_fall = search rules;
  failed = search rules;
}

pub returns-clause-waits : goal.returns-clause-waits
returns-clause-waits g c =
    let so_far = c.loop-frame.invariant in
    let m = g.T.Target.cells c.args.target.now in
    let s = g.T.Target.layout c.args.target.now in
    (all_sent m s c.args.puller.now.limit c.loop-frame.puller c.next_frame.new.self so_far.before so_far.sends
    (rw c.in_default.is at c.in_ok-frame.ensures.given)).1
