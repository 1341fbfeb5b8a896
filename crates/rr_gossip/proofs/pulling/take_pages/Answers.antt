use Rattle.std.proofs.Common.{rules, ◌++◌, ◌∷◌, [], drop, sym, ap, subst, ◌∙◌, inl, arith, refl}
use Rattle.std.proofs.lemmas.Result.{err_from_is_err_and}
use Rattle.rr_io.specs.Counted.{inner_of}
use Rattle.rr_gossip.specs.Stream.{WasRead}
use Rattle.rr_gossip.specs.declared.fault.GossipFault.TheVariants.{Ended, ReadFailed}
use Rattle.rr_gossip.proofs.ReadLemmas.{nothing_read, piece_more, frame_more, none_taken, frame_taken, puller_stops, takes_of_frame, not_of_frame}
use Rattle.rr_gossip.proofs.StepLemmas.{is_of_frame, puller_moves}
use Rattle.rr_gossip.proofs.pulling.take_pages.Goals as goal

pub loop-frame-init : goal.loop-frame-init
loop-frame-init g c =
    let had = g.R.Read.remaining (inner_of c.args.input.now) in
    let s = g.T.Target.layout c.args.target.now in
    let none = c.new-frame.ensures.items in
    record {
      frames = [];
      read = subst (WasRead [] had had []) (sym none) (nothing_read [] had);
      few = rw none (omega arith);
      cells = [];
      taken = none_taken s c.args.puller.now [];
      joined = g.met.T.Target.joins_none c.args.target.now;
      count = omega arith;
    }

pub returns-in_err-read_frame-clause-stopped : goal.returns-in_err-read_frame-clause-stopped
returns-in_err-read_frame-clause-stopped g c =
    let so_far = c.loop-frame.invariant in
    let p = err_from_is_err_and c.from_residual.result c.from_residual.ensures.1 in
    let off = c.in_err-read_frame.ensures.stopped in
    rw (p.1, p.2) (
      so_far.cells,
      so_far.joined,
      record {
        frames = so_far.frames;
        piece = off.0;
        read = piece_more [] _ _ _ so_far.frames c.loop-frame.frame.items off.0 so_far.read off.1;
        last = c.loop-frame.puller;
        pages = so_far.cells;
        taken = so_far.taken;
        stopped = inl off.2;
        joined = inl refl;
      },
    )

pub returns-in_err-take-clause-stopped : goal.returns-in_err-take-clause-stopped
returns-in_err-take-clause-stopped g c =
    let so_far = c.loop-frame.invariant in
    let s = g.T.Target.layout c.args.target.now in
    let kept = g.met.T.Target.joins_in_map _ _ _ so_far.joined in
    let p = err_from_is_err_and c.from_residual-in_err-take.result c.from_residual-in_err-take.ensures.1 in
    let frame = c.read_frame.new.frame.items in
    let takes = rw (c.content.ensures, c.deref.ensures.value, kept.0) at c.in_err-take.ensures.taken in
    let stops = puller_stops s c.loop-frame.puller c.take.new.self so_far.cells
    (g.T.Target.has_joined c.loop-frame.target c.take.new.target)
    (g.T.Target.has_joined c.args.target.now c.take.new.target) frame _
    (λ es holds. g.met.T.Target.joins_then _ _ _ so_far.cells es so_far.joined holds) c.in_ok-read_frame.ensures.whole
    takes in
    rw (p.1, p.2) (
      stops.1.0,
      stops.1.1,
      record {
        frames = so_far.frames;
        piece = frame;
        read = piece_more [] _ _ _ so_far.frames c.loop-frame.frame.items frame so_far.read
            c.in_ok-read_frame.ensures.reads.read;
        last = c.loop-frame.puller;
        pages = so_far.cells;
        taken = so_far.taken;
        stopped = stops.0;
        joined = stops.1.2;
      },
    )

pub returns-in_err-take-clause-stream : goal.returns-in_err-take-clause-stream
returns-in_err-take-clause-stream g c = record {
  ended =
      λ e.
      let p = err_from_is_err_and c.from_residual-in_err-take.result c.from_residual-in_err-take.ensures.1 in
      not_of_frame c.from_residual-in_err-take.result p.0 Ended
      (ap is_of_frame p.2 ∙ takes_of_frame _ c.loop-frame.puller c.take.new.self _ _ _ c.in_err-take.ensures.taken)
      refl p.1 e;
  failures_never_fall = search rules;
  failed =
      λ e.
      let p = err_from_is_err_and c.from_residual-in_err-take.result c.from_residual-in_err-take.ensures.1 in
      not_of_frame c.from_residual-in_err-take.result p.0 ReadFailed
      (ap is_of_frame p.2 ∙ takes_of_frame _ c.loop-frame.puller c.take.new.self _ _ _ c.in_err-take.ensures.taken)
      refl p.1 e;
}

pub returns-then-branch-clause-pulled : goal.returns-then-branch-clause-pulled
returns-then-branch-clause-pulled g c =
    let so_far = c.loop-frame.invariant in
    let s = g.T.Target.layout c.args.target.now in
    let kept = g.met.T.Target.joins_in_map _ _ _ so_far.joined in
    let frame = c.read_frame.new.frame.items in
    let takes = rw (c.content.ensures, c.deref.ensures.value, kept.0) at c.in_ok-take.ensures.taken in
    let moves = puller_moves s c.loop-frame.puller c.take.new.self (drop 4 frame) takes.0 c.in_ok-take.field-0
    takes.1 in (
      so_far.cells ++ takes.0,
      g.met.T.Target.joins_then _ _ _ so_far.cells takes.0 so_far.joined takes.2,
      record {
        frames = so_far.frames ++ frame ∷ [];
        read = frame_more [] _ _ _ so_far.frames c.loop-frame.frame.items frame so_far.read
            c.in_ok-read_frame.ensures.reads.read c.in_ok-read_frame.ensures.whole;
        last = c.take.new.self;
        taken = frame_taken s c.args.puller.now c.loop-frame.puller c.take.new.self [] so_far.cells so_far.frames frame
            takes.0 c.in_ok-take.field-0 so_far.taken takes.1;
        done = (moves.done c.if-branch.true).0;
      },
    )

pub loop-frame-smaller : goal.loop-frame-smaller
loop-frame-smaller g c =
    let takes = c.in_ok-take.ensures.taken in
    let moves = puller_moves _ c.loop-frame.puller c.take.new.self _ takes.0 c.in_ok-take.field-0 takes.1 in
    omega (arith, moves.room, moves.taken, moves.limit)

pub loop-frame-preserved : goal.loop-frame-preserved
loop-frame-preserved g c =
    let so_far = c.loop-frame.invariant in
    let s = g.T.Target.layout c.args.target.now in
    let kept = g.met.T.Target.joins_in_map _ _ _ so_far.joined in
    let frame = c.read_frame.new.frame.items in
    let takes = rw (c.content.ensures, c.deref.ensures.value, kept.0) at c.in_ok-take.ensures.taken in
    let none = c.clear.ensures.items in
    record {
      frames = so_far.frames ++ frame ∷ [];
      read = subst (WasRead [] _ _ (so_far.frames ++ frame ∷ [])) (sym none)
          (frame_more [] _ _ _ so_far.frames c.loop-frame.frame.items frame so_far.read
          c.in_ok-read_frame.ensures.reads.read
          c.in_ok-read_frame.ensures.whole);
      few = rw none (omega arith);
      cells = so_far.cells ++ takes.0;
      taken = frame_taken s c.args.puller.now c.loop-frame.puller c.take.new.self [] so_far.cells so_far.frames frame
          takes.0 c.in_ok-take.field-0 so_far.taken takes.1;
      joined = g.met.T.Target.joins_then _ _ _ so_far.cells takes.0 so_far.joined takes.2;
      count = omega (arith, so_far.count, c.in_ok-read_frame.ensures.reads.stream.failures_never_fall);
    }
