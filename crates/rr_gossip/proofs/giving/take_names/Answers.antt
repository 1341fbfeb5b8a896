use Rattle.std.proofs.Common.{rules, ◌++◌, ◌∷◌, [], drop, refl, sym, ap, subst, ◌∙◌, inl, inr, arith}
use Rattle.std.proofs.lemmas.Result.{err_from_is_err_and}
use Rattle.rr_io.specs.Counted.{inner_of}
use Rattle.rr_gossip.specs.Giver.{AreFit}
use Rattle.rr_gossip.specs.Stream.{WasRead}
use Rattle.rr_gossip.specs.declared.fault.GossipFault.TheVariants.{Ended, Memory, ReadFailed}
use Rattle.rr_gossip.proofs.HeardLemmas.{none_heard, frame_heard, giver_moves, giver_stops, hears_of_frame}
use Rattle.rr_gossip.proofs.ReadLemmas.{nothing_read, piece_more, frame_more, not_of_frame}
use Rattle.rr_gossip.proofs.StepLemmas.{is_of_frame}
use Rattle.rr_gossip.proofs.StreamLemmas.{breaks_off_length}
use Rattle.rr_gossip.proofs.giving.take_names.Goals as goal

pub loop-frame-init : goal.loop-frame-init
loop-frame-init g c =
    let before = c.args.before.now in
    let had = g.R.Read.remaining (inner_of c.args.input.now) in
    let same = c.in_ok-frame.ensures.items in
    record {
      frames = [];
      read = subst (WasRead before had had []) (sym same) (nothing_read before had);
      few = rw same c.requires;
      taken = λ m. none_heard m (g.S.Source.layout c.args.source.now) c.args.giver.now;
      schema = refl;
      kept = g.met.S.Source.may_stay c.args.source.now;
      sent = refl;
      limit = refl;
      count = omega arith;
    }

pub returns-in_err-frame : goal.returns-in_err-frame
returns-in_err-frame g c = record {
  stopped =
      let before = c.args.before.now in
      let p = err_from_is_err_and c.from_residual.result c.from_residual.ensures.1 in
      rw (p.1, p.2)
      (record {
        frames = [];
        piece = before;
        read = nothing_read before (g.R.Read.remaining (inner_of c.args.input.now));
        last = c.args.giver.now;
        taken = none_heard (g.S.Source.cells c.args.source.now) (g.S.Source.layout c.args.source.now) c.args.giver.now;
        stopped = inl (breaks_off_length before Memory c.requires (inl refl));
      });
  heard = search rules;
  source = search rules;
  sent = search rules;
  limit = search rules;
  stream = search rules;
}

pub returns-in_err-read_frame : goal.returns-in_err-read_frame
returns-in_err-read_frame g c = record {
  stopped =
      let so_far = c.loop-frame.invariant in
      let p = err_from_is_err_and c.from_residual-in_err-read_frame.result
      c.from_residual-in_err-read_frame.ensures.1 in
      let off = c.in_err-read_frame.ensures.stopped in
      rw (p.1, p.2)
      (record {
        frames = so_far.frames;
        piece = off.0;
        read = piece_more c.args.before.now _ _ _ so_far.frames c.loop-frame.frame.items off.0 so_far.read off.1;
        last = c.loop-frame.giver;
        taken = so_far.taken (g.S.Source.cells c.loop-frame.source);
        stopped = inl off.2;
      });
  heard = search rules;
  source = search rules;
  sent = search rules;
  limit = search rules;
  stream = search rules;
}

pub returns-in_err-take : goal.returns-in_err-take
returns-in_err-take g c = record {
  stopped =
      let so_far = c.loop-frame.invariant in
      let p = err_from_is_err_and c.from_residual-in_err-take.result c.from_residual-in_err-take.ensures.1 in
      let frame = c.read_frame.new.frame.items in
      let m = g.S.Source.cells c.take.new.source in
      let takes = rw (c.content.ensures, c.deref.ensures.value, so_far.schema) at c.in_err-take.ensures.takes.taken in
      rw (p.1, p.2)
      (record {
        frames = so_far.frames;
        piece = frame;
        read = piece_more c.args.before.now _ _ _ so_far.frames c.loop-frame.frame.items frame so_far.read
            c.in_ok-read_frame.ensures.reads.read;
        last = c.loop-frame.giver;
        taken = so_far.taken m;
        stopped = inr (giver_stops m (g.S.Source.layout c.args.source.now) c.loop-frame.giver frame _
            c.in_ok-read_frame.ensures.whole takes);
      });
  stream = record {
    ended =
        λ e.
        let p = err_from_is_err_and c.from_residual-in_err-take.result c.from_residual-in_err-take.ensures.1 in
        not_of_frame c.from_residual-in_err-take.result p.0 Ended
        (ap is_of_frame p.2 ∙ hears_of_frame _ _ c.loop-frame.giver _ _ c.in_err-take.ensures.takes.taken) refl p.1 e;
    failures_never_fall = search rules;
    failed =
        λ e.
        let p = err_from_is_err_and c.from_residual-in_err-take.result c.from_residual-in_err-take.ensures.1 in
        not_of_frame c.from_residual-in_err-take.result p.0 ReadFailed
        (ap is_of_frame p.2 ∙ hears_of_frame _ _ c.loop-frame.giver _ _ c.in_err-take.ensures.takes.taken) refl p.1 e;
  };
  heard = search rules;
  source = search rules;
  sent = search rules;
  limit = search rules;
}

pub returns-then-branch : goal.returns-then-branch
returns-then-branch g c = record {
  heard =
      let so_far = c.loop-frame.invariant in
      let s = g.S.Source.layout c.args.source.now in
      let m = g.S.Source.cells c.take.new.source in
      let frame = c.read_frame.new.frame.items in
      let takes = rw (c.content.ensures, c.deref.ensures.value, so_far.schema) at c.in_ok-take.ensures.takes.taken in
      let moves = giver_moves m s c.loop-frame.giver c.take.new.self (drop 4 frame) c.in_ok-take.field-0 takes in
      let done = moves.done c.if-branch.true in
      record {
        frames = so_far.frames ++ frame ∷ [];
        read = frame_more c.args.before.now _ _ _ so_far.frames c.loop-frame.frame.items frame so_far.read
            c.in_ok-read_frame.ensures.reads.read c.in_ok-read_frame.ensures.whole;
        taken = frame_heard m s c.args.giver.now c.loop-frame.giver c.take.new.self so_far.frames frame
            c.in_ok-take.field-0 (so_far.taken m) takes;
        names = done.0;
        giving = done.1;
        fits = subst AreFit done.1 c.in_ok-take.ensures.takes.fit;
      };
  sent =
      (giver_moves _ _ c.loop-frame.giver c.take.new.self _ c.in_ok-take.field-0 c.in_ok-take.ensures.takes.taken).sent
      ∙ c.loop-frame.invariant.sent;
  limit =
      (giver_moves _ _ c.loop-frame.giver c.take.new.self _ c.in_ok-take.field-0 c.in_ok-take.ensures.takes.taken).limit
      ∙ c.loop-frame.invariant.limit;
  stopped = search rules;
  source = search rules;
  stream = search rules;
}

pub loop-frame-smaller : goal.loop-frame-smaller
loop-frame-smaller g c =
    let moves = giver_moves _ _ c.loop-frame.giver c.take.new.self _ c.in_ok-take.field-0
    c.in_ok-take.ensures.takes.taken in
    omega (arith, moves.room, moves.taken, moves.limit)

pub loop-frame-preserved : goal.loop-frame-preserved
loop-frame-preserved g c =
    let so_far = c.loop-frame.invariant in
    let s = g.S.Source.layout c.args.source.now in
    let m = g.S.Source.cells c.take.new.source in
    let frame = c.read_frame.new.frame.items in
    let takes = rw (c.content.ensures, c.deref.ensures.value, so_far.schema) at c.in_ok-take.ensures.takes.taken in
    let moves = giver_moves m s c.loop-frame.giver c.take.new.self (drop 4 frame) c.in_ok-take.field-0 takes in
    let none = c.clear.ensures.items in
    record {
      frames = so_far.frames ++ frame ∷ [];
      read = subst (WasRead c.args.before.now _ _ (so_far.frames ++ frame ∷ [])) (sym none)
          (frame_more c.args.before.now _ _ _ so_far.frames c.loop-frame.frame.items frame so_far.read
          c.in_ok-read_frame.ensures.reads.read c.in_ok-read_frame.ensures.whole);
      few = rw none (omega arith);
      taken = λ n. frame_heard n s c.args.giver.now c.loop-frame.giver c.take.new.self so_far.frames frame _
          (so_far.taken n) (moves.going c.if-branch.false n);
      schema = c.in_ok-take.ensures.takes.source.schema ∙ so_far.schema;
      kept = g.met.S.Source.may_go_on _ _ _ so_far.kept c.in_ok-take.ensures.takes.source.becomes;
      sent = moves.sent ∙ so_far.sent;
      limit = moves.limit ∙ so_far.limit;
      count = omega (arith, so_far.count, c.in_ok-read_frame.ensures.reads.stream.failures_never_fall);
    }
