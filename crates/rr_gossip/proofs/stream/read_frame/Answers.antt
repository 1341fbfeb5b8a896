use Rattle.std.proofs.lemmas.Result.{err_from_is_err_and}
use Rattle.rr_io.specs.Counted.{inner_of}
use Rattle.rr_gossip.proofs.StreamLemmas.{breaks_off_length, breaks_off_long, frame_after, off_after}
use Rattle.rr_gossip.proofs.stream.read_frame.Goals as goal

pub returns-in_err-read_until-clause-stopped : goal.returns-in_err-read_until-clause-stopped
returns-in_err-read_until-clause-stopped g c =
    let p = err_from_is_err_and c.from_residual.result c.from_residual.ensures.1 in
    let s = c.in_err-read_until.ensures.stopped in
    rw (p.1, p.2) (s.0, s.1, breaks_off_length s.0 _ s.2 s.3)

pub returns-then-len-gt-MAX_FRAME_LEN-clause-stopped : goal.returns-then-len-gt-MAX_FRAME_LEN-clause-stopped
returns-then-len-gt-MAX_FRAME_LEN-clause-stopped g c =
    let is = rw c.deref.ensures.value at c.content_len-len.ensures in (
      c.read_until.new.bytes.items,
      c.in_ok-read_until.ensures.reads.read,
      breaks_off_long c.read_until.new.bytes.items c.content_len-len.result is c.if-len-gt-MAX_FRAME_LEN.true,
    )

pub returns-clause-whole : goal.returns-clause-whole
returns-clause-whole g c =
    let is = rw c.deref.ensures.value at c.content_len-len.ensures in
    frame_after (g.R.Read.remaining (inner_of c.read_until.new.input))
    (g.R.Read.remaining (inner_of c.read_until-2.new.input)) c.read_until.new.bytes.items c.content_len-len.result
    c.in_ok-read_until.ensures.whole is c.if-len-gt-MAX_FRAME_LEN.false
    c.read_until-2.result c.read_until-2.new.bytes.items c.read_until-2.ensures.reads.read c.read_until-2.ensures.whole

pub returns-clause-stopped : goal.returns-clause-stopped
returns-clause-stopped g c =
    let is = rw c.deref.ensures.value at c.content_len-len.ensures in
    off_after (g.R.Read.remaining (inner_of c.args.input.now)) (g.R.Read.remaining (inner_of c.read_until.new.input))
    (g.R.Read.remaining (inner_of c.read_until-2.new.input)) c.args.frame.now.items c.read_until.new.bytes.items
    c.content_len-len.result c.in_ok-read_until.ensures.whole is c.if-len-gt-MAX_FRAME_LEN.false
    c.in_ok-read_until.ensures.reads.read c.read_until-2.result c.read_until-2.ensures.stopped
