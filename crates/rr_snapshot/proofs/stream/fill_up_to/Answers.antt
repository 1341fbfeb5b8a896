use Rattle.std.proofs.Common.{◌-◌, take, arith, rules}
use Rattle.rr_snapshot.proofs.StreamLemmas.{filled_more}
use Rattle.rr_snapshot.proofs.stream.fill_up_to.Goals as goal

pub returns : goal.returns
returns g c = record {
  bytes = (
    take c.in_ok-more.more c.fill.new.buf,
    filled_more c.args.buffer.now c.fill.new.buf c.args.filled
        (c.args.len - c.args.filled) c.in_ok-more.more (omega (arith, c.requires.filled_before, c.requires.room))
        c.in_ok-more.ensures.bound,
    c.in_ok-more.ensures.bytes,
  );
  more = search rules;
  end = search rules;
  buffer_len = search rules;
  stream = search rules;
}
