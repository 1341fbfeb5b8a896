use Rattle.std.proofs.Common.{◌++◌, take, rules}
use Rattle.std.proofs.KnownBytes.{Appends-trans}
use Rattle.rr_io.proofs.StreamLemmas.{written_more}
use Rattle.rr_io.proofs.stream.write_all.Goals as goal

pub loop-rest-preserved : goal.loop-rest-preserved
loop-rest-preserved g c =
    let w = c.loop-rest.invariant.written in
    record {
      written = (
        w.0 ++ take c.in_ok-taken.taken c.loop-rest.rest.now,
        written_more _ w.0 c.loop-rest.rest.now c.in_ok-taken.taken w.1,
        Appends-trans _ _ _ _ _ w.2 c.in_ok-taken.ensures.written.bytes,
      );
      count = search rules;
    }
