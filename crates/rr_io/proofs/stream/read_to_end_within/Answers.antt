use Rattle.std.proofs.Common.{rules, ◌<◌, ◌∙◌, take, length, arith}
use Rattle.std.proofs.KnownBytes.{Consumes-trans}
use Rattle.std.proofs.lemmas.List.{length-take}
use Rattle.rr_io.proofs.StreamLemmas.{added_more, prefix_of_added}
use Rattle.rr_io.proofs.stream.read_to_end_within.Goals as goal

pub returns-in_err-extend_from_slice : goal.returns-in_err-extend_from_slice
returns-in_err-extend_from_slice g c = record {
  whole = search rules;
  consumed = search rules;
  prefix = prefix_of_added _ _ _ _ _ c.loop.invariant.added c.in_err-extend_from_slice.ensures.items;
  failures_never_fall = search rules;
  limit = search rules;
  failed = search rules;
  too_many = search rules;
  no_end = search rules;
  memory = λ e.
      let added = c.loop.invariant.added in
      let read = rw c.in-Some.is at c.in_ok-given.ensures.bytes in
      let buf = c.read_once.new.buf in
      let given = c.in-Some.given in
      let some : 0 < length (take given buf) = omega (arith, length-take given buf, read.0, c.if-given-eq0.false) in (
        added.0,
        take given buf,
        c.in_err-extend_from_slice.ensures.items ∙ added.1,
        some,
        Consumes-trans _ _ _ added.0 (take given buf) added.2 read.1,
      );
}

pub returns-then-given-eq0 : goal.returns-then-given-eq0
returns-then-given-eq0 g c = record {
  whole = search rules;
  consumed = search rules;
  prefix = search rules;
  failures_never_fall = search rules;
  limit = search rules;
  failed = search rules;
  too_many = search rules;
  no_end = search rules;
  memory = search rules;
}

pub loop-preserved : goal.loop-preserved
loop-preserved g c =
    let read = rw c.in-Some.is at c.in_ok-given.ensures.bytes in
    record {
      added = added_more _ _ _ _ _ _ _ c.loop.invariant.added read.1 c.in_ok-extend_from_slice.ensures.items;
      count = search rules;
      reads = search rules;
      ends = search rules;
    }
