use Rattle.std.proofs.Common.{◌≡◌, ◌-◌, ◌≤◌, ◌++◌, length, drop, take, arith, rules, length-drop, length-take-le}
use Rattle.std.proofs.KnownBytes.{Consumes-trans}
use Rattle.rr_io.proofs.StreamLemmas.{filled_more}
use Rattle.std.proofs.lemmas.List.{length-append, length-take}
use borrow.Rule.Slice.PartMut.{same_len_mid}
use Rattle.rr_io.proofs.stream.fill.Goals as goal

pub loop-filled-preserved : goal.loop-filled-preserved
loop-filled-preserved g c =
    let old = c.loop-filled.buf in
    let new = c.read_some.new.buf in
    let at = c.loop-filled.filled in
    let given = c.in_ok-given.given in
    let bound : given ≤ length new = c.in_ok-given.ensures.read.bound.0 in
    let part = length-take-le (length old - at) (drop at old) (omega (arith, length-drop at old)) in
    let same = same_len_mid at (length old - at) old new (c.read_some.auto.buf) in
    let prefix = filled_more old new at given (omega arith) bound in
    let taken = Consumes-trans _ _ _ _ _ c.loop-filled.invariant.taken (c.in_ok-given.ensures.read.bytes.0) in
    record {
      within = omega (arith, same, part, c.read_some.auto.buf);
      taken = rw (prefix) taken;
      count = search rules;
    }

pub returns-then-given-eq0-clause-stream : goal.returns-then-given-eq0-clause-stream
returns-then-given-eq0-clause-stream g c = record {
  prefix = search rules;
  most =
      let old = c.loop-filled.buf in
      let new = c.read_some.new.buf in
      let at = c.loop-filled.filled in
      let given = c.in_ok-given.given in
      let none : given ≡ 0 = c.if-given-eq0.true in
      let same = same_len_mid at (length old - at) old new (c.read_some.auto.buf) in (
        take at old ++ take given new,
        omega (
          arith,
          none,
          same,
          length-take at old,
          length-take given new,
          length-append (take at old) (take given new),
          c.loop-filled.invariant.within,
        ),
        Consumes-trans _ _ _ _ _ c.loop-filled.invariant.taken c.in_ok-given.ensures.read.bytes.0,
      );
  failures_never_fall = search rules;
  failed = search rules;
}
