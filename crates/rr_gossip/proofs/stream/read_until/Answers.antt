use Rattle.std.proofs.Common.{◌++◌, ◌≤◌, refl, inl, length, take, arith}
use Rattle.std.proofs.lemmas.List.{length-append, length-take}
use Rattle.std.proofs.lemmas.Result.{err_from_is_err_and}
use Rattle.rr_io.proofs.StreamLemmas.{added_more}
use Rattle.rr_gossip.proofs.stream.read_until.Goals as goal

pub returns-in_err-extend_from_slice-clause-stopped : goal.returns-in_err-extend_from_slice-clause-stopped
returns-in_err-extend_from_slice-clause-stopped g c =
    let before = c.loop-piece.bytes.items in
    let piece = take c.in_ok-given.given c.read_some.new.buf in
    let p = err_from_is_err_and c.from_residual-in_err-extend_from_slice.result
    c.from_residual-in_err-extend_from_slice.ensures.1 in
    let few : length (before ++ piece) ≤ c.args.len =
    omega (
      arith,
      length-append before piece,
      length-take c.in_ok-given.given c.read_some.new.buf,
      c.in_ok-given.ensures.read.bound,
      c.min-most.ensures,
      c.read_some.auto.buf,
      length-take c.min-most.result c.loop-piece.piece,
    ) in
    rw (p.1, p.2) (
      before ++ piece,
      added_more _ _ _ _ _ piece _ c.loop-piece.invariant.read
          c.in_ok-given.ensures.read.bytes.0 refl,
      few,
      inl refl,
    )
