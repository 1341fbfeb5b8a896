use Rattle.std.proofs.Common.{[]}
use Rattle.std.proofs.lemmas.Result.{err_from_is_err_and}
use Rattle.rr_host.proofs.ClockLemmas.{HasGiven-nil}
use Rattle.rr_node.proofs.LineStreamLemmas.{Takes-piece, stops_before, stops_within}
use Rattle.rr_node.proofs.AmongLemmas.{TakesAmong-piece}
use Rattle.rr_node.proofs.line_stream.LineStream.take_piece.Goals as goal

pub returns-then-is_closed-clause-stopped : goal.returns-then-is_closed-clause-stopped
returns-then-is_closed-clause-stopped g c = (
  [],
  HasGiven-nil _,
  λ start came given answered has. stops_before _ start _ came _ answered given has,
)

pub push-requires : goal.push-requires
push-requires g c = record {
  pieces_fit = c.is_closed.ensures c.if-is_closed.false;
  fits = c.requires;
}

pub returns-in_err-push-clause-stopped : goal.returns-in_err-push-clause-stopped
returns-in_err-push-clause-stopped g c =
    let given = err_from_is_err_and c.from_residual.result c.from_residual.ensures.1 in
    rw given.1 (
      [],
      HasGiven-nil _,
      λ start came given answered has. stops_before _ start _ came _ answered given has,
    )

pub returns-in_err-write_lines-clause-stopped : goal.returns-in_err-write_lines-clause-stopped
returns-in_err-write_lines-clause-stopped g c =
    let given = err_from_is_err_and c.from_residual-in_err-write_lines.result
    c.from_residual-in_err-write_lines.ensures.1 in
    let ended = c.in_err-write_lines.ensures.ended in
    rw given.1 (
      ended.0,
      ended.1,
      λ start came given answered has.
          stops_within _ c.push.new.self start _ _ came _ answered given ended.0 c.in_ok-push.ensures ended.2 has,
    )

pub returns-clause-taken : goal.returns-clause-taken
returns-clause-taken g c =
    let served = c.in_ok-write_lines.ensures.served in (
      served.0,
      served.1,
      served.2,
      served.3,
      Takes-piece _ c.push.new.self _ _ _ _ served.0 served.1 c.in_ok-push.ensures served.4,
    )

pub returns-clause-among : goal.returns-clause-among
returns-clause-among g c =
    let served = c.in_ok-write_lines.ensures.among in (
      served.0,
      served.1,
      served.2,
      served.3,
      served.4,
      TakesAmong-piece _ c.push.new.self _ _ _ _ served.0 served.1 served.2 c.in_ok-push.ensures served.5,
    )
