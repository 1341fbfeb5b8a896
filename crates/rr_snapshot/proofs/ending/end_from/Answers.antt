use Rattle.std.proofs.Common.{rules, ◌≡◌, take, length, arith, inr}
use Rattle.std.proofs.lemmas.List.{length-take}
use Rattle.rr_io.specs.Counted.{inner_of}
use Rattle.rr_snapshot.proofs.ChainLemmas.{bytes_left, none_left_over}
use Rattle.rr_snapshot.proofs.ending.end_from.Goals as goal

pub returns-then-got-gt0-clause-read : goal.returns-then-got-gt0-clause-read
returns-then-got-gt0-clause-read g c =
    let buf = c.fill.new.buf in
    let some = c.if-got-gt0.true in
    inr (inr (bytes_left (g.R.Read.remaining (inner_of c.args.input.now))
    (g.R.Read.remaining (inner_of c.fill.new.input)) (take c.in_ok-got.got buf) c.in_ok-got.ensures.bytes
    (omega (arith, some, length-take c.in_ok-got.got buf, c.in_ok-got.ensures.bound))))

pub returns-clause-read : goal.returns-clause-read
returns-clause-read g c =
    let buf = c.fill.new.buf in
    let made : length buf ≡ 1 = search rules in
    let none = c.if-got-gt0.false in
    none_left_over (g.R.Read.remaining (inner_of c.args.input.now)) (g.R.Read.remaining (inner_of c.fill.new.input))
    (take c.in_ok-got.got buf) c.in_ok-got.ensures.bytes (omega (arith, none, length-take c.in_ok-got.got buf))
    (c.in_ok-got.ensures.end (omega (arith, none, made)))
