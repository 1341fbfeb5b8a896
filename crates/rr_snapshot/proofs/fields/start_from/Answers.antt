use Rattle.std.proofs.Common.{rules, ◌≡◌, ◌≤◌, take, length, arith, inr}
use Rattle.std.proofs.lemmas.List.{length-take}
use Rattle.std.proofs.lemmas.Result.{err_from_is_err_and}
use Rattle.rr_io.specs.Counted.{inner_of}
use Rattle.rr_snapshot.specs.SnapshotReading.{start_at}
use Rattle.rr_snapshot.proofs.PieceLemmas.{piece_ok, piece_err, ReadsPrefix-start, HasWidth-start}
use Rattle.rr_snapshot.proofs.fields.start_from.Goals as goal

pub returns-clause-read : goal.returns-clause-read
returns-clause-read g c =
    let s = c.args.schema.now in
    let buf = c.fill.new.buf in
    let made : length buf ≡ 10 = search rules in
    let few : length (take c.in_ok-got.got buf) ≤ 10 =
    omega (arith, length-take c.in_ok-got.got buf, made, c.in_ok-got.ensures.bound) in
    piece_ok 10 (start_at s) (ReadsPrefix-start s) (HasWidth-start s) (take c.in_ok-got.got buf) few
    (g.R.Read.remaining (inner_of c.args.input.now)) (g.R.Read.remaining (inner_of c.fill.new.input))
    (c.in_ok-version.version, c.in_ok-version.number) _ c.in_ok-got.ensures.bytes
    c.in_ok-version.ensures.found.read

pub returns-in_err-version-clause-read : goal.returns-in_err-version-clause-read
returns-in_err-version-clause-read g c =
    let s = c.args.schema.now in
    let buf = c.fill.new.buf in
    let made : length buf ≡ 10 = search rules in
    let got_len = length-take c.in_ok-got.got buf in
    let few : length (take c.in_ok-got.got buf) ≤ 10 = omega (arith, got_len, made, c.in_ok-got.ensures.bound) in
    let p = err_from_is_err_and c.from_residual-in_err-version.result c.from_residual-in_err-version.ensures.1 in
    rw (p.1, p.2)
    (inr (inr (piece_err 10 (start_at s) (ReadsPrefix-start s) (HasWidth-start s) (take c.in_ok-got.got buf) few
    (g.R.Read.remaining (inner_of c.args.input.now)) (g.R.Read.remaining (inner_of c.fill.new.input)) _
    c.in_ok-got.ensures.bytes
    (λ lt. c.in_ok-got.ensures.end (omega (arith, got_len, made, c.in_ok-got.ensures.bound, lt)))
    c.in_err-version.ensures.found.read)))
