use Rattle.std.proofs.Common.{rules, ◌≡◌, ◌≤◌, take, length, arith, inr}
use Rattle.std.specs.Int.{w32}
use Rattle.std.proofs.lemmas.List.{length-take}
use Rattle.std.proofs.lemmas.Result.{err_from_is_err_and}
use Rattle.rr_io.specs.Counted.{inner_of}
use Rattle.rr_page.specs.Reading.{number_at}
use Rattle.rr_page.proofs.PrefixLemmas.{ReadsPrefix-number}
use Rattle.rr_snapshot.proofs.PieceLemmas.{piece_ok, piece_err}
use Rattle.rr_snapshot.proofs.WidthLemmas.{HasWidth-number}
use Rattle.rr_snapshot.proofs.fields.count_from.Goals as goal

pub returns-clause-read : goal.returns-clause-read
returns-clause-read g c =
    let buf = c.fill.new.buf in
    let made : length buf ≡ 4 = search rules in
    let few : length (take c.in_ok-got.got buf) ≤ 4 =
    omega (arith, length-take c.in_ok-got.got buf, made, c.in_ok-got.ensures.bound) in
    piece_ok 4 (number_at w32) (ReadsPrefix-number w32) (HasWidth-number w32) (take c.in_ok-got.got buf) few
    (g.R.Read.remaining (inner_of c.args.input.now)) (g.R.Read.remaining (inner_of c.fill.new.input))
    c.in_ok-count.count _ c.in_ok-got.ensures.bytes c.in_ok-count.ensures.read

pub returns-in_err-count-clause-read : goal.returns-in_err-count-clause-read
returns-in_err-count-clause-read g c =
    let buf = c.fill.new.buf in
    let made : length buf ≡ 4 = search rules in
    let got_len = length-take c.in_ok-got.got buf in
    let few : length (take c.in_ok-got.got buf) ≤ 4 = omega (arith, got_len, made, c.in_ok-got.ensures.bound) in
    let p = err_from_is_err_and c.from_residual-in_err-count.result c.from_residual-in_err-count.ensures.1 in
    rw (p.1, p.2)
    (inr (inr (piece_err 4 (number_at w32) (ReadsPrefix-number w32) (HasWidth-number w32) (take c.in_ok-got.got buf) few
    (g.R.Read.remaining (inner_of c.args.input.now)) (g.R.Read.remaining (inner_of c.fill.new.input)) _
    c.in_ok-got.ensures.bytes
    (λ lt. c.in_ok-got.ensures.end (omega (arith, got_len, made, c.in_ok-got.ensures.bound, lt)))
    c.in_err-count.ensures.read)))
