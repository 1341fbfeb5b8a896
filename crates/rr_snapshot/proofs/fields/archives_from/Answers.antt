use Rattle.std.proofs.Common.{rules, ◌≡◌, ◌+◌, ◌*◌, ◌≤◌, take, length, arith, inr, subst, sym}
use Rattle.std.specs.Io.KnownBytes.{Consumes}
use Rattle.std.proofs.lemmas.List.{length-take}
use Rattle.std.proofs.lemmas.Result.{err_from_is_err_and}
use Rattle.rr_io.specs.Counted.{inner_of}
use Rattle.rr_snapshot.specs.SnapshotReading.{archives_at}
use Rattle.rr_snapshot.proofs.PieceLemmas.{piece_ok, piece_err, ReadsPrefix-archives, HasWidth-archives}
use Rattle.rr_snapshot.proofs.fields.archives_from.Goals as goal

pub returns-clause-read : goal.returns-clause-read
returns-clause-read g c =
    let v = c.args.version in
    let s = c.args.schema.now in
    let n = c.args.number in
    let buf = c.fill_up_to.new.buffer in
    let most = c.in_ok-got.ensures.more.1 in
    let few : length (take c.in_ok-got.got buf) ≤ 9 * n + 2 = omega (arith, length-take c.in_ok-got.got buf, most) in
    let took = c.in_ok-got.ensures.bytes in
    piece_ok (9 * n + 2) (archives_at v s n) (ReadsPrefix-archives v s n) (HasWidth-archives v s n)
    (take c.in_ok-got.got buf) few (g.R.Read.remaining (inner_of c.args.input.now))
    (g.R.Read.remaining (inner_of c.fill_up_to.new.input)) (c.in_ok-addition.addition, c.in_ok-addition.origin) _
    (subst (Consumes _ _) (sym took.1) took.2) c.in_ok-addition.ensures.found.read

pub returns-in_err-addition-clause-read : goal.returns-in_err-addition-clause-read
returns-in_err-addition-clause-read g c =
    let v = c.args.version in
    let s = c.args.schema.now in
    let n = c.args.number in
    let buf = c.fill_up_to.new.buffer in
    let most = c.in_ok-got.ensures.more.1 in
    let made : length buf ≡ 74 = search rules in
    let fits : n ≤ 8 = omega (arith, c.requires, c.archives-archives.ensures.within.few_archives) in
    let got_len : length (take c.in_ok-got.got buf) ≡ c.in_ok-got.got =
    omega (arith, length-take c.in_ok-got.got buf, most, made, fits) in
    let few : length (take c.in_ok-got.got buf) ≤ 9 * n + 2 = omega (arith, got_len, most) in
    let took = c.in_ok-got.ensures.bytes in
    let p = err_from_is_err_and c.from_residual-in_err-addition.result c.from_residual-in_err-addition.ensures.1 in
    rw (p.1, p.2)
    (inr (inr (piece_err (9 * n + 2) (archives_at v s n) (ReadsPrefix-archives v s n) (HasWidth-archives v s n)
    (take c.in_ok-got.got buf) few (g.R.Read.remaining (inner_of c.args.input.now))
    (g.R.Read.remaining (inner_of c.fill_up_to.new.input)) _ (subst (Consumes _ _) (sym took.1) took.2)
    (λ lt. c.in_ok-got.ensures.end (omega (arith, got_len, lt)))
    c.in_err-addition.ensures.found.read)))
