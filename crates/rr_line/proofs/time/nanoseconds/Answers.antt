-- An integer that is read is of digits; its product is in i64 or not.
use Rattle.std.proofs.Common.{rules}
use Rattle.rr_line.proofs.IntegerLemmas.{read_from_digits}
use Rattle.rr_line.proofs.time.nanoseconds.Goals as goal

pub returns : goal.returns
returns c =
    let read = read_from_digits c.args.word.now c.in_ok-number.number (search rules) in
    rw (read.0, read.1) (search rules)
