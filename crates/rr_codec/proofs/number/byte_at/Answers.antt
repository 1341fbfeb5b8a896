use Rattle.std.proofs.Common.{arith}
use Rattle.rr_codec.proofs.NumberLemmas.{last_byte}
use Rattle.rr_codec.proofs.number.byte_at.Goals as goal

pub returns-in-Some-clause-read : goal.returns-in-Some-clause-read
returns-in-Some-clause-read c =
    last_byte 19 c.in-Some.byte.now c.args.bytes.now c.in-Some.rest.now (λ e. omega arith) c.in-Some.ensures.cases.0
    c.if-byte-lt128.true
