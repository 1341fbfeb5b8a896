use Rattle.std.proofs.Common.{inl, inr, ap, sym, ◌∙◌, arith}
use Rattle.std.proofs.lemmas.Result.{err_from_is_err_and}
use Rattle.rr_io.specs.Counted.{inner_of}
use Rattle.rr_journal.specs.Header.{header_at, header_len}
use Rattle.rr_journal.proofs.HeaderLemmas.{header_read, header_refused}
use Rattle.rr_journal.proofs.StepLemmas.{takes_prefix}
use Rattle.rr_journal.proofs.header.header_from.Goals as goal

pub returns-in_err-bytes-clause-read : goal.returns-in_err-bytes-clause-read
returns-in_err-bytes-clause-read g c =
    let p = err_from_is_err_and c.from_residual.result c.from_residual.ensures.1 in
    rw (p.1, p.2)
    (elim c.in_err-bytes.ensures.faults [
      | inl failed ↦ inl failed
      | inr memory ↦ inr (inl memory)
    ])

pub returns-in-Ok-clause-read : goal.returns-in-Ok-clause-read
returns-in-Ok-clause-read g c =
    let s = c.args.schema.now in
    let old = g.R.Read.remaining (inner_of c.args.input.now) in
    let new = g.R.Read.remaining (inner_of c.bytes_from.new.input) in
    let bytes = c.in_ok-bytes.bytes.items in
    let taken = takes_prefix (header_len s) old new bytes c.in_ok-bytes.ensures.bytes
    (omega (arith, c.in_ok-bytes.ensures.bound, c.header_len.ensures.value))
    (λ lt. c.in_ok-bytes.ensures.end (omega (arith, lt, c.header_len.ensures.value))) in
    header_read s bytes old new taken c.in-Ok.cursor c.in-Ok.field-0-1.now
    (ap (header_at s) (sym c.as_slice.ensures.value) ∙ c.in-Ok.ensures.read)

pub returns-clause-read : goal.returns-clause-read
returns-clause-read g c =
    let s = c.args.schema.now in
    let old = g.R.Read.remaining (inner_of c.args.input.now) in
    let new = g.R.Read.remaining (inner_of c.bytes_from.new.input) in
    let bytes = c.in_ok-bytes.bytes.items in
    let taken = takes_prefix (header_len s) old new bytes c.in_ok-bytes.ensures.bytes
    (omega (arith, c.in_ok-bytes.ensures.bound, c.header_len.ensures.value))
    (λ lt. c.in_ok-bytes.ensures.end (omega (arith, lt, c.header_len.ensures.value))) in
    header_refused s bytes old new taken c.in-Err.fault
    (ap (header_at s) (sym c.as_slice.ensures.value) ∙ c.in-Err.ensures.read)
