use Rattle.std.proofs.Common.{rules, ◌≡◌, ◌-◌, ℕ, Err, ap, sym, subst, take, length, arith, inl, inr}
use Rattle.rr_io.specs.Stream.{TakesAtMost}
use Rattle.rr_snapshot.specs.declared.stream.TheConstants.{MAX_CELL_LEN}
use Rattle.rr_snapshot.specs.Fault.{load_fault}
use Rattle.std.proofs.lemmas.List.{length-take}
use Rattle.std.proofs.lemmas.Result.{err_from_is_err_and}
use Rattle.rr_io.specs.Counted.{inner_of}
use Rattle.rr_cells.specs.Listing.{owned_cell}
use Rattle.rr_snapshot.proofs.PrefixLemmas.{read_then}
use Rattle.rr_snapshot.proofs.StreamLemmas.{stream_ok, stream_err, stream_some, stream_took, of_memory, took_at_most}
use Rattle.rr_snapshot.proofs.stream.cell_from.Goals as goal

pub returns-clause-read : goal.returns-clause-read
returns-clause-read g c =
    let one = c.fill_up_to.new.buffer in
    let two = c.fill_up_to-2.new.buffer in
    let head = take c.in_ok-head.head one in
    let bytes = take c.in_ok-got.got two in
    let low = c.in_ok-head.ensures.more.1 in
    let room = c.requires.room in
    let same = c.in_ok-head.ensures.buffer_len in
    let same_too = c.in_ok-got.ensures.buffer_len in
    let head_len : length head ≡ c.in_ok-head.head = omega (arith, length-take c.in_ok-head.head one) in
    let fits = c.cell_len-len.ensures.fits (omega (arith, head_len, low)) in
    let most = c.in_ok-got.ensures.more.1 in
    let got_len : length bytes ≡ c.in_ok-got.got = omega (arith, length-take c.in_ok-got.got two) in
    let whole = c.cell_len-len.ensures.value in
    stream_ok c.args.version c.args.schema.now (g.R.Read.remaining (inner_of c.args.input.now))
    (g.R.Read.remaining (inner_of c.fill_up_to.new.input)) (g.R.Read.remaining (inner_of c.fill_up_to-2.new.input))
    head bytes
    c.in_ok-head.ensures.bytes c.in_ok-got.ensures.bytes (λ lt. c.in_ok-head.ensures.end (omega (arith, head_len, lt)))
    (λ lt. c.in_ok-got.ensures.end (omega (arith, got_len, whole, lt))) (omega (arith, got_len, whole, most))
    (owned_cell c.in_ok-cell.cell) _ c.in_ok-cell.ensures.read

pub returns-in_err-cell-clause-read : goal.returns-in_err-cell-clause-read
returns-in_err-cell-clause-read g c =
    let one = c.fill_up_to.new.buffer in
    let two = c.fill_up_to-2.new.buffer in
    let head = take c.in_ok-head.head one in
    let bytes = take c.in_ok-got.got two in
    let low = c.in_ok-head.ensures.more.1 in
    let room = c.requires.room in
    let same = c.in_ok-head.ensures.buffer_len in
    let same_too = c.in_ok-got.ensures.buffer_len in
    let head_len : length head ≡ c.in_ok-head.head = omega (arith, length-take c.in_ok-head.head one) in
    let fits = c.cell_len-len.ensures.fits (omega (arith, head_len, low)) in
    let most = c.in_ok-got.ensures.more.1 in
    let got_len : length bytes ≡ c.in_ok-got.got = omega (arith, length-take c.in_ok-got.got two) in
    let whole = c.cell_len-len.ensures.value in
    let p = err_from_is_err_and c.from_residual-in_err-cell.result c.from_residual-in_err-cell.ensures.1 in
    rw (p.1, p.2)
    (elim c.in_err-cell.ensures.read [
      | inl m ↦ inr (inl (ap load_fault m))
      | inr e ↦ inr (inr (stream_err c.args.version c.args.schema.now (g.R.Read.remaining (inner_of c.args.input.now))
          (g.R.Read.remaining (inner_of c.fill_up_to.new.input))
          (g.R.Read.remaining (inner_of c.fill_up_to-2.new.input)) head bytes
          c.in_ok-head.ensures.bytes c.in_ok-got.ensures.bytes
          (λ lt. c.in_ok-head.ensures.end (omega (arith, head_len, lt)))
          (λ lt. c.in_ok-got.ensures.end (omega (arith, got_len, whole, lt))) (omega (arith, got_len, whole, most))
          _ e))
    ])

pub returns-in_err-got-clause-stream : goal.returns-in_err-got-clause-stream
returns-in_err-got-clause-stream g c = record {
  prefix = read_then _ _ _ c.fill_up_to.ensures.stream.prefix c.fill_up_to-2.ensures.stream.prefix;
  failures_never_fall = search rules;
  failed = search rules;
}

pub returns-in_err-cell-clause-stream : goal.returns-in_err-cell-clause-stream
returns-in_err-cell-clause-stream g c = record {
  prefix = read_then _ _ _ c.fill_up_to.ensures.stream.prefix c.fill_up_to-2.ensures.stream.prefix;
  failures_never_fall = search rules;
  failed = search rules;
}

pub returns-clause-stream : goal.returns-clause-stream
returns-clause-stream g c = record {
  prefix = read_then _ _ _ c.fill_up_to.ensures.stream.prefix c.fill_up_to-2.ensures.stream.prefix;
  failures_never_fall = search rules;
  failed = search rules;
}

pub returns-clause-bytes : goal.returns-clause-bytes
returns-clause-bytes g c =
    stream_took (g.R.Read.remaining (inner_of c.args.input.now)) (g.R.Read.remaining (inner_of c.fill_up_to.new.input))
    (g.R.Read.remaining (inner_of c.fill_up_to-2.new.input)) (take c.in_ok-head.head c.fill_up_to.new.buffer)
    (take c.in_ok-got.got c.fill_up_to-2.new.buffer)
    c.in_ok-head.ensures.bytes c.in_ok-got.ensures.bytes

pub returns-in_err-got-clause-most : goal.returns-in_err-got-clause-most
returns-in_err-got-clause-most g c =
    let one = c.fill_up_to.new.buffer in
    let head = take c.in_ok-head.head one in
    let low = c.in_ok-head.ensures.more.1 in
    let room = c.requires.room in
    let same = c.in_ok-head.ensures.buffer_len in
    let head_len : length head ≡ c.in_ok-head.head = omega (arith, length-take c.in_ok-head.head one) in
    let fits = c.cell_len-len.ensures.fits (omega (arith, head_len, low)) in
    let more = c.cell_len-len.ensures.more (omega (arith, head_len, low)) in
    let len = c.cell_len-len.result in
    let after = subst (λ (n : ℕ). TakesAtMost (len - n) (g.R.Read.remaining (inner_of c.fill_up_to.new.input))
    (g.R.Read.remaining (inner_of c.fill_up_to-2.new.input))) (sym head_len) c.fill_up_to-2.ensures.stream.most in
    took_at_most (g.R.Read.remaining (inner_of c.args.input.now)) (g.R.Read.remaining (inner_of c.fill_up_to.new.input))
    (g.R.Read.remaining (inner_of c.fill_up_to-2.new.input)) head len MAX_CELL_LEN c.in_ok-head.ensures.bytes after
    more fits

pub returns-in_err-cell-clause-most : goal.returns-in_err-cell-clause-most
returns-in_err-cell-clause-most g c =
    let one = c.fill_up_to.new.buffer in
    let head = take c.in_ok-head.head one in
    let low = c.in_ok-head.ensures.more.1 in
    let room = c.requires.room in
    let same = c.in_ok-head.ensures.buffer_len in
    let head_len : length head ≡ c.in_ok-head.head = omega (arith, length-take c.in_ok-head.head one) in
    let fits = c.cell_len-len.ensures.fits (omega (arith, head_len, low)) in
    let more = c.cell_len-len.ensures.more (omega (arith, head_len, low)) in
    let len = c.cell_len-len.result in
    let after = subst (λ (n : ℕ). TakesAtMost (len - n) (g.R.Read.remaining (inner_of c.fill_up_to.new.input))
    (g.R.Read.remaining (inner_of c.fill_up_to-2.new.input))) (sym head_len) c.fill_up_to-2.ensures.stream.most in
    took_at_most (g.R.Read.remaining (inner_of c.args.input.now)) (g.R.Read.remaining (inner_of c.fill_up_to.new.input))
    (g.R.Read.remaining (inner_of c.fill_up_to-2.new.input)) head len MAX_CELL_LEN c.in_ok-head.ensures.bytes after
    more fits

pub returns-clause-most : goal.returns-clause-most
returns-clause-most g c =
    let one = c.fill_up_to.new.buffer in
    let head = take c.in_ok-head.head one in
    let low = c.in_ok-head.ensures.more.1 in
    let room = c.requires.room in
    let same = c.in_ok-head.ensures.buffer_len in
    let head_len : length head ≡ c.in_ok-head.head = omega (arith, length-take c.in_ok-head.head one) in
    let fits = c.cell_len-len.ensures.fits (omega (arith, head_len, low)) in
    let more = c.cell_len-len.ensures.more (omega (arith, head_len, low)) in
    let len = c.cell_len-len.result in
    let after = subst (λ (n : ℕ). TakesAtMost (len - n) (g.R.Read.remaining (inner_of c.fill_up_to.new.input))
    (g.R.Read.remaining (inner_of c.fill_up_to-2.new.input))) (sym head_len) c.fill_up_to-2.ensures.stream.most in
    took_at_most (g.R.Read.remaining (inner_of c.args.input.now)) (g.R.Read.remaining (inner_of c.fill_up_to.new.input))
    (g.R.Read.remaining (inner_of c.fill_up_to-2.new.input)) head len MAX_CELL_LEN c.in_ok-head.ensures.bytes after
    more fits

pub returns-in_err-cell-clause-memory : goal.returns-in_err-cell-clause-memory
returns-in_err-cell-clause-memory g c =
    let one = c.fill_up_to.new.buffer in
    let two = c.fill_up_to-2.new.buffer in
    let head = take c.in_ok-head.head one in
    let bytes = take c.in_ok-got.got two in
    let low = c.in_ok-head.ensures.more.1 in
    let room = c.requires.room in
    let same = c.in_ok-head.ensures.buffer_len in
    let same_too = c.in_ok-got.ensures.buffer_len in
    let head_len : length head ≡ c.in_ok-head.head = omega (arith, length-take c.in_ok-head.head one) in
    let fits = c.cell_len-len.ensures.fits (omega (arith, head_len, low)) in
    let most = c.in_ok-got.ensures.more.1 in
    let got_len : length bytes ≡ c.in_ok-got.got = omega (arith, length-take c.in_ok-got.got two) in
    let whole = c.cell_len-len.ensures.value in
    let p = err_from_is_err_and c.from_residual-in_err-cell.result c.from_residual-in_err-cell.ensures.1 in
    rw (p.1, p.2)
    (λ e.
    stream_some c.args.version c.args.schema.now (g.R.Read.remaining (inner_of c.args.input.now))
    (g.R.Read.remaining (inner_of c.fill_up_to.new.input)) (g.R.Read.remaining (inner_of c.fill_up_to-2.new.input))
    head bytes
    c.in_ok-head.ensures.bytes c.in_ok-got.ensures.bytes (λ lt. c.in_ok-head.ensures.end (omega (arith, head_len, lt)))
    (λ lt. c.in_ok-got.ensures.end (omega (arith, got_len, whole, lt))) (omega (arith, got_len, whole, most))
    (c.in_err-cell.ensures.memory (ap (λ f. Err f) (of_memory c.in_err-cell.field-0.0 (cc e)))))
