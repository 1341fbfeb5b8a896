use Rattle.std.proofs.Common.{◌+◌, ◌^◌, ◌<◌, sym, length, ap, arith}
use Rattle.rr_batch.specs.Refusals.{all_lines}
use Rattle.rr_batch.proofs.RefusalLemmas.{all_counted, lines-le, next_counted, no_lines, one_less}
use Rattle.rr_batch.proofs.RefusalLemmas.{rest-lt}
use Rattle.rr_batch.proofs.refusals.RefusalCounts.add_lines.Goals as goal

pub overflow_add-lines : goal.overflow_add-lines
overflow_add-lines c =
    let less = one_less c.loop-line.left.now c.in-Some.line.now c.in-Some.rest.now (sym c.in-Some.ensures) in
    let most = lines-le c.args.text.now in
    omega (arith, c.loop-line.invariant.lines, less, most)

pub loop-line-smaller : goal.loop-line-smaller
loop-line-smaller c = rest-lt c.loop-line.left.now c.in-Some.line.now c.in-Some.rest.now (sym c.in-Some.ensures)

pub loop-line-preserved : goal.loop-line-preserved
loop-line-preserved c =
    let before = c.loop-line.invariant in
    let cut = sym c.in-Some.ensures in
    let less = one_less c.loop-line.left.now c.in-Some.line.now c.in-Some.rest.now cut in
    record {
      lines = omega (arith, before.lines, less);
      counts = λ fits.
          let so_far = before.counts fits in
          let fits_one : all_lines c.loop-line.self + 1 < 2 ^ 64 = omega (arith, so_far.all, fits, less) in
          next_counted c.args.self.now c.loop-line.self c.add_line.new.self c.args.text.now c.loop-line.left.now
          c.in-Some.line.now c.in-Some.rest.now so_far cut (c.in_ok-add_line.ensures fits_one);
    }

pub returns-clause-lines : goal.returns-clause-lines
returns-clause-lines c =
    let none = ap length (no_lines c.loop-line.left.now (sym c.in_default.ensures)) in
    omega (arith, c.loop-line.invariant.lines, none)

pub returns-clause-counts : goal.returns-clause-counts
returns-clause-counts c = λ fits.
    all_counted c.args.self.now c.loop-line.self c.args.text.now c.loop-line.left.now
    (c.loop-line.invariant.counts fits) (sym c.in_default.ensures)
