use Rattle.std.proofs.Common.{◌≡◌, ◌+◌, ◌-◌, max, length, subst, arith}
use Rattle.rr_batch.specs.Refusals.{Counts, lines_named, whole_lines}
use Rattle.rr_batch.proofs.RefusalLemmas.{others_counted}
use Rattle.rr_batch.proofs.refusals.RefusalCounts.add.Goals as goal

pub returns : goal.returns
returns c = λ fits.
    let refused = c.args.refused in
    let lines = length (whole_lines c.args.text.now) in
    let more = c.saturating_sub.result in
    let counted = c.in_ok-lines.ensures.counts (omega (arith, fits)) in
    let is : more ≡ refused - lines = omega (arith, c.saturating_sub.ensures, c.in_ok-lines.ensures.lines) in
    let most : lines + more ≡ max refused lines = omega (arith, is) in
    let others : c.add_other.new.self.other ≡ c.add_lines.new.self.other + more =
    omega (arith, fits, counted.all, c.add_other.ensures.other, is) in
    subst (λ n. Counts c.args.self.now c.add_other.new.self n (λ name. lines_named name c.args.text.now)) most
    (others_counted c.args.self.now c.add_lines.new.self c.add_other.new.self lines more _ counted
    c.add_other.ensures.named others)
