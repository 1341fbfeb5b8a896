use Rattle.std.proofs.Common.{◌≡◌, ◌+◌, ◌≤◌, length, refl, sym, arith}
use Rattle.rr_batch.proofs.RefusalLemmas.{counted_again, counted_first, count-le}
use Rattle.rr_batch.proofs.refusals.RefusalCounts.add_name.Goals as goal

pub returns-in-Some : goal.returns-in-Some
returns-in-Some c = λ fits.
    let was = sym c.in-Some.ensures.value in
    let most = count-le c.args.self.now c.args.name.now c.in-Some.lines.now was in
    let more : c.saturating_add.result ≡ c.in-Some.lines.now + 1 = omega (arith, fits, most, c.saturating_add.ensures) in
    counted_again c.args.self.now _ c.args.name.now c.in-Some.lines.now c.saturating_add.result was more
    (c.get_mut.follows.holds c.saturating_add.result).0 refl

pub returns : goal.returns
returns c = λ fits.
    let same = c.get_mut.follows.holds-at-none in
    let inserted = rw same at c.in_ok-insert.ensures.entries in
    let more = rw same at c.in_ok-insert.ensures.len in
    let len : length c.args.self.now.named.entries ≤ length c.insert.new.self.entries = omega (arith, more) in
    counted_first c.args.self.now _ c.in_ok-name.name c.args.name.now c.in_ok-name.ensures.items
    (sym c.in-None.ensures.value) inserted c.in-None.ensures.ordered len refl
