use Rattle.std.proofs.Common.{rules, arith, ◌≡◌, ◌+◌, ◌≤◌, ◌+ℤ◌, pos, drop, take, length, to_z, of_z, w64, sym, ap, ◌∙◌}
use Rattle.std.proofs.lemmas.List.{drop-drop}
use Rattle.rr_fetch.specs.LentRows.{lent_cells}
use Rattle.rr_fetch.proofs.LentRowsLemmas.{leading, row_taken, row_dropped, range_is, rest_is}
use Rattle.rr_fetch.proofs.rows.Rows.take_row.Goals as goal

pub returns-clause-row : goal.returns-clause-row
returns-clause-row g c =
    let a = c.args.self.now in
    let m = lent_cells (λ a. g.A.Cells.cells a.now) a.archive in
    let left = drop a.at a.run.items in
    let next : to_z w64 (of_z w64 a.next) ≡ a.next = search rules in
    let leads = rw next at c.leading-count.ensures.count
    ∙ ap (leading a.next) (rest_is c.deref.result.now a.at ∙ ap (drop a.at) c.deref.ensures.value) in
    range_is a.run.items a.at c.leading-count.result
    ∙ ap (λ n. take n left) leads
    ∙ ap (λ l. take (leading a.next l) l) a.to_come
    ∙ row_taken m a.next a.left c.requires.some

pub invariant_of-self : goal.invariant_of-self
invariant_of-self g c =
    let a = c.args.self.now in
    let m = lent_cells (λ a. g.A.Cells.cells a.now) a.archive in
    let next : to_z w64 (of_z w64 a.next) ≡ a.next = search rules in
    let leads = rw next at c.leading-count.ensures.count
    ∙ ap (leading a.next) (rest_is c.deref.result.now a.at ∙ ap (drop a.at) c.deref.ensures.value) in
    let on : to_z w64 (of_z w64 (to_z w64 (of_z w64 a.next) +ℤ pos 1)) ≡ a.next +ℤ pos 1 = search rules in
    record {
      ends = omega arith;
      within = omega arith;
      to_come = rw on (sym (drop-drop c.leading-count.result a.at a.run.items)
          ∙ ap (λ n. drop n (drop a.at a.run.items)) leads
          ∙ ap (λ l. drop (leading a.next l) l) a.to_come
          ∙ row_dropped m a.next a.left c.requires.some);
    }
