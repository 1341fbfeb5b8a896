use Rattle.std.proofs.Common.{ap, sym, ◌∙◌}
use Rattle.rr_cells.specs.Listing.{owned_cell}
use Rattle.rr_page.specs.PageReading.{is_after}
use Rattle.rr_page.proofs.LoopLemmas.{last_name_is}
use Rattle.rr_page.proofs.decoding.is_next.Goals as goal

pub returns-in-Some : goal.returns-in-Some
returns-in-Some c =
    c.follows.ensures ∙ sym (ap (λ o. is_after o (owned_cell c.args.cell.now).0)
    (last_name_is c.args.cells.now c.in-Some.before.now c.in-Some.ensures.value))
