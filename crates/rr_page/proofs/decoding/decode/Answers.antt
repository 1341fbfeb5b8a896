use Rattle.std.proofs.Common.{arith, map, subst}
use Rattle.rr_text.specs.Results.{GivesUnless}
use Rattle.rr_cells.specs.Listing.{owned_cell}
use Rattle.rr_page.specs.declared.fault.PageFault.TheVariants.{Memory}
use Rattle.rr_page.proofs.FieldLemmas.{AreBytes-from_get_or}
use Rattle.rr_page.proofs.PageLemmas.{page_found, page_again, cells_found}
use Rattle.rr_page.proofs.decoding.decode.Goals as goal

pub returns-clause-found : goal.returns-clause-found
returns-clause-found c =
    page_found c.args.schema.now c.args.bytes.now (AreBytes-from_get_or c.args.bytes.now
    (λ i. omega (arith, c.type_inv.bytes i))) c.page_of.result c.page_of.ensures.exact

pub returns-clause-only : goal.returns-clause-only
returns-clause-only c = λ es page text.
    subst (λ read. GivesUnless Memory (λ cells. map owned_cell cells.items) c.page_of.result read)
    (page_again c.args.schema.now c.args.bytes.now es c.archives-archives.ensures.within page text)
    c.page_of.ensures.exact

pub returns-clause-cells : goal.returns-clause-cells
returns-clause-cells c =
    cells_found c.args.schema.now c.args.bytes.now
    (AreBytes-from_get_or c.args.bytes.now (λ i. omega (arith, c.type_inv.bytes i))) c.page_of.result
    c.page_of.ensures.exact
