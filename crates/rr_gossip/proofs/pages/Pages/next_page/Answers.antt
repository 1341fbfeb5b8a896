use Rattle.std.proofs.Common.{◌<◌, map, take, drop, length, sym, ap, ◌∙◌, subst, Some}
use Rattle.rr_text.specs.declared.limits.TheConstants.{MAX_PAGE_CELLS}
use Rattle.rr_page.specs.Page.{IsPage}
use Rattle.rr_cells.specs.Listing.{owned_cell}
use Rattle.rr_gossip.specs.declared.frame.TheConstants.{MAX_FRAME_LEN}
use Rattle.rr_gossip.specs.Pages.{AreLeft, next_page, after_page}
use Rattle.rr_gossip.proofs.LengthLemmas.{page_fits}
use Rattle.rr_gossip.proofs.PagesLemmas.{left_page, left_after, cut, cut_off, page_is, some_from}
use Rattle.rr_gossip.proofs.pages.Pages.next_page.Goals as goal

pub encode-requires : goal.encode-requires
encode-requires c =
    let p = c.self.inside in
    let is = c.part-cells.ensures ∙ ap (λ l. take MAX_PAGE_CELLS (drop p.sent l)) c.deref.ensures.value in
    subst (IsPage p.schema) (sym (cut p.cells.items c.part-cells.result.now p.sent is))
    (left_page p.schema (drop p.sent (map owned_cell p.cells.items)) c.self.invariant)

pub invariant_of-self : goal.invariant_of-self
invariant_of-self c =
    let p = c.self.inside in
    let is = c.part-cells.ensures ∙ ap (λ l. take MAX_PAGE_CELLS (drop p.sent l)) c.deref.ensures.value in
    subst (λ es. AreLeft (p.schema, es)) (sym (cut_off p.cells.items c.part-cells.result.now p.sent is))
    (left_after p.schema (drop p.sent (map owned_cell p.cells.items)) c.self.invariant)

pub returns-clause-page : goal.returns-clause-page
returns-clause-page c =
    let p = c.self.inside in
    let is = c.part-cells.ensures ∙ ap (λ l. take MAX_PAGE_CELLS (drop p.sent l)) c.deref.ensures.value in
    let some = some_from c.is_empty.result (length c.part-cells.result.now) c.is_empty.ensures c.if-is_empty.false in
    ap (λ l. Some l) c.in_ok-page.ensures
    ∙ sym (page_is p.cells.items c.part-cells.result.now p.sent is p.schema some)
    ∙ ap next_page c.self.view_is

pub returns-clause-left : goal.returns-clause-left
returns-clause-left c =
    let p = c.self.inside in
    let is = c.part-cells.ensures ∙ ap (λ l. take MAX_PAGE_CELLS (drop p.sent l)) c.deref.ensures.value in
    ap (λ es. (p.schema, es)) (cut_off p.cells.items c.part-cells.result.now p.sent is) ∙ ap after_page c.self.view_is

pub returns-clause-fits : goal.returns-clause-fits
returns-clause-fits c =
    let p = c.self.inside in
    let is = c.part-cells.ensures ∙ ap (λ l. take MAX_PAGE_CELLS (drop p.sent l)) c.deref.ensures.value in
    let page = subst (IsPage p.schema) (sym (cut p.cells.items c.part-cells.result.now p.sent is))
    (left_page p.schema (drop p.sent (map owned_cell p.cells.items)) c.self.invariant) in
    subst (λ l. length l < MAX_FRAME_LEN) (sym c.in_ok-page.ensures)
    (page_fits p.schema (map owned_cell c.part-cells.result.now) c.archives-archives.ensures.within page)
