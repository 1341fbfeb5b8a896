use Rattle.std.proofs.Common.{◌≡◌, ◌++◌, ◌∷◌, [], ◌∙◌, sym, ap, map, None, inl, inr, true, false}
use Rattle.std.proofs.lemmas.Result.{err_from_is_err_and}
use Rattle.std.proofs.lemmas.List.{map_push}
use Rattle.rr_cells.specs.Listing.{owned_cell}
use Rattle.rr_page.specs.PageReading.{is_after, last_name, cells_at}
use Rattle.rr_page.proofs.LoopLemmas.{goes_on, ends, falls, is_done}
use Rattle.rr_page.proofs.decoding.cells_of.Goals as goal

pub returns-in_err-cell : goal.returns-in_err-cell
returns-in_err-cell c =
    let p = err_from_is_err_and c.from_residual.result c.from_residual.ensures.1 in
    rw (p.1, p.2)
    (elim c.in_err-cell.ensures.read [
      | inl m ↦ inl m
      | inr e ↦ inr (ends c.args.version c.args.schema.now (map owned_cell c.loop.cells.items) c.args.count
          c.loop.counter c.loop.rest.now (cells_at c.args.version c.args.schema.now None c.args.count c.args.bytes.now)
          c.loop.invariant c.in_err-cell.field-0.0 c.loop-test.true e)
    ])

pub returns-then-not-is_next : goal.returns-then-not-is_next
returns-then-not-is_next c =
    let n = (owned_cell c.in_ok-cell.cell).0 in
    let falling : is_after (last_name (map owned_cell c.loop.cells.items)) n ≡ false =
    ap (λ cells. is_after (last_name (map owned_cell cells)) n) (sym c.deref.ensures.value) ∙ sym c.is_next.ensures
    ∙ c.if-not-is_next.true in
    inr (falls c.args.version c.args.schema.now (map owned_cell c.loop.cells.items) c.args.count c.loop.counter
    c.loop.rest.now (cells_at c.args.version c.args.schema.now None c.args.count c.args.bytes.now) c.loop.invariant
    (owned_cell c.in_ok-cell.cell) c.in_ok-cell.after.now c.loop-test.true c.in_ok-cell.ensures.read falling)

pub loop-preserved : goal.loop-preserved
loop-preserved c =
    let cell = c.in_ok-cell.cell in
    let rising : is_after (last_name (map owned_cell c.loop.cells.items)) (owned_cell cell).0 ≡ true =
    ap (λ cells. is_after (last_name (map owned_cell cells)) (owned_cell cell).0) (sym c.deref.ensures.value)
    ∙ sym c.is_next.ensures ∙ c.if-not-is_next.false in
    let e : map owned_cell c.push.new.self.items ≡ map owned_cell c.loop.cells.items ++ owned_cell cell ∷ [] =
    rw c.in_ok-push.ensures.items (map_push _ c.loop.cells.items cell) in
    rw e (goes_on c.args.version c.args.schema.now (map owned_cell c.loop.cells.items) c.args.count c.loop.counter
    c.loop.rest.now (cells_at c.args.version c.args.schema.now None c.args.count c.args.bytes.now) c.loop.invariant
    (owned_cell cell) c.in_ok-cell.after.now c.loop-test.true c.in_ok-cell.ensures.read rising)

pub returns : goal.returns
returns c = is_done c.args.version c.args.schema.now (map owned_cell c.loop.cells.items) c.args.count c.loop.counter
    c.loop.rest.now (cells_at c.args.version c.args.schema.now None c.args.count c.args.bytes.now) c.loop.invariant
    c.loop-test.false
