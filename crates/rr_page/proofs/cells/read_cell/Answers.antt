use Rattle.std.proofs.Common.{rules, arith}
use Rattle.rr_cells.specs.Listing.{owned_cell}
use Rattle.rr_page.proofs.FieldLemmas.{AreBytes-from_get_or}
use Rattle.rr_page.proofs.CellLemmas.{rest_fits, len_read, rest_read, text_read, cell_bounded}
use Rattle.rr_page.proofs.cells.read_cell.Goals as goal

pub overflow_sub-len : goal.overflow_sub-len
overflow_sub-len c =
    let are = AreBytes-from_get_or c.args.bytes.now (λ i. omega (arith, c.type_inv.bytes i)) in
    rest_fits c.args.version c.args.schema.now c.args.bytes.now (owned_cell c.in_ok-cell.cell) c.in_ok-cell.rest.now are
    c.in_ok-cell.ensures.read

pub returns-clause-reads : goal.returns-clause-reads
returns-clause-reads c = record {
  read =
      let are = AreBytes-from_get_or c.args.bytes.now (λ i. omega (arith, c.type_inv.bytes i)) in
      rest_read c.args.version c.args.schema.now c.args.bytes.now (owned_cell c.in_ok-cell.cell) c.in_ok-cell.rest.now
      are
      c.in_ok-cell.ensures.read;
  memory = search rules;
  cell =
      let are = AreBytes-from_get_or c.args.bytes.now (λ i. omega (arith, c.type_inv.bytes i)) in
      cell_bounded c.args.version c.args.schema.now c.args.bytes.now (owned_cell c.in_ok-cell.cell)
      c.in_ok-cell.rest.now
      are c.in_ok-cell.ensures.read;
}

pub returns-clause-text : goal.returns-clause-text
returns-clause-text c =
    let are = AreBytes-from_get_or c.args.bytes.now (λ i. omega (arith, c.type_inv.bytes i)) in
    text_read c.args.version c.args.schema.now c.args.bytes.now (owned_cell c.in_ok-cell.cell) c.in_ok-cell.rest.now are
    c.in_ok-cell.ensures.read

pub returns-clause-len : goal.returns-clause-len
returns-clause-len c =
    let are = AreBytes-from_get_or c.args.bytes.now (λ i. omega (arith, c.type_inv.bytes i)) in
    len_read c.args.version c.args.schema.now c.args.bytes.now (owned_cell c.in_ok-cell.cell) c.in_ok-cell.rest.now are
    c.in_ok-cell.ensures.read
