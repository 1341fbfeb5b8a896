use Rattle.std.proofs.Common.{rules, ◌≡◌, to_z, of_z, w64}
use Rattle.rr_schema.specs.Origin.{IsOrigin}
use Rattle.rr_key.specs.Series.{IsKeyText}
use Rattle.rr_cells.proofs.cell.Cell.is_of.Goals as goal

pub returns-clause-tested : goal.returns-clause-tested
returns-clause-tested c =
    let back : to_z w64 (of_z w64 c.args.self.now.slot) ≡ c.args.self.now.slot = search rules in
    let tested = rw back at c.is_cell_of.ensures.tested in
    tested c.args.self.now.key c.args.self.now.origin

pub returns-clause-cell : goal.returns-clause-cell
returns-clause-cell c =
    let back : to_z w64 (of_z w64 c.args.self.now.slot) ≡ c.args.self.now.slot = search rules in
    let cell = rw back at c.is_cell_of.ensures.cell in
    let text : IsKeyText c.args.self.now.key = search rules in
    let number : IsOrigin c.args.self.now.origin = search rules in
    cell c.args.self.now.key c.args.self.now.origin text number
