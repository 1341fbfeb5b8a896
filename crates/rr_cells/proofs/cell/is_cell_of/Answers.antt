use Rattle.std.proofs.Common.{rules, ◌≡◌, to_z, of_z, w64}
use Rattle.rr_cells.specs.Listing.{cell_name}
use Rattle.rr_cells.proofs.OperationsLemmas.{valid_cell}
use Rattle.rr_cells.proofs.cell.is_cell_of.Goals as goal

pub returns-then-archive-archives-clause-tested : goal.returns-then-archive-archives-clause-tested
returns-then-archive-archives-clause-tested c = λ key origin.
    let back : to_z w64 (of_z w64 c.args.slot) ≡ c.args.slot = search rules in
    let within = rw c.archives.ensures.value at c.if-archive-archives.true in
    valid_cell c.args.schema.now (cell_name key c.args.archive c.args.slot origin, c.args.contribution)
    c.is_valid.result within (rw back at c.is_valid.ensures)

pub returns-then-archive-archives-clause-cell : goal.returns-then-archive-archives-clause-cell
returns-then-archive-archives-clause-cell c = λ key origin text number.
    let back : to_z w64 (of_z w64 c.args.slot) ≡ c.args.slot = search rules in
    let says = rw back at c.is_valid.ensures in (
      λ t. record {
        key = text;
        archive = rw c.archives.ensures.value at c.if-archive-archives.true;
        origin = number;
        valid = says.0 t;
        slot_fits = search rules;
        sum_fits = search rules;
        min_fits = search rules;
        max_fits = search rules;
        last_time_fits = search rules;
        last_value_fits = search rules;
      },
      λ cell. says.1 cell.valid,
    )
