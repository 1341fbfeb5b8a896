use Rattle.std.proofs.Common.{rules, ◌≡◌, [], ap, ◌∙◌}
use Rattle.rr_archive.specs.ArchiveState.{cells_in}
use Rattle.rr_archive.proofs.Counting.{cells_in-none, held_none}
use Rattle.rr_archive.proofs.plain.PlainArchiveCells.new.Goals as goal

pub invariant_of-result : goal.invariant_of-result
invariant_of-result c = let none : c.new.result.rows.entries ≡ [] = search rules in
    record { held = held_none c.args.rows c.new.result.rows.entries c.requires.rows_at_least none }

pub returns-clause-empty : goal.returns-clause-empty
returns-clause-empty c = let none : c.new.result.rows.entries ≡ [] = search rules in ap cells_in none ∙ cells_in-none
