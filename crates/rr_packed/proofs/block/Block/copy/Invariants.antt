use Rattle.std.proofs.Common.{◌≡◌, map, take}
use Rattle.rr_archive.specs.Entries.{items_of}
use Rattle.rr_packed.proofs.block.Block.copy.Given as goal

abbrev pub invariant-loop-entries : goal.invariant-loop-entries
invariant-loop-entries l = map items_of l.rows.items ≡ map items_of (take l.entries-index l.entries-items)
