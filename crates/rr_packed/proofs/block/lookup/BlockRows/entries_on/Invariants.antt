use Rattle.std.proofs.Common.{◌≡◌, ◌+◌, ◌*◌, ◌≤◌, ◌^◌, length, take}
use Rattle.std.specs.List.{sum_by}
use Rattle.rr_archive.specs.Entries.{items_of}
use Rattle.rr_packed.proofs.block.lookup.BlockRows.entries_on.Given as goal

-- those of the samples and of the lists so far; a list of entries, of 96 bytes each, fits into memory
abbrev pub invariant-loop-entries : goal.invariant-loop-entries
invariant-loop-entries l = record {
  counted : l.count ≡ l.initial.count + sum_by (λ es. length (items_of es)) (take l.entries-index l.entries-items);
  few : l.count * 96 ≤ l.initial.count * 96 + l.entries-index * 2 ^ 63;
}
