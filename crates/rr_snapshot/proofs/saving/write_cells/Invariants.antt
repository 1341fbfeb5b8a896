use Rattle.std.proofs.Common.{◌≡◌, ◌++◌, ◌≤◌, ℕ, List, take, slice_get}
use Rattle.std.specs.FinMap.{entries}
use Rattle.std.specs.Io.KnownBytes.{Appends}
use Rattle.std.specs.List.{flat_map}
use Rattle.std.specs.Option.{option_map}
use Rattle.sha2.specs.Hashers.{Holds256}
use Rattle.rr_io.specs.Counted.{inner_of, failures_of}
use Rattle.rr_page.specs.CellText.{cell_text}
use Rattle.rr_page.specs.Version.{latest}
use Rattle.rr_cells.specs.Listing.{seen_cell}
use Rattle.rr_snapshot.proofs.saving.write_cells.Given as goal

-- the cells so far are written and digested, and the next is the one after them; the walk is over the replica
abbrev pub invariant-loop : goal.invariant-loop
invariant-loop g l = record {
  next : option_map seen_cell l.next ≡ slice_get (entries l.replica.cells) l.counter;
  written : Appends (g.W.Write.contents (inner_of l.initial.output)) (g.W.Write.contents (inner_of l.output))
      (flat_map (cell_text latest) (take l.counter (entries l.replica.cells)));
  digest : (m : List ℕ) → Holds256 l.initial.hasher m
      → Holds256 l.hasher (m ++ flat_map (cell_text latest) (take l.counter (entries l.replica.cells)));
  count : failures_of l.initial.output ≤ failures_of l.output;
  walk : l.walk ≡ l.replica;
}
