-- What is found in bytes.
use Rattle.std.specs.Prelude.{◌≡◌, ◌≢◌, ℕ, List, map, Result, Err, IfErr, IfOk}
use Rattle.std.specs.Global.{Vec}
use Rattle.rr_text.specs.Results.{Gives, GivesUnless, NeedsMemoryAfter}
use Rattle.rr_schema.specs.Schema.{Layout}
use Rattle.rr_cells.specs.declared.cell.Cell.{Cell}
use Rattle.rr_cells.specs.CellBounds.{NamedCell, IsCellOf}
use Rattle.rr_cells.specs.Listing.{owned_cell}
use Rattle.rr_page.specs.declared.version.Version.{Version}
use Rattle.rr_page.specs.Reading.{cell_at}
use Rattle.rr_page.specs.PageReading.{page_at}
use Rattle.rr_page.specs.declared.fault.PageFault.{PageFault}
use Rattle.rr_page.specs.declared.fault.PageFault.TheVariants.{Short, Memory}
use Rattle.rr_page.specs.declared.cells.FoundCell.{FoundCell}

-- a cell that was found, as a name and its contribution
abbrev pub found_cell : FoundCell → NamedCell
found_cell c = (record { key = c.key.now; archive = c.archive; slot = c.slot; origin = c.origin }, c.contribution)

-- a field is read as its definition says, which refuses it only if the bytes are too short
pub record ReadsField {X Y : Type 0} (view : X → Y) (result : Result X PageFault) (answer : Result Y PageFault)
    : Type 0 where
  pub read : Gives view result answer
  pub fault : IfErr result (λ fault. fault ≡ Short)

-- what the bytes say is found as its definition says, and no memory is needed
pub record Finds {X Y : Type 0} (view : X → Y) (result : Result X PageFault) (answer : Result Y PageFault)
    : Type 0 where
  pub read : Gives view result answer
  pub no_memory : result ≢ Err Memory

-- what the bytes say is checked, and no memory is needed: each fault is the definition's
pub record Refuses {X Y : Type 0} (result : Result X PageFault) (answer : Result Y PageFault) : Type 0 where
  pub refused : IfErr result (λ fault. answer ≡ Err fault)
  pub no_memory : result ≢ Err Memory

-- a cell of the schema is read as its definition says, unless memory ran out, as it may only if nothing is refused
pub record ReadsCell {Y : Type 0} (v : Version) (s : Layout) (bytes : List ℕ)
    (view : Cell × Y → NamedCell × List ℕ) (result : Result (Cell × Y) PageFault) : Type 0 where
  pub read : GivesUnless Memory view result (cell_at v s bytes)
  pub memory : NeedsMemoryAfter Memory (cell_at v s bytes) result
  pub cell : IfOk result (λ x. IsCellOf s (owned_cell x.0))

-- the cells of a page are read as their definition says, unless memory ran out, as it may only if nothing is refused
pub record ReadsPage (s : Layout) (bytes : List ℕ) (result : Result (Vec Cell) PageFault) : Type 0 where
  pub exact : GivesUnless Memory (λ cells. map owned_cell cells.items) result (page_at s bytes)
  pub memory : NeedsMemoryAfter Memory (page_at s bytes) result
