-- What contracts see of a reader and a note, and of a keeper that joins cells.
use Rattle.std.specs.Prelude.{◌≡◌, true, Option, Some, None, List, map, fold}
use mathlib.Core.List.{IsPrefix}
use Rattle.logbook.specs.Pages.{Book}
use Rattle.rr_schema.specs.Schema.{Layout}
use Rattle.rr_cells.specs.declared.cell.Cell.{Cell}
use Rattle.rr_cells.specs.declared.op.Op.{Op}
use Rattle.rr_cells.specs.declared.op.Op.TheVariants.{Join}
use Rattle.rr_cells.specs.CellBounds.{NamedCell}
use Rattle.rr_cells.specs.Cells.{Cells}
use Rattle.rr_cells.specs.Operations.{outcome_of, to_cell}
use Rattle.rr_desk.specs.declared.rule.View.{View}
use Rattle.rr_desk.specs.Rule.{newcomer}
use Rattle.rr_desk.specs.KeeperState.{KeeperState, with_pending}

-- with these cells joined, in order, and pending
abbrev pub with_joined : KeeperState → List Cell → KeeperState
with_joined k cells = fold (λ k c. with_pending k (Join c)) k cells

-- a keeper that has joined these cells, one by one and in order, and is otherwise as before
abbrev pub HasJoined : KeeperState → KeeperState → List NamedCell → Type 0
HasJoined old new cells = new ≡ with_joined old (map to_cell cells)

-- a reader: its desk, the schema, and the operations that it has seen
pub record ReaderState : Type 0 where
  pub desk : Book
  pub schema : Layout
  pub list : List Op

-- the cells that it has seen
abbrev pub cells_seen : ReaderState → Cells
cells_seen r = outcome_of r.schema r.list

-- a note: its desk, and the operations that it tells of
pub record NoteState : Type 0 where
  pub desk : Book
  pub list : List Op

-- a reader that has seen more, and is otherwise as before
pub record HasSeenMore (old new : ReaderState) : Type 0 where
  pub desk : new.desk ≡ old.desk
  pub schema : new.schema ≡ old.schema
  pub list : IsPrefix old.list new.list

-- a reader has seen more, and this holds of its answer
pub record AnswersSeen (old new : ReaderState) (Answer : Type 0) : Type 0 where
  pub seen : HasSeenMore old new
  pub answer : Answer

-- a reader of this desk and schema that has seen at least this
pub record HasSeen (b : Book) (s : Layout) (list : List Op) (r : ReaderState) : Type 0 where
  pub desk : r.desk ≡ b
  pub schema : r.schema ≡ s
  pub seen : IsPrefix list r.list

-- a reader's view has the schema
pub record IsOfDesk (v : View) (s : Layout) : Type 0 where
  pub joined : v.joined ≡ true
  pub schema : v.schema ≡ s

-- the view of a reader in its place, or that of a newcomer
abbrev pub view_in : {X : Type 0} → (X → View) → Option X → View
view_in f (Some x) = f x
view_in f None = newcomer
