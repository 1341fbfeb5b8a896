-- The two models: nodes that hold cells, as the program's do, and nodes that hold every mark that reached them.
use Rattle.std.specs.Ordering.{eq_by_cmp}
use Rattle.std.specs.FinMap.{empty, get}
use Rattle.rr_cells.specs.CellNames.{cell_name_cmp}
use Rattle.rr_cells.specs.Samples.{marks_of}
use Rattle.rr_cells.specs.Knowledge.{Knowledge, union, with_marks, live, cells_where}
use Rattle.rr_cells.specs.Cells.{Cells}
use Rattle.rr_cells.specs.Joining.{next_after}
use Rattle.rr_cells.specs.Joins.{join_cell}
use Rattle.rr_cells.specs.Puts.{put_sample}
use Rattle.rr_nodes.specs.Nodes.{Model, where_some}

-- a node holds cells: taking one is joining it, if it is there, and moves the next number past it
abbrev pub cell_model : Model Cells
cell_model = record {
  nothing = empty;
  with_one = put_sample;
  with_cell = λ s m there name. where_some (get there name) m (λ c. join_cell s m name c);
  next_past = λ origin next there name. where_some (get there name) next (λ c. next_after origin next (name, c));
  kept = λ s m. m;
}

-- a node holds marks: taking a cell is knowing the live marks of its name too
abbrev pub sample_model : Model Knowledge
sample_model = record {
  nothing = empty;
  with_one = λ s k x. with_marks k (marks_of s x);
  with_cell = λ s k there name. union k (cells_where s there (eq_by_cmp cell_name_cmp name));
  next_past = λ origin next there name. next;
  kept = live;
}
