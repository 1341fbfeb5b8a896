-- The two models of a script. They differ in what a node holds; all else is stated once, for both.
use Rattle.std.specs.Prelude.{ℕ, List, take, drop}
use Rattle.std.specs.FinMap.{empty, entries, from_entries}
use Rattle.rr_schema.specs.Schema.{Layout}
use Rattle.rr_schema.specs.declared.added.Addition.{Addition}
use Rattle.rr_cells.specs.Samples.{Sample, marks_of}
use Rattle.rr_cells.specs.Knowledge.{Knowledge, union, with_marks, live, part, cells_named, difference}
use Rattle.rr_cells.specs.FetchText.{Request, fetch_text}
use Rattle.rr_cells.specs.Cells.{Cells}
use Rattle.rr_cells.specs.Joining.{next_past}
use Rattle.rr_cells.specs.Joins.{join_cells}
use Rattle.rr_cells.specs.Puts.{put_sample}
use Rattle.rr_cells.specs.State.{cells_of_knowledge}
use Rattle.rr_cells.specs.Raising.{raised_knowledge, raised_cells}
use Rattle.rr_delta.specs.Difference.{newer_cells}
use Rattle.rr_delta.specs.Names.{versions_of}
use Rattle.rr_fetch.specs.Answers.{cells_text}
use Rattle.rr_cluster.specs.State.{Node}

-- what commands do with what a node holds: it starts with nothing, takes in a sample, and answers a request; a page is
-- a part of it, or of what it has and another lacks, from an offset on and up to a count of cells; a node takes in what
-- a page holds; a snapshot keeps what counts, and is loaded with the numbers of archives raised; and pages and
-- snapshots are written as cells
pub record Model (K : Type 0) : Type 0 where
  pub nothing : K
  pub with_one : Layout → K → Sample → K
  pub answer : Layout → K → Request → List ℕ
  pub part : Layout → K → ℕ → ℕ → K
  pub part_of_newer : Layout → K → K → ℕ → ℕ → K
  pub with_page : Node K → K → Node K
  pub kept : Layout → K → K
  pub raised : Addition → K → K
  pub cells : Layout → K → Cells

-- ---- samples

-- a part of what the first knows and the second lacks: the whole cells of at most this many names, from an offset on
abbrev pub part_of_difference : Layout → Knowledge → Knowledge → ℕ → ℕ → Knowledge
part_of_difference s k l from count = cells_named s k (take count (drop from (difference s k l)))

-- a node that takes in marks knows them too
abbrev pub with_known : Node Knowledge → Knowledge → Node Knowledge
with_known n k = record n { contents = union n.contents k }

-- a node holds what it knows: marks of samples
abbrev pub sample_model : Model Knowledge
sample_model = record {
  nothing = empty;
  with_one = λ s k x. with_marks k (marks_of s x);
  answer = fetch_text;
  part = part;
  part_of_newer = part_of_difference;
  with_page = with_known;
  kept = live;
  raised = raised_knowledge;
  cells = cells_of_knowledge;
}

-- ---- cells

-- the cells from an offset on, at most a count of them
abbrev pub part_of : Cells → ℕ → ℕ → Cells
part_of m from count = from_entries (take count (drop from (entries m)))

-- so for those that are newer than the cells of another, by their versions
abbrev pub newer_part_of : Cells → Cells → ℕ → ℕ → Cells
newer_part_of m n from count = from_entries (take count (drop from (newer_cells (versions_of n) (entries m))))

-- a node that takes in cells joins them in their order
abbrev pub with_joined : Node Cells → Cells → Node Cells
with_joined n m = record n {
  next = next_past n.origin n.next (entries m);
  contents = join_cells n.schema n.contents (entries m);
}

-- a node holds cells, as a replica does
abbrev pub cell_model : Model Cells
cell_model = record {
  nothing = empty;
  with_one = put_sample;
  answer = cells_text;
  part = λ s. part_of;
  part_of_newer = λ s. newer_part_of;
  with_page = with_joined;
  kept = λ s m. m;
  raised = raised_cells;
  cells = λ s m. m;
}
