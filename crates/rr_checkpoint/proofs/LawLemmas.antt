-- Checkpoints that were written, and what follows them.
use Rattle.std.proofs.Common.{◌≡◌, ℕ, List, [], ◌∷◌, ◌++◌, None, All, fold, refl, sym, ap, subst, ◌∙◌, append_assoc}
use Rattle.std.specs.Prelude.{Contains}
use mathlib.Core.List.{IsPrefix}
use Rattle.rr_schema.specs.Schema.{Layout}
use Rattle.rr_cells.specs.declared.op.Op.{Op}
use Rattle.rr_cells.specs.CellBounds.{NamedCell}
use Rattle.rr_cells.specs.Cells.{Cells}
use Rattle.rr_cells.specs.Operations.{AllAccepted, cell_step, outcome_of, step}
use Rattle.rr_cells.specs.ReplicaState.{ReplicaState}
use Rattle.rr_cells.proofs.OperationsLemmas.{outcome_of-append, steps-cells, steps-schema}
use Rattle.rr_changes.specs.Checkpoints.{GoesForward, Read, batches_of, end_of, walked}
use Rattle.rr_changes.specs.Updates.{Holds, written_cells}
use Rattle.rr_changes.proofs.AddingLemmas.{operations_go_on, operations_only_add}
use Rattle.rr_changes.proofs.CheckpointLemmas.{reads_are_a_walk, walks_bring_all, walks_make_the_last}
use Rattle.rr_commit.specs.declared.record.TheConstants.{MAX_RECORD_CELLS}
use Rattle.rr_desk.specs.ReaderState.{ReaderState}
use Rattle.rr_desk.proofs.PrefixLemmas.{prefix_append, prefix_refl, prefix_trans}
use Rattle.rr_checkpoint.specs.Laws.{CheckpointsBringAll, CheckpointsMakeTheLast, IsDesk, ReadsGoForward, WalksOver}
use Rattle.rr_checkpoint.specs.Walk.{AreSeen, cells_read}

-- ---- operations

taken_apart : (xs ys : List Op) (h : ReplicaState) → AllAccepted h (xs ++ ys)
    → AllAccepted h xs × AllAccepted (fold step h xs) ys
taken_apart [] ys h all = (tt, all)
taken_apart (op ∷ xs) ys h all = let rest = taken_apart xs ys (step h op) all.1 in ((all.0, rest.0), rest.1)

same_behind : (xs ys zs : List Op) → xs ++ ys ≡ xs ++ zs → ys ≡ zs
same_behind [] ys zs e = e
same_behind (x ∷ xs) ys zs e = same_behind xs ys zs (cc e)

-- a desk at a later moment, when this list had been published
pub record IsLater (h : ReplicaState) (from more list : List Op) : Type 0 where
  pub state : ReplicaState
  pub others : List Op
  pub whole : list ++ others ≡ from ++ more
  pub schema : state.schema ≡ h.schema
  pub cells : state.cells ≡ outcome_of h.schema list
  pub desk : IsDesk state list others
  pub holds : Holds h.schema state.cells h.cells

later : (h : ReplicaState) (from more list : List Op) → IsDesk h from more → IsPrefix from list
    → IsPrefix list (from ++ more) → IsLater h from more list
later h from more list desk a b =
    let ops = a.0 in
    let others = b.0 in
    let all : from ++ (ops ++ others) ≡ from ++ more = sym (append_assoc from ops others)
    ∙ ap (λ (l : List Op). l ++ others) a.1 ∙ b.1 in
    let parts = taken_apart ops others h
    (subst (AllAccepted h) (sym (same_behind from (ops ++ others) more all)) desk.taken) in
    let schema = steps-schema ops h in
    let cells : (fold step h ops).cells ≡ outcome_of h.schema list = steps-cells ops h parts.0
    ∙ ap (λ (m : Cells). fold (cell_step h.schema) m ops) desk.made
    ∙ sym (outcome_of-append h.schema from ops) ∙ ap (outcome_of h.schema) a.1 in
    record {
      state = fold step h ops;
      others = others;
      whole = b.1;
      schema = schema;
      cells = cells;
      desk = record {
        goes_on = operations_go_on h ops desk.goes_on;
        made = cells ∙ ap (λ (s : Layout). outcome_of s list) (sym schema);
        taken = parts.1;
      };
      holds = operations_only_add h ops desk.goes_on;
    }

-- in the end all is held
all_held : (h : ReplicaState) (from more : List Op) → IsDesk h from more
    → Holds h.schema (outcome_of h.schema (from ++ more)) h.cells
all_held h from more desk =
    let end = later h from more (from ++ more) desk (prefix_append from more) (prefix_refl (from ++ more)) in
    subst (λ (m : Cells). Holds h.schema m h.cells) end.cells end.holds

-- ---- reads

seen_reaches : (s : Layout) (from to : List Op) (reads : List Read) → AreSeen s from to reads → IsPrefix from to
seen_reaches s from to [] seen = seen
seen_reaches s from to (r ∷ reads) seen = prefix_trans from seen.0 to seen.1 (seen_reaches s seen.0 to reads seen.3)

seen_between : (s : Layout) (from first last to : List Op) (reads : List Read) → IsPrefix from first → IsPrefix last to
    → AreSeen s first last reads → AreSeen s from to reads
seen_between s from first last to [] a b seen = prefix_trans from last to (prefix_trans from first last a seen) b
seen_between s from first last to (r ∷ reads) a b seen = (
  seen.0,
  prefix_trans from first seen.0 a seen.1,
  seen.2,
  seen_between s seen.0 seen.0 last to reads (prefix_refl seen.0) b seen.3,
)

-- what was read first holds what was there, and the others go on from there
abbrev GoesOnTo : Layout → List Op → ℕ → Cells → List Read → Type 0
GoesOnTo s all limit m reads = GoesForward s m (batches_of limit reads) (end_of m reads)
    × Holds s (outcome_of s all) (end_of m reads)

with_first : (s : Layout) (all : List Op) (limit : ℕ) (m : Cells) (r : Read) (reads : List Read) → Holds s r.held m
    → GoesOnTo s all limit r.held reads → GoesOnTo s all limit m (r ∷ reads)
with_first s all limit m r [] holds rest = (holds, rest.1)
with_first s all limit m r (q ∷ reads) holds rest = ((holds, rest.0), rest.1)

go_forward : (limit : ℕ) (s : Layout) (all : List Op) (h : ReplicaState) (from more : List Op) (reads : List Read)
    → h.schema ≡ s → from ++ more ≡ all → IsDesk h from more → AreSeen s from all reads
    → GoesOnTo s all limit h.cells reads
go_forward limit s all h from more [] is whole desk seen = (
  subst (λ (t : Layout). Holds t h.cells h.cells) is (operations_only_add h [] desk.goes_on),
  subst (λ (l : List Op). Holds s (outcome_of s l) h.cells) whole
      (subst (λ (t : Layout). Holds t (outcome_of t (from ++ more)) h.cells) is (all_held h from more desk)),
)
go_forward limit s all h from more (r ∷ reads) is whole desk seen =
    let then = later h from more seen.0 desk seen.1
    (subst (IsPrefix seen.0) (sym whole) (seen_reaches s seen.0 all reads seen.3)) in
    let held : then.state.cells ≡ r.held = then.cells ∙ ap (λ (t : Layout). outcome_of t seen.0) is ∙ sym seen.2 in
    let holds : Holds s r.held h.cells = subst (λ (m : Cells). Holds s m h.cells) held
    (subst (λ (t : Layout). Holds t then.state.cells h.cells) is then.holds) in
    let rest = go_forward limit s all then.state seen.0 then.others reads (then.schema ∙ is) (then.whole ∙ whole)
    then.desk seen.3 in
    with_first s all limit h.cells r reads holds (subst (λ (m : Cells). GoesOnTo s all limit m reads) held rest)

pub reads_go_forward : ReadsGoForward
reads_go_forward limit h from more reads desk seen =
    go_forward limit h.schema (from ++ more) h from more reads refl refl desk seen

-- ---- the cells of a walk

-- a walk over a desk goes forward, and ends at what the desk holds in the end or before
over_forward : (h : ReplicaState) (from more : List Op) (first last : ReaderState) (reads : List Read)
    → WalksOver h from more first last reads
    → GoesOnTo h.schema (from ++ more) MAX_RECORD_CELLS h.cells reads
over_forward h from more first last reads over =
    reads_go_forward MAX_RECORD_CELLS h from more reads over.desk
    (seen_between h.schema from first.list last.list (from ++ more) reads over.before over.after
    (subst (λ (t : Layout). AreSeen t first.list last.list reads) over.schema over.walk.seen))

-- its cells are those of a walk over maps
over_cells : (h : ReplicaState) (from more : List Op) (first last : ReaderState) (reads : List Read)
    → WalksOver h from more first last reads
    → cells_read reads ≡ walked None (batches_of MAX_RECORD_CELLS reads) (end_of h.cells reads)
over_cells h from more first last reads over = reads_are_a_walk MAX_RECORD_CELLS reads h.cells over.walk.whole

pub checkpoints_bring_all : CheckpointsBringAll
checkpoints_bring_all h from more first last reads x writes es over are trim among =
    walks_bring_all h.schema h.cells x writes (batches_of MAX_RECORD_CELLS reads) (end_of h.cells reads) es
    over.desk.goes_on.layout over.desk.goes_on.live are (over_forward h from more first last reads over).0 trim
    (subst (λ (l : List NamedCell). All (Contains es) (l ++ written_cells writes))
    (over_cells h from more first last reads over) among)

pub checkpoints_make_the_last : CheckpointsMakeTheLast
checkpoints_make_the_last h from more first last reads writes es over are end among others =
    let forward = over_forward h from more first last reads over in
    let cells = over_cells h from more first last reads over in
    walks_make_the_last h.schema h.cells writes (batches_of MAX_RECORD_CELLS reads) (end_of h.cells reads) es
    over.desk.goes_on.layout over.desk.goes_on.live are forward.0
    (subst (λ (m : Cells). Holds h.schema m (end_of h.cells reads)) (sym end) forward.1)
    (subst (λ (l : List NamedCell). All (Contains es) (l ++ written_cells writes)) cells among)
    (subst (λ (l : List NamedCell). All (Contains (l ++ written_cells writes)) es) cells others)
