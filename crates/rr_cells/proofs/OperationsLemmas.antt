-- Operations, one after the other.
use Rattle.std.proofs.Common.{◌≡◌, ◌<◌, ◌↔◌, IsTrue, Bool, true, false, ◌&&◌, List, [], ◌∷◌, ◌++◌, map, fold, length, refl, sym, ap, ◌∙◌, subst, if◌then◌else◌}
use Rattle.std.specs.FinMap.{empty, entries}
use Rattle.std.specs.List.{AllByRecursion}
use Rattle.std.proofs.lemmas.Bool.{lt-ltb}
use Rattle.std.proofs.lemmas.List.Sums.{fold-append}
use Rattle.rr_contrib.specs.Validity.{IsValid, is_valid}
use Rattle.rr_contrib.proofs.ValidityLemmas.{Decides-is_valid}
use Rattle.rr_schema.specs.Schema.{Layout, IsLayout}
use Rattle.rr_cells.specs.declared.op.Op.{Op}
use Rattle.rr_cells.specs.declared.op.Op.TheVariants.{Put, Join}
use Rattle.rr_cells.specs.CellBounds.{NamedCell, IsCellOf, is_cell_of}
use Rattle.rr_cells.specs.Cells.{Cells, IsTrimmed}
use Rattle.rr_cells.specs.ReplicaState.{ReplicaState}
use Rattle.rr_cells.specs.Joins.{join_cells}
use Rattle.rr_cells.proofs.CellByCell.{join_nothing, join_goes_by_cells, trimmed_none}
use Rattle.rr_cells.proofs.JoinLaws.{join_commutes}
use Rattle.rr_cells.specs.Operations.{accepts, with_op, step, AllAccepted, cell_step, outcome_of, to_cell, joins_of}

-- ---- a replica

-- an operation that is taken is applied
pub step_accepted : (h : ReplicaState) (op : Op) → accepts h op ≡ true → step h op ≡ with_op h op
step_accepted h op e = ap (λ b. if b then with_op h op else h) e

pub with_op-cells : (h : ReplicaState) (op : Op) → (with_op h op).cells ≡ cell_step h.schema h.cells op
with_op-cells h (Put x) = refl
with_op-cells h (Join c) = refl

with_op-schema : (h : ReplicaState) (op : Op) → (with_op h op).schema ≡ h.schema
with_op-schema h (Put x) = refl
with_op-schema h (Join c) = refl

with_op-origin : (h : ReplicaState) (op : Op) → (with_op h op).origin ≡ h.origin
with_op-origin h (Put x) = refl
with_op-origin h (Join c) = refl

-- a step changes neither the schema nor the origin
pub step-schema : (h : ReplicaState) (op : Op) → (step h op).schema ≡ h.schema
step-schema h op = elim (accepts h op) as (λ b. (if b then with_op h op else h).schema ≡ h.schema) [
  | true ↦ with_op-schema h op
  | false ↦ refl
]

pub step-origin : (h : ReplicaState) (op : Op) → (step h op).origin ≡ h.origin
step-origin h op = elim (accepts h op) as (λ b. (if b then with_op h op else h).origin ≡ h.origin) [
  | true ↦ with_op-origin h op
  | false ↦ refl
]

-- of an operation that is taken the cells take one step
pub step-cells : (h : ReplicaState) (op : Op) → accepts h op ≡ true → (step h op).cells ≡ cell_step h.schema h.cells op
step-cells h op e = ap (λ (k : ReplicaState). k.cells) (step_accepted h op e) ∙ with_op-cells h op

-- ---- lists of operations

pub steps-schema : (ops : List Op) (h : ReplicaState) → (fold step h ops).schema ≡ h.schema
steps-schema [] h = refl
steps-schema (op ∷ ops) h = steps-schema ops (step h op) ∙ step-schema h op

-- where all are taken, the cells take a step for each
pub steps-cells : (ops : List Op) (h : ReplicaState) → AllAccepted h ops
    → (fold step h ops).cells ≡ fold (cell_step h.schema) h.cells ops
steps-cells [] h all = refl
steps-cells (op ∷ ops) h all =
    steps-cells ops (step h op) all.1
    ∙ (λ i. fold (cell_step (step-schema h op i)) (step-cells h op all.0 i) ops)

pub accepted-append : (xs ys : List Op) (h : ReplicaState) → AllAccepted h xs → AllAccepted (fold step h xs) ys
    → AllAccepted h (xs ++ ys)
accepted-append [] ys h first rest = rest
accepted-append (op ∷ xs) ys h first rest = (first.0, accepted-append xs ys (step h op) first.1 rest)

-- the cells after one list and then another
pub outcome_of-append : (s : Layout) (xs ys : List Op)
    → outcome_of s (xs ++ ys) ≡ fold (cell_step s) (outcome_of s xs) ys
outcome_of-append s xs ys = fold-append (cell_step s) empty xs ys

pub outcome_of-more : (s : Layout) (ops : List Op) (op : Op)
    → outcome_of s (ops ++ op ∷ []) ≡ cell_step s (outcome_of s ops) op
outcome_of-more s ops op = outcome_of-append s ops (op ∷ [])

-- ---- a join for each cell

abbrev joins : List NamedCell → List Op
joins es = map (λ e. Join (to_cell e)) es

joins_join : (s : Layout) (es : List NamedCell) (m : Cells) → fold (cell_step s) m (joins es) ≡ join_cells s m es
joins_join s [] m = refl
joins_join s (e ∷ es) m = joins_join s es (cell_step s m (Join (to_cell e)))

-- the joins of all cells of a trimmed map give the map
pub outcome_of-joins : (s : Layout) (m : Cells) → IsLayout s → IsTrimmed s m → outcome_of s (joins_of m) ≡ m
outcome_of-joins s m is kept =
    joins_join s (entries m) empty
    ∙ join_goes_by_cells s empty m is (trimmed_none s)
    ∙ join_commutes s empty m is
    ∙ sym (join_nothing s m kept)

-- a cell of the schema is taken
pub cell_is_taken : (s : Layout) (e : NamedCell) → IsCellOf s e → is_cell_of s e ≡ true
cell_is_taken s e cell =
    ap (λ b. b && is_valid s e.0.archive e.0.slot e.1) (lt-ltb e.0.archive (length s.archives) cell.archive)
    ∙ (Decides-is_valid s e.0.archive e.0.slot e.1).1 cell.valid

pub joins_accepted : (h : ReplicaState) (es : List NamedCell) → AllByRecursion (λ e. IsCellOf h.schema e) es
    → AllAccepted h (map (λ e. Join (to_cell e)) es)
joins_accepted h [] all = tt
joins_accepted h (e ∷ es) all =
    let op = Join (to_cell e) in (
      cell_is_taken h.schema e all.0,
      joins_accepted (step h op) es
          (subst (λ s. AllByRecursion (λ f. IsCellOf s f) es) (sym (step-schema h op)) all.1),
    )

-- what the test of a contribution says is what the test of its cell says
pub valid_cell : (s : Layout) (e : NamedCell) (b : Bool) → e.0.archive < length s.archives
    → IsTrue b ↔ IsValid s e.0.archive e.0.slot e.1 → b ≡ is_cell_of s e
valid_cell s e b within says =
    let tests = Decides-is_valid s e.0.archive e.0.slot e.1 in
    same b (is_valid s e.0.archive e.0.slot e.1) (λ t. tests.1 (says.0 t)) (λ t. says.1 (tests.0 t))
    ∙ ap (λ a. a && is_valid s e.0.archive e.0.slot e.1) (sym (lt-ltb e.0.archive (length s.archives) within))
  where
    same : (a b : Bool) → (a ≡ true → b ≡ true) → (b ≡ true → a ≡ true) → a ≡ b
    same true true f g = refl
    same true false f g = sym (f refl)
    same false true f g = g refl
    same false false f g = refl
