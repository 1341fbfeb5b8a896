-- What a keeper's operations are about.
use Rattle.std.proofs.Common.{◌≡◌, ◌≢◌, ℕ, ◌+◌, ◌<◌, ◌≤◌, ◌==◌, ◌&&◌, nat_le, true, false, ⊎_elim, List, [], ◌∷◌, ◌++◌, fold, append_assoc, refl, sym, ap, ◌∙◌, subst, arith, if◌then◌else◌}
use Rattle.std.proofs.lemmas.Bool.Decides.{nat_tests}
use Rattle.std.proofs.lemmas.List.{append_cancel_left}
use Rattle.std.proofs.lemmas.List.Elements.{All-from_recursion}
use Rattle.std.specs.FinMap.{get, entries}
use Rattle.std.specs.List.{All, AllByRecursion}
use Rattle.std.specs.Ordering.{eq_by_cmp}
use mathlib.Core.List.{IsPrefix}
use Rattle.rr_schema.specs.Schema.{Layout}
use Rattle.rr_cells.specs.CellNames.{cell_name_cmp}
use Rattle.rr_cells.specs.Samples as model
use Rattle.rr_cells.specs.FetchText.{Request, fetch_text}
use Rattle.rr_cells.specs.World.{IsWritten, IsNext, IsClosed, HoldsAllOf}
use Rattle.rr_cells.specs.Knowledge.{Knowledge, IsAheadOf}
use Rattle.rr_cells.proofs.Writes.{others_stay_closed, others_hold_own, writer_stays_closed, writer_holds_own, union_is_closed, union_holds_own, written_now}
use Rattle.rr_cells.proofs.ClosedCells.{whole_cells_are_closed}
use Rattle.rr_cells.specs.declared.cell.Cell.{Cell}
use Rattle.rr_cells.specs.declared.op.Op.{Op}
use Rattle.rr_cells.specs.declared.op.Op.TheVariants.{Join, Put}
use Rattle.rr_cells.specs.declared.sample.Sample.{Sample}
use Rattle.rr_cells.specs.CellBounds.{NamedCell}
use Rattle.rr_cells.specs.Cells.{Cells}
use Rattle.rr_cells.specs.ReplicaState.{ReplicaState}
use Rattle.rr_cells.specs.Joining.{next_after}
use Rattle.rr_cells.specs.Joins.{join_cell}
use Rattle.rr_cells.specs.Listing.{owned_cell}
use Rattle.rr_cells.specs.Operations.{accepts, with_op, cell_step, outcome_of, joins_of, sample_of, step, to_cell, AllAccepted}
use Rattle.rr_cells.specs.Puts.{put_sample}
use Rattle.rr_cells.specs.State.{cells_of_knowledge}
use Rattle.rr_cells.proofs.CellByCell.{join_cell_unites}
use Rattle.rr_cells.proofs.HeldCells.{all_entries}
use Rattle.rr_cells.proofs.OneSampleMore.{put_is_one_sample_more}
use Rattle.rr_cells.proofs.OperationsLemmas.{outcome_of-append, outcome_of-joins, step_accepted, step-origin, step-schema, steps-cells, steps-schema}
use Rattle.rr_delta.specs.Difference.{newer_cells}
use Rattle.rr_delta.specs.Names.{NamedVersion}
use Rattle.rr_delta.proofs.HeldLemmas.{all_filtered}
use Rattle.rr_fetch.specs.Answers.{cells_text}
use Rattle.rr_fetch.proofs.RowLaws.{answer_of_state}
use Rattle.rr_desk.specs.Histories.{HistoryStep, elsewhere, put, joined, HistoryState, Knows, IsHistory, IsWhole, AreHonest, list_of, marks_in, next_scene, ops_of, scene_after}
use Rattle.rr_desk.proofs.PrefixLemmas.{prefix_nil}

-- ---- one step

-- what an accepted sample says
own_sample : (h : ReplicaState) (x : Sample) → accepts h (Put x) ≡ true → (x.origin ≡ h.origin) × (h.next ≤ x.number)
own_sample h x may = grind (arith, nat_tests)

-- a sample that is past all that its origin wrote is the next one
next_there : (h : ReplicaState) (z : HistoryState) (x : Sample) → Knows h z → accepts h (Put x) ≡ true
    → IsNext z.world (sample_of x)
next_there h z x k may y written same =
    let own = own_sample h x may in
    let below : y.number < h.next = k.past y written (same ∙ own.0) in
    omega (arith, own.1)

ahead_there : (h : ReplicaState) (z : HistoryState) (x : Sample) → Knows h z → accepts h (Put x) ≡ true
    → IsAheadOf (sample_of x) z.known
ahead_there h z x k may m known same = next_there h z x k may m.sample (k.closed.written m known).0 same

knows_elsewhere : (h : ReplicaState) (z : HistoryState) (x : model.Sample) → Knows h z → h.origin ≢ x.origin
    → IsNext z.world x → Knows h (next_scene h.schema z (elsewhere x))
knows_elsewhere h z x k other next = record {
  layout = k.layout;
  closed = others_stay_closed h.schema z.world z.known x k.closed next;
  own = others_hold_own h.schema z.world z.known x h.origin other k.own;
  past = λ y written same. ⊎_elim
      (λ (e : y ≡ x). absurd (other (sym same ∙ ap (λ (q : model.Sample). q.origin) e)))
      (λ (e : IsWritten z.world y). k.past y e same)
      (written_now z.world x y written);
  cells = k.cells;
}

knows_put : (h : ReplicaState) (z : HistoryState) (x : Sample) → Knows h z → accepts h (Put x) ≡ true
    → Knows (with_op h (Put x)) (next_scene h.schema z (put x))
knows_put h z x k may =
    let s = h.schema in
    let y = sample_of x in
    let own = own_sample h x may in
    let next = next_there h z x k may in
    let holds : HoldsAllOf s z.world z.known x.origin =
    subst (λ (o : ℕ). HoldsAllOf s z.world z.known o) (sym own.0) k.own in
    record {
      layout = k.layout;
      closed = writer_stays_closed s z.world z.known y k.layout k.closed next holds;
      own = subst (λ (o : ℕ). HoldsAllOf s (next_scene s z (put x)).world (next_scene s z (put x)).known o) own.0
          (writer_holds_own s z.world z.known y holds);
      past = λ v written same. ⊎_elim
          (λ (e : v ≡ y). let n : v.number ≡ x.number = ap (λ (q : model.Sample). q.number) e in omega arith)
          (λ (e : IsWritten z.world v). let below : v.number < h.next = k.past v e same in omega (arith, own.1))
          (written_now z.world y v written);
      cells = ap (λ (m : Cells). put_sample s m y) k.cells
          ∙ put_is_one_sample_more s z.known y k.layout (ahead_there h z x k may);
    }

next_grows : (o n : ℕ) (e : NamedCell) → n ≤ next_after o n e
next_grows o n e = elim (e.0.origin == o && nat_le n e.1.version) as
    (λ b. (e.0.origin == o && nat_le n e.1.version) ≡ b → n ≤ (if b then e.1.version + 1 else n)) [
      | true ↦ λ t. (let le : n ≤ e.1.version = grind (arith, nat_tests) in omega arith)
      | false ↦ λ t. omega arith
    ] refl

knows_joined : (h : ReplicaState) (z : HistoryState) (l : Knowledge) (c : Cell) → Knows h z
    → IsWhole h.schema z.world l c → Knows (with_op h (Join c)) (next_scene h.schema z (joined l c))
knows_joined h z l c k whole =
    let s = h.schema in
    let n = (owned_cell c).0 in record {
      layout = k.layout;
      closed = union_is_closed s z.world z.known (marks_in s l c) k.layout k.closed
          (whole_cells_are_closed s z.world l (eq_by_cmp cell_name_cmp n) whole.closed);
      own = union_holds_own s z.world z.known (marks_in s l c) h.origin k.own;
      past = λ v written same. let below : v.number < h.next = k.past v written same in
          let grows : h.next ≤ next_after h.origin h.next (owned_cell c) = next_grows h.origin h.next (owned_cell c) in
          omega arith;
      cells = ap (λ (m : Cells). join_cell s m n c.contribution) k.cells
          ∙ join_cell_unites s z.world z.known l n c.contribution k.layout k.closed whole.closed whole.here;
    }

-- ---- all steps

honest_there : (s t : Layout) (o p : ℕ) (z : HistoryState) (steps : List HistoryStep) → s ≡ t → o ≡ p
    → AreHonest s o z steps → AreHonest t p z steps
honest_there s t o p z steps same one honest = subst (λ (y : Layout × ℕ). AreHonest y.0 y.1 z steps)
    (λ i. (same i, one i)) honest

pub operations_are_known : (h : ReplicaState) (z : HistoryState) (steps : List HistoryStep) → Knows h z
    → AreHonest h.schema h.origin z steps → AllAccepted h (ops_of steps)
    → Knows (fold step h (ops_of steps)) (scene_after h z steps)
operations_are_known h z [] k honest accepted = k
operations_are_known h z (elsewhere x ∷ steps) k honest accepted =
    operations_are_known h (next_scene h.schema z (elsewhere x)) steps (knows_elsewhere h z x k honest.0.0 honest.0.1)
    honest.1 accepted
operations_are_known h z (put x ∷ steps) k honest accepted =
    let next = step h (Put x) in
    let z' = next_scene h.schema z (put x) in
    let same : with_op h (Put x) ≡ next = sym (step_accepted h (Put x) accepted.0) in
    let schema : h.schema ≡ next.schema = sym (step-schema h (Put x)) in
    let k' : Knows next z' = subst (λ (g : ReplicaState). Knows g z') same (knows_put h z x k accepted.0) in
    subst (λ (s : Layout). Knows (fold step next (ops_of steps)) (fold (next_scene s) z' steps)) (sym schema)
    (operations_are_known next z' steps k' (honest_there h.schema next.schema h.origin next.origin z' steps schema
    (sym (step-origin h (Put x))) honest.1) accepted.1)
operations_are_known h z (joined l c ∷ steps) k honest accepted =
    let next = step h (Join c) in
    let z' = next_scene h.schema z (joined l c) in
    let same : with_op h (Join c) ≡ next = sym (step_accepted h (Join c) accepted.0) in
    let schema : h.schema ≡ next.schema = sym (step-schema h (Join c)) in
    let k' : Knows next z' = subst (λ (g : ReplicaState). Knows g z') same (knows_joined h z l c k honest.0) in
    subst (λ (s : Layout). Knows (fold step next (ops_of steps)) (fold (next_scene s) z' steps)) (sym schema)
    (operations_are_known next z' steps k' (honest_there h.schema next.schema h.origin next.origin z' steps schema
    (sym (step-origin h (Join c))) honest.1) accepted.1)

pub lists_are_known : (h : ReplicaState) (z : HistoryState) (steps : List HistoryStep) → IsHistory h z steps
    → outcome_of h.schema (list_of h steps) ≡ cells_of_knowledge h.schema (scene_after h z steps).known
lists_are_known h z steps is =
    let s = h.schema in
    let ops = ops_of steps in
    let last = operations_are_known h z steps is.knows is.honest is.accepted in
    let same : (fold step h ops).schema ≡ s = steps-schema ops h in
    outcome_of-append s (joins_of h.cells) ops
    ∙ ap (λ (m : Cells). fold (cell_step s) m ops) (outcome_of-joins s h.cells is.knows.layout is.live)
    ∙ sym (steps-cells ops h is.accepted)
    ∙ last.cells
    ∙ ap (λ (t : Layout). cells_of_knowledge t (scene_after h z steps).known) same

closed_after : (h : ReplicaState) (z : HistoryState) (steps : List HistoryStep) → IsHistory h z steps
    → IsClosed h.schema (scene_after h z steps).world (scene_after h z steps).known
closed_after h z steps is = subst (λ (s : Layout). IsClosed s (scene_after h z steps).world
    (scene_after h z steps).known) (steps-schema (ops_of steps) h)
    (operations_are_known h z steps is.knows is.honest is.accepted).closed

-- ---- what readers answer and give

pub answers_are_of_samples : (h : ReplicaState) (z : HistoryState) (steps : List HistoryStep) (q : Request)
    → IsHistory h z steps → cells_text h.schema (outcome_of h.schema (list_of h steps)) q
    ≡ fetch_text h.schema (scene_after h z steps).known q
answers_are_of_samples h z steps q is =
    ap (λ (m : Cells). cells_text h.schema m q) (lists_are_known h z steps is)
    ∙ answer_of_state h.schema is.knows.layout (scene_after h z steps).known q

all_whole : (h : ReplicaState) (z : HistoryState) (steps : List HistoryStep) → IsHistory h z steps
    → AllByRecursion (λ e. IsWhole h.schema (scene_after h z steps).world (scene_after h z steps).known (to_cell e))
    (entries (outcome_of h.schema (list_of h steps)))
all_whole h z steps is =
    all_entries (λ e. IsWhole h.schema (scene_after h z steps).world (scene_after h z steps).known (to_cell e))
    (outcome_of h.schema (list_of h steps))
    (λ n c found. record {
      closed = closed_after h z steps is;
      here =
          ap (λ (m : Cells). get m n) (sym (lists_are_known h z steps is)) ∙ found;
    })

pub cells_saved_are_whole : (h : ReplicaState) (z : HistoryState) (steps : List HistoryStep) → IsHistory h z steps
    → All (λ e. IsWhole h.schema (scene_after h z steps).world (scene_after h z steps).known (to_cell e))
    (entries (outcome_of h.schema (list_of h steps)))
cells_saved_are_whole h z steps is = All-from_recursion _ (entries (outcome_of h.schema (list_of h steps)))
    (all_whole h z steps is)

pub cells_given_are_whole : (h : ReplicaState) (z : HistoryState) (steps : List HistoryStep)
    (summary : List NamedVersion) → IsHistory h z steps
    → All (λ e. IsWhole h.schema (scene_after h z steps).world (scene_after h z steps).known (to_cell e))
    (newer_cells summary (entries (outcome_of h.schema (list_of h steps))))
unfolding newer_cells
cells_given_are_whole h z steps summary is =
    All-from_recursion _ (newer_cells summary (entries (outcome_of h.schema (list_of h steps))))
    (all_filtered (λ e. IsWhole h.schema (scene_after h z steps).world (scene_after h z steps).known (to_cell e)) _
    (entries (outcome_of h.schema (list_of h steps))) (all_whole h z steps is))

-- ---- beginnings

-- the first steps, with as many operations as a beginning of theirs
first_steps : (steps : List HistoryStep) (ops : List Op) → IsPrefix ops (ops_of steps)
    → (first : List HistoryStep) × IsPrefix first steps × (ops_of first ≡ ops)
first_steps steps [] p = ([], prefix_nil steps, refl)
first_steps [] (o ∷ ops) p = absurd (cc (p.1))
first_steps (elsewhere x ∷ steps) (o ∷ ops) p = let r = first_steps steps (o ∷ ops) p in
    (elsewhere x ∷ r.0, (r.1.0, ap (λ (l : List HistoryStep). elsewhere x ∷ l) r.1.1), r.2)
first_steps (put x ∷ steps) (o ∷ ops) p =
    let same : o ≡ Put x = cc (p.1) in
    let r = first_steps steps ops (p.0, cc (p.1)) in
    (put x ∷ r.0, (r.1.0, ap (λ (l : List HistoryStep). put x ∷ l) r.1.1), cc (same, r.2))
first_steps (joined l c ∷ steps) (o ∷ ops) p =
    let same : o ≡ Join c = cc (p.1) in
    let r = first_steps steps ops (p.0, cc (p.1)) in
    (joined l c ∷ r.0, (r.1.0, ap (λ (ts : List HistoryStep). joined l c ∷ ts) r.1.1), cc (same, r.2))

honest_first : (s : Layout) (o : ℕ) (z : HistoryState) (first rest : List HistoryStep) → AreHonest s o z (first ++ rest)
    → AreHonest s o z first
honest_first s o z [] rest honest = tt
honest_first s o z (t ∷ first) rest honest = (honest.0, honest_first s o (next_scene s z t) first rest honest.1)

accepted_first : (h : ReplicaState) (first rest : List HistoryStep) → AllAccepted h (ops_of (first ++ rest))
    → AllAccepted h (ops_of first)
accepted_first h [] rest accepted = tt
accepted_first h (elsewhere x ∷ first) rest accepted = accepted_first h first rest accepted
accepted_first h (put x ∷ first) rest accepted = (accepted.0, accepted_first (step h (Put x)) first rest accepted.1)
accepted_first h (joined l c ∷ first) rest accepted =
    (accepted.0, accepted_first (step h (Join c)) first rest accepted.1)

pub beginnings_are_histories : (h : ReplicaState) (z : HistoryState) (steps : List HistoryStep) (list : List Op)
    → IsHistory h z steps → IsPrefix (joins_of h.cells) list → IsPrefix list (list_of h steps)
    → (first : List HistoryStep) × IsPrefix first steps × IsHistory h z first × (list ≡ list_of h first)
beginnings_are_histories h z steps list is p q =
    let joins = joins_of h.cells in
    let rest : p.0 ++ q.0 ≡ ops_of steps = append_cancel_left joins (p.0 ++ q.0) (ops_of steps)
    (sym (append_assoc joins p.0 q.0) ∙ (ap (λ (l : List Op). l ++ q.0) p.1 ∙ q.1)) in
    let r = first_steps steps p.0 (q.0, rest) in
    let honest : AreHonest h.schema h.origin z (r.0 ++ r.1.0) =
    subst (AreHonest h.schema h.origin z) (sym r.1.1) is.honest in
    let accepted : AllAccepted h (ops_of (r.0 ++ r.1.0)) =
    subst (λ (ts : List HistoryStep). AllAccepted h (ops_of ts)) (sym r.1.1) is.accepted in (
      r.0,
      r.1,
      record {
        live = is.live;
        knows = is.knows;
        honest = honest_first h.schema h.origin z r.0 r.1.0 honest;
        accepted = accepted_first h r.0 r.1.0 accepted;
      },
      sym p.1 ∙ ap (λ (l : List Op). joins ++ l) (sym r.2),
    )
