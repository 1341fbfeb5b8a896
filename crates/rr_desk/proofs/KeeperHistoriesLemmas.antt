-- The histories of keepers, and of what is loaded.
use Rattle.std.proofs.Common.{◌≡◌, ◌≢◌, ℕ, ◌+◌, ◌==◌, ◌&&◌, nat_le, true, List, [], ◌∷◌, ◌++◌, fold, append_assoc, append-nil, Some, refl, sym, ap, ◌∙◌, subst, arith}
use Rattle.std.proofs.lemmas.Bool.{and_from, eq-eqb, le-leb}
use Rattle.std.proofs.lemmas.List.Sums.{fold-append}
use Rattle.std.specs.FinMap.{get}
use Rattle.rr_text.specs.declared.limits.TheConstants.{MAX_NUMBER}
use Rattle.rr_schema.specs.Schema.{Layout}
use Rattle.rr_contrib.specs.declared.contribution.Contribution.{Contribution}
use Rattle.rr_point.specs.Key.{key_text}
use Rattle.rr_cells.specs.CellNames.{CellName}
use Rattle.rr_cells.specs.Samples as model
use Rattle.rr_cells.specs.World.{IsWritten, IsClosed}
use Rattle.rr_cells.specs.declared.op.Op.{Op}
use Rattle.rr_cells.specs.declared.op.Op.TheVariants.{Join, Put}
use Rattle.rr_cells.specs.declared.sample.Sample.{Sample}
use Rattle.rr_cells.specs.Cells.{Cells, IsTrimmed}
use Rattle.rr_cells.specs.ReplicaState.{ReplicaState}
use Rattle.rr_cells.specs.Joining.{next_after}
use Rattle.rr_cells.specs.Listing.{owned_cell}
use Rattle.rr_cells.specs.Operations.{accepts, with_op, cell_step, outcome_of, joins_of, step, AllAccepted}
use Rattle.rr_cells.specs.State.{cells_of_knowledge}
use Rattle.rr_cells.proofs.OperationsLemmas.{accepted-append, cell_is_taken, outcome_of-joins, outcome_of-more, step_accepted}
use Rattle.rr_cells.proofs.States.{state_is_trimmed}
use Rattle.rr_cells.proofs.WrittenCells.{versions_are_numbers}
use Rattle.rr_desk.specs.KeeperState.{KeeperState, own_replica, with_pending}
use Rattle.rr_schema.proofs.AdditionLemmas.{additions_are_found}
use Rattle.rr_cells.specs.Raising.{raised_cells}
use Rattle.rr_cells.proofs.Raised.{raised_is_closed, raised_makes_raised_cells}
use Rattle.rr_snapshot.proofs.SavedLemmas.{saved_is_loaded, saved_is_raised}
use Rattle.rr_desk.specs.Histories.{HistoryStep, elsewhere, put, joined, HistoryState, Knows, HasHistory, IsHonest, AreHonest, next_scene, ops_of, scene_after}
use Rattle.rr_desk.specs.Laws.{OpeningIsHistory, PutIsAStep, WriteIsSteps, JoinIsAStep, PublishIsNoStep, OthersWrite, LoadedIsKnown, RaisedIsKnown}
use Rattle.rr_desk.specs.Points.{with_put, with_puts}

-- ---- keepers

ops_of-append : (xs ys : List HistoryStep) → ops_of (xs ++ ys) ≡ ops_of xs ++ ops_of ys
ops_of-append [] ys = refl
ops_of-append (elsewhere x ∷ xs) ys = ops_of-append xs ys
ops_of-append (put x ∷ xs) ys = ap (λ (l : List Op). Put x ∷ l) (ops_of-append xs ys)
ops_of-append (joined l c ∷ xs) ys = ap (λ (ops : List Op). Join c ∷ ops) (ops_of-append xs ys)

honest_more : (s : Layout) (o : ℕ) (z : HistoryState) (steps : List HistoryStep) (t : HistoryStep)
    → AreHonest s o z steps → IsHonest s o (fold (next_scene s) z steps) t → AreHonest s o z (steps ++ t ∷ [])
honest_more s o z [] t honest is = (is, tt)
honest_more s o z (u ∷ steps) t honest is = (honest.0, honest_more s o (next_scene s z u) steps t honest.1 is)

all_pending : (k : KeeperState) (op : Op) → outcome_of k.schema (k.published ++ (k.pending ++ op ∷ []))
    ≡ cell_step k.schema (outcome_of k.schema (k.published ++ k.pending)) op
all_pending k op = ap (outcome_of k.schema) (sym (append_assoc k.published k.pending (op ∷ [])))
    ∙ outcome_of-more k.schema (k.published ++ k.pending) op

-- with an operation more pending a keeper's replica has applied it
pending_applied : (k : KeeperState) (op : Op) → own_replica (with_pending k op) ≡ with_op (own_replica k) op
pending_applied k (Put x) = λ i. record {
  schema = k.schema;
  origin = k.origin;
  next = x.number + 1;
  cells =
      all_pending k (Put x) i;
}
pending_applied k (Join c) = λ i. record {
  schema = k.schema;
  origin = k.origin;
  next =
      next_after k.origin k.next (owned_cell c);
  cells = all_pending k (Join c) i;
}

module _ (h : ReplicaState) (z : HistoryState) (steps : List HistoryStep) (k : KeeperState)
    (has : HasHistory h z steps k) where
  one_step : (t : HistoryStep) (op : Op) → ops_of (t ∷ []) ≡ op ∷ [] → accepts (own_replica k) op ≡ true
      → IsHonest h.schema h.origin (scene_after h z steps) t → HasHistory h z (steps ++ t ∷ []) (with_pending k op)
  one_step t op is_op may honest =
      let ops = ops_of steps in
      let more : ops_of (steps ++ t ∷ []) ≡ ops ++ op ∷ [] = ops_of-append steps (t ∷ [])
      ∙ ap (λ (l : List Op). ops ++ l) is_op in
      let joins = joins_of h.cells in
      record {
        history = record {
          live = has.history.live;
          knows = has.history.knows;
          honest = honest_more h.schema h.origin z steps t has.history.honest honest;
          accepted = subst (AllAccepted h) (sym more) (accepted-append ops (op ∷ []) h has.history.accepted
              (subst (λ (g : ReplicaState). accepts g op ≡ true) has.holds may, tt));
        };
        list = sym (append_assoc k.published k.pending (op ∷ [])) ∙ ap (λ (l : List Op). l ++ op ∷ []) has.list
            ∙ append_assoc joins ops (op ∷ []) ∙ ap (λ (l : List Op). joins ++ l) (sym more);
        holds = pending_applied k op ∙ sym (step_accepted (own_replica k) op may)
            ∙ ap (λ (g : ReplicaState). step g op) has.holds ∙ sym (fold-append step h ops (op ∷ []))
            ∙ ap (fold step h) (sym more);
      }

pub opening_is_history : OpeningIsHistory
opening_is_history h z b knows =
    let live = subst (IsTrimmed h.schema) (sym knows.cells) (state_is_trimmed h.schema knows.layout z.known) in
    let joins = joins_of h.cells in
    let cells : outcome_of h.schema (joins ++ []) ≡ h.cells = ap (outcome_of h.schema) (append-nil joins)
    ∙ outcome_of-joins h.schema h.cells knows.layout live in
    record {
      history = record { live = live; knows = knows; honest = tt; accepted = tt };
      list = refl;
      holds = λ i. record { schema = h.schema; origin = h.origin; next = h.next; cells = cells i };
    }

pub put_is_a_step : PutIsAStep
put_is_a_step h z steps k key time value has few =
    let x : Sample = record { origin = k.origin; number = k.next; key = key; time = time; value = value } in
    one_step h z steps k has (put x) (Put x) refl
    (and_from (k.origin == k.origin) (nat_le k.next k.next && nat_le k.next MAX_NUMBER) (eq-eqb k.origin k.origin refl)
    (and_from (nat_le k.next k.next) (nat_le k.next MAX_NUMBER) (le-leb k.next k.next (omega arith))
    (le-leb k.next MAX_NUMBER few)))
    tt

pub write_is_steps : WriteIsSteps
write_is_steps h z steps k p time [] has few = (
  [],
  subst (λ (ts : List HistoryStep). HasHistory h z ts k) (sym (append-nil steps)) has,
)
write_is_steps h z steps k p time (field ∷ fields) has few =
    let key = key_text p field.0 in
    let t = put (record { origin = k.origin; number = k.next; key = key; time = time; value = field.1 }) in
    let rest = write_is_steps h z (steps ++ t ∷ []) (with_put k key time field.1) p time fields
    (put_is_a_step h z steps k key time field.1 has (omega (arith, few))) (omega (arith, few)) in (
      t ∷ rest.0,
      subst (λ (ts : List HistoryStep). HasHistory h z ts (with_puts k p time (field ∷ fields)))
          (append_assoc steps (t ∷ []) rest.0) rest.1,
    )

pub join_is_a_step : JoinIsAStep
join_is_a_step h z steps k known c has cell whole =
    one_step h z steps k has (joined known c) (Join c) refl (cell_is_taken k.schema (owned_cell c) cell) whole

pub publish_is_no_step : PublishIsNoStep
publish_is_no_step h z steps k has =
    let all = k.published ++ k.pending in
    let none : all ++ [] ≡ all = append-nil all in
    record {
      history = has.history;
      list = none ∙ has.list;
      holds = (λ i. record {
        schema = k.schema;
        origin = k.origin;
        next = k.next;
        cells =
            outcome_of k.schema (none i);
      }) ∙ has.holds;
    }

pub others_write : OthersWrite
others_write h z steps k x has honest =
    let same : ops_of (steps ++ elsewhere x ∷ []) ≡ ops_of steps = ops_of-append steps (elsewhere x ∷ [])
    ∙ append-nil (ops_of steps) in
    record {
      history = record {
        live = has.history.live;
        knows = has.history.knows;
        honest = honest_more h.schema h.origin z steps (elsewhere x) has.history.honest honest;
        accepted = subst (AllAccepted h) (sym same) has.history.accepted;
      };
      list = has.list ∙ ap (λ (l : List Op). joins_of h.cells ++ l) (sym same);
      holds = has.holds ∙ ap (fold step h) (sym same);
    }

-- ---- snapshots

-- an origin under which nothing was written is that of no cell
no_cell_of : (h : ReplicaState) (z : HistoryState) (origin : ℕ) → Knows h z
    → ((x : model.Sample) → IsWritten z.world x → x.origin ≢ origin) → (n : CellName) (c : Contribution)
    → get h.cells n ≡ Some c → n.origin ≢ origin
no_cell_of h z origin knows unused n c at same =
    let x = versions_are_numbers h.schema z.world z.known n c knows.closed
    (ap (λ (m : Cells). get m n) (sym knows.cells) ∙ at) in
    unused x.0 x.1 (x.2 ∙ same)

pub loaded_is_known : LoadedIsKnown
loaded_is_known h z origin knows holds few other unused = (
  record { schema = h.schema; origin = origin; next = 1; cells = h.cells },
  saved_is_loaded h origin holds few other (no_cell_of h z origin knows unused),
  record {
    layout = knows.layout;
    closed = knows.closed;
    own = λ m of same. absurd (unused m.sample of.0 same);
    past = λ x was same. absurd (unused x was same);
    cells = knows.cells;
  },
)

pub raised_is_known : RaisedIsKnown
raised_is_known h z s a origin knows holds layout since few other unused =
    let found = (additions_are_found s h.schema a layout knows.layout).0 since in (
      record { schema = s; origin = origin; next = 1; cells = raised_cells a h.cells },
      saved_is_raised h s a origin holds layout since few other (no_cell_of h z origin knows unused),
      refl,
      record {
        layout = layout;
        closed = raised_is_closed a s z.world z.known found.0
            (subst (λ (t : Layout). IsClosed t z.world z.known) found.1 knows.closed);
        own = λ m of same. absurd (unused m.sample of.0 same);
        past = λ x was same. absurd (unused x was same);
        cells = ap (raised_cells a) (knows.cells ∙ ap (λ (t : Layout). cells_of_knowledge t z.known) found.1)
            ∙ sym (raised_makes_raised_cells a s z.known found.0);
      },
    )
