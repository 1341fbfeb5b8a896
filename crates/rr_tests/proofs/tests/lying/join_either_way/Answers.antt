use Rattle.std.proofs.Common.{◌≡◌, Result, Ok, Err, OnOk, sym, ap, ◌∙◌}
use Rattle.rr_cells.specs.Cells.{Cells}
use Rattle.rr_cells.specs.Joins.{join}
use Rattle.rr_cells.specs.Joining.{with_cell}
use Rattle.rr_cells.specs.ReplicaState.{ReplicaState, IsReplicaState}
use Rattle.rr_cells.specs.Laws.{CellJoinIsCommutative, CellJoinIsAssociative}
use Rattle.rr_replica.specs.ReplicaWithRoom.{replica_state}
use Rattle.rr_tests.proofs.tests.lying.join_either_way.Goals as goal

-- two maps are joined into a third in either order
either_order : CellJoinIsCommutative → CellJoinIsAssociative → (h : ReplicaState) → IsReplicaState h → (m n : Cells)
    → join h.schema (join h.schema h.cells m) n ≡ join h.schema (join h.schema h.cells n) m
either_order commutative associative h is m n =
    associative h.schema h.cells m n is.layout ∙ ap (join h.schema h.cells) (commutative h.schema m n is.layout)
    ∙ sym (associative h.schema h.cells n m is.layout)

on_ok : {E : Type 0} {P Q : Type 0} (r : Result (Unit {0}) E) → (P → Q) → OnOk r P → OnOk r Q
on_ok (Ok x) f p = f p
on_ok (Err e) f p = tt

-- both held the same before
pub returns : goal.returns
returns g c =
    let one = c.args.one.now in
    let first = c.args.first.now in
    let second = c.args.second.now in
    let there = c.in_ok-join_cell-2.ensures.state.made
    ∙ ap (λ (h : ReplicaState). with_cell h second) c.in_ok-join_cell.ensures.state.made in
    let here = c.in_ok-join_cell-3.ensures.state.made ∙ ap (λ (h : ReplicaState). with_cell h second)
    (sym c.requires.alike) in
    on_ok c.join_cell-4.result (λ joined.
    ap (λ (h : ReplicaState). h.cells) there
    ∙ either_order c.join_keeps_the_live.ensures.commutative c.join_keeps_the_live.ensures.associative
    (replica_state one) c.schema-schema.ensures.holds _ _
    ∙ sym (ap (λ (h : ReplicaState). h.cells) (joined ∙ ap (λ (h : ReplicaState). with_cell h first) here)))
    c.join_cell-4.ensures.state.made
