-- The cells so far are joined, each to what the ones before left.
use Rattle.std.proofs.Common.{rules, ◌≡◌, ◌∙◌, ℕ, [], ◌∷◌, ◌++◌, length, take, get_or, sym, ap, subst, arith}
use Rattle.std.proofs.Math.Seq.{take-length}
use Rattle.std.proofs.lemmas.List.{take_more}
use Rattle.rr_cells.specs.ReplicaState.{ReplicaState}
use Rattle.rr_cells.specs.CellBounds.{IsCellOf}
use Rattle.rr_cells.specs.Joining.{with_cell, with_cells}
use Rattle.rr_cells.specs.Listing.{owned_cell}
use Rattle.rr_replica.specs.ReplicaWithRoom.{replica_state}
use Rattle.rr_replica.proofs.FieldLemmas.{passed}
use Rattle.rr_cells.proofs.JoiningLemmas.{with_cells-append}
use Rattle.rr_replica.proofs.JoinedMap.{joined_with_map}
use Rattle.rr_replica.proofs.replica.Replica.join_cells.Goals as goal

pub join_cell-requires : goal.join_cell-requires
join_cell-requires g c =
    let cells = c.args.cells.now in
    let i = c.loop-cell.cell-index in
    let cell = c.cell-item.result in
    let item : get_or cells i cell ≡ cell = search rules in
    let of_schema = c.requires i cell c.loop-cell-test.true in
    subst (λ s. IsCellOf s (owned_cell cell)) (sym c.loop-cell.invariant.schema)
    (subst (λ d. IsCellOf c.args.self.now.schema (owned_cell d)) item of_schema)

pub loop-cell-preserved : goal.loop-cell-preserved
loop-cell-preserved g c =
    let cells = c.args.cells.now in
    let i = c.loop-cell.cell-index in
    let cell = c.cell-item.result in
    let item : get_or cells i cell ≡ cell = search rules in
    let written = passed c.join_cell.result c.join_cell.ensures.state.made c.if-is_err.ensures.value in
    let more = take_more cells i cell c.loop-cell-test.true ∙ ap (λ d. take i cells ++ d ∷ []) item in
    record {
      counted = omega (arith, c.loop-cell.invariant.counted);
      schema = ap (λ (h : ReplicaState). h.schema) written ∙ c.loop-cell.invariant.schema;
      joined = written ∙ ap (λ h. with_cell h cell) c.loop-cell.invariant.joined
          ∙ sym (with_cells-append (replica_state c.args.self.now) (take i cells) (cell ∷ []))
          ∙ ap (with_cells (replica_state c.args.self.now)) (sym more);
    }

pub returns-clause-whole : goal.returns-clause-whole
returns-clause-whole g c =
    let cells = c.args.cells.now in
    let last : c.loop-cell.cell-index ≡ length cells =
    omega (arith, c.loop-cell-test.false, c.loop-cell.auto.cell-index-end) in
    let all : take c.loop-cell.cell-index cells ≡ cells = ap (λ (i : ℕ). take i cells) last ∙ take-length cells in
    joined_with_map (replica_state c.args.self.now) (replica_state c.loop-cell.self) cells c.schema-schema.ensures.holds
    (c.loop-cell.invariant.joined ∙ ap (with_cells (replica_state c.args.self.now)) all)
