use Rattle.std.proofs.Common.{◌<◌, ℕ, List, [], ◌∷◌, length, map, slice_get, Ok, IsTrue, sym, ap, subst, ◌∙◌}
use Rattle.std.proofs.lemmas.Result.{err_from_is_err_and}
use Rattle.std.specs.Prelude.{Option}
use Rattle.rr_schema.specs.Schema.{Layout}
use Rattle.rr_contrib.specs.Validity.{is_valid}
use Rattle.rr_codec.specs.Decoding.{TakesNext}
use Rattle.rr_codec.specs.Fields.{SlotEntry}
use Rattle.rr_codec.specs.Reading.{cells_left, packed_at}
use Rattle.rr_journal.specs.Body.{packed_cells}
use Rattle.rr_replica.specs.ReplicaWithRoom.{replica_state}
use Rattle.rr_recovery.specs.Joining.{group_cells, named_by}
use Rattle.rr_recovery.specs.Taking.{recovery, taken_cells}
use Rattle.rr_recovery.proofs.TakingLemmas.{all_left, is_opened, joins_schema, joins_then, next_left, others_left, then_refused}
use Rattle.rr_recovery.proofs.taking.take_cells.Goals as goal

pub returns-in_err-cells : goal.returns-in_err-cells
returns-in_err-cells g c =
    absurd (is_opened c.args.replica.now.schema c.args.group.now.archive c.args.group.now.packed.items _ c.requires.checked.1
    (sym (ap packed_at c.deref.ensures.value) ∙ c.in_err-cells.ensures.0))

pub loop-cell-init : goal.loop-cell-init
loop-cell-init g c = (
  all_left c.args.replica.now.schema c.args.group.now.key c.args.group.now.archive c.args.group.now.packed.items
      c.in_ok-cells.cells.cells (recovery c.args.replica.now c.args.found.now) c.requires.checked.1
      (c.in_ok-cells.ensures ∙ ap (λ (bytes : List ℕ). cells_left (packed_at bytes)) c.deref.ensures.value),
  c.requires.series,
)

pub take_cell-requires-clause-archive : goal.take_cell-requires-clause-archive
take_cell-requires-clause-archive g c =
    subst (λ (s : Layout). c.args.group.now.archive < length s.archives)
    (sym (joins_schema (replica_state c.args.replica.now) (replica_state c.loop-cell.replica)
    c.loop-cell.invariant.0.joins)) c.requires.checked.0

pub take_cell-requires-clause-valid : goal.take_cell-requires-clause-valid
take_cell-requires-clause-valid g c =
    let e = c.in-Some.cell in
    let takes = subst (λ (o : Option SlotEntry). TakesNext c.loop-cell.cells c.next.new.self (Ok o)) c.in-Some.is
    c.in_ok-cell.ensures in
    let next = next_left c.args.replica.now.schema c.args.group.now.key c.args.group.now.archive e c.loop-cell.cells
    c.next.new.self (recovery c.args.replica.now c.args.found.now) (recovery c.loop-cell.replica c.loop-cell.found)
    (group_cells (packed_cells c.args.group.now)) c.loop-cell.invariant.0 takes in
    subst (λ (s : Layout). IsTrue (is_valid s c.args.group.now.archive e.0 e.1.contribution))
    (sym (joins_schema (replica_state c.args.replica.now) (replica_state c.loop-cell.replica)
    c.loop-cell.invariant.0.joins)) next.valid

pub loop-cell-preserved : goal.loop-cell-preserved
loop-cell-preserved g c =
    let e = c.in-Some.cell in
    let s = c.args.replica.now.schema in
    let x = recovery c.args.replica.now c.args.found.now in
    let now = recovery c.loop-cell.replica c.loop-cell.found in
    let all = group_cells (packed_cells c.args.group.now) in
    let takes = subst (λ (o : Option SlotEntry). TakesNext c.loop-cell.cells c.next.new.self (Ok o)) c.in-Some.is
    c.in_ok-cell.ensures in
    let next = next_left s c.args.group.now.key c.args.group.now.archive e c.loop-cell.cells c.next.new.self x now all
    c.loop-cell.invariant.0 takes in (
      others_left s c.args.group.now.key c.args.group.now.archive e c.next.new.self.cells x now
          (recovery c.take_cell.new.replica c.take_cell.new.found) all next c.in_ok-take_cell.ensures.taken.exact
          c.in_ok-take_cell.ensures.taken.joins,
      ap (λ (keys : List (List ℕ)). slice_get keys c.args.series) c.in_ok-take_cell.ensures.keys
          ∙ c.loop-cell.invariant.1,
    )

pub returns-in_err-take_cell : goal.returns-in_err-take_cell
returns-in_err-take_cell g c =
    let e = c.in-Some.cell in
    let key = c.args.group.now.key in
    let archive = c.args.group.now.archive in
    let x = recovery c.args.replica.now c.args.found.now in
    let now = recovery c.loop-cell.replica c.loop-cell.found in
    let all = group_cells (packed_cells c.args.group.now) in
    let takes = subst (λ (o : Option SlotEntry). TakesNext c.loop-cell.cells c.next.new.self (Ok o)) c.in-Some.is
    c.in_ok-cell.ensures in
    let next = next_left c.args.replica.now.schema key archive e c.loop-cell.cells c.next.new.self x now all
    c.loop-cell.invariant.0 takes in
    let p = err_from_is_err_and c.from_residual-in_err-take_cell.result c.from_residual-in_err-take_cell.ensures.1 in
    rw (p.1, p.2)
    (record {
      exact = then_refused now (named_by key archive e ∷ []) (map (named_by key archive) next.es) (taken_cells x all) _
          next.whole c.in_err-take_cell.ensures.taken.exact;
      joins = joins_then x.replica now.replica (replica_state c.take_cell.new.replica) next.joins
          c.in_err-take_cell.ensures.taken.joins;
    })
