use Rattle.std.proofs.Common.{rules, ◌≡◌, ◌+◌, [], ◌∷◌, ◌++◌, map, take, drop, slice_get, Some, None, sym, ap, ◌∙◌, to_z, of_z, w64, arith}
use Rattle.std.specs.Option.{option_map}
use Rattle.std.specs.FinMap as fin
use Rattle.rr_cells.specs.Listing.{seen_cell, owned_cell}
use Rattle.rr_replica.specs.ReplicaWithRoom.{replica_state}
use Rattle.rr_cells.proofs.HeldCells.{listed_held}
use Rattle.rr_replica.proofs.InTurn.{next_of_sorted, taken_more, taken_all, map-last}
use Rattle.rr_replica.proofs.replica.Replica.cells_from.Goals as goal

pub loop-init : goal.loop-init
loop-init g c = record {
  taken = search rules;
  next = c.cell_at-next.ensures.listed ∙ ap (slice_get (fin.entries c.args.self.now.cells)) (omega arith);
  walk = c.new-walk.ensures;
}

pub loop-preserved : goal.loop-preserved
loop-preserved g c =
    let all = fin.entries c.args.self.now.cells in
    let i = c.loop.counter in
    let cell = c.in-Some.cell in
    let new = c.in_ok-to_cell.field-0 in
    let at : slice_get all (c.args.from + i) ≡ Some (seen_cell cell) = sym c.loop.invariant.next
    ∙ ap (option_map seen_cell) c.in-Some.is in
    let owned : owned_cell new ≡ seen_cell cell = search rules in
    let items : c.push.new.self.items ≡ c.loop.cells.items ++ new ∷ [] = search rules in
    let slot : to_z w64 (of_z w64 cell.slot) ≡ cell.slot = search rules in
    record {
      taken =
          ap (map owned_cell) items ∙ map-last owned_cell c.loop.cells.items new
          ∙ (λ k. c.loop.invariant.taken k ++ owned k ∷ [])
          ∙ sym (taken_more all c.args.from i (seen_cell cell) at);
      next =
          rw slot at (rw c.loop.invariant.walk at c.next_cell-next.ensures.next).listed
          ∙ next_of_sorted all (c.args.from + i) (seen_cell cell) (fin.entries_sorted c.args.self.now.cells) at
          ∙ ap (slice_get all) (omega arith);
      walk = c.next_cell-next.ensures.same ∙ c.loop.invariant.walk;
    }

pub returns-in_default-clause-listed : goal.returns-in_default-clause-listed
returns-in_default-clause-listed g c =
    let all = fin.entries c.args.self.now.cells in
    let past : slice_get all (c.args.from + c.loop.counter) ≡ None = sym c.loop.invariant.next
    ∙ ap (option_map seen_cell) c.in_default.is in
    c.loop.invariant.taken ∙ taken_all all c.args.from c.loop.counter c.args.count past c.loop.auto.counter-end

pub returns-in_default-clause-of_schema : goal.returns-in_default-clause-of_schema
returns-in_default-clause-of_schema g c = listed_held (replica_state c.args.self.now) c.args.from c.loop.counter
    c.loop.cells.items c.schema-schema.ensures.holds c.loop.invariant.taken

pub returns-clause-listed : goal.returns-clause-listed
returns-clause-listed g c =
    let last = c.loop-test.false in
    let most = c.loop.auto.counter-end in
    c.loop.invariant.taken ∙ ap (λ n. take n (drop c.args.from (fin.entries c.args.self.now.cells))) (omega arith)

pub returns-clause-of_schema : goal.returns-clause-of_schema
returns-clause-of_schema g c = listed_held (replica_state c.args.self.now) c.args.from c.loop.counter c.loop.cells.items
    c.schema-schema.ensures.holds c.loop.invariant.taken
