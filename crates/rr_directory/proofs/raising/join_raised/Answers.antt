use Rattle.std.proofs.Common.{rules, ◌≡◌, Option, Some, IfSome, slice_get, sym, ap, subst, ◌∙◌, to_z, of_z, w64, arith}
use Rattle.std.specs.FinMap.{entries, entries_sorted}
use Rattle.std.specs.Option.{option_map}
use Rattle.rr_schema.specs.Schema.{Layout}
use Rattle.rr_schema.specs.declared.added.Addition.TheVariants.{Archive}
use Rattle.rr_cells.specs.declared.cell.CellRef.{CellRef}
use Rattle.rr_cells.specs.CellBounds.{IsCellOf}
use Rattle.rr_cells.specs.Joining.{with_named}
use Rattle.rr_cells.specs.Listing.{seen_cell}
use Rattle.rr_cells.specs.Raising.{raised_cell}
use Rattle.rr_cells.specs.ReplicaState.{ReplicaState}
use Rattle.rr_replica.specs.ReplicaWithRoom.{replica_state}
use Rattle.rr_replica.proofs.InTurn.{next_of_sorted}
use Rattle.rr_directory.proofs.RaisingLemmas.{is_raised_cell, with_all, with_more}
use Rattle.rr_directory.proofs.raising.join_raised.Goals as goal

pub join_one-requires-clause-few : goal.join_one-requires-clause-few
join_one-requires-clause-few g c =
    let is : IsCellOf c.args.older.now.schema (seen_cell c.in-Some.cell) =
    subst (λ (o : Option CellRef). IfSome o (λ x. IsCellOf c.args.older.now.schema (seen_cell x))) c.in-Some.is
    c.loop.invariant.of_schema in
    let there = is.archive in
    let few = c.archives-archives.ensures.within.few_archives in
    omega (arith, few, there)

pub join_one-requires-clause-of_schema : goal.join_one-requires-clause-of_schema
join_one-requires-clause-of_schema g c =
    let e = seen_cell c.in-Some.cell in
    let is : IsCellOf c.args.older.now.schema e =
    subst (λ (o : Option CellRef). IfSome o (λ x. IsCellOf c.args.older.now.schema (seen_cell x))) c.in-Some.is
    c.loop.invariant.of_schema in
    subst (λ (s : Layout). IsCellOf s (raised_cell (Archive c.args.added) e)) (sym c.loop.invariant.schema)
    (is_raised_cell c.args.added c.args.replica.now.schema c.args.older.now.schema e c.requires is)

pub loop-preserved : goal.loop-preserved
loop-preserved g c =
    let all = entries c.args.older.now.cells in
    let i = c.loop.counter in
    let cell = c.in-Some.cell in
    let first = replica_state c.args.replica.now in
    let at : slice_get all i ≡ Some (seen_cell cell) = sym c.loop.invariant.next
    ∙ ap (option_map seen_cell) c.in-Some.is in
    let slot : to_z w64 (of_z w64 cell.slot) ≡ cell.slot = search rules in
    record {
      next = rw slot at (rw c.loop.invariant.walk at c.next_cell-next.ensures.next).listed
          ∙ next_of_sorted all i (seen_cell cell) (entries_sorted c.args.older.now.cells) at;
      of_schema = (rw c.loop.invariant.walk at c.next_cell-next.ensures.next).of_schema;
      joined = c.in_ok-join_one.ensures.joined
          ∙ ap (λ (h : ReplicaState). with_named h (raised_cell (Archive c.args.added) (seen_cell cell)))
          c.loop.invariant.joined ∙ sym (with_more c.args.added first all i (seen_cell cell) at);
      schema = c.join_one.ensures.schema ∙ c.loop.invariant.schema;
      walk = c.next_cell-next.ensures.same ∙ c.loop.invariant.walk;
    }

pub returns-in-None-clause-joined : goal.returns-in-None-clause-joined
returns-in-None-clause-joined g c = c.loop.invariant.joined
    ∙ with_all c.args.added (replica_state c.args.replica.now) (entries c.args.older.now.cells) c.loop.counter c.loop.next
    c.loop.invariant.next c.in-None.is
