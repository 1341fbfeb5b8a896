use Rattle.std.proofs.Common.{rules, ◌≡◌, ◌+◌, ◌-◌, ◌^◌, false, [], ◌∷◌, sym, ap, subst, ◌∙◌}
use Rattle.std.specs.Prelude.{◌==◌, min}
use Rattle.rr_contrib.proofs.ValidityLemmas.{Decides-is_valid}
use Rattle.rr_cells.specs.CellBounds.{IsCellOf, NamedCell}
use Rattle.rr_cells.specs.Joining.{with_named}
use Rattle.rr_cells.specs.Listing.{owned_cell}
use Rattle.rr_replica.specs.ReplicaWithRoom.{replica_state}
use Rattle.rr_recovery.specs.Joining.{named_by}
use Rattle.rr_recovery.specs.Found.{found_state}
use Rattle.rr_recovery.specs.Taking.{recovery, with_one}
use Rattle.rr_recovery.proofs.TakingLemmas.{one_taken}
use Rattle.rr_recovery.proofs.taking.take_cell.Goals as goal

pub returns : goal.returns
returns g c =
    let h = replica_state c.args.replica.now in
    let f = found_state c.args.found.now in
    let x = recovery c.args.replica.now c.args.found.now in
    let e : NamedCell = named_by c.args.group.now.key c.args.group.now.archive c.args.cell.now in
    let is : owned_cell c.in_ok-cell.cell ≡ e = c.in_ok-cell.ensures in
    let made : replica_state c.join_cell_numbered.new.self ≡ with_named h (owned_cell c.in_ok-cell.cell) =
    c.in_ok-join_cell_numbered.ensures.state.made in
    let joined : replica_state c.join_cell_numbered.new.self ≡ with_named h e = made ∙ ap (with_named h) is in
    let count : c.saturating_add-found.result ≡ min (f.cells + 1) (2 ^ 64 - 1) = search rules in
    let other : (e.0.origin == h.origin) ≡ false = search rules in
    let all : recovery c.join_cell_numbered.new.self
    (record {
      origin = c.args.found.now.origin;
      cursors = c.args.found.now.cursors;
      end = c.args.found.now.end;
      records = c.args.found.now.records;
      cells = c.saturating_add-found.result;
    }) ≡ with_one x e =
    λ i. record {
      replica = joined i;
      found = record { origin = f.origin; cursors = f.cursors; end = f.end; records = f.records; cells = count i };
    } in
    record {
      taken = record { exact = one_taken x _ e other all; joins = (e ∷ [], joined) };
      keys = c.in_ok-join_cell_numbered.ensures.keys;
    }

pub join_cell_numbered-requires-clause-cell : goal.join_cell_numbered-requires-clause-cell
join_cell_numbered-requires-clause-cell g c =
    let s = c.args.replica.now.schema in
    let archive = c.args.group.now.archive in
    let e = c.args.cell.now in
    let is = c.in_ok-cell.ensures in
    subst (λ (n : NamedCell). IsCellOf s n) (sym is)
    (record {
      key = rw c.text-text.ensures.value at c.text-text.ensures.grammar;
      archive = c.requires.archive;
      origin = search rules;
      valid = (Decides-is_valid s archive e.0 e.1.contribution).0 c.requires.valid;
      slot_fits = search rules;
      sum_fits = search rules;
      min_fits = search rules;
      max_fits = search rules;
      last_time_fits = search rules;
      last_value_fits = search rules;
    })
