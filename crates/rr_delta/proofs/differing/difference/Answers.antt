use Rattle.std.proofs.Common.{rules, ◌≡◌, ◌++◌, map, sym, ap, ◌∙◌, subst, length, arith, suc, to_z, of_z, w64}
use Rattle.std.specs.List.{filter}
use Rattle.std.specs.Option.{option_map}
use Rattle.std.specs.FinMap.{entries, entries_sorted, is_sorted}
use Rattle.std.proofs.lemmas.List.{append-nil}
use Rattle.rr_join.proofs.Booleans.{T_from_true, true_from_T}
use Rattle.rr_cells.specs.CellNames.{cell_name_cmp}
use Rattle.rr_cells.specs.Listing.{seen_cell, owned_cell}
use Rattle.rr_replica.proofs.NextCell.{is_past}
use Rattle.rr_delta.specs.Names.{owned_name}
use Rattle.rr_delta.specs.Summaries.{cells_from}
use Rattle.rr_delta.specs.Difference.{newer_cell, newer_cells, names_from}
use Rattle.rr_replica.specs.ReplicaWithRoom.{replica_state}
use Rattle.rr_delta.proofs.DifferenceLemmas.{AreLeft, left_at_start, left_here, left_later, goes_on, newer_none, newer_sorted, newer_held}
use Rattle.rr_delta.proofs.HeldLemmas.{all_held, cells_held}
use Rattle.rr_delta.proofs.Walks.{walked_on, walked_to}
use Rattle.rr_delta.proofs.differing.difference.Goals as goal

pub loop-next-init : goal.loop-next-init
loop-next-init g c =
    let es = entries c.args.replica.now.cells in
    let summary = map owned_name c.args.summary.now in
    let start = ap (λ o. cells_from o es) c.cell_at-next.ensures.listed
    ∙ walked_to 0 es (entries_sorted c.args.replica.now.cells) in
    record {
      so_far = λ i. map owned_cell (c.new-cells.ensures.items i) ++ newer_cells summary (start i);
      left = left_at_start (option_map seen_cell c.cell_at-next.result) summary;
      walk = c.new-walk.ensures;
    }

pub loop-next-smaller : goal.loop-next-smaller
loop-next-smaller g c =
    let es = entries c.args.replica.now.cells in
    let cell = c.in-Some.cell in
    let e = seen_cell cell in
    let slot : to_z w64 (of_z w64 cell.slot) ≡ cell.slot = search rules in
    let left = ap (λ o. length (cells_from o es))
    (rw slot at (rw c.loop-next.invariant.walk at c.next_cell-next.ensures.next).listed)
    ∙ ap length (walked_on e.0 es (entries_sorted c.args.replica.now.cells)) in
    let before : length (cells_from (option_map seen_cell c.loop-next.next) es)
    ≡ suc (length (filter (is_past e.0) es)) = ap (λ o. length (cells_from (option_map seen_cell o) es))
    c.in-Some.is in
    omega (arith, left, before)

pub loop-next-preserved : goal.loop-next-preserved
loop-next-preserved g c =
    let m = c.args.replica.now.cells in
    let es = entries m in
    let summary = map owned_name c.args.summary.now in
    let cell = c.in-Some.cell in
    let e = seen_cell cell in
    let prefix = map owned_cell c.loop-next.cells.items in
    let left = map owned_name c.names_from-names.result.now in
    let slot : to_z w64 (of_z w64 cell.slot) ≡ cell.slot = search rules in
    let next = rw slot at (rw c.loop-next.invariant.walk at c.next_cell-next.ensures.next).listed in
    let here = left_here e summary (map owned_name c.loop-next.names.now)
    (subst (λ o. AreLeft (option_map seen_cell o) summary (map owned_name c.loop-next.names.now)) c.in-Some.is
    c.loop-next.invariant.left) in
    let names : left ≡ names_from e.0 summary = c.names_from-names.ensures ∙ here in
    let added = c.in_ok-push_newer.ensures ∙ ap (λ k. prefix ++ newer_cell k e) c.first_version.ensures in
    record {
      so_far =
          goes_on summary es prefix (map owned_cell c.push_newer.new.cells.items) e
          (option_map seen_cell c.next_cell-next.result) left (T_from_true _ c.requires) (entries_sorted m) names
          next added
          ∙ ap (λ o. prefix ++ newer_cells summary (cells_from (option_map seen_cell o) es)) (sym c.in-Some.is)
          ∙ c.loop-next.invariant.so_far;
      left = left_later e es (option_map seen_cell c.next_cell-next.result) summary left names next;
      walk = c.next_cell-next.ensures.same ∙ c.loop-next.invariant.walk;
    }

pub returns : goal.returns
returns g c =
    let h = replica_state c.args.replica.now in
    let es = entries h.cells in
    let summary = map owned_name c.args.summary.now in
    let prefix = map owned_cell c.loop-next.cells.items in
    let newer : prefix ≡ newer_cells summary es = sym (append-nil prefix)
    ∙ ap (λ l. prefix ++ l) (sym (newer_none summary))
    ∙ ap (λ o. prefix ++ newer_cells summary (cells_from (option_map seen_cell o) es)) (sym c.in_default.is)
    ∙ c.loop-next.invariant.so_far in
    record {
      newer = newer;
      ascending = ap (is_sorted cell_name_cmp) newer ∙ true_from_T _ (newer_sorted summary es (entries_sorted h.cells));
      of_schema = cells_held h.schema c.loop-next.cells.items (newer_cells summary es)
          (newer_held h.schema summary es (all_held h c.schema-schema.ensures.holds)) newer;
    }
