-- What a node gives is there.
use Rattle.std.proofs.Common.{◌≡◌, ◌≢◌, ℕ, true, sym, ap, ◌∙◌, true≢false, Some, is_some, Ok}
use Rattle.std.specs.Cmp.{nat_cmp_total}
use Rattle.std.specs.FinMap.{get, entries, contains_key, nat_cmp-IsAntisymmetric}
use Rattle.std.proofs.lemmas.List.Elements.{All-from_recursion}
use Rattle.rr_schema.specs.Schema.{Layout}
use Rattle.rr_contrib.specs.declared.contribution.Contribution.{Contribution}
use Rattle.rr_join.proofs.ValuesLemmas.{is_some-map_values}
use Rattle.rr_cells.specs.CellNames.{CellName}
use Rattle.rr_cells.specs.Knowledge.{Knowledge}
use Rattle.rr_cells.specs.World.{World, IsClosed}
use Rattle.rr_cells.specs.CellBounds.{NamedCell}
use Rattle.rr_cells.specs.Cells.{Cells}
use Rattle.rr_cells.specs.State.{cells_of_knowledge}
use Rattle.rr_cells.proofs.HeldCells.{all_entries}
use Rattle.rr_cells.proofs.WrittenCells.{versions_are_numbers}
use Rattle.rr_desk.specs.KeeperState.{cells_of, own_replica}
use Rattle.rr_delta.specs.Difference.{newer_cells}
use Rattle.rr_delta.proofs.HeldLemmas.{all_filtered}
use Rattle.rr_snapshot.proofs.SavedLemmas.{saved_is_loaded}
use Rattle.rr_nodes.specs.Nodes.{Nodes, Moment, held_at, after_all}
use Rattle.rr_nodes.specs.Models.{cell_model, sample_model}
use Rattle.rr_nodes.specs.Laws.{node_in_cells, IsSound}
use Rattle.rr_nodes.specs.Giving.{GivenAreThere, UnusedHaveNoCells, SavedIsLoadedElsewhere}
use Rattle.rr_nodes.proofs.DeedsLemmas.{from_cells, held_then, nodes_are_of_samples, premises_are_kept}
use Rattle.rr_nodes.proofs.NodesLemmas.{held_is_closed}

pub given_are_there : GivenAreThere
unfolding newer_cells
given_are_there m summary =
    All-from_recursion _ (newer_cells summary (entries m))
    (all_filtered (λ (e : NamedCell). get m e.0 ≡ Some e.1) _ (entries m)
    (all_entries (λ (e : NamedCell). get m e.0 ≡ Some e.1) m (λ n c e. e)))

-- a cell's origin wrote a sample, so it is that of a node
origin_is_used : (s : Layout) (w : World) (ns : Nodes Knowledge) (k : Knowledge) (name : CellName) (c : Contribution)
    → IsSound s w ns → IsClosed s w k → get (cells_of_knowledge s k) name ≡ Some c → is_some (get ns name.origin) ≡ true
origin_is_used s w ns k name c sound closed at =
    let x = versions_are_numbers s w k name c closed at in
    ap (λ (o : ℕ). is_some (get ns o)) (sym x.2) ∙ sound.written x.0 x.1

pub unused_have_no_cells : UnusedHaveNoCells
unused_have_no_cells s deeds origin at m name c is unused held there same =
    let ns = after_all sample_model s deeds in
    let premises = premises_are_kept s deeds is in
    let known = from_cells s (held_at ns at) m (sym (held_then s deeds at is) ∙ held) in
    let closed = held_is_closed s premises.0 ns premises.1 at known.0 known.1 in
    let used = origin_is_used s premises.0 ns known.0 name c premises.1 closed
    (ap (λ (l : Cells). get l name) known.2 ∙ there) in
    let as_cells : contains_key (after_all cell_model s deeds) origin ≡ contains_key ns origin =
    ap (λ (l : Nodes Cells). contains_key l origin) (nodes_are_of_samples s deeds is)
    ∙ is_some-map_values nat_cmp_total nat_cmp-IsAntisymmetric (node_in_cells s) ns origin in
    true≢false (sym used ∙ ap (λ (o : ℕ). is_some (get ns o)) same ∙ sym as_cells ∙ unused)

pub saved_is_loaded_elsewhere : SavedIsLoadedElsewhere
saved_is_loaded_elsewhere s deeds opening k n origin is there schema node holds few unused =
    let cells = after_all cell_model s deeds in
    let now : Moment = record { origin = k.origin; ago = 0 } in
    let held : held_at cells now ≡ Some (cells_of k) = rw there (ap Some (sym node.now)) in
    let other : origin ≢ k.origin = λ same. true≢false
    (sym (ap is_some there) ∙ ap (λ (o : ℕ). is_some (get cells o)) (sym same) ∙ unused) in
    saved_is_loaded (own_replica k) origin holds few other
    (λ name c at. unused_have_no_cells s deeds origin now (cells_of k) name c is unused held at)
    ∙ ap (λ (m : Cells). Ok (record { schema = k.schema; origin = origin; next = 1; cells = m })) node.now
