-- deliver NAME NODE
use Rattle.std.proofs.Common.{◌≡◌, List, [], ◌∷◌, map, ℕ, Some, None, Result, Ok, Err, refl, sym, ap, subst, ◌∙◌}
use Rattle.std.specs.FinMap as fin
use Rattle.std.proofs.lemmas.List.Elements.{All-from_recursion}
use Rattle.rr_archive.specs.declared.archive.Cells.{Ghosts}
use Rattle.rr_schema.specs.Schema.{Layout, IsLayout}
use Rattle.rr_cells.specs.Knowledge.{Knowledge}
use Rattle.rr_cells.specs.World.{World, IsClosed}
use Rattle.rr_cells.proofs.Writes.{union_is_closed, union_holds_own}
use Rattle.rr_page.specs.declared.fault.PageFault.{PageFault}
use Rattle.rr_cells.specs.CellBounds.{NamedCell}
use Rattle.rr_cells.specs.declared.cell.Cell.{Cell}
use Rattle.rr_cells.specs.ReplicaState.{ReplicaState}
use Rattle.rr_replica.specs.ReplicaWithRoom.{ReplicaWithRoom, replica_state}
use Rattle.rr_cells.specs.Joining.{with_cell, with_cells, next_past}
use Rattle.rr_cells.specs.Joins.{join_cells}
use Rattle.rr_cells.specs.Listing.{owned_cell}
use Rattle.rr_cells.specs.Cells.{Cells}
use Rattle.rr_cells.specs.State.{cells_of_knowledge}
use Rattle.rr_cells.proofs.CellByCell.{join_goes_by_cells}
use Rattle.rr_cells.proofs.JoinLaws.{join_unites}
use Rattle.rr_cells.proofs.States.{state_is_trimmed}
use Rattle.rr_cells.proofs.WrittenCells.{next_stays}
use Rattle.rr_cluster.specs.declared.cluster.Cluster.{Cluster}
use Rattle.rr_cluster.specs.declared.fault.CommandFault.TheVariants.{NoNode, NoPage}
use Rattle.rr_cluster.specs.declared.stop.Stop.{Stop}
use Rattle.rr_cluster.specs.Agreement.{in_cells, node_in_cells}
use Rattle.rr_cluster.specs.Commands.Deliver.{after_deliver}
use Rattle.rr_cluster.specs.Meaning.{node_of, bytes_at, replica_at, HasPageText, Joins, Leaves, Represents, node_in}
use Rattle.rr_cluster.specs.Model.{Model, cell_model, sample_model, with_joined, with_known}
use Rattle.rr_cluster.specs.Soundness.{IsSound, IsSoundNode}
use Rattle.rr_cluster.specs.State.{Node, State}
use Rattle.rr_cluster.proofs.CommandsLemmas.Node.{with_node_agrees}
use Rattle.rr_cluster.proofs.CommandsLemmas.Write.{layout_at}
use Rattle.rr_cluster.proofs.EntriesLemmas.{all_entries}
use Rattle.rr_cluster.proofs.MeaningLemmas.{HasPut, SameBesidesNodes, represents_put, node_at, page_there}
use Rattle.rr_cluster.proofs.SoundnessLemmas.{place_is_sound}
use Rattle.rr_cluster.proofs.StepLemmas.{Agrees, found_agree, done_agrees}

-- ---- check by check

module _ {K : Type 0} (model : Model K) (m : State K) (name node : List ℕ) where
  pub no_page : fin.get m.pages name ≡ None → after_deliver model m name node ≡ Err NoPage
  unfolding after_deliver
  no_page e = rw e refl

  module _ (page : K) (here : fin.get m.pages name ≡ Some page) where
    pub no_node : fin.get m.nodes node ≡ None → after_deliver model m name node ≡ Err NoNode
    unfolding after_deliver
    no_node e = rw (here, e) refl

    pub page_is_taken : (n : Node K) → fin.get m.nodes node ≡ Some n
        → after_deliver model m name node ≡ Ok (record m { nodes = fin.insert m.nodes node (model.with_page n page) })
    unfolding after_deliver
    page_is_taken n e = rw (here, e) refl

-- ---- the replica with the cells of a page

cells_joined : (h : ReplicaState) (cells : List Cell)
    → node_of (with_cells h cells) ≡ record {
      schema = h.schema;
      origin = h.origin;
      next =
          next_past h.origin h.next (map owned_cell cells);
      contents =
          join_cells h.schema h.cells (map owned_cell cells);
    }
cells_joined h [] = refl
cells_joined h (c ∷ cells) = cells_joined (with_cell h c) cells

-- a replica that joins the cells that are read of a page is the node that joins the page
pub page_joined : (h : ReplicaState) (cells : List Cell) (page : Cells)
    → ◌≡◌ {A = Result (List NamedCell) PageFault} (Ok (fin.entries page)) (Ok (map owned_cell cells))
    → node_of (with_cells h cells) ≡ with_joined (node_of h) page
page_joined h cells page read =
    let same : map owned_cell cells ≡ fin.entries page = cc in
    cells_joined h cells ∙ (λ i. record {
      schema = h.schema;
      origin = h.origin;
      next =
          next_past h.origin h.next (same i);
      contents = join_cells h.schema h.cells (same i);
    })

-- ---- the cluster after a delivery

module _ {A : Type 0} {g : Ghosts A} (old : Cluster A g) (m : State Cells) (is : Represents old m)
    (name node bytes : List ℕ) (kept : bytes_at old.pages name ≡ Some bytes)
    (was : ReplicaWithRoom) (here : replica_at old.nodes node ≡ Some was) where
  -- the bytes are those of a page of the replica's schema
  pub page_of_replica : (page : Cells) × (fin.get m.pages name ≡ Some page) × HasPageText was.schema page bytes
  page_of_replica =
      let page = page_there old m is name bytes kept in
      let schema : m.schema ≡ was.schema = sym (is.shared node was here ∙ is.schema) in
      (page.0, page.1, subst (λ (s : Layout). HasPageText s page.0 bytes) schema page.2)

  module _ (new : Cluster A g) (same : SameBesidesNodes old new) (h : ReplicaWithRoom)
      (put : HasPut old.nodes new.nodes node h) where
    pub leaves_joined : (result : Result (Unit {0}) Stop)
        → ((page : Cells) → HasPageText was.schema page bytes → Joins (replica_state was) (replica_state h) result page)
        → Leaves new m result (after_deliver cell_model m name node)
    leaves_joined (Ok done) joins =
        let page = page_of_replica in
        let joined = joins page.0 page.2 in
        let schema = ap (λ (n : Node Cells). n.schema) joined ∙ is.shared node was here in (
          record m { nodes = fin.insert m.nodes node (with_joined (node_in was) page.0) },
          page_is_taken cell_model m name node page.0 page.1 (node_in was) (node_at old m is node (Some was) here),
          subst (λ (n : Node Cells). Represents new (record m { nodes = fin.insert m.nodes node n })) joined
              (represents_put old new m same is node h m.world put schema),
        )
    leaves_joined (Err stop) joins = rw (joins page_of_replica.0 page_of_replica.2) tt

-- ---- a delivery never moves the next number of a node

next_is_same : (w : World) (n : Node Knowledge) → IsSoundNode w n → (k : Knowledge) → IsClosed n.schema w k
    → next_past n.origin n.next (fin.entries (cells_of_knowledge n.schema k)) ≡ n.next
next_is_same w n is k closed =
    let m = cells_of_knowledge n.schema k in
    next_stays n.schema w k n.origin n.next (fin.entries m) closed is.numbered
    (All-from_recursion _ (fin.entries m) (all_entries (λ e. fin.get m e.0 ≡ Some e.1) m (λ c v e. e)))

-- ---- the models agree

-- to join the cells of a page is to know its marks too
joined_agrees : (w : World) (n : Node Knowledge) → IsLayout n.schema → IsSoundNode w n → (k : Knowledge)
    → IsClosed n.schema w k
    → with_joined (node_in_cells n) (cells_of_knowledge n.schema k) ≡ node_in_cells (with_known n k)
joined_agrees w n is sound k closed =
    let s = n.schema in
    let cells = join_goes_by_cells s (cells_of_knowledge s n.contents) (cells_of_knowledge s k) is
    (state_is_trimmed s is n.contents) ∙ join_unites s w n.contents k is sound.closed closed in
    let next = next_is_same w n sound k closed in
    λ i. record { schema = s; origin = n.origin; next = next i; contents = cells i }

-- a node that knows the marks of a page too is sound
known_is_sound : (w : World) (n : Node Knowledge) → IsLayout n.schema → IsSoundNode w n → (k : Knowledge)
    → IsClosed n.schema w k → IsSoundNode w (with_known n k)
known_is_sound w n is sound k closed = record {
  closed = union_is_closed n.schema w n.contents k is sound.closed closed;
  own = union_holds_own n.schema w n.contents k n.origin sound.own;
  numbered = sound.numbered;
  some_number = sound.some_number;
  few_numbers = sound.few_numbers;
}

pub deliver_agrees : (m : State Knowledge) → IsSound m → (name node : List ℕ)
    → Agrees in_cells IsSound (after_deliver cell_model (in_cells m) name node) (after_deliver sample_model m name node)
unfolding after_deliver
deliver_agrees m sound name node =
    found_agree in_cells IsSound (cells_of_knowledge m.schema) m.pages name NoPage _ _
    (λ k found. found_agree in_cells IsSound node_in_cells m.nodes node NoNode _ _ (λ n here.
    let one = sym (sound.shared node n here) in
    let layout = layout_at m sound node n here in
    let closed = subst (λ (s : Layout). IsClosed s m.world k) one (sound.pages name k found) in
    done_agrees in_cells IsSound _ _ (with_node_agrees m node _ (with_known n k) m.origins m.world
    (ap (λ (s : Layout). with_joined (node_in_cells n) (cells_of_knowledge s k)) one
    ∙ joined_agrees m.world n layout (sound.nodes node n here) k closed))
    (place_is_sound m sound node n (with_known n k) here refl refl m.world
    (known_is_sound m.world n layout (sound.nodes node n here) k closed)
    (λ o apart is. is) (λ s l is. is) sound.written sound.samples)))
