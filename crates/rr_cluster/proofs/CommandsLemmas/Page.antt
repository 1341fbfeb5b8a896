-- page NAME NODE FROM COUNT
use Rattle.std.proofs.Common.{◌≡◌, ℕ, ◌≤◌, take, drop, List, Some, None, Ok, Err, true, false, refl, sym, ap, subst, ◌∙◌}
use Rattle.std.specs.Cmp.Lexicographic.{nat_list_cmp_total}
use Rattle.std.specs.FinMap as map
use Rattle.rr_archive.specs.declared.archive.Cells.{Ghosts}
use Rattle.rr_text.specs.declared.limits.TheConstants.{MAX_PAGE_CELLS}
use Rattle.rr_text.specs.Results.{check}
use Rattle.rr_schema.specs.Schema.{Layout}
use Rattle.rr_join.specs.Values.{map_values}
use Rattle.rr_join.proofs.ValuesLemmas.{insert_cases, map_values-insert}
use Rattle.rr_cells.specs.Knowledge.{Knowledge, part}
use Rattle.rr_cells.specs.World.{IsClosed}
use Rattle.rr_cells.proofs.ClosedCells.{whole_cells_are_closed}
use Rattle.rr_page.specs.Page.{IsPage, page_text}
use Rattle.rr_page.specs.Version.{latest}
use Rattle.rr_cells.specs.Cells.{Cells}
use Rattle.rr_cells.specs.ReplicaState.{IsReplicaState, ReplicaState}
use Rattle.rr_replica.specs.ReplicaWithRoom.{ReplicaWithRoom}
use Rattle.rr_cells.specs.State.{cells_of_knowledge}
use Rattle.rr_cells.proofs.Parting.{parts_are_cut}
use Rattle.rr_cluster.specs.declared.cluster.Cluster.{Cluster}
use Rattle.rr_cluster.specs.declared.fault.CommandFault.{CommandFault}
use Rattle.rr_cluster.specs.declared.fault.CommandFault.TheVariants.{BadName, NoNode}
use Rattle.rr_cluster.specs.Agreement.{in_cells, node_in_cells}
use Rattle.rr_cluster.specs.Commands.Page.{after_page, place_and_count}
use Rattle.rr_cluster.specs.Commands.Bytes.{bytes_of_page}
use Rattle.rr_cluster.specs.Meaning.{replica_at, HasPageText, Represents}
use Rattle.rr_cluster.specs.Model.{Model, cell_model, sample_model, part_of}
use Rattle.rr_cluster.specs.Soundness.{IsSound}
use Rattle.rr_cluster.specs.State.{Node, State, with_page}
use Rattle.rr_cluster.specs.Words.{is_name}
use Rattle.rr_cluster.proofs.CommandsLemmas.Write.{layout_at}
use Rattle.rr_cluster.proofs.EntriesLemmas.{entries-part_of, from_entries-entries, part_of_is_page}
use Rattle.rr_cluster.proofs.MeaningLemmas.{HasPutBytes, texts_put}
use Rattle.rr_cluster.proofs.SoundnessLemmas.{with_page_is_sound}
use Rattle.rr_cluster.proofs.StepLemmas.{names_apart, Agrees, then_agree, found_agree, done_agrees}

-- ---- check by check

module _ {K : Type 0} (model : Model K) (m : State K) (name node from count : List ℕ) where
  pub bad_name : is_name name ≡ false → after_page model m name node from count ≡ Err BadName
  unfolding after_page
  bad_name e = rw e refl

  module _ (named : is_name name ≡ true) where
    pub no_node : map.get m.nodes node ≡ None → after_page model m name node from count ≡ Err NoNode
    unfolding after_page
    no_node e = rw (named, e) refl

    module _ (n : Node K) (here : map.get m.nodes node ≡ Some n) where
      pub bad_number : (fault : CommandFault) → place_and_count from count ≡ Err fault
          → after_page model m name node from count ≡ Err fault
      unfolding after_page
      bad_number fault e = rw (named, here, e) refl

      pub page_is_made : (first most : ℕ) → place_and_count from count ≡ Ok (first, most)
          → after_page model m name node from count ≡ Ok (with_page m name (model.part n.schema n.contents first most))
      unfolding after_page
      page_is_made first most e = rw (named, here, e) refl

-- ---- the bytes of a page

module _ (h : ReplicaState) (is : IsReplicaState h) (from count : ℕ) (fits : count ≤ MAX_PAGE_CELLS) where
  pub cells_are_page : IsPage h.schema (take count (drop from (map.entries h.cells)))
  cells_are_page = part_of_is_page h.schema h.cells from count is.cells fits

  pub page_is_text : (bytes : List ℕ) → bytes ≡ page_text latest h.schema (take count (drop from (map.entries h.cells)))
      → HasPageText h.schema (part_of h.cells from count) bytes
  page_is_text bytes written =
      let same = sym (entries-part_of h.cells from count) in
      record {
        page = subst (IsPage h.schema) same cells_are_page;
        text = written
            ∙ ap (page_text latest h.schema) same;
      }

-- ---- the cluster with the page

module _ {A : Type 0} {g : Ghosts A} (old new : Cluster A g) (m : State Cells) (name bytes : List ℕ) (page : Cells)
    (is : Represents old m)
    (schema : new.schema ≡ old.schema) (clock : new.clock ≡ old.clock) (lead : new.lead ≡ old.lead)
    (nodes : new.nodes ≡ old.nodes) (snapshots : new.snapshots ≡ old.snapshots)
    (origins : new.origins ≡ old.origins) where
  pub represents_with_page : HasPutBytes old.pages new.pages name bytes → HasPageText m.schema page bytes
      → Represents new (with_page m name page)
  represents_with_page put has = record {
    schema = schema ∙ is.schema;
    clock = clock ∙ is.clock;
    lead = lead ∙ is.lead;
    nodes = λ q. rw nodes (is.nodes q);
    shared = λ q h. rw (nodes, schema) (is.shared q h);
    pages = texts_put (bytes_of_page m.schema) old.pages new.pages m.pages name bytes page is.pages put has.text;
    are_pages = λ q other e. insert_cases nat_list_cmp_total names_apart m.pages name page q other e
        (λ at same. subst (λ (p : Cells). IsPage m.schema (map.entries p)) same has.page)
        (λ apart there. is.are_pages q other there);
    snapshots = λ q. rw snapshots (is.snapshots q);
    are_kept = is.are_kept;
    origins = λ origin. rw origins (is.origins origin);
  }

-- the page of a node of the cluster is one of the schema
pub page_of_node : {A : Type 0} {g : Ghosts A} (c : Cluster A g) (m : State Cells) → Represents c m
    → (node : List ℕ) (h : ReplicaWithRoom) → replica_at c.nodes node ≡ Some h
    → (page : Cells) (bytes : List ℕ) → HasPageText h.schema page bytes → HasPageText m.schema page bytes
page_of_node c m is node h here page bytes has =
    subst (λ (s : Layout). HasPageText s page bytes) (is.shared node h here ∙ is.schema) has

-- ---- the models agree

module _ (m : State Knowledge) (sound : IsSound m) (name : List ℕ) (n : Node Knowledge)
    (here : map.get m.nodes name ≡ Some n) (first most : ℕ) where
  abbrev page : Knowledge
  page = part n.schema n.contents first most

  -- the cells of a part
  part_agrees : part_of (cells_of_knowledge n.schema n.contents) first most ≡ cells_of_knowledge m.schema page
  part_agrees =
      ap (λ es. map.from_entries es) (sym (parts_are_cut n.schema n.contents first most
      (layout_at m sound name n here)))
      ∙ from_entries-entries (cells_of_knowledge n.schema page)
      ∙ ap (λ (s : Layout). cells_of_knowledge s page) (sound.shared name n here)

  part_is_closed : IsClosed m.schema m.world page
  part_is_closed = subst (λ (s : Layout). IsClosed s m.world page) (sound.shared name n here)
      (whole_cells_are_closed n.schema m.world n.contents _ (sound.nodes name n here).closed)

pub with_page_agrees : (m : State Knowledge) (name : List ℕ) (c : Cells) (k : Knowledge)
    → c ≡ cells_of_knowledge m.schema k
    → ◌≡◌ {A = State Cells} (record (in_cells m) {
      pages =
          map.insert (map_values (cells_of_knowledge m.schema) m.pages) name c;
    })
    (in_cells (record m { pages = map.insert m.pages name k }))
with_page_agrees m name c k e =
    let pages = ap (map.insert (map_values (cells_of_knowledge m.schema) m.pages) name) e
    ∙ sym (map_values-insert nat_list_cmp_total names_apart (cells_of_knowledge m.schema) m.pages name k) in
    λ i. record (in_cells m) { pages = pages i }

pub page_agrees : (m : State Knowledge) → IsSound m → (name node from count : List ℕ)
    → Agrees in_cells IsSound (after_page cell_model (in_cells m) name node from count)
    (after_page sample_model m name node from count)
unfolding after_page
page_agrees m sound name node from count =
    then_agree in_cells IsSound (check (is_name name) BadName) _ _
    (λ named is. found_agree in_cells IsSound node_in_cells m.nodes node NoNode _ _
    (λ n here. then_agree in_cells IsSound (place_and_count from count) _ _ (λ asked read.
    done_agrees in_cells IsSound _ _ (with_page_agrees m name _ (part n.schema n.contents asked.0 asked.1)
    (part_agrees m sound node n here asked.0 asked.1))
    (with_page_is_sound m sound name (part n.schema n.contents asked.0 asked.1)
    (part_is_closed m sound node n here asked.0 asked.1)))))
