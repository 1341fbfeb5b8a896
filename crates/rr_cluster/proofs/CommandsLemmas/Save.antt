-- save NAME NODE
use Rattle.std.proofs.Common.{◌≡◌, ℕ, ◌<◌, ◌≤◌, Bool, true, false, inl, inr, List, length, Some, None, Ok, Err, refl, sym, ap, subst, ◌∙◌, arith}
use Rattle.std.specs.Prelude.{nat_le}
use Rattle.std.specs.Cmp.Lexicographic.{nat_list_cmp_total}
use Rattle.std.specs.Global.{Vec}
use Rattle.std.specs.FinMap as map
use Rattle.std.proofs.lemmas.Bool.{le-leb, leb-false, leb-true, lt-leb}
use Rattle.rr_archive.specs.declared.archive.Cells.{Ghosts}
use Rattle.rr_text.specs.Results.{check}
use Rattle.rr_join.specs.Values.{map_values}
use Rattle.rr_join.proofs.ValuesLemmas.{insert_cases, map_values-insert}
use Rattle.rr_cells.specs.Knowledge.{Knowledge}
use Rattle.rr_cells.proofs.ClosedCells.{live_is_closed}
use Rattle.rr_page.specs.Version.{latest}
use Rattle.rr_cells.specs.Cells.{Cells}
use Rattle.rr_cells.specs.ReplicaState.{IsReplicaState, ReplicaState}
use Rattle.rr_replica.specs.ReplicaWithRoom.{ReplicaWithRoom, replica_state}
use Rattle.rr_cells.specs.State.{cells_of_knowledge}
use Rattle.rr_cells.proofs.WholeCells.{live_makes_the_same}
use Rattle.rr_snapshot.specs.declared.fault.SaveFault.{SaveFault}
use Rattle.rr_snapshot.specs.declared.fault.SaveFault.TheVariants.{TooManyCells, WriteFailed, Memory}
use Rattle.rr_snapshot.specs.declared.heading.TheConstants.{MAX_SNAPSHOT_CELLS}
use Rattle.rr_snapshot.specs.Snapshot.{snapshot_text}
use Rattle.rr_snapshot.proofs.SavedLemmas.{replica_state_is_snapshot}
use Rattle.rr_cluster.specs.declared.cluster.Cluster.{Cluster}
use Rattle.rr_cluster.specs.declared.fault.CommandFault.TheVariants.{BadName, NoNode, Save}
use Rattle.rr_cluster.specs.declared.stop.Stop.{Stop}
use Rattle.rr_cluster.specs.Agreement.{in_cells, node_in_cells, snapshot_in_cells}
use Rattle.rr_cluster.specs.Commands.Save.{snapshot_of, after_save}
use Rattle.rr_cluster.specs.Meaning.{node_of, replica_at, HasSnapshotText, IsKept, Leaves, Represents, Saves, node_in}
use Rattle.rr_cluster.specs.Model.{Model, cell_model, sample_model}
use Rattle.rr_cluster.specs.Soundness.{IsSound, IsSoundSnapshot}
use Rattle.rr_cluster.specs.State.{Node, Snapshot, State}
use Rattle.rr_cluster.specs.Stop.{IsStopOfSave}
use Rattle.rr_cluster.specs.Words.{is_name}
use Rattle.rr_cluster.proofs.CommandsLemmas.Write.{layout_at}
use Rattle.rr_cluster.proofs.MeaningLemmas.{HasPutBytes, node_at, texts_put}
use Rattle.rr_cluster.proofs.SoundnessLemmas.{with_snapshot_is_sound}
use Rattle.rr_cluster.proofs.StepLemmas.{names_apart, Agrees, then_agree, found_agree, done_agrees}

-- ---- check by check

module _ {K : Type 0} (model : Model K) (m : State K) (name node : List ℕ) where
  pub bad_name : is_name name ≡ false → after_save model m name node ≡ Err BadName
  unfolding after_save
  bad_name e = rw e refl

  module _ (named : is_name name ≡ true) where
    pub no_node : map.get m.nodes node ≡ None → after_save model m name node ≡ Err NoNode
    unfolding after_save
    no_node e = rw (named, e) refl

    module _ (n : Node K) (here : map.get m.nodes node ≡ Some n) where
      pub too_many : nat_le (length (map.entries (model.cells n.schema n.contents))) MAX_SNAPSHOT_CELLS ≡ false
          → after_save model m name node ≡ Err (Save TooManyCells)
      unfolding after_save
      too_many e = rw (named, here, e) refl

      pub snapshot_is_made : nat_le (length (map.entries (model.cells n.schema n.contents))) MAX_SNAPSHOT_CELLS ≡ true
          → after_save model m name node ≡ Ok (record m
          { snapshots = map.insert m.snapshots name (snapshot_of model n) })
      unfolding after_save
      snapshot_is_made e = rw (named, here, e) refl

-- ---- the bytes of a snapshot

-- the cells of a replica make a snapshot, if they are not too many
pub saved_is_kept : (h : ReplicaState) → IsReplicaState h → map.len h.cells ≤ MAX_SNAPSHOT_CELLS
    → IsKept (snapshot_of cell_model (node_of h))
saved_is_kept h is few = record {
  layout = is.layout;
  snapshot = replica_state_is_snapshot h is few;
  trimmed = is.live;
}

-- what a save answers where it succeeds, and where it is refused
pub saved : (h : ReplicaState) → IsReplicaState h → (bytes : Vec ℕ) → (MAX_SNAPSHOT_CELLS < map.len h.cells → ⊥)
    → bytes.items ≡ snapshot_text latest h.schema h.origin (map.entries h.cells) → Saves h (Ok bytes)
saved h is bytes few text = record {
  kept = saved_is_kept h is (by (nat_le (map.len h.cells) MAX_SNAPSHOT_CELLS) refl);
  text = text;
}
  where
    by : (b : Bool) → nat_le (map.len h.cells) MAX_SNAPSHOT_CELLS ≡ b → map.len h.cells ≤ MAX_SNAPSHOT_CELLS
    by true e = leb-true _ _ e
    by false e = absurd (few (leb-false _ _ e))

pub save_refused : (h : ReplicaState) (fault : SaveFault) (stop : Stop) → IsStopOfSave fault stop
    → (fault ≡ TooManyCells → MAX_SNAPSHOT_CELLS < map.len h.cells) → Saves h (Err stop)
save_refused h TooManyCells stop is many = let more = many refl in
    inr (is, omega (arith, more, map.len-entries h.cells))
save_refused h WriteFailed stop is many = inl is
save_refused h Memory stop is many = inl is

-- ---- the cluster with the snapshot

module _ {A : Type 0} {g : Ghosts A} (old new : Cluster A g) (m : State Cells) (name bytes : List ℕ)
    (x : Snapshot Cells) (is : Represents old m)
    (schema : new.schema ≡ old.schema) (clock : new.clock ≡ old.clock) (lead : new.lead ≡ old.lead)
    (nodes : new.nodes ≡ old.nodes) (pages : new.pages ≡ old.pages) (origins : new.origins ≡ old.origins) where
  pub represents_with_snapshot : HasPutBytes old.snapshots new.snapshots name bytes → HasSnapshotText x bytes
      → Represents new (record m { snapshots = map.insert m.snapshots name x })
  represents_with_snapshot put has = record {
    schema = schema ∙ is.schema;
    clock = clock ∙ is.clock;
    lead = lead ∙ is.lead;
    nodes = λ q. rw nodes (is.nodes q);
    shared = λ q h. rw (nodes, schema) (is.shared q h);
    pages = λ q. rw pages (is.pages q);
    are_pages = is.are_pages;
    snapshots = texts_put _ old.snapshots new.snapshots m.snapshots name bytes x is.snapshots put has.text;
    are_kept = λ q other e. insert_cases nat_list_cmp_total names_apart m.snapshots name x q other e
        (λ at same. subst IsKept same has.kept)
        (λ apart there. is.are_kept q other there);
    origins = λ origin. rw origins (is.origins origin);
  }

-- ---- the cluster after a save

module _ {A : Type 0} {g : Ghosts A} (c : Cluster A g) (m : State Cells) (is : Represents c m) (name node : List ℕ)
    (named : is_name name ≡ true) (h : ReplicaWithRoom) (here : replica_at c.nodes node ≡ Some h) where
  there : map.get m.nodes node ≡ Some (node_in h)
  there = node_at c m is node (Some h) here

  -- a node with too many cells is refused
  pub save_is_refused : (stop : Stop) → Saves (replica_state h) (Err stop)
      → Leaves c m (Err stop) (after_save cell_model m name node)
  save_is_refused stop (inl e) = rw e tt
  save_is_refused stop (inr (e, many)) = rw e (
    too_many cell_model m name node named (node_in h) there
        (lt-leb _ _ many),
    is,
  )

  pub node_is_saved : (bytes : Vec ℕ) → Saves (replica_state h) (Ok bytes)
      → after_save cell_model m name node ≡ Ok (record m
      { snapshots = map.insert m.snapshots name (snapshot_of cell_model (node_in h)) })
  node_is_saved bytes saved = snapshot_is_made cell_model m name node named (node_in h) there
      (le-leb _ _ saved.kept.snapshot.count_fits)

-- ---- the models agree

module _ (m : State Knowledge) (sound : IsSound m) (name : List ℕ) (n : Node Knowledge)
    (here : map.get m.nodes name ≡ Some n) where
  -- what is past the horizon makes no cell
  snapshots_agree : snapshot_of cell_model (node_in_cells n) ≡ snapshot_in_cells (snapshot_of sample_model n)
  snapshots_agree = λ i. record {
    schema = n.schema;
    origin = n.origin;
    contents =
        sym (live_makes_the_same n.schema n.contents (layout_at m sound name n here)) i;
  }

  snapshot_is_sound : IsSoundSnapshot m.world (snapshot_of sample_model n)
  snapshot_is_sound = record {
    layout = layout_at m sound name n here;
    closed = live_is_closed n.schema m.world n.contents (sound.nodes name n here).closed;
  }

with_snapshot_agrees : (m : State Knowledge) (name : List ℕ) (c : Snapshot Cells) (x : Snapshot Knowledge)
    → c ≡ snapshot_in_cells x
    → ◌≡◌ {A = State Cells} (record (in_cells m) {
      snapshots =
          map.insert (map_values snapshot_in_cells m.snapshots) name c;
    })
    (in_cells (record m { snapshots = map.insert m.snapshots name x }))
with_snapshot_agrees m name c x e =
    let snapshots = ap (map.insert (map_values snapshot_in_cells m.snapshots) name) e
    ∙ sym (map_values-insert nat_list_cmp_total names_apart snapshot_in_cells m.snapshots name x) in
    λ i. record (in_cells m) { snapshots = snapshots i }

pub save_agrees : (m : State Knowledge) → IsSound m → (name node : List ℕ)
    → Agrees in_cells IsSound (after_save cell_model (in_cells m) name node) (after_save sample_model m name node)
unfolding after_save
save_agrees m sound name node =
    then_agree in_cells IsSound (check (is_name name) BadName) _ _
    (λ named is. found_agree in_cells IsSound node_in_cells m.nodes node NoNode _ _
    (λ n here. then_agree in_cells IsSound (check
    (nat_le (length (map.entries (cells_of_knowledge n.schema n.contents))) MAX_SNAPSHOT_CELLS) (Save TooManyCells))
    _ _ (λ few yes.
    done_agrees in_cells IsSound _ _ (with_snapshot_agrees m name _ (snapshot_of sample_model n)
    (snapshots_agree m sound node n here))
    (with_snapshot_is_sound m sound name (snapshot_of sample_model n) (snapshot_is_sound m sound node n here)))))
