-- Which state a cluster represents after a step, and the nodes of a state by the replicas of its cluster.
use Rattle.std.proofs.Common.{◌≡◌, ℕ, pos, Bool, true, false, cond, List, [], Option, Some, None, Result, Ok, Err, ◌++◌, refl, sym, ap, subst, ◌∙◌, append-nil}
use Rattle.std.specs.Option.{is_some, option_map}
use Rattle.std.specs.Ordering.{eq_by_cmp}
use Rattle.std.specs.Cmp.Lexicographic.{nat_list_cmp_total}
use Rattle.std.specs.BTreeMap.{BTreeMap, insert_entry}
use Rattle.std.specs.Map.{set_value}
use Rattle.std.specs.Global.{Vec}
use Rattle.std.specs.FinMap as map
use Rattle.rr_archive.specs.declared.archive.Cells.{Ghosts}
use Rattle.rr_schema.specs.Schema.{Layout}
use Rattle.rr_join.specs.Values.{get_called}
use Rattle.rr_join.proofs.ValuesLemmas.{get_called-insert, get_called-set}
use Rattle.rr_cells.specs.World.{World}
use Rattle.rr_cells.specs.Cells.{Cells}
use Rattle.rr_replica.specs.ReplicaWithRoom.{ReplicaWithRoom}
use Rattle.rr_text.specs.Bytes.{bytes_cmp}
use Rattle.rr_cluster.specs.declared.cluster.Cluster.{Cluster}
use Rattle.rr_cluster.specs.declared.fault.CommandFault.{CommandFault}
use Rattle.rr_cluster.specs.declared.stop.Stop.{Stop}
use Rattle.rr_cluster.specs.declared.stop.Stop.TheVariants.{Refused, Memory}
use Rattle.rr_cluster.specs.Commands.{on_ok, printing}
use Rattle.rr_cluster.specs.Commands.Bytes.{bytes_of_page}
use Rattle.rr_cluster.specs.Meaning.{node_in, bytes_at, bytes_of_snapshot, replica_at, HasPageText, HasSnapshotText, Obeys, OptionRepresents, Represents}
use Rattle.rr_cluster.specs.State.{Node, Snapshot, State, first_state}
use Rattle.rr_cluster.specs.Stop.{Matches}
use Rattle.rr_cluster.proofs.StepLemmas.{names_apart}

abbrev pub Replicas : Type 0
Replicas = BTreeMap (Vec ℕ) ReplicaWithRoom

abbrev name_of : Vec ℕ → List ℕ
name_of key = key.items

-- the new map has the replica at the name, and is the old one at all others
abbrev pub HasPut : Replicas → Replicas → List ℕ → ReplicaWithRoom → Type 0
HasPut old new name h = (q : List ℕ) → replica_at new q ≡ cond (eq_by_cmp bytes_cmp q name) (Some h) (replica_at old q)

pub inserted : (old new : Replicas) (key : Vec ℕ) (h : ReplicaWithRoom)
    → new.entries ≡ insert_entry (λ a b. bytes_cmp a.items b.items) old.entries key h → HasPut old new key.items h
inserted = get_called-insert nat_list_cmp_total names_apart name_of

pub changed : (old new : Replicas) (name : List ℕ) (h : ReplicaWithRoom)
    → new.entries ≡ set_value (λ key. eq_by_cmp bytes_cmp name key.items) old.entries h
    → is_some (replica_at old name) ≡ true → HasPut old new name h
changed = get_called-set nat_list_cmp_total names_apart name_of

-- a replica put under a name, on both sides
pub nodes_put : (old new : Replicas) (before : map.FinMap bytes_cmp (Node Cells)) (name : List ℕ) (h : ReplicaWithRoom)
    → ((q : List ℕ) → map.get before q ≡ option_map node_in (replica_at old q)) → HasPut old new name h
    → (q : List ℕ) → map.get (map.insert before name (node_in h)) q ≡ option_map node_in (replica_at new q)
nodes_put old new before name h same put q =
    map.get-insert nat_list_cmp_total before name (node_in h) q ∙ by (eq_by_cmp bytes_cmp q name)
    ∙ sym (ap (option_map node_in) (put q))
  where
    by : (b : Bool) → cond b (Some (node_in h)) (map.get before q)
        ≡ option_map node_in (cond b (Some h) (replica_at old q))
    by true = refl
    by false = same q

-- what holds of each replica before, and of the one that is put, holds of each
pub each_put : (P : ReplicaWithRoom → Type 0) (old new : Replicas) (name : List ℕ) (h : ReplicaWithRoom)
    → HasPut old new name h → P h → ((q : List ℕ) (g : ReplicaWithRoom) → replica_at old q ≡ Some g → P g)
    → (q : List ℕ) (g : ReplicaWithRoom) → replica_at new q ≡ Some g → P g
each_put P old new name h put itself others q g e = by (eq_by_cmp bytes_cmp q name) (sym (put q) ∙ e)
  where
    by : (b : Bool) → cond b (Some h) (replica_at old q) ≡ Some g → P g
    by true t = let same : h ≡ g = cc in subst P same itself
    by false t = others q g t

-- ---- the bytes of pages and snapshots

abbrev Texts : Type 0
Texts = BTreeMap (Vec ℕ) (Vec ℕ)

-- the bytes that were found at a name
pub bytes_found : (texts : Texts) (name : List ℕ) (found : Option (Vec ℕ))
    → found ≡ get_called bytes_cmp name_of texts name → bytes_at texts name ≡ option_map (λ text. text.items) found
bytes_found texts name found e = sym (ap (option_map (λ (text : Vec ℕ). text.items)) e)

-- the new map has the bytes at the name, and is the old one at all others
abbrev pub HasPutBytes : Texts → Texts → List ℕ → List ℕ → Type 0
HasPutBytes old new name bytes = (q : List ℕ) → bytes_at new q
    ≡ cond (eq_by_cmp bytes_cmp q name) (Some bytes) (bytes_at old q)

pub bytes_inserted : (old new : Texts) (name bytes : Vec ℕ)
    → new.entries ≡ insert_entry (λ a b. bytes_cmp a.items b.items) old.entries name bytes
    → HasPutBytes old new name.items bytes.items
bytes_inserted old new name bytes entries q =
    ap (option_map (λ (text : Vec ℕ). text.items))
    (get_called-insert nat_list_cmp_total names_apart name_of old new name bytes entries q)
    ∙ by (eq_by_cmp bytes_cmp q name.items)
  where
    by : (b : Bool) → option_map (λ (text : Vec ℕ). text.items)
        (cond b (Some bytes) (get_called bytes_cmp name_of old q)) ≡ cond b (Some bytes.items) (bytes_at old q)
    by true = refl
    by false = refl

-- what is put at a name as its bytes, on both sides
pub texts_put : {X : Type 0} (view : X → List ℕ) (old new : Texts) (before : map.FinMap bytes_cmp X)
    (name bytes : List ℕ) (x : X)
    → ((q : List ℕ) → bytes_at old q ≡ option_map view (map.get before q)) → HasPutBytes old new name bytes
    → bytes ≡ view x
    → (q : List ℕ) → bytes_at new q ≡ option_map view (map.get (map.insert before name x) q)
texts_put view old new before name bytes x same put text q =
    put q ∙ by (eq_by_cmp bytes_cmp q name) ∙ sym (ap (option_map view)
    (map.get-insert nat_list_cmp_total before name x q))
  where
    by : (b : Bool) → cond b (Some bytes) (bytes_at old q) ≡ option_map view (cond b (Some x) (map.get before q))
    by true = ap (λ (t : List ℕ). Some t) text
    by false = same q

-- what stands at a name where there are no bytes, and where there are some
none_there : {X : Type 0} (view : X → List ℕ) (o : Option X) → None ≡ option_map view o → o ≡ None
none_there view None e = refl
none_there view (Some x) e = absurd cc

some_there : {X : Type 0} (view : X → List ℕ) (o : Option X) (bytes : List ℕ) → Some bytes ≡ option_map view o
    → (x : X) × (o ≡ Some x) × (bytes ≡ view x)
some_there view None bytes e = absurd cc
some_there view (Some x) bytes e = (x, refl, cc)

some_of_map : (o : Option ReplicaWithRoom) → is_some o ≡ is_some (option_map node_in o)
some_of_map None = refl
some_of_map (Some h) = refl

module _ {A : Type 0} {g : Ghosts A} where
  pub represents_first : (c : Cluster A g) (s : Layout) → c.schema ≡ s → c.clock ≡ pos 0 → c.lead ≡ None
      → c.nodes.entries ≡ [] → c.pages.entries ≡ [] → c.snapshots.entries ≡ [] → c.origins.keys ≡ []
      → Represents c (first_state s)
  represents_first c s schema clock lead nodes pages snapshots origins = record {
    schema = schema;
    clock = clock;
    lead = lead;
    nodes = λ name. rw nodes (map.get-empty bytes_cmp name);
    shared = λ name h. rw nodes (λ e. absurd cc);
    pages = λ name. rw (pages, map.get-empty {X = Cells} bytes_cmp name) refl;
    are_pages = λ name page e. let none = sym (map.get-empty bytes_cmp name) ∙ e in absurd cc;
    snapshots = λ name. rw (snapshots, map.get-empty {X = Snapshot Cells} bytes_cmp name) refl;
    are_kept = λ name x e. let none = sym (map.get-empty bytes_cmp name) ∙ e in absurd cc;
    origins = λ origin. rw origins refl;
  }

  -- a cluster that is there represents a state
  pub some_represents : (c : Cluster A g) (m : Option (State Cells)) → OptionRepresents (Some c) m
      → (s : State Cells) × Represents c s
  some_represents c None h = absurd h
  some_represents c (Some m) h = (m, h)

  -- two clusters that differ in their nodes alone
  pub record SameBesidesNodes (old new : Cluster A g) : Type 0 where
    pub schema : new.schema ≡ old.schema
    pub clock : new.clock ≡ old.clock
    pub lead : new.lead ≡ old.lead
    pub pages : new.pages ≡ old.pages
    pub snapshots : new.snapshots ≡ old.snapshots
    pub origins : new.origins ≡ old.origins

  module _ (old new : Cluster A g) (m : State Cells) (same : SameBesidesNodes old new) (is : Represents old m) where
    pub represents_same : new.nodes ≡ old.nodes → Represents new m
    represents_same nodes = record {
      schema = same.schema ∙ is.schema;
      clock = same.clock ∙ is.clock;
      lead = same.lead ∙ is.lead;
      nodes = λ name. rw nodes (is.nodes name);
      shared = λ name h. rw (nodes, same.schema) (is.shared name h);
      pages = λ name. rw same.pages (is.pages name);
      are_pages = is.are_pages;
      snapshots = λ name. rw same.snapshots (is.snapshots name);
      are_kept = is.are_kept;
      origins = λ origin. rw same.origins (is.origins origin);
    }

    -- with a replica changed, and more written
    pub represents_put : (name : List ℕ) (h : ReplicaWithRoom) (w : World) → HasPut old.nodes new.nodes name h
        → h.schema ≡ old.schema → Represents new (record m { nodes = map.insert m.nodes name (node_in h); world = w })
    represents_put name h w put has = record {
      schema = same.schema ∙ is.schema;
      clock = same.clock ∙ is.clock;
      lead = same.lead ∙ is.lead;
      nodes = nodes_put old.nodes new.nodes m.nodes name h is.nodes put;
      shared = rw same.schema (each_put (λ g. g.schema ≡ old.schema) old.nodes new.nodes name h put has is.shared);
      pages = λ q. rw same.pages (is.pages q);
      are_pages = is.are_pages;
      snapshots = λ name. rw same.snapshots (is.snapshots name);
      are_kept = is.are_kept;
      origins = λ origin. rw same.origins (is.origins origin);
    }

  module _ (c : Cluster A g) (m : State Cells) (is : Represents c m) where
    -- a name is in the state if it is in the cluster
    pub node_there : (name : List ℕ) → is_some (replica_at c.nodes name) ≡ map.contains_key m.nodes name
    node_there name = some_of_map (replica_at c.nodes name) ∙ ap is_some (sym (is.nodes name))

    -- the node of a name
    pub node_at : (name : List ℕ) (o : Option ReplicaWithRoom) → replica_at c.nodes name ≡ o
        → map.get m.nodes name ≡ option_map node_in o
    node_at name o e = is.nodes name ∙ ap (option_map node_in) e

    -- the page of a name is that of the bytes that are kept, if there are some
    pub no_page_at : (name : List ℕ) → bytes_at c.pages name ≡ None → map.get m.pages name ≡ None
    no_page_at name none = none_there (bytes_of_page m.schema) (map.get m.pages name) (sym none ∙ is.pages name)

    pub page_there : (name bytes : List ℕ) → bytes_at c.pages name ≡ Some bytes
        → (page : Cells) × (map.get m.pages name ≡ Some page) × HasPageText m.schema page bytes
    page_there name bytes there =
        let page = some_there (bytes_of_page m.schema) (map.get m.pages name) bytes (sym there ∙ is.pages name) in
        (page.0, page.1, record { page = is.are_pages name page.0 page.1; text = page.2 })

    -- and so is the snapshot of a name
    pub no_snapshot_at : (name : List ℕ) → bytes_at c.snapshots name ≡ None → map.get m.snapshots name ≡ None
    no_snapshot_at name none = none_there bytes_of_snapshot (map.get m.snapshots name) (sym none ∙ is.snapshots name)

    pub snapshot_there : (name bytes : List ℕ) → bytes_at c.snapshots name ≡ Some bytes
        → (x : Snapshot Cells) × (map.get m.snapshots name ≡ Some x) × HasSnapshotText x bytes
    snapshot_there name bytes there =
        let x = some_there bytes_of_snapshot (map.get m.snapshots name) bytes (sym there ∙ is.snapshots name) in
        (x.0, x.1, record { kept = is.are_kept name x.0 x.1; text = x.2 })

  -- an answer that was printed obeys the command that asks for it
  pub obeys_printing : (c : Cluster A g) (m : State Cells) (before after : List ℕ) (due : Result (List ℕ) CommandFault)
      (result : Result (Unit {0}) Stop) → Represents c m
      → Matches (λ _ parsed. after ≡ before ++ parsed) (after ≡ before) result due
      → Obeys (Some c) (Some m) before after result (on_ok (printing m) due)
  obeys_printing c m before after due (Ok done) is h = ((Some m, h.0), ap (on_ok (printing m)) h.1, (h.2, is))
  obeys_printing c m before after due (Err (Refused fault)) is h =
      (ap (on_ok (printing m)) h.0, (h.1 ∙ sym (append-nil before), is))
  obeys_printing c m before after due (Err Memory) is h = tt
