-- node NAME ORIGIN
use Rattle.std.proofs.Common.{◌≡◌, ℕ, Bool, true, false, not, cond, subst, ◌&&◌, ◌||◌, List, ◌∷◌, Result, Ok, Err, refl, sym, ap, ◌∙◌, eq-eqb}
use Rattle.std.specs.Prelude.{◌==◌}
use Rattle.std.specs.List.{list_any}
use Rattle.std.proofs.lemmas.Bool.{eqb-true}
use Rattle.std.specs.Ordering.{nat_cmp, is_eq, eq_by_cmp}
use Rattle.std.specs.Cmp.{nat_cmp_total}
use Rattle.std.specs.Cmp.Lexicographic.{nat_list_cmp_total}
use Rattle.std.specs.BTreeSet.{contains}
use Rattle.std.specs.FinMap as map
use Rattle.std.specs.FinMap.{nat_cmp-IsAntisymmetric}
use Rattle.rr_archive.specs.declared.archive.Cells.{Ghosts}
use Rattle.rr_schema.specs.Origin.{IsOrigin}
use Rattle.rr_schema.specs.Schema.{Layout}
use Rattle.rr_join.specs.Values.{map_values}
use Rattle.rr_join.proofs.Booleans.{same_test}
use Rattle.rr_join.proofs.Members.{same_from_tie, tie_from_same}
use Rattle.rr_join.proofs.ValuesLemmas.{is_some-map_values, map_values-insert}
use Rattle.rr_cells.specs.CellNames.{cell_name_cmp}
use Rattle.rr_cells.specs.Knowledge.{Knowledge, is_live_in, cell}
use Rattle.rr_cells.specs.Samples.{name_of}
use Rattle.rr_cells.specs.World.{World}
use Rattle.rr_cells.proofs.Knowing.{knows-empty, knows-cell}
use Rattle.rr_cells.proofs.Orders.{cell_name_cmp_total, cell_name_cmp-IsAntisymmetric}
use Rattle.rr_cells.proofs.Writes.{nothing_is_closed}
use Rattle.rr_cells.specs.Cells.{Cells}
use Rattle.rr_replica.specs.ReplicaWithRoom.{ReplicaWithRoom, replica_state}
use Rattle.rr_cells.specs.State.{cells_of_knowledge}
use Rattle.rr_cells.proofs.States.{get-state, no_value}
use Rattle.rr_cluster.specs.declared.cluster.Cluster.{Cluster}
use Rattle.rr_cluster.specs.declared.fault.CommandFault.{CommandFault}
use Rattle.rr_cluster.specs.declared.fault.CommandFault.TheVariants.{BadName, NameUsed, OriginUsed}
use Rattle.rr_cluster.specs.Agreement.{in_cells, node_in_cells}
use Rattle.rr_text.specs.Results.{◌>>=◌, check}
use Rattle.rr_cluster.specs.Commands.Node.{new_node, after_node, unused_origin}
use Rattle.rr_cluster.specs.Meaning.{node_of, node_in, Represents}
use Rattle.rr_cluster.specs.Model.{Model, cell_model, sample_model}
use Rattle.rr_cluster.specs.Soundness.{IsSound}
use Rattle.rr_cluster.specs.State.{Node, State, with_node}
use Rattle.rr_cluster.specs.Words.{is_name, origin_of}
use Rattle.rr_cluster.proofs.LimitLemmas.{origin_is}
use Rattle.rr_cluster.proofs.MeaningLemmas.{HasPut, nodes_put, each_put}
use Rattle.rr_cluster.proofs.SoundnessLemmas.{with_node_is_sound, starting_is_sound}
use Rattle.rr_cluster.proofs.StepLemmas.{names_apart, Agrees, then_agree, done_agrees}

-- ---- check by check

module _ {K : Type 0} (model : Model K) (m : State K) (name origin : List ℕ) where
  pub bad_name : is_name name ≡ false → after_node model m name origin ≡ Err BadName
  unfolding after_node
  bad_name e = rw e refl

  module _ (named : is_name name ≡ true) where
    pub used_name : map.contains_key m.nodes name ≡ true → after_node model m name origin ≡ Err NameUsed
    unfolding after_node
    used_name e = rw (named, e) refl

    module _ (free : map.contains_key m.nodes name ≡ false) where
      pub bad_origin : (fault : CommandFault) → unused_origin m.origins origin ≡ Err fault
          → after_node model m name origin ≡ Err fault
      unfolding after_node
      bad_origin fault e = rw (named, free, e) refl

      pub node_is_new : (number : ℕ) → unused_origin m.origins origin ≡ Ok number
          → after_node model m name origin ≡ Ok (with_node m name (new_node model m.schema number))
      unfolding after_node
      node_is_new number e = rw (named, free, e) refl

-- an origin that is unused is an origin
pub origin_is_unused : (origins word : List ℕ) (number : ℕ) → unused_origin origins word ≡ Ok number
    → IsOrigin number × (list_any (λ used. used == number) origins ≡ false)
origin_is_unused origins word number = by (origin_of word) refl
  where
    at : (n : ℕ) → origin_of word ≡ Ok n → (used : Bool) → list_any (λ other. other == n) origins ≡ used
        → (check (not used) OriginUsed >>= λ unused. Ok n) ≡ Ok number
        → IsOrigin number × (list_any (λ other. other == number) origins ≡ false)
    at n read true is e = absurd cc
    at n read false is e =
        let same : n ≡ number = cc in
        subst (λ (k : ℕ). IsOrigin k × (list_any (λ other. other == k) origins ≡ false)) same
        (origin_is word n read, is)

    by : (r : Result ℕ CommandFault) → origin_of word ≡ r
        → (r >>= λ n. check (not (list_any (λ used. used == n) origins)) OriginUsed >>= λ unused. Ok n) ≡ Ok number
        → IsOrigin number × (list_any (λ used. used == number) origins ≡ false)
    by (Err fault) read e = absurd cc
    by (Ok n) read e = at n read (list_any (λ used. used == n) origins) refl e

-- ---- the cluster with the node

same_number : (a b : ℕ) → is_eq (nat_cmp a b) ≡ (a == b)
same_number a b =
    same_test (is_eq (nat_cmp a b)) (a == b)
    (λ e. eq-eqb a b (same_from_tie nat_cmp_total nat_cmp-IsAntisymmetric a b e))
    (λ e. tie_from_same nat_cmp_total nat_cmp-IsAntisymmetric a b (eqb-true a b e))

either_one : (b has rest : Bool) → has ≡ rest → cond b true has ≡ (b || rest)
either_one true has rest e = refl
either_one false has rest e = e

-- an origin more
used_more : (number origin : ℕ) (before : List ℕ) (has : Bool) → has ≡ list_any (λ used. used == origin) before
    → cond (is_eq (nat_cmp number origin)) true has ≡ list_any (λ used. used == origin) (number ∷ before)
used_more number origin before has e =
    ap (λ (b : Bool). cond b true has) (same_number number origin)
    ∙ either_one (number == origin) has (list_any (λ used. used == origin) before) e

module _ {A : Type 0} {g : Ghosts A} where
  pub represents_with_node : (old new : Cluster A g) (m : State Cells) (name : List ℕ) (h : ReplicaWithRoom)
      → Represents old m
      → new.schema ≡ old.schema → new.clock ≡ old.clock → new.lead ≡ old.lead → new.pages ≡ old.pages
      → new.snapshots ≡ old.snapshots → HasPut old.nodes new.nodes name h
      → h.schema ≡ old.schema → ((q : ℕ) → contains nat_cmp new.origins q
      ≡ cond (is_eq (nat_cmp h.origin q)) true (contains nat_cmp old.origins q))
      → Represents new (with_node m name (node_in h))
  represents_with_node old new m name h is schema clock lead pages snapshots put shared origins = record {
    schema = schema ∙ is.schema;
    clock = clock ∙ is.clock;
    lead = lead ∙ is.lead;
    nodes = nodes_put old.nodes new.nodes m.nodes name h is.nodes put;
    shared = rw schema (each_put (λ g. g.schema ≡ old.schema) old.nodes new.nodes name h put shared is.shared);
    pages = λ q. rw pages (is.pages q);
    are_pages = is.are_pages;
    snapshots = λ q. rw snapshots (is.snapshots q);
    are_kept = is.are_kept;
    origins = λ origin. origins origin ∙ used_more h.origin origin m.origins (contains nat_cmp old.origins origin)
        (is.origins origin);
  }

module _ {A : Type 0} {g : Ghosts A} where
  -- the node of a replica that holds nothing
  pub new_replica : (c : Cluster A g) (m : State Cells) → Represents c m → (h : ReplicaWithRoom) (number : ℕ)
      → replica_state h ≡ record { schema = c.schema; origin = number; next = 1; cells = map.empty }
      → node_in h ≡ new_node cell_model m.schema number
  new_replica c m is h number made = ap node_of made ∙ ap (λ (s : Layout). new_node cell_model s number) is.schema

-- ---- the models agree

-- nothing known makes no cell
state_of_nothing : (s : Layout) → cells_of_knowledge s map.empty ≡ map.empty
state_of_nothing s = map.same_map cell_name_cmp_total cell_name_cmp-IsAntisymmetric (cells_of_knowledge s map.empty)
    map.empty (λ n.
    get-state s map.empty n
    ∙ no_value s (cell s map.empty n) (λ m. knows-cell s map.empty n m
    ∙ ap (λ (b : Bool). (b && is_live_in s map.empty (name_of s m)) && eq_by_cmp cell_name_cmp (name_of s m) n)
    (knows-empty m))
    ∙ sym (map.get-empty cell_name_cmp n))

new_nodes_agree : (s : Layout) (number : ℕ) → new_node cell_model s number
    ≡ node_in_cells (new_node sample_model s number)
new_nodes_agree s number = λ i. record { schema = s; origin = number; next = 1; contents = sym (state_of_nothing s) i }

-- a node more, or another in its place
pub with_node_agrees : (m : State Knowledge) (name : List ℕ) (c : Node Cells) (n : Node Knowledge) (origins : List ℕ)
    (w : World) → c ≡ node_in_cells n
    → ◌≡◌ {A = State Cells} (record (in_cells m) {
      nodes =
          map.insert (map_values node_in_cells m.nodes) name c;
      origins = origins;
      world = w;
    })
    (in_cells (record m { nodes = map.insert m.nodes name n; origins = origins; world = w }))
with_node_agrees m name c n origins w e =
    let nodes = ap (map.insert (map_values node_in_cells m.nodes) name) e
    ∙ sym (map_values-insert nat_list_cmp_total names_apart node_in_cells m.nodes name n) in
    λ i. record (in_cells m) { nodes = nodes i; origins = origins; world = w }

pub node_agrees : (m : State Knowledge) → IsSound m → (name origin : List ℕ)
    → Agrees in_cells IsSound (after_node cell_model (in_cells m) name origin) (after_node sample_model m name origin)
unfolding after_node
node_agrees m sound name origin =
    rw (is_some-map_values nat_list_cmp_total names_apart node_in_cells m.nodes name)
    (then_agree in_cells IsSound (check (is_name name) BadName) _ _
    (λ named is. then_agree in_cells IsSound (check (not (map.contains_key m.nodes name)) NameUsed) _ _
    (λ free new. then_agree in_cells IsSound (unused_origin m.origins origin) _ _ (λ number read.
    let unused = origin_is_unused m.origins origin number read in
    done_agrees in_cells IsSound _ _ (with_node_agrees m name (new_node cell_model m.schema number)
    (new_node sample_model m.schema number) (number ∷ m.origins) m.world (new_nodes_agree m.schema number))
    (with_node_is_sound m sound name (new_node sample_model m.schema number) refl
    (starting_is_sound m sound m.schema number _ (nothing_is_closed m.schema m.world) unused.1) unused.0
    unused.1)))))
