-- load NAME NODE ORIGIN
use Rattle.std.proofs.Common.{◌≡◌, ◌⊎◌, ℕ, Bool, true, false, not, inl, inr, List, ◌∷◌, Option, Some, None, Result, Ok, Err, refl, sym, ap, subst, ◌∙◌}
use Rattle.std.specs.Prelude.{◌==◌, ok_or}
use Rattle.std.specs.List.{list_any}
use Rattle.std.specs.FinMap as map
use Rattle.std.specs.FinMap.{entries}
use Rattle.rr_archive.specs.declared.archive.Cells.{Ghosts}
use Rattle.rr_text.specs.Results.{◌>>=◌, check, unless}
use Rattle.rr_schema.specs.Origin.{IsOrigin}
use Rattle.rr_schema.specs.Schema.{Layout, IsLayout}
use Rattle.rr_schema.specs.Added.{addition_since}
use Rattle.rr_schema.specs.declared.added.Addition.{Addition}
use Rattle.rr_schema.proofs.AdditionLemmas.{additions_are_found}
use Rattle.rr_cells.specs.Knowledge.{Knowledge}
use Rattle.rr_cells.specs.World.{IsClosed}
use Rattle.rr_cells.specs.Cells.{Cells}
use Rattle.rr_cells.specs.ReplicaState.{ReplicaState}
use Rattle.rr_replica.specs.ReplicaWithRoom.{ReplicaWithRoom, replica_state}
use Rattle.rr_snapshot.specs.declared.fault.LoadFault.{LoadFault}
use Rattle.rr_snapshot.specs.declared.fault.LoadFault.TheVariants as load
use Rattle.rr_snapshot.specs.Loading.{loaded_at}
use Rattle.rr_cells.specs.State.{cells_of_knowledge}
use Rattle.rr_cells.specs.Raising.{raised_knowledge, raised_cells}
use Rattle.rr_cells.proofs.Raised.{raised_is_closed, raised_makes_raised_cells}
use Rattle.rr_snapshot.proofs.SavedLemmas.{snapshot_is_loaded, other_is_refused}
use Rattle.rr_cluster.specs.declared.cluster.Cluster.{Cluster}
use Rattle.rr_cluster.specs.declared.fault.CommandFault.{CommandFault}
use Rattle.rr_cluster.specs.declared.fault.CommandFault.TheVariants.{NoSnapshot, BadName, OriginUsed, SchemaDiffers}
use Rattle.rr_cluster.specs.declared.stop.Stop.{Stop}
use Rattle.rr_cluster.specs.declared.stop.Stop.TheVariants.{Refused, Memory}
use Rattle.rr_cluster.specs.Agreement.{in_cells, node_in_cells, snapshot_in_cells}
use Rattle.rr_cluster.specs.Commands.Load.{loaded_node, has_origin, after_load}
use Rattle.rr_cluster.specs.Commands.Node.{unused_origin}
use Rattle.rr_cluster.specs.Meaning.{node_in, node_of, bytes_at, HasSnapshotText, Leaves, Represents}
use Rattle.rr_cluster.specs.Model.{Model, cell_model, sample_model}
use Rattle.rr_cluster.specs.Soundness.{IsSound, IsSoundNode, IsSoundSnapshot}
use Rattle.rr_cluster.specs.State.{Node, Snapshot, State, with_node}
use Rattle.rr_cluster.specs.Stop.{Gives}
use Rattle.rr_cluster.specs.Words.{is_name}
use Rattle.rr_cluster.proofs.CommandsLemmas.Node.{origin_is_unused, with_node_agrees}
use Rattle.rr_cluster.proofs.MeaningLemmas.{snapshot_there}
use Rattle.rr_cluster.proofs.SoundnessLemmas.{with_node_is_sound, starting_is_sound}
use Rattle.rr_cluster.proofs.StepLemmas.{Agrees, then_agree, both_agree, found_agree, done_agrees}

-- ---- check by check

module _ {K : Type 0} (model : Model K) (m : State K) (name node origin : List ℕ) where
  pub no_snapshot : map.get m.snapshots name ≡ None → after_load model m name node origin ≡ Err NoSnapshot
  unfolding after_load
  no_snapshot e = rw e refl

  module _ (x : Snapshot K) (here : map.get m.snapshots name ≡ Some x) where
    pub bad_name : is_name node ≡ false → after_load model m name node origin ≡ Err BadName
    unfolding after_load
    bad_name e = rw (here, e) refl

    module _ (named : is_name node ≡ true) where
      pub bad_origin : (fault : CommandFault) → unused_origin m.origins origin ≡ Err fault
          → after_load model m name node origin ≡ Err fault
      unfolding after_load
      bad_origin fault e = rw (here, named, e) refl

      module _ (number : ℕ) (is : unused_origin m.origins origin ≡ Ok number) where
        pub not_loaded : (fault : CommandFault) → loaded_node model m.schema x number ≡ Err fault
            → after_load model m name node origin ≡ Err fault
        unfolding after_load
        not_loaded fault e = rw (here, named, is, e) refl

        pub node_is_loaded : (n : Node K) → loaded_node model m.schema x number ≡ Ok n
            → after_load model m name node origin ≡ Ok (with_node m node n)
        unfolding after_load
        node_is_loaded n e = rw (here, named, is, e) refl

-- ---- the replica of a snapshot

-- a node, or why there is none, of what a snapshot is loaded as
abbrev as_node : Result ReplicaState LoadFault → Result (Node Cells) CommandFault
as_node (Ok h) = Ok (node_of h)
as_node (Err load.OriginUsed) = Err OriginUsed
as_node (Err _) = Err SchemaDiffers

-- the two refusals of a snapshot that a script made
abbrev pub IsOfScript : LoadFault → Type 0
IsOfScript fault = (fault ≡ load.SchemaDiffers) ⊎ (fault ≡ load.OriginUsed)

module _ (s : Layout) (layout : IsLayout s) (x : Snapshot Cells) (bytes : List ℕ) (has : HasSnapshotText x bytes)
    (number : ℕ) where
  -- the bytes of a snapshot are loaded as its cells, unless its schema is another, or the origin is its own or that of
  -- one of them
  due : Option Addition → Result ReplicaState LoadFault
  due None = Err load.SchemaDiffers
  due (Some a) = unless load.OriginUsed (has_origin cell_model x number)
      (Ok (record { schema = s; origin = number; next = 1; cells = raised_cells a x.contents }))

  loaded_text : (o : Option Addition) → addition_since s x.schema ≡ o → loaded_at s number bytes ≡ due o
  unfolding due
  loaded_text None since = ap (loaded_at s number) has.text
      ∙ other_is_refused s x.schema x.origin (entries x.contents) number layout has.kept.layout since
  loaded_text (Some a) since = ap (loaded_at s number) has.text
      ∙ snapshot_is_loaded s x.schema a x.origin x.contents number layout has.kept.layout since has.kept.snapshot
      has.kept.trimmed

  -- so the replica is the node that is due
  node_due : (o : Option Addition) → addition_since s x.schema ≡ o → as_node (due o) ≡ loaded_node cell_model s x number
  unfolding due loaded_node
  node_due None since = rw since refl
  node_due (Some a) since = by (has_origin cell_model x number) refl
    where
      by : (used : Bool) → has_origin cell_model x number ≡ used
          → as_node (unless load.OriginUsed (has_origin cell_model x number)
          (Ok (record { schema = s; origin = number; next = 1; cells = raised_cells a x.contents })))
          ≡ loaded_node cell_model s x number
      by true e = rw (since, e) refl
      by false e = rw (since, e) refl

  loads : as_node (loaded_at s number bytes) ≡ loaded_node cell_model s x number
  loads = ap as_node (loaded_text (addition_since s x.schema) refl) ∙ node_due (addition_since s x.schema) refl

  pub loaded : (h : ReplicaWithRoom) → loaded_at s number bytes ≡ Ok (replica_state h)
      → loaded_node cell_model s x number ≡ Ok (node_in h)
  loaded h e = sym loads ∙ ap as_node e

  due_fault : (o : Option Addition) (fault : LoadFault) → due o ≡ Err fault → IsOfScript fault
  unfolding due
  due_fault None fault e = inl (cc (sym e))
  due_fault (Some a) fault e = by (has_origin cell_model x number) e
    where
      by : (used : Bool) → unless {A = ReplicaState} load.OriginUsed used
          (Ok (record { schema = s; origin = number; next = 1; cells = raised_cells a x.contents })) ≡ Err fault
          → IsOfScript fault
      by true h = inr (cc (sym h))
      by false h = absurd (cc h)

  -- the faults that a load of its bytes can have
  pub faults : (fault : LoadFault) → (fault ≡ load.ReadFailed) ⊎ (fault ≡ load.Memory)
      ⊎ (loaded_at s number bytes ≡ Err fault) → (fault ≡ load.ReadFailed) ⊎ (fault ≡ load.Memory) ⊎ IsOfScript fault
  faults fault (inl e) = inl e
  faults fault (inr (inl e)) = inr (inl e)
  faults fault (inr (inr e)) = inr (inr (due_fault (addition_since s x.schema) fault
      (sym (loaded_text (addition_since s x.schema) refl) ∙ e)))

  pub origin_used : (fault : LoadFault) → fault ≡ load.OriginUsed
      → (fault ≡ load.ReadFailed) ⊎ (fault ≡ load.Memory) ⊎ (loaded_at s number bytes ≡ Err fault)
      → loaded_node cell_model s x number ≡ Err OriginUsed
  origin_used fault is (inl e) = absurd cc
  origin_used fault is (inr (inl e)) = absurd cc
  origin_used fault is (inr (inr e)) = sym loads ∙ ap as_node (e ∙ ap (λ f. Err f) is)

  pub schema_differs : (fault : LoadFault) → fault ≡ load.SchemaDiffers
      → (fault ≡ load.ReadFailed) ⊎ (fault ≡ load.Memory) ⊎ (loaded_at s number bytes ≡ Err fault)
      → loaded_node cell_model s x number ≡ Err SchemaDiffers
  schema_differs fault is (inl e) = absurd cc
  schema_differs fault is (inr (inl e)) = absurd cc
  schema_differs fault is (inr (inr e)) = sym loads ∙ ap as_node (e ∙ ap (λ f. Err f) is)

abbrev loaded_under : Layout → Snapshot Cells → ℕ → Addition → Node Cells
loaded_under s x number a = record { schema = s; origin = number; next = 1; contents = raised_cells a x.contents }

-- a node that is loaded has the schema
loaded_schema : (s : Layout) (x : Snapshot Cells) (number : ℕ) (n : Node Cells)
    → loaded_node cell_model s x number ≡ Ok n → n.schema ≡ s
unfolding loaded_node
loaded_schema s x number n = by (addition_since s x.schema) (has_origin cell_model x number)
  where
    by : (o : Option Addition) (used : Bool) → (ok_or o SchemaDiffers >>= λ a. check (not used) OriginUsed >>=
        λ absent. Ok (loaded_under s x number a)) ≡ Ok n → n.schema ≡ s
    by None used e = absurd (cc e)
    by (Some a) true e = absurd (cc e)
    by (Some a) false e = let same : loaded_under s x number a ≡ n = cc e in
        ap (λ (y : Node Cells). y.schema) (sym same)

-- ---- the cluster with the node that was loaded

module _ {A : Type 0} {g : Ghosts A} (c : Cluster A g) (m : State Cells) (is : Represents c m)
    (name node origin bytes : List ℕ) (kept : bytes_at c.snapshots name ≡ Some bytes) where
  abbrev x : Snapshot Cells
  x = (snapshot_there c m is name bytes kept).0

  here : map.get m.snapshots name ≡ Some x
  here = (snapshot_there c m is name bytes kept).1

  -- the bytes are those of a snapshot
  text : HasSnapshotText x bytes
  text = (snapshot_there c m is name bytes kept).2

  pub snapshot_of_script : (x : Snapshot Cells) × HasSnapshotText x bytes
  snapshot_of_script = (x, text)

  pub bad_name_here : is_name node ≡ false → after_load cell_model m name node origin ≡ Err BadName
  bad_name_here = bad_name cell_model m name node origin x here

  module _ (named : is_name node ≡ true) where
    pub bad_origin_here : (fault : CommandFault) → unused_origin m.origins origin ≡ Err fault
        → after_load cell_model m name node origin ≡ Err fault
    bad_origin_here = bad_origin cell_model m name node origin x here named

    module _ (number : ℕ) (read : unused_origin m.origins origin ≡ Ok number) where
      -- what is due under the cluster's schema is due under the state's
      abbrev Due : {B : Type 0} → Result B Stop → (B → Node Cells) → Type 0
      Due result view = (y : Snapshot Cells) → HasSnapshotText y bytes
          → Gives view result (loaded_node cell_model c.schema y number)

      -- a snapshot that isn't loaded is refused as the model's is
      pub load_is_refused : {B : Type 0} (view : B → Node Cells) (stop : Stop) → Due {B = B} (Err stop) view
          → (new : Cluster A g) → Represents new m → Leaves new m (Err stop) (after_load cell_model m name node origin)
      load_is_refused view Memory gives new same = tt
      load_is_refused view (Refused fault) gives new same = (
        not_loaded cell_model m name node origin x here named number read fault
            (ap (λ (s : Layout). loaded_node cell_model s x number) (sym is.schema) ∙ gives x text),
        same,
      )

      -- and else the replica is a node of the cluster's schema
      pub replica_is_loaded : (h : ReplicaWithRoom) → Due (Ok h) node_in
          → (h.schema ≡ c.schema) × (after_load cell_model m name node origin ≡ Ok (with_node m node (node_in h)))
      replica_is_loaded h gives =
          let loaded = gives x text in (
            loaded_schema c.schema x number (node_in h) loaded,
            node_is_loaded cell_model m name node origin x here named number read (node_in h)
                (ap (λ (s : Layout). loaded_node cell_model s x number) (sym is.schema) ∙ loaded),
          )

-- ---- the models agree

-- a node of the schema and an origin, sound
record IsLoaded (m : State Knowledge) (origin : ℕ) (n : Node Knowledge) : Type 0 where
  pub shared : n.schema ≡ m.schema
  pub number : n.origin ≡ origin
  pub sound : IsSoundNode m.world n

ok_or_some : {X : Type 0} (fault : CommandFault) (o : Option X) (y : X) → ok_or o fault ≡ Ok y → o ≡ Some y
ok_or_some fault None y e = absurd (cc e)
ok_or_some fault (Some z) y e = let same : z ≡ y = cc e in ap (λ v. Some v) same

-- the node that a snapshot is loaded as is the same in both, and knows what has no gaps
loaded_agree : (m : State Knowledge) (sound : IsSound m) (x : Snapshot Knowledge) → IsSoundSnapshot m.world x
    → (number : ℕ) → list_any (λ used. used == number) m.origins ≡ false
    → Agrees node_in_cells (IsLoaded m number) (loaded_node cell_model m.schema (snapshot_in_cells x) number)
    (loaded_node sample_model m.schema x number)
unfolding loaded_node
loaded_agree m sound x is number unused =
    then_agree node_in_cells (IsLoaded m number) (ok_or (addition_since m.schema x.schema) SchemaDiffers) _ _
    (λ a since. then_agree node_in_cells (IsLoaded m number)
    (check (not (has_origin sample_model x number)) OriginUsed) _ _ (λ absent so.
    let found = (additions_are_found m.schema x.schema a sound.layout is.layout).0
    (ok_or_some SchemaDiffers (addition_since m.schema x.schema) a since) in
    let closed = raised_is_closed a m.schema m.world x.contents found.0
    (subst (λ (t : Layout). IsClosed t m.world x.contents) found.1 is.closed) in
    let cells = ap (λ (t : Layout). raised_cells a (cells_of_knowledge t x.contents)) found.1
    ∙ sym (raised_makes_raised_cells a m.schema x.contents found.0) in
    done_agrees node_in_cells (IsLoaded m number) _ _
    (λ i. record { schema = m.schema; origin = number; next = 1; contents = cells i })
    (record {
      shared = refl;
      number = refl;
      sound =
          starting_is_sound m sound m.schema number (raised_knowledge a x.contents) closed unused;
    })))

pub load_agrees : (m : State Knowledge) → IsSound m → (name node origin : List ℕ)
    → Agrees in_cells IsSound (after_load cell_model (in_cells m) name node origin)
    (after_load sample_model m name node origin)
unfolding after_load
load_agrees m sound name node origin =
    found_agree in_cells IsSound snapshot_in_cells m.snapshots name NoSnapshot _ _
    (λ x here. then_agree in_cells IsSound (check (is_name node) BadName) _ _
    (λ named is. then_agree in_cells IsSound (unused_origin m.origins origin) _ _ (λ number read.
    let unused = origin_is_unused m.origins origin number read in
    both_agree node_in_cells (IsLoaded m number) in_cells IsSound _ _ _ _
    (loaded_agree m sound x (sound.snapshots name x here) number unused.1) (λ n loaded.
    done_agrees in_cells IsSound _ _ (with_node_agrees m node (node_in_cells n) n (n.origin ∷ m.origins) m.world refl)
    (with_node_is_sound m sound node n loaded.shared loaded.sound (subst IsOrigin (sym loaded.number) unused.0)
    (ap (λ (o : ℕ). list_any (λ used. used == o) m.origins) loaded.number ∙ unused.1))))))
