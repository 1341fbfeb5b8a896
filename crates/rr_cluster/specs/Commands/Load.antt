-- load NAME NODE ORIGIN
use Rattle.std.specs.Prelude.{ℕ, Bool, not, List, Result, Ok, ok_or}
use Rattle.std.specs.FinMap.{get, entries}
use Rattle.rr_schema.specs.Schema.{Layout}
use Rattle.rr_schema.specs.Added.{addition_since}
use Rattle.rr_snapshot.specs.Loading.{is_used}
use Rattle.rr_cluster.specs.declared.fault.CommandFault.{CommandFault}
use Rattle.rr_cluster.specs.declared.fault.CommandFault.TheVariants.{NoSnapshot, BadName, OriginUsed, SchemaDiffers}
use Rattle.rr_text.specs.Results.{◌>>=◌, check}
use Rattle.rr_cluster.specs.Commands.Node.{unused_origin}
use Rattle.rr_cluster.specs.Model.{Model}
use Rattle.rr_cluster.specs.State.{Node, Snapshot, State, with_node}
use Rattle.rr_cluster.specs.Words.{is_name}

module _ {K : Type 0} (model : Model K) where
  -- whether an origin is that of a snapshot or of one of its cells
  abbrev pub has_origin : Snapshot K → ℕ → Bool
  has_origin x number = is_used number x.origin (entries (model.cells x.schema x.contents))

  -- the node that a snapshot is loaded as, under a schema that may have one archive more, and a new origin
  unfoldable pub loaded_node : Layout → Snapshot K → ℕ → Result (Node K) CommandFault
  loaded_node s x number = do
    addition ← ok_or (addition_since s x.schema) SchemaDiffers
    absent ← check (not (has_origin x number)) OriginUsed
    Ok (record { schema = s; origin = number; next = 1; contents = model.raised addition x.contents })

  -- the node may be new, or replaces one of that name, whose origin stays used
  unfoldable pub after_load : State K → List ℕ → List ℕ → List ℕ → Result (State K) CommandFault
  after_load m name node origin = do
    x ← ok_or (get m.snapshots name) NoSnapshot
    named ← check (is_name node) BadName
    number ← unused_origin m.origins origin
    n ← loaded_node m.schema x number
    Ok (with_node m node n)
