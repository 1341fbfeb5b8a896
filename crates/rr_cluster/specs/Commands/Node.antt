-- node NAME ORIGIN
use Rattle.std.specs.Prelude.{ℕ, not, ◌==◌, List, Result, Ok}
use Rattle.std.specs.List.{list_any}
use Rattle.std.specs.FinMap.{contains_key}
use Rattle.rr_schema.specs.Schema.{Layout}
use Rattle.rr_cluster.specs.declared.fault.CommandFault.{CommandFault}
use Rattle.rr_cluster.specs.declared.fault.CommandFault.TheVariants.{BadName, NameUsed, OriginUsed}
use Rattle.rr_text.specs.Results.{◌>>=◌, check}
use Rattle.rr_cluster.specs.Model.{Model}
use Rattle.rr_cluster.specs.State.{Node, State, with_node}
use Rattle.rr_cluster.specs.Words.{is_name, origin_of}

-- the origin that a word names, unless it was used
abbrev pub unused_origin : List ℕ → List ℕ → Result ℕ CommandFault
unused_origin origins word = do
  number ← origin_of word
  unused ← check (not (list_any (λ used. used == number) origins)) OriginUsed
  Ok number

module _ {K : Type 0} (model : Model K) where
  -- a node that holds nothing
  abbrev pub new_node : Layout → ℕ → Node K
  new_node s number = record { schema = s; origin = number; next = 1; contents = model.nothing }

  unfoldable pub after_node : State K → List ℕ → List ℕ → Result (State K) CommandFault
  after_node m name origin = do
    named ← check (is_name name) BadName
    free ← check (not (contains_key m.nodes name)) NameUsed
    number ← unused_origin m.origins origin
    Ok (with_node m name (new_node m.schema number))
