-- The commands. Each has a file of its own, with what it does to a state: its checks, in their order, and then the
-- change. The first check that fails refuses it.
pub mod Schema
pub mod Upgrade
pub mod Node
pub mod Now
pub mod Write
pub mod Page
pub mod Delta
pub mod Deliver
pub mod Bytes
pub mod Save
pub mod Load
pub mod Fetch
use Rattle.std.specs.Prelude.{ℕ, nat_eq, List, [], ◌∷◌, codes, Option, None, Some, Result, Ok, Err, if◌then◌else◌}
use Rattle.std.specs.Cmp.Lexicographic.{pointwise}
use Rattle.rr_schema.specs.Schema.{Layout}
use Rattle.rr_cluster.specs.declared.fault.CommandFault.{CommandFault}
use Rattle.rr_cluster.specs.declared.fault.CommandFault.TheVariants.{NoSchema, SchemaSet}
use Rattle.rr_cluster.specs.Command.{Command, schema, upgrade, node, now, write, page, delta, deliver, bytes, save, load, fetch}
use Rattle.rr_cluster.specs.Commands.Schema.{layout_of}
use Rattle.rr_cluster.specs.Commands.Upgrade.{after_upgrade}
use Rattle.rr_cluster.specs.Commands.Node.{after_node}
use Rattle.rr_cluster.specs.Commands.Now.{after_now}
use Rattle.rr_cluster.specs.Commands.Write.{after_write}
use Rattle.rr_cluster.specs.Commands.Page.{after_page}
use Rattle.rr_cluster.specs.Commands.Delta.{after_delta}
use Rattle.rr_cluster.specs.Commands.Deliver.{after_deliver}
use Rattle.rr_cluster.specs.Commands.Bytes.{hex_of_page}
use Rattle.rr_cluster.specs.Commands.Save.{after_save}
use Rattle.rr_cluster.specs.Commands.Load.{after_load}
use Rattle.rr_cluster.specs.Commands.Fetch.{answer_to}
use Rattle.rr_cluster.specs.Model.{Model}
use Rattle.rr_cluster.specs.State.{State, first_state}

-- f of an answer; a refusal stays as it is
abbrev pub on_ok : {A B : Type 0} → (A → B) → Result A CommandFault → Result B CommandFault
on_ok f (Ok x) = Ok (f x)
on_ok f (Err fault) = Err fault

module _ {K : Type 0} where
  -- this state, with nothing printed
  abbrev pub silently : State K → Option (State K) × List ℕ
  silently m = (Some m, [])

  -- the first state, with nothing printed
  abbrev pub beginning : Layout → Option (State K) × List ℕ
  beginning s = (Some (first_state s), [])

  -- this state, with a text printed
  abbrev pub printing : State K → List ℕ → Option (State K) × List ℕ
  printing m text = (Some m, text)

module _ {K : Type 0} (model : Model K) where
  -- the state that a command leaves, and what it prints: `schema` comes first, and only once
  abbrev pub step : Option (State K) → Command → Result (Option (State K) × List ℕ) CommandFault
  step None (schema seconds archives) = on_ok beginning (layout_of seconds archives)
  step None command = Err NoSchema
  step (Some m) (schema seconds archives) = Err SchemaSet
  step (Some m) (upgrade archive) = on_ok silently (after_upgrade m archive)
  step (Some m) (node name origin) = on_ok silently (after_node model m name origin)
  step (Some m) (now time lead) = on_ok silently (after_now m time lead)
  step (Some m) (write name line) = on_ok silently (after_write model m name line)
  step (Some m) (page name at from count) = on_ok silently (after_page model m name at from count)
  step (Some m) (delta name giver taker from count) = on_ok silently (after_delta model m name giver taker from count)
  step (Some m) (deliver name at) = on_ok silently (after_deliver model m name at)
  step (Some m) (bytes name) = on_ok (printing m) (hex_of_page model m name)
  step (Some m) (save name at) = on_ok silently (after_save model m name at)
  step (Some m) (load name at origin) = on_ok silently (after_load model m name at origin)
  step (Some m) (fetch name request) = on_ok (printing m) (answer_to model m name request)
