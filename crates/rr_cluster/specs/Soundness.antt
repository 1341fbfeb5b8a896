-- What scripts keep true of the sample model: what was written is within the limits, each node knows all that its
-- origin wrote, and what nodes, pages and snapshots hold has no gaps.
use Rattle.std.specs.Prelude.{◌≡◌, ℕ, ◌+◌, ◌<◌, ◌≤◌, ◌==◌, List, [], ◌∷◌, take, Option, None, Some, Result, IfOk, IfSome, IsTrue}
use Rattle.std.specs.List.{list_any}
use Rattle.std.specs.FinMap.{get}
use Rattle.rr_text.specs.declared.limits.TheConstants.{MAX_NUMBER}
use Rattle.rr_schema.specs.Origin.{IsOrigin}
use Rattle.rr_schema.specs.Schema.{Layout, IsLayout}
use Rattle.rr_text.specs.Text.{fits_i64}
use Rattle.rr_cells.specs.CellBounds.{IsSoundSample}
use Rattle.rr_cells.specs.Samples.{Sample}
use Rattle.rr_cells.specs.Knowledge.{Knowledge}
use Rattle.rr_cells.specs.World.{World, IsWritten, IsClosed, HoldsAllOf}
use Rattle.rr_cluster.specs.declared.script.fault.SyntaxFault.{SyntaxFault}
use Rattle.rr_cluster.specs.Command.{Command, IsOneLine}
use Rattle.rr_cluster.specs.Commands.{step}
use Rattle.rr_cluster.specs.Model.{sample_model}
use Rattle.rr_cluster.specs.Output.{after_line}
use Rattle.rr_cluster.specs.Script.{commands_of}
use Rattle.rr_cluster.specs.State.{Node, Snapshot, State, first_state}

-- what a node knows has no gaps, it knows all that was written under its origin, and its next number is past those; if
-- no number is left, the next is past the last
pub record IsSoundNode (w : World) (n : Node Knowledge) : Type 0 where
  pub closed : IsClosed n.schema w n.contents
  pub own : HoldsAllOf n.schema w n.contents n.origin
  pub numbered : (x : Sample) → IsWritten w x → x.origin ≡ n.origin → x.number < n.next
  pub some_number : 1 ≤ n.next
  pub few_numbers : n.next ≤ MAX_NUMBER + 1

-- the script used this origin
abbrev pub IsUsed : State Knowledge → ℕ → Type 0
IsUsed m origin = IsTrue (list_any (λ used. used == origin) m.origins)

-- the schema of a snapshot is within its limits, and what it holds has no gaps under it
pub record IsSoundSnapshot (w : World) (x : Snapshot Knowledge) : Type 0 where
  pub layout : IsLayout x.schema
  pub closed : IsClosed x.schema w x.contents

-- the schema and the clock are within their limits, the nodes have the schema and are sound, and each has an origin of
-- its own that the script used; used origins are within their limits; what a page or a snapshot holds has no gaps; each
-- sample that was written is sound, and of an origin that the script used
pub record IsSound (m : State Knowledge) : Type 0 where
  pub layout : IsLayout m.schema
  pub clock : IsTrue (fits_i64 m.clock)
  pub shared : (name : List ℕ) (n : Node Knowledge) → get m.nodes name ≡ Some n → n.schema ≡ m.schema
  pub nodes : (name : List ℕ) (n : Node Knowledge) → get m.nodes name ≡ Some n → IsSoundNode m.world n
  pub pages : (name : List ℕ) (k : Knowledge) → get m.pages name ≡ Some k → IsClosed m.schema m.world k
  pub snapshots : (name : List ℕ) (x : Snapshot Knowledge) → get m.snapshots name ≡ Some x → IsSoundSnapshot m.world x
  pub apart : (a b : List ℕ) (n o : Node Knowledge) → get m.nodes a ≡ Some n → get m.nodes b ≡ Some o
      → n.origin ≡ o.origin → a ≡ b
  pub used : (name : List ℕ) (n : Node Knowledge) → get m.nodes name ≡ Some n → IsUsed m n.origin
  pub origins : (origin : ℕ) → IsUsed m origin → IsOrigin origin
  pub written : (x : Sample) → IsWritten m.world x → IsUsed m x.origin
  pub samples : (x : Sample) → IsWritten m.world x → IsSoundSample x

-- the state after some lines
abbrev pub state_after : Option (State Knowledge) → List (ℕ × Result Command SyntaxFault) → Option (State Knowledge)
state_after m [] = m
state_after m (line ∷ lines) = state_after (after_line sample_model m line.0 line.1).0 lines

-- the state is sound once the schema is set
abbrev pub FirstStatesAreSound : Type 0
FirstStatesAreSound = (s : Layout) → IsLayout s → IsSound (first_state s)

-- a command of one line leaves a sound state sound
abbrev pub CommandsKeepSound : Type 0
CommandsKeepSound =
    (m : Option (State Knowledge)) (command : Command) → IfSome m IsSound → IsOneLine command
    → IfOk (step sample_model m command) (λ done. IfSome done.0 IsSound)

-- so each state that a script comes to is sound
abbrev pub ScriptsAreSound : Type 0
ScriptsAreSound = (script : List ℕ) (count : ℕ) → IfSome (state_after None (take count (commands_of script))) IsSound
