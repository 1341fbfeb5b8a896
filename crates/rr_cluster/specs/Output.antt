-- The output of a script.
use Rattle.std.specs.Prelude.{◌≡◌, ℕ, List, [], ◌∷◌, ◌++◌, Option, None, Result, Ok, Err}
use Rattle.rr_text.specs.Refusal.{refusal_text}
use Rattle.rr_cluster.specs.declared.fault.CommandFault.{CommandFault}
use Rattle.rr_cluster.specs.declared.fault.CommandFault.TheVariants.{Syntax}
use Rattle.rr_cluster.specs.declared.script.fault.SyntaxFault.{SyntaxFault}
use Rattle.rr_cluster.specs.Command.{Command}
use Rattle.rr_cluster.specs.Commands.{step}
use Rattle.rr_cluster.specs.Fault.{command_fault_name}
use Rattle.rr_cluster.specs.Model.{Model, cell_model, sample_model}
use Rattle.rr_cluster.specs.Script.{commands_of}
use Rattle.rr_cluster.specs.State.{State}

-- a refused command prints `line N: NAME`, and changes nothing
abbrev pub unless_refused : {K : Type 0} → Option (State K) → ℕ → Result (Option (State K) × List ℕ) CommandFault
    → Option (State K) × List ℕ
unless_refused m number (Ok done) = done
unless_refused m number (Err fault) = (m, refusal_text number (command_fault_name fault))

module _ {K : Type 0} (model : Model K) where
  -- the state after a line, and what it prints
  abbrev pub after_line : Option (State K) → ℕ → Result Command SyntaxFault → Option (State K) × List ℕ
  after_line m number (Ok command) = unless_refused m number (step model m command)
  after_line m number (Err fault) = unless_refused m number (Err (Syntax fault))

  -- what these lines print, one after the other
  abbrev pub output_from : Option (State K) → List (ℕ × Result Command SyntaxFault) → List ℕ
  output_from m [] = []
  output_from m (line ∷ lines) = let done = after_line m line.0 line.1 in done.1 ++ output_from done.0 lines

  -- what a script prints
  abbrev pub output_of : List ℕ → List ℕ
  output_of script = output_from None (commands_of script)

-- a text is what a script prints, by the cells of its nodes and by the samples that reached them
pub record IsOutput (script text : List ℕ) : Type 0 where
  pub cells : text ≡ output_of cell_model script
  pub samples : text ≡ output_of sample_model script
