-- page NAME NODE FROM COUNT
use Rattle.std.specs.Prelude.{ℕ, List, Result, Ok, ok_or}
use Rattle.std.specs.FinMap.{get}
use Rattle.rr_text.specs.declared.limits.TheConstants.{MAX_PAGE_CELLS}
use Rattle.rr_cluster.specs.declared.fault.CommandFault.{CommandFault}
use Rattle.rr_cluster.specs.declared.fault.CommandFault.TheVariants.{BadName, NoNode, BadNumber}
use Rattle.rr_cluster.specs.declared.words.TheConstants.{MAX_U32}
use Rattle.rr_text.specs.Results.{◌>>=◌, check}
use Rattle.rr_cluster.specs.Model.{Model}
use Rattle.rr_cluster.specs.State.{State, with_page}
use Rattle.rr_cluster.specs.Words.{is_name, number_within}

-- the place of a page's first cell, and how many cells it has at most
abbrev pub place_and_count : List ℕ → List ℕ → Result (ℕ × ℕ) CommandFault
place_and_count from count = do
  place ← ok_or (number_within 0 MAX_U32 from) BadNumber
  most ← ok_or (number_within 1 MAX_PAGE_CELLS count) BadNumber
  Ok (place, most)

module _ {K : Type 0} (model : Model K) where
  -- a page replaces one of that name
  unfoldable pub after_page : State K → List ℕ → List ℕ → List ℕ → List ℕ → Result (State K) CommandFault
  after_page m name node from count = do
    named ← check (is_name name) BadName
    n ← ok_or (get m.nodes node) NoNode
    asked ← place_and_count from count
    Ok (with_page m name (model.part n.schema n.contents asked.0 asked.1))
