-- Three nodes, by example: a page that comes twice, one that is cut, and one that is lost.
use Rattle.std.specs.Prelude.{◌≡◌, ℕ, ◌*◌, ℤ, pos, List, [], ◌∷◌, ◌++◌, codes, Option, Some}
use Rattle.std.specs.Option.{option_map}
use Rattle.rr_schema.specs.declared.consolidation.ConsolidationFunction.TheVariants.{Max}
use Rattle.rr_schema.specs.Schema.{Layout}
use Rattle.rr_cells.specs.FetchText.{Request, line_feed}
use Rattle.rr_fetch.specs.Answers.{cells_text}
use Rattle.rr_nodes.specs.Nodes.{Deed, opened, wrote, took, held_at, after_all}
use Rattle.rr_nodes.specs.Models.{cell_model}
use Rattle.rr_nodes.specs.Sessions.{now_at}

-- an archive of three rows, each of one minute
abbrev pub minutes : Layout
minutes = record { step = 60; archives = record { steps = 1; rows = 3; num = 0; den = 1 } ∷ [] }

abbrev pub load : List ℕ
load = codes "load"

-- a node writes a value in a minute
abbrev pub reads : ℕ → ℕ → ℤ → Deed
reads origin minute value = wrote origin load (pos (minute * 60_000_000_000)) value

-- a node takes the first node's cell of a minute
abbrev pub takes_first : ℕ → ℕ → Deed
takes_first origin minute = took origin (now_at 1) (record { key = load; archive = 0; slot = pos minute; origin = 1 })

-- the first node writes in two minutes, the second in the later one. A page of the first node's two cells reaches the
-- third node twice. It reaches the second node cut after its first cell. A page of the second node reaches nobody
abbrev pub deeds_of_three : List Deed
deeds_of_three =
    opened 1 ∷ opened 2 ∷ opened 3 ∷ reads 1 0 (pos 10) ∷ reads 1 1 (pos 20) ∷ reads 2 1 (pos 7)
    ∷ takes_first 3 0 ∷ takes_first 3 1 ∷ takes_first 3 0 ∷ takes_first 3 1 ∷ takes_first 2 0 ∷ []

-- the greatest values of the two minutes
abbrev pub both_minutes : Request
both_minutes = record { key = load; function = Max; archive = 0; first = pos 0; rows = 2 }

-- what a node then answers
abbrev pub answer_at : ℕ → Option (List ℕ)
answer_at origin = option_map (λ m. cells_text minutes m both_minutes)
    (held_at (after_all cell_model minutes deeds_of_three) (now_at origin))

abbrev pub two_lines : List ℕ → List ℕ → Option (List ℕ)
two_lines one two = Some (one ++ line_feed ∷ two ++ line_feed ∷ [])

-- each answers from what reached it
pub record ThreeAnswer : Type 0 where
  pub first : answer_at 1 ≡ two_lines (codes "load,0,10") (codes "load,60,20")
  pub second : answer_at 2 ≡ two_lines (codes "load,0,10") (codes "load,60,7")
  pub third : answer_at 3 ≡ two_lines (codes "load,0,10") (codes "load,60,20")
