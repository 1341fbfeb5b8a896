-- bytes NAME
use Rattle.std.specs.Prelude.{ℕ, List, [], ◌∷◌, ◌++◌, Result, Ok, ok_or}
use Rattle.std.specs.FinMap.{get, entries}
use Rattle.hex.specs.Hex.{encode_lower}
use Rattle.rr_text.specs.declared.bytes.TheConstants.{LINE_FEED}
use Rattle.rr_schema.specs.Schema.{Layout}
use Rattle.rr_page.specs.Page.{page_text}
use Rattle.rr_page.specs.Version.{latest}
use Rattle.rr_cells.specs.Cells.{Cells}
use Rattle.rr_cluster.specs.declared.fault.CommandFault.{CommandFault}
use Rattle.rr_cluster.specs.declared.fault.CommandFault.TheVariants.{NoPage}
use Rattle.rr_text.specs.Results.{◌>>=◌}
use Rattle.rr_cluster.specs.Model.{Model}
use Rattle.rr_cluster.specs.State.{State}

-- the bytes of a page of these cells
abbrev pub bytes_of_page : Layout → Cells → List ℕ
bytes_of_page s m = page_text latest s (entries m)

module _ {K : Type 0} (model : Model K) where
  -- the line that is printed: the bytes of the page in lower-case hexadecimal
  unfoldable pub hex_of_page : State K → List ℕ → Result (List ℕ) CommandFault
  hex_of_page m name = do
    page ← ok_or (get m.pages name) NoPage
    Ok (encode_lower (bytes_of_page m.schema (model.cells m.schema page)) ++ LINE_FEED ∷ [])
