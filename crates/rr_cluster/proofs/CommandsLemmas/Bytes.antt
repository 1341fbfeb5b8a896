-- bytes NAME
use Rattle.std.proofs.Common.{◌≡◌, ℕ, List, [], ◌∷◌, ◌++◌, Some, None, Ok, Err, refl, sym, ap, ◌∙◌}
use Rattle.std.specs.FinMap as map
use Rattle.hex.specs.Hex.{encode_lower}
use Rattle.rr_archive.specs.declared.archive.Cells.{Ghosts}
use Rattle.rr_text.specs.declared.bytes.TheConstants.{LINE_FEED}
use Rattle.rr_cells.specs.Knowledge.{Knowledge}
use Rattle.rr_cells.specs.Cells.{Cells}
use Rattle.rr_cells.specs.State.{cells_of_knowledge}
use Rattle.rr_cluster.specs.declared.cluster.Cluster.{Cluster}
use Rattle.rr_cluster.specs.declared.fault.CommandFault.TheVariants.{NoPage}
use Rattle.rr_cluster.specs.Agreement.{in_cells}
use Rattle.rr_cluster.specs.Commands.Bytes.{bytes_of_page, hex_of_page}
use Rattle.rr_cluster.specs.Meaning.{bytes_at, Represents}
use Rattle.rr_cluster.specs.Model.{Model, cell_model, sample_model}
use Rattle.rr_cluster.specs.Soundness.{IsSound}
use Rattle.rr_cluster.specs.State.{State}
use Rattle.rr_cluster.proofs.MeaningLemmas.{page_there}
use Rattle.rr_cluster.proofs.StepLemmas.{Agrees, found_agree, done_agrees}

-- ---- check by check

module _ {K : Type 0} (model : Model K) (m : State K) (name : List ℕ) where
  pub no_page : map.get m.pages name ≡ None → hex_of_page model m name ≡ Err NoPage
  unfolding hex_of_page
  no_page e = rw e refl

  pub page_is_written : (page : K) → map.get m.pages name ≡ Some page
      → hex_of_page model m name ≡ Ok (encode_lower (bytes_of_page m.schema (model.cells m.schema page))
      ++ LINE_FEED ∷ [])
  unfolding hex_of_page
  page_is_written page e = rw e refl

-- ---- the line that a cluster prints

pub line_printed : {A : Type 0} {g : Ghosts A} (c : Cluster A g) (m : State Cells) → Represents c m
    → (name bytes text line : List ℕ)
    → bytes_at c.pages name ≡ Some bytes → text ≡ encode_lower bytes → line ≡ text ++ LINE_FEED ∷ []
    → hex_of_page cell_model m name ≡ Ok line
line_printed c m is name bytes text line kept digits ended =
    let page = page_there c m is name bytes kept in
    page_is_written cell_model m name page.0 page.1
    ∙ ap (λ (b : List ℕ). Ok (encode_lower b ++ LINE_FEED ∷ [])) (sym page.2.text)
    ∙ ap (λ (t : List ℕ). Ok (t ++ LINE_FEED ∷ [])) (sym digits)
    ∙ ap (λ (t : List ℕ). Ok t) (sym ended)

-- ---- the models agree

pub bytes_agree : (m : State Knowledge) → IsSound m → (name : List ℕ)
    → Agrees (λ text. text) (λ text. Unit {0}) (hex_of_page cell_model (in_cells m) name)
    (hex_of_page sample_model m name)
unfolding hex_of_page
bytes_agree m sound name =
    found_agree (λ text. text) (λ text. Unit {0}) (cells_of_knowledge m.schema) m.pages name NoPage _ _ (λ k found.
    done_agrees (λ text. text) (λ text. Unit {0}) _ _ refl tt)
