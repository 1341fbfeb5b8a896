-- The laws of the bytes of cells and pages.
use Rattle.std.specs.Prelude.{◌≡◌, ℕ, ◌<◌, ◌^◌, ◌↔◌, ◌≤◌, List, ◌++◌, length, Ok, Err, All}
use Rattle.rr_schema.specs.Schema.{Layout, IsLayout}
use Rattle.rr_cells.specs.CellBounds.{NamedCell, IsCellOf}
use Rattle.rr_page.specs.declared.fault.PageFault.TheVariants.{Short}
use Rattle.rr_page.specs.declared.version.Version.{Version}
use Rattle.rr_page.specs.CellText.{cell_text}
use Rattle.rr_page.specs.Page.{IsPage, IsPageText, page_text}
use Rattle.rr_page.specs.PageReading.{page_at}
use Rattle.rr_page.specs.Reading.{cell_at}
use Rattle.rr_page.specs.Version.{HasMasksFor}

-- each of these numbers is a byte
abbrev pub AreBytes : List ℕ → Type 0
AreBytes bytes = All (λ b. b < 2 ^ 8) bytes

-- a cell is read exactly if the bytes begin with its text and it is one of the schema, and what follows it is left
abbrev pub CellsAreTheirText : Type 0
CellsAreTheirText =
    (v : Version) (s : Layout) (bytes : List ℕ) (e : NamedCell) (rest : List ℕ) → IsLayout s → HasMasksFor v s
    → AreBytes bytes
    → (cell_at v s bytes ≡ Ok (e, rest)) ↔ (IsCellOf s e × (bytes ≡ cell_text v e ++ rest))

-- a page is read exactly if the bytes are the text of a page of the schema
abbrev pub PagesAreTheirText : Type 0
PagesAreTheirText =
    (s : Layout) (bytes : List ℕ) (es : List NamedCell) → IsLayout s → AreBytes bytes
    → (page_at s bytes ≡ Ok es) ↔ (IsPage s es × IsPageText s es bytes)

-- no page begins another: if the text of a page and bytes after it are the text of a page and bytes after it, the
-- versions, the schemas, the cells and the bytes after them are the same
abbrev pub NoPageBeginsAnother : Type 0
NoPageBeginsAnother =
    (v w : Version) (s t : Layout) (es fs : List NamedCell) (x y : List ℕ) → IsLayout s → IsLayout t
    → HasMasksFor v s → HasMasksFor w t → IsPage s es → IsPage t fs → page_text v s es ++ x ≡ page_text w t fs ++ y
    → (v ≡ w) × (s ≡ t) × (es ≡ fs) × (x ≡ y)

-- the bytes of a page with some missing at the end are Short
abbrev pub PagePrefixesAreShort : Type 0
PagePrefixesAreShort =
    (v : Version) (s : Layout) (es : List NamedCell) (prefix rest : List ℕ) → IsLayout s → HasMasksFor v s → IsPage s es
    → page_text v s es ≡ prefix ++ rest → 1 ≤ length rest → page_at s prefix ≡ Err Short
