-- Cells packed into records, series by series.
use Rattle.std.specs.Prelude.{◌≡◌, ◌≤◌, ◌+◌, ◌*◌, ℕ, ℤ, List, [], ◌∷◌, ◌++◌, All, Contains, length, map}
use Rattle.std.specs.Global.{Vec}
use Rattle.std.specs.List.{AllByRecursion, flat_map}
use Rattle.rr_archive.specs.declared.entry.Entry.{Entry}
use Rattle.rr_cells.specs.CellBounds.{NamedCell}
use Rattle.rr_changes.specs.Listing.{named_cell}
use Rattle.rr_journal.specs.declared.raw.RawRecord.{RawRecord}
use Rattle.rr_journal.specs.declared.raw.TheConstants.{MAX_BODY_LEN}
use Rattle.rr_journal.specs.Body.{HasCells, Meaning, PackedCells, group_text, raw_text}
use Rattle.rr_journal.specs.Text.{raw_of}
use Rattle.rr_recovery.specs.Joining.{cells_of_record, group_cells}
use Rattle.rr_commit.specs.declared.packing.Packing.{Packing}
use Rattle.rr_commit.specs.declared.record.TheConstants.{MAX_RECORD_CELLS}

-- ---- a series in one record

-- these cells, one behind the other, are among those of one record
pub record IsInOne (ms : List Meaning) (es : List NamedCell) : Type 0 where
  pub meaning : Meaning
  pub among : Contains ms meaning
  pub before : List NamedCell
  pub after : List NamedCell
  pub has : cells_of_record meaning ≡ before ++ (es ++ after)

-- so is each of these lists that has cells, but no more than fit into a record whatever they are
abbrev pub AreTogether : List Meaning → List (List NamedCell) → Type 0
AreTogether ms parts = All (λ es. 1 ≤ length es → length es ≤ MAX_RECORD_CELLS → IsInOne ms es) parts

-- records that can be written, of these lists of cells, one after the other, each of them together
pub record ArePacked (parts : List (List NamedCell)) (raws : List RawRecord) : Type 0 where
  pub meanings : List Meaning
  pub text : map raw_of raws ≡ map raw_text meanings
  pub has : flat_map cells_of_record meanings ≡ flat_map (λ es. es) parts
  pub fits : AllByRecursion (λ raw. length raw.body.items ≤ MAX_BODY_LEN) raws
  pub together : AreTogether meanings parts

-- ---- as they are packed

-- the bytes of a group of these cells, which a record can have
pub record AddsGroup (key : List ℕ) (archive : ℕ) (cells : List (ℤ × Entry)) (bytes : Vec ℕ) : Type 0 where
  pub group : PackedCells
  pub text : bytes.items ≡ group_text group
  pub has : group_cells group ≡ map (named_cell key archive) cells
  pub small : length bytes.items ≤ 1178 * length cells

-- the cells of these series, and then these, are those of records that are closed, of the groups of the next one, and of
-- the groups that are kept back; the latter are all of these cells while a record holds them, and this many more
pub record AreCells (records : List RawRecord) (body own : List ℕ) (done : List (List NamedCell)) (since : List NamedCell)
    (more : ℕ) : Type 0 where
  pub closed : List Meaning
  pub next : List PackedCells
  pub kept : List PackedCells
  pub text : map raw_of records ≡ map raw_text closed
  pub fits : AllByRecursion (λ raw. length raw.body.items ≤ MAX_BODY_LEN) records
  pub body_text : body ≡ flat_map group_text next
  pub own_text : own ≡ flat_map group_text kept
  pub body_fits : length body ≤ MAX_BODY_LEN
  pub own_fits : length own ≤ MAX_BODY_LEN
  pub own_small : length own ≤ 1178 * length since
  pub has : flat_map cells_of_record closed ++ (flat_map group_cells next ++ flat_map group_cells kept)
      ≡ flat_map (λ es. es) done ++ since
  pub all_kept : length since + more ≤ MAX_RECORD_CELLS → flat_map group_cells kept ≡ since
  pub together : AreTogether (closed ++ HasCells next ∷ []) done

abbrev pub Packs : Packing → List (List NamedCell) → List NamedCell → ℕ → Type 0
Packs p done since more = AreCells p.records.items p.body.items p.own.items done since more
