-- The reading of a snapshot, as a function of the bytes: field by field, up to the first fault.
use Rattle.std.specs.Prelude.{◌≡◌, ℕ, ◌≤◌, ◌+◌, ◌-◌, ◌*◌, Bool, not, ◌&&◌, ◌||◌, ◌==◌, nat_eq, List, length, take, Option, None, Result, Ok, Err, ok_or}
use Rattle.std.specs.Cmp.Lexicographic.{pointwise}
use Rattle.std.specs.Int.{w8, w16, w32}
use Rattle.std.specs.List.{find}
use Rattle.sha2.specs.Sha256.{sha256}
use Rattle.rr_text.specs.Results.{◌>>=◌, unless}
use Rattle.rr_schema.specs.Schema.{Layout}
use Rattle.rr_schema.specs.Added.{IsAddition, additions, older, had_archives}
use Rattle.rr_schema.specs.declared.added.Addition.{Addition}
use Rattle.rr_cells.specs.CellBounds.{NamedCell}
use Rattle.rr_page.specs.declared.fault.PageFault.{PageFault}
use Rattle.rr_page.specs.declared.fault.PageFault.TheVariants as page
use Rattle.rr_page.specs.declared.version.Version.{Version}
use Rattle.rr_page.specs.PageReading.{version_at, cells_at}
use Rattle.rr_page.specs.Reading.{prefix_at, number_at}
use Rattle.rr_page.specs.Version.{has_masks_for}
use Rattle.rr_snapshot.specs.declared.fault.LoadFault.{LoadFault}
use Rattle.rr_snapshot.specs.declared.fault.LoadFault.TheVariants.{BadOrigin, BadDigest, TrailingBytes}
use Rattle.rr_snapshot.specs.declared.heading.Head.{Head}
use Rattle.rr_snapshot.specs.Fault.{load_fault}
use Rattle.rr_snapshot.specs.Snapshot.{magic}

-- what is read as in a page, with the faults of a snapshot
abbrev pub as_in_page : {A : Type 0} → Result A PageFault → Result A LoadFault
as_in_page (Ok x) = Ok x
as_in_page (Err fault) = Err (load_fault fault)

-- whether a schema may have had this step and this many archives before an addition
abbrev pub may_have_had : Layout → ℕ → ℕ → Bool
may_have_had s step number =
    step == s.step && not (number == 0) && (number == length s.archives || number + 1 == length s.archives)

-- a number of archives, from one up to those of a schema
pub record IsArchiveCount (s : Layout) (number : ℕ) : Type 0 where
  pub at_least_one : 1 ≤ number
  pub at_most : number ≤ length s.archives

-- the version, and how many archives the schema has, and what follows them
unfoldable pub start_at : Layout → List ℕ → Result ((Version × ℕ) × List ℕ) PageFault
start_at s bytes = do
  start ← prefix_at (length magic) bytes
  version ← unless page.BadMagic (not (pointwise nat_eq start.0 magic)) (version_at start.1)
  step ← number_at w32 version.1
  number ← number_at w8 step.1
  unless page.SchemaDiffers (not (may_have_had s step.0 number.0)) (Ok ((version.0, number.0), number.1))

-- whether these are the bytes of the archives before an addition, and the version has masks for them
abbrev pub fits_addition : Version → Layout → List ℕ → Addition → Bool
fits_addition v s field a = has_masks_for v (older s a) && had_archives s field a

-- so what was added to the schema since, if anything fits
abbrev pub fitting_addition : Version → Layout → List ℕ → Option Addition
fitting_addition v s field = find (fits_addition v s field) (additions s)

-- an addition to this many archives
pub record IsAdditionTo (s : Layout) (number : ℕ) (a : Addition) : Type 0 where
  pub addition : IsAddition s a
  pub archive_count : number ≡ length (older s a).archives

-- what was added since there were this many archives, and the origin, and what follows them
unfoldable pub archives_at : Version → Layout → ℕ → List ℕ → Result ((Addition × ℕ) × List ℕ) PageFault
archives_at v s number bytes = do
  field ← prefix_at (9 * number) bytes
  addition ← ok_or (fitting_addition v s field.0) page.SchemaDiffers
  origin ← number_at w16 field.1
  Ok ((addition, origin.0), origin.1)

-- all that stands before the cells, and what follows it
unfoldable pub head_at : Layout → List ℕ → Result (Head × List ℕ) LoadFault
head_at s bytes = do
  start ← as_in_page (start_at s bytes)
  from ← as_in_page (archives_at start.0.0 s start.0.1 start.1)
  count ← unless BadOrigin (from.0.1 == 0) (as_in_page (number_at w32 from.1))
  Ok (record { version = start.0.0; addition = from.0.0; origin = from.0.1; count = count.0 }, count.1)

-- this digest, and what follows it
unfoldable pub digest_at : List ℕ → List ℕ → Result (Unit {0} × List ℕ) LoadFault
digest_at digest bytes = do
  field ← as_in_page (prefix_at 32 bytes)
  unless BadDigest (not (pointwise nat_eq field.0 digest)) (Ok (tt, field.1))

-- no more bytes
unfoldable pub end_at : List ℕ → Result (Unit {0} × List ℕ) LoadFault
end_at bytes = unless TrailingBytes (not (length bytes == 0)) (Ok (tt, bytes))

-- the bytes before those that are left
abbrev pub bytes_before : List ℕ → List ℕ → List ℕ
bytes_before rest bytes = take (length bytes - length rest) bytes

-- the cells after a head, of the schema before the addition, and what follows them
abbrev pub cells_after : Layout → Head → List ℕ → Result (List NamedCell × List ℕ) LoadFault
cells_after s head bytes = as_in_page (cells_at head.version (older s head.addition) None head.count bytes)

-- the head and the cells of all of the bytes, read as a snapshot
unfoldable pub snapshot_at : Layout → List ℕ → Result (Head × List NamedCell) LoadFault
snapshot_at s bytes = do
  head ← head_at s bytes
  cells ← cells_after s head.0 head.1
  digest ← digest_at (sha256 (bytes_before cells.1 bytes)) cells.1
  end ← end_at digest.1
  Ok (head.0, cells.0)
