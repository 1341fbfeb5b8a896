-- The reading of a cell, as a function of the bytes: field by field, up to the first fault.
use Rattle.std.specs.Prelude.{ℕ, ℤ, nat_lt, ◌||◌, not, ◌==◌, List, length, take, drop, Result, Ok}
use Rattle.std.specs.Int.{Width, w8, w16, w64, w128, byte_len, cast_signed, from_be_bytes}
use Rattle.rr_text.specs.declared.limits.TheConstants.{MAX_KEY_TEXT}
use Rattle.rr_text.specs.Results.{◌>>=◌, unless}
use Rattle.rr_schema.specs.Schema.{Layout}
use Rattle.rr_contrib.specs.declared.contribution.Contribution.{Contribution}
use Rattle.rr_contrib.specs.Validity.{is_valid}
use Rattle.rr_key.specs.Reading.{is_key_text}
use Rattle.rr_cells.specs.CellBounds.{NamedCell}
use Rattle.rr_page.specs.declared.fault.PageFault.{PageFault}
use Rattle.rr_page.specs.declared.fault.PageFault.TheVariants.{Short, BadKey, BadArchive, BadContribution}
use Rattle.rr_page.specs.declared.version.Version.{Version}
use Rattle.rr_page.specs.Version.{mask_width}

-- `len` bytes at the beginning, and what follows them
abbrev pub prefix_at : ℕ → List ℕ → Result (List ℕ × List ℕ) PageFault
prefix_at len bytes = unless Short (nat_lt (length bytes) len) (Ok (take len bytes, drop len bytes))

-- a number of a width, and what follows it
abbrev pub number_at : Width → List ℕ → Result (ℕ × List ℕ) PageFault
number_at w bytes = prefix_at (byte_len w) bytes >>= λ field. Ok (from_be_bytes w field.0, field.1)

-- a signed number of a width, and what follows it
abbrev pub signed_at : Width → List ℕ → Result (ℤ × List ℕ) PageFault
signed_at w bytes = prefix_at (byte_len w) bytes >>= λ field. Ok (cast_signed w (from_be_bytes w field.0), field.1)

-- a key text after its length, and what follows it
unfoldable pub key_at : List ℕ → Result (List ℕ × List ℕ) PageFault
key_at bytes = do
  len ← number_at w16 bytes
  text ← unless BadKey ((len.0 == 0) || nat_lt MAX_KEY_TEXT len.0) (prefix_at len.0 len.1)
  unless BadKey (not (is_key_text text.0)) (Ok text)

-- the number of one of the schema's archives, and what follows it
unfoldable pub archive_at : Layout → List ℕ → Result (ℕ × List ℕ) PageFault
archive_at s bytes = do
  archive ← number_at w8 bytes
  unless BadArchive (not (nat_lt archive.0 (length s.archives))) (Ok archive)

-- the fields of a contribution, and what follows them
unfoldable pub contribution_at : Version → List ℕ → Result (Contribution × List ℕ) PageFault
contribution_at v bytes = do
  version ← number_at w64 bytes
  count ← number_at w64 version.1
  sum ← signed_at w128 count.1
  min ← signed_at w64 sum.1
  max ← signed_at w64 min.1
  last_time ← signed_at w64 max.1
  last_value ← signed_at w64 last_time.1
  mask ← number_at (mask_width v) last_value.1
  Ok (
    record {
      version = version.0;
      count = count.0;
      sum = sum.0;
      min = min.0;
      max = max.0;
      last_time = last_time.0;
      last_value = last_value.0;
      mask = mask.0;
    },
    mask.1,
  )

-- a cell, and what follows it
unfoldable pub cell_at : Version → Layout → List ℕ → Result (NamedCell × List ℕ) PageFault
cell_at v s bytes = do
  key ← key_at bytes
  archive ← archive_at s key.1
  slot ← signed_at w64 archive.1
  origin ← number_at w16 slot.1
  contribution ← contribution_at v origin.1
  unless BadContribution ((origin.0 == 0) || not (is_valid s archive.0 slot.0 contribution.0))
      (Ok (
        (record { key = key.0; archive = archive.0; slot = slot.0; origin = origin.0 }, contribution.0),
        contribution.1,
      ))
