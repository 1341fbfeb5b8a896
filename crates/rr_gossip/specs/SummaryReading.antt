-- The reading of the body of a Summary frame, as a function of the bytes: field by field, up to the first fault.
use Rattle.std.specs.Prelude.{ℕ, zero, suc, nat_lt, ◌||◌, not, ◌==◌, List, [], ◌∷◌, ◌++◌, length, Result, Ok}
use Rattle.std.specs.Int.{w16, w64}
use Rattle.rr_text.specs.declared.limits.TheConstants.{MAX_NUMBER}
use Rattle.rr_text.specs.Results.{◌>>=◌, unless}
use Rattle.rr_schema.specs.Schema.{Layout}
use Rattle.rr_page.specs.declared.fault.PageFault.{PageFault}
use Rattle.rr_page.specs.declared.fault.PageFault.TheVariants.{BadContribution, OutOfOrder, TooManyCells, TrailingBytes}
use Rattle.rr_page.specs.PageReading.{is_after}
use Rattle.rr_page.specs.Reading.{number_at, signed_at, key_at, archive_at}
use Rattle.rr_delta.specs.Names.{NamedVersion}
use Rattle.rr_gossip.specs.Summary.{last_name}
use Rattle.rr_gossip.specs.declared.summary.TheConstants.{MAX_ENTRIES}

-- a name of one of the schema's cells and a version, and what follows them
unfoldable pub entry_at : Layout → List ℕ → Result (NamedVersion × List ℕ) PageFault
entry_at s bytes = do
  key ← key_at bytes
  archive ← archive_at s key.1
  slot ← signed_at w64 archive.1
  origin ← number_at w16 slot.1
  version ← number_at w64 origin.1
  unless BadContribution ((origin.0 == 0) || ((version.0 == 0) || nat_lt MAX_NUMBER version.0))
      (Ok ((record { key = key.0; archive = archive.0; slot = slot.0; origin = origin.0 }, version.0), version.1))

-- the names so far, with `n` more after them, and what follows
unfoldable pub entries_at : Layout → List NamedVersion → ℕ → List ℕ → Result (List NamedVersion × List ℕ) PageFault
entries_at s vs zero bytes = Ok (vs, bytes)
entries_at s vs (suc n) bytes = do
  entry ← entry_at s bytes
  unless OutOfOrder (not (is_after (last_name vs) entry.0.0)) (entries_at s (vs ++ entry.0 ∷ []) n entry.1)

-- the names so far, with those that all of the bytes are read as
unfoldable pub summary_at : Layout → List NamedVersion → List ℕ → Result (List NamedVersion) PageFault
summary_at s vs bytes = do
  count ← number_at w16 bytes
  entries ← unless TooManyCells ((count.0 == 0) || nat_lt MAX_ENTRIES count.0) (entries_at s vs count.0 count.1)
  unless TrailingBytes (not (length entries.1 == 0)) (Ok entries.0)
