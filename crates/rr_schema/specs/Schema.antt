-- The schema of a store: its archives, and where a time falls in them.
use Rattle.std.specs.Prelude.{◌≡◌, ℕ, ℤ, pos, ◌+◌, ◌-◌, ◌*◌, ◌*ℤ◌, ◌-ℤ◌, ◌<◌, ◌≤◌, nat_le, Bool, List, [], ◌∷◌, length, map, All, slice_index_or, unsigned_abs, if◌then◌else◌}
use Rattle.std.specs.Int.{int_div_euclid}
use Rattle.std.specs.List.Sorted.{IsStrictlyIncreasing}
use Rattle.rr_schema.specs.declared.archive.ArchiveSpec.{ArchiveSpec}
use Rattle.rr_text.specs.declared.limits.TheConstants.{MAX_STEP, MAX_ARCHIVES, MAX_STEPS, MAX_ROWS, MAX_XFF_DEN}

-- the step in seconds, and the archives from the finest on
pub record Layout : Type 0 where
  pub step : ℕ
  pub archives : List ArchiveSpec

-- an archive within the limits: its xff is a fraction below 1
pub record IsArchive (a : ArchiveSpec) : Type 0 where
  pub some_step : 1 ≤ a.steps
  pub few_steps : a.steps ≤ MAX_STEPS
  pub some_row : 1 ≤ a.rows
  pub few_rows : a.rows ≤ MAX_ROWS
  pub fraction : a.num < a.den
  pub fine : a.den ≤ MAX_XFF_DEN

-- a layout within the limits, each of whose archives has more steps in a row than the one before
pub record IsLayout (s : Layout) : Type 0 where
  pub some_step : 1 ≤ s.step
  pub short_step : s.step ≤ MAX_STEP
  pub some_archive : 1 ≤ length s.archives
  pub few_archives : length s.archives ≤ MAX_ARCHIVES
  pub each : All IsArchive s.archives
  pub rising : IsStrictlyIncreasing (map (λ a. a.steps) s.archives)

-- the archive with a number, from 0; past the last, one of one step and one row
abbrev pub archive_at : Layout → ℕ → ArchiveSpec
archive_at s i = slice_index_or s.archives i (record { steps = 1; rows = 1; num = 0; den = 1 })

-- the seconds of one row
abbrev pub span : Layout → ℕ → ℕ
span s i = s.step * (archive_at s i).steps

-- the slot of a time in nanoseconds: floor(time / (span * 10^9))
abbrev pub slot_of : Layout → ℕ → ℤ → ℤ
slot_of s i time = int_div_euclid time (pos (span s i * 1_000_000_000))

-- which step of its slot a time falls in, from 0: floor(time / (step * 10^9)) - slot * steps
unfoldable pub place_of : Layout → ℕ → ℤ → ℕ
place_of s i time =
    unsigned_abs (int_div_euclid time (pos (s.step * 1_000_000_000)) -ℤ
    (slot_of s i time *ℤ pos (archive_at s i).steps))

-- the seconds that a row may have
pub record IsSpan (seconds : ℕ) : Type 0 where
  pub not_zero : 0 < seconds
  pub fits : seconds ≤ MAX_STEP * MAX_STEPS

-- the place of a time in its slot, which is one of the slot's steps
pub record IsPlaceIn (s : Layout) (archive : ℕ) (time : ℤ) (n : ℕ) : Type 0 where
  pub place : n ≡ place_of s archive time
  pub within : n < (archive_at s archive).steps
  pub fits : n < MAX_STEPS

-- whether `known` places leave at most the fraction xff of a row unknown
abbrev pub is_known_enough : Layout → ℕ → ℕ → Bool
is_known_enough s i known =
    let a = archive_at s i in nat_le ((a.steps - known) * a.den) (a.num * a.steps)

-- the number of the last of these archives whose span is not above the resolution, the first of them having the number
-- `next`; `found` if there is none
abbrev pub last_within : ℕ → ℕ → ℕ → ℕ → List ArchiveSpec → ℕ
last_within step resolution found next [] = found
last_within step resolution found next (a ∷ others) =
    last_within step resolution (if nat_le (step * a.steps) resolution then next else found) (next + 1) others

-- the archive that answers a fetch of a resolution in seconds
abbrev pub choice : Layout → ℕ → ℕ
choice s resolution = last_within s.step resolution 0 0 s.archives
