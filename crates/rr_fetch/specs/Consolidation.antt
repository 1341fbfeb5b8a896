-- The value that a consolidation function gives for the contributions to a row.
use Rattle.std.specs.Prelude.{◌≡◌, ℕ, ℤ, pos, length, ◌<◌, ◌*◌, ◌*ℤ◌, ◌≤◌, ◌≤ℤ◌, ◌^◌, List, [], ◌∷◌, map, Option, None, IsTrue, All, neg_ℤ, ◌-◌, bit_or, count_ones, if◌then◌else◌}
use Rattle.std.specs.List.{sum}
use Rattle.std.specs.Option.{option_map}
use Rattle.std.specs.declared.cmp.Ordering.{Ordering}
use Rattle.std.specs.Ordering.{ordering_then, nat_cmp, int_cmp, flip_args}
use Rattle.rr_schema.specs.declared.consolidation.ConsolidationFunction.{ConsolidationFunction}
use Rattle.rr_schema.specs.declared.consolidation.ConsolidationFunction.TheVariants.{Average, Min, Max, Last}
use Rattle.rr_text.specs.declared.limits.TheConstants.{MAX_NUMBER}
use Rattle.rr_schema.specs.Schema.{Layout, is_known_enough}
use Rattle.rr_join.specs.Maps.{greatest}
use Rattle.rr_contrib.specs.declared.contribution.Contribution.{Contribution}
use Rattle.rr_archive.specs.declared.entry.Entry.{Entry}
use Rattle.rr_archive.specs.Row.{ascends}
use Rattle.rr_join.specs.Sums.{int_sum}
use Rattle.rr_cells.specs.Rows.{average}
use Rattle.rr_fetch.specs.declared.sum.Sum.{Sum}

-- the places in which some origin has a sample, as one mask
abbrev pub mask_of_entries : List Entry → ℕ
mask_of_entries [] = 0
mask_of_entries (e ∷ es) = bit_or e.contribution.mask (mask_of_entries es)

-- the sum of all samples, and how many there are
abbrev pub total_of : List Entry → ℤ
total_of es = int_sum (map (λ e. e.contribution.sum) es)

abbrev pub count_of : List Entry → ℕ
count_of es = sum (map (λ e. e.contribution.count) es)

-- by the time of the last sample, and at one time by origin
abbrev pub last_cmp : Entry → Entry → Ordering
last_cmp a b = ordering_then (int_cmp a.contribution.last_time b.contribution.last_time) (nat_cmp a.origin b.origin)

-- what the function gives for these entries
abbrev pub of_entries : ConsolidationFunction → List Entry → Option ℤ
of_entries Average es = average (total_of es) (count_of es)
of_entries Min es = greatest (flip_args int_cmp) (map (λ e. e.contribution.min) es)
of_entries Max es = greatest int_cmp (map (λ e. e.contribution.max) es)
of_entries Last es = option_map (λ e. e.contribution.last_value) (greatest last_cmp es)

-- the row of these entries; None if it is unknown
unfoldable pub consolidation_of : Layout → ℕ → ConsolidationFunction → List Entry → Option ℤ
consolidation_of s archive f es = if is_known_enough s archive (count_ones (mask_of_entries es)) then of_entries f
    es else None

-- ---- what a consolidation requires of a row

-- at least one sample, no more than there are numbers, and a sum from count * min to count * max
pub record IsSummable (c : Contribution) : Type 0 where
  pub some : 1 ≤ c.count
  pub few : c.count ≤ MAX_NUMBER
  pub low : (pos c.count *ℤ c.min) ≤ℤ c.sum
  pub high : c.sum ≤ℤ (pos c.count *ℤ c.max)

-- entries in the order of their origins, no two of one origin, whose contributions can be added up
pub record IsRow (es : List Entry) : Type 0 where
  pub ascends : IsTrue (ascends es)
  pub summable : All (λ e. IsSummable e.contribution) es

-- a total that `count` values of 64 bits can have
pub record IsBounded (count : ℕ) (total : ℤ) : Type 0 where
  pub least : neg_ℤ (pos (count * 2 ^ 63)) ≤ℤ total
  pub most : total ≤ℤ pos (count * (2 ^ 63 - 1))

-- the number of some values, and their total, which is within the bounds for that many
pub record IsSum (number : ℕ) (value : ℤ) (sum : Sum) : Type 0 where
  pub count : sum.count ≡ number
  pub total : sum.total ≡ value
  pub bounded : IsBounded sum.count sum.total

-- a row of one of the layout's archives
pub record IsRowOf (s : Layout) (archive : ℕ) (es : List Entry) : Type 0 where
  pub archive_exists : archive < length s.archives
  pub row : IsRow es
