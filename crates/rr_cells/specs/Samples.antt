-- Samples, and how each is seen in the archives.
use Rattle.std.specs.Prelude.{ℕ, ℤ, List, map, length}
use Rattle.std.specs.declared.cmp.Ordering.{Ordering}
use Rattle.std.specs.Ordering.{ordering_then, nat_cmp, int_cmp}
use Rattle.std.specs.Cmp.Lexicographic.{slice_cmp}
use Rattle.std.specs.List.{range_with_len}
use Rattle.rr_schema.specs.Schema.{Layout, slot_of}
use Rattle.rr_cells.specs.CellNames.{CellName}

-- a value that an origin wrote under a number, for a key (its text) and a time in nanoseconds
pub record Sample : Type 0 where
  pub time : ℤ
  pub origin : ℕ
  pub number : ℕ
  pub key : List ℕ
  pub value : ℤ

-- one sample, seen in one archive
pub record Mark : Type 0 where
  pub sample : Sample
  pub open sample use *
  pub archive : ℕ

-- by time, origin and number first, so that the greatest mark is the last
abbrev pub mark_cmp : Mark → Mark → Ordering
mark_cmp a b =
    ordering_then (int_cmp a.time b.time)
    (ordering_then (nat_cmp a.origin b.origin)
    (ordering_then (nat_cmp a.number b.number)
    (ordering_then (nat_cmp a.archive b.archive)
    (ordering_then (slice_cmp nat_cmp a.key b.key)
    (int_cmp a.value b.value)))))

-- the cell that a mark belongs to
abbrev pub name_of : Layout → Mark → CellName
name_of s m = record { key = m.key; archive = m.archive; slot = slot_of s m.archive m.time; origin = m.origin }

-- the cells that these marks belong to
abbrev pub names_of : Layout → List Mark → List CellName
names_of s ms = map (name_of s) ms

-- a sample, seen in each archive of the layout
abbrev pub marks_of : Layout → Sample → List Mark
marks_of s x = map (λ i. record { sample = x; archive = i }) (range_with_len 0 (length s.archives))
