-- Names, marks and cells after an addition: once archive i is added, the numbers of those from i on are one higher.
use Rattle.std.specs.Prelude.{ℕ, suc, ◌+◌, nat_lt, List, [], ◌∷◌, map, if◌then◌else◌}
use Rattle.std.specs.declared.cmp.Ordering.{Ordering}
use Rattle.std.specs.FinMap.{FinMap, entries, from_entries}
use Rattle.rr_schema.specs.declared.added.Addition.{Addition}
use Rattle.rr_schema.specs.declared.added.Addition.TheVariants.{Nothing, Archive}
use Rattle.rr_schema.specs.declared.archive.ArchiveSpec.{ArchiveSpec}
use Rattle.rr_cells.specs.CellNames.{CellName}
use Rattle.rr_cells.specs.Samples.{Mark}
use Rattle.rr_cells.specs.Knowledge.{Knowledge}
use Rattle.rr_cells.specs.CellBounds.{NamedCell}
use Rattle.rr_cells.specs.Cells.{Cells}

-- the number that an archive has after an addition
abbrev pub raised : Addition → ℕ → ℕ
raised Nothing archive = archive
raised (Archive i) archive = if nat_lt archive i then archive else archive + 1

abbrev pub raised_name : Addition → CellName → CellName
raised_name a n = record { key = n.key; archive = raised a n.archive; slot = n.slot; origin = n.origin }

abbrev pub raised_mark : Addition → Mark → Mark
raised_mark a m = record { sample = m.sample; archive = raised a m.archive }

-- a map with each key renamed
unfoldable pub renamed : {K X : Type 0} {R : K → K → Ordering} → (K → K) → FinMap R X → FinMap R X
renamed f m = from_entries (map (λ e. (f e.0, e.1)) (entries m))

-- what is known, with the number of each mark's archive raised
abbrev pub raised_knowledge : Addition → Knowledge → Knowledge
raised_knowledge a k = renamed (raised_mark a) k

-- a cell, with the number of its archive raised
abbrev pub raised_cell : Addition → NamedCell → NamedCell
raised_cell a e = (raised_name a e.0, e.1)

-- the cells, with the number of each one's archive raised
abbrev pub raised_cells : Addition → Cells → Cells
raised_cells a m = renamed (raised_name a) m

-- ---- an upgrade

-- the archives with one more, inserted before the first that has more steps
abbrev pub with_archive : ArchiveSpec → List ArchiveSpec → List ArchiveSpec
with_archive a [] = a ∷ []
with_archive a (b ∷ bs) = if nat_lt a.steps b.steps then a ∷ b ∷ bs else b ∷ with_archive a bs

-- and its number
abbrev pub place_for : ArchiveSpec → List ArchiveSpec → ℕ
place_for a [] = 0
place_for a (b ∷ bs) = if nat_lt a.steps b.steps then 0 else suc (place_for a bs)
