-- Changes of a cell, and what the cell contributes after one.
use Rattle.std.specs.Prelude.{ℕ, List, Option, Some, None, IfSome}
use Rattle.std.specs.Ordering.{ord_max}
use Rattle.rr_contrib.specs.declared.contribution.Contribution.{Contribution}
use Rattle.rr_contrib.specs.Contributions.{SlotSample, slot_sample, contribution_with, contribution_cmp}
use Rattle.rr_contrib.specs.Validity.{CanAdd}
use Rattle.rr_archive.specs.declared.entry.Entry.{Entry}
use Rattle.rr_archive.specs.Row.{entry_at}
use Rattle.rr_archive.specs.declared.new_sample.NewSample.{NewSample}
use Rattle.rr_archive.specs.declared.change.Change.{Change}
use Rattle.rr_archive.specs.declared.change.Change.TheVariants.{Put, Join}

abbrev pub sample_of : NewSample → SlotSample
sample_of x = slot_sample x.number x.place x.time x.value

-- the greater of what a cell contributes, if anything, and a contribution
abbrev pub greater_of : Option Contribution → Contribution → Contribution
greater_of None c = c
greater_of (Some known) c = ord_max contribution_cmp known c

-- a change that the cell can take: a sample can be added to what the cell knows
abbrev pub Fits : Option Contribution → Change → Type 0
Fits known (Put x) = IfSome known (CanAdd x.number)
Fits known (Join c) = Unit {0}

-- what a cell contributes after a change
abbrev pub contribution_after : Option Contribution → Change → Contribution
contribution_after known (Put x) = contribution_with known (sample_of x)
contribution_after known (Join c) = greater_of known c

-- the entry of an origin after a change
abbrev pub entry_after : List Entry → ℕ → Change → Entry
entry_after es origin change = record { origin = origin; contribution = contribution_after (entry_at es origin) change }
