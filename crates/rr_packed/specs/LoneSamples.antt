-- What a sample stands for.
use Rattle.std.specs.Prelude.{List, [], ◌∷◌, Option, Some, None}
use Rattle.rr_contrib.specs.Contributions.{slot_sample, of_one}
use Rattle.rr_archive.specs.declared.entry.Entry.{Entry}
use Rattle.rr_packed.specs.declared.lone_sample.LoneSample.{LoneSample}
use Rattle.rr_packed.specs.declared.lone_sample.Source.{Source}
use Rattle.rr_packed.specs.declared.row.Row.{Row}
use Rattle.rr_packed.specs.declared.row.Row.TheVariants.{Lent, Made}

-- the entry of a row of one sample: its contribution is that of the sample alone
abbrev pub entry_of : Source → LoneSample → Entry
entry_of s r = record { origin = s.origin; contribution = of_one (slot_sample r.number s.place r.time r.value) }

-- the entries of a row that is held as its sample, if it is held so
abbrev pub entries_read : Option Source → Option LoneSample → List Entry
entries_read None r = []
entries_read (Some s) None = []
entries_read (Some s) (Some r) = entry_of s r ∷ []

-- the entries of a row, lent or made
abbrev pub entries_of : Row → List Entry
entries_of (Lent es) = es.now
entries_of (Made e) = e ∷ []
