-- Which archives know nothing of series that send more slowly than the store steps.
use Rattle.std.specs.Prelude.{ℕ, ◌*◌, ◌-◌, ◌/◌, max, nat_lt, Option, None, Some, if◌then◌else◌}
use Rattle.rr_schema.specs.declared.archive.ArchiveSpec.{ArchiveSpec}

-- the fewest known steps of a known row: the unknown ones are at most the fraction xff of all
abbrev pub fewest_known : ArchiveSpec → ℕ
fewest_known a = a.steps - (a.num * a.steps) / max a.den 1

-- the greatest k for which one step in k can be enough, unless any is
abbrev pub slowest : ArchiveSpec → Option ℕ
slowest a = if nat_lt (fewest_known a) 2 then None else Some ((a.steps - 1) / (fewest_known a - 1))
