-- Lines that are read field by field.
use Rattle.std.specs.Prelude.{◌≡◌, ℕ, List, length}
use Rattle.rr_line.specs.declared.known_line.KnownLine.{KnownLine}
use Rattle.rr_line.specs.Known.{Sample}
use Rattle.rr_line.specs.Beginning.{BeginsWith}

-- these samples of a line are read
pub record HasRead (line : List ℕ) (samples : List Sample) (known : KnownLine) : Type 0 where
  pub begins : BeginsWith line samples known.prefix.now known.field.now known.rest.now
  pub count : length samples ≡ known.count
