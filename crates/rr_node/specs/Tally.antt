-- Counts of what became of line connections.
use Rattle.std.specs.Prelude.{ℕ, ◌+◌, ◌-◌, ◌^◌, min}
use Rattle.rr_node.specs.declared.report.Report.{Report}
use Rattle.rr_node.specs.declared.tally.Tally.{Tally}

-- a sum that stops at the greatest value of 64 bits
abbrev pub counted : ℕ → ℕ → ℕ
counted a b = min (a + b) (2 ^ 64 - 1)

abbrev pub no_tally : Tally
no_tally = record { connections = 0; points = 0; samples = 0; refused = 0 }

-- one more connection, with its report
abbrev pub tally_more : Tally → Report → Tally
tally_more t report = record {
  connections = counted t.connections 1;
  points = counted t.points report.points;
  samples = counted t.samples report.samples;
  refused = counted t.refused report.refused;
}
