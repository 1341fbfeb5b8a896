-- What a writer of `csv` has written of a report.
use Rattle.std.specs.Prelude.{◌≡◌, ℕ, false, true, List, ◌++◌}
use Rattle.std.specs.Global.{Vec}
use Rattle.csv.specs.declared.writer.Writer.{Writer}
use Rattle.csv.specs.declared.writer.WriterBuilder.{WriterBuilder}
use Rattle.csv.specs.Writing.{default_writer, fields_written, has_written, with_flexible, writer_pending, writer_setup, writer_under}

-- csv's defaults, but for records that may differ in length
abbrev pub report_setup : WriterBuilder
report_setup = with_flexible default_writer true

-- a writer of reports that has begun no record
pub record IsBetween (w : Writer (Vec ℕ)) : Type 0 where
  pub setup : writer_setup w ≡ report_setup
  pub fields : fields_written w ≡ 0
  pub clean : has_written w ≡ false

-- all that was written, what the buffer holds included
unfoldable pub written : Writer (Vec ℕ) → List ℕ
written w = (writer_under w).items ++ writer_pending w
