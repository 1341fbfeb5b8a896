use Rattle.std.proofs.Common.{◌≢◌, true, map}
use Rattle.csv.specs.declared.writer.QuoteStyle.TheVariants as style
use Rattle.csv.specs.Writing.{writer_setup}
use Rattle.rr_fetch.proofs.WriterLemmas.{record_is}
use Rattle.rr_process.specs.Writing.{written}
use Rattle.rr_process.proofs.records.push_fields.Goals as goal

pub returns-clause-pushed : goal.returns-clause-pushed
unfolding written
returns-clause-pushed c =
    let plain : (writer_setup c.args.report.now).style ≢ style.NonNumeric = rw c.requires.setup (λ e. cc e) in
    let added = c.in-Ok.ensures.bytes c.requires.fields c.requires.clean plain in
    rw (c.requires.setup, record_is true (map (λ field. field.now) c.args.fields.now)) at added
