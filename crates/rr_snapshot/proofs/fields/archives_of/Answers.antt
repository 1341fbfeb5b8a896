use Rattle.std.proofs.Common.{sym}
use Rattle.rr_snapshot.proofs.AdditionLemmas.{fitting_archives}
use Rattle.rr_snapshot.proofs.fields.archives_of.Goals as goal

pub returns-clause-addition : goal.returns-clause-addition
returns-clause-addition c =
    let told = fitting_archives c.args.version c.args.schema.now c.args.number c.args.bytes.now c.in_ok-field.field.now
    c.in_ok-field.rest.now c.in-Some.addition c.in_ok-field.ensures.read (sym c.in-Some.ensures) in
    record { addition = told.0; archive_count = told.1 }
