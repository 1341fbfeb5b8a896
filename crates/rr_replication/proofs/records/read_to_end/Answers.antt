use Rattle.rr_replication.proofs.ReadingLemmas.{all_of_schema}
use Rattle.rr_replication.proofs.records.read_to_end.Goals as goal

pub returns-in-Ok-clause-of_schema : goal.returns-in-Ok-clause-of_schema
returns-in-Ok-clause-of_schema c =
    all_of_schema c.args.schema.now c.args.cells.now.items c.read_records.new.cells.items c.in-Ok.ensures.kept
