use Rattle.std.proofs.Common.{arith}
use Rattle.rr_schema.proofs.SchemaBytesLemmas.{schema_len}
use Rattle.rr_journal.proofs.header.schema_len.Goals as goal

pub overflow_cast-result : goal.overflow_cast-result
overflow_cast-result c = omega (
  arith,
  schema_len c.args.schema.now,
  c.archives-archives.ensures.within.few_archives,
  c.byte_len.ensures,
)

pub returns-clause-few : goal.returns-clause-few
returns-clause-few c = omega (
  arith,
  schema_len c.args.schema.now,
  c.archives-archives.ensures.within.few_archives,
  c.byte_len.ensures,
)
