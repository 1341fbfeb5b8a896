use Rattle.std.proofs.Common.{Some, None, ap}
use Rattle.toml.proofs.Views.{table_get}
use Rattle.rr_document.specs.Document.{needed}
use Rattle.rr_document.proofs.document.value_at.Goals as goal

pub returns-in-Some : goal.returns-in-Some
returns-in-Some c = ap needed (table_get (Some c.in-Some.value) c.args.key.now c.args.table.now.entries
    c.in-Some.ensures.value)

pub returns-in-None : goal.returns-in-None
returns-in-None c = ap needed (table_get None c.args.key.now c.args.table.now.entries c.in-None.ensures.value)
