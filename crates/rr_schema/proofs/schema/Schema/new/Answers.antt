use Rattle.std.proofs.Common.{◌≡◌, None, rules}
use Rattle.rr_schema.specs.Schema.{IsLayout}
use Rattle.rr_schema.specs.Check.{schema_fault}
use Rattle.rr_schema.proofs.Checked.{checked_layout}
use Rattle.rr_schema.proofs.schema.Schema.new.Goals as goal

is_layout : (c : goal.In_ok-archives) → IsLayout
    (record { step = c.args.step; archives = c.in_ok-archives.archives.items })
is_layout c =
    let checked : schema_fault c.args.step c.args.archives.now ≡ None = search rules in
    let same : c.in_ok-archives.archives.items ≡ c.args.archives.now = search rules in
    rw same (checked_layout c.args.step c.args.archives.now checked)

pub invariant_of-result : goal.invariant_of-result
invariant_of-result c = is_layout c

pub returns-clause-within : goal.returns-clause-within
returns-clause-within c = is_layout c
