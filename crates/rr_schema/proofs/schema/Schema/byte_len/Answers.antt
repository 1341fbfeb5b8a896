use Rattle.std.proofs.Common.{rules, ◌≡◌, ◌∙◌, ◌+◌, ◌*◌, length, ap}
use Rattle.rr_schema.specs.Schema.{Layout}
use Rattle.rr_schema.specs.SchemaBytes.{schema_bytes}
use Rattle.rr_schema.proofs.SchemaBytesLemmas.{schema_len}
use Rattle.rr_schema.proofs.schema.Schema.byte_len.Goals as goal

pub returns : goal.returns
returns c =
    let s : Layout = record { step = c.self.inside.step; archives = c.self.inside.archives.items } in
    let many : c.len.result ≡ length s.archives = search rules in
    ap (λ n. 5 + 9 * n) many ∙ schema_len s ∙ ap (λ t. length (schema_bytes t)) c.self.view_is
