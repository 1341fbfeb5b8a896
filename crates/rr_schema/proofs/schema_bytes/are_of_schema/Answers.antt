use Rattle.std.proofs.Common.{◌∷◌, length, sym, true≢false}
use Rattle.std.specs.List.{flat_map}
use Rattle.rr_schema.specs.SchemaBytes.{archive_bytes}
use Rattle.rr_schema.proofs.schema_bytes.are_of_schema.Goals as goal

pub returns-in_default : goal.returns-in_default
returns-in_default c =
    let archives = c.args.archives.items.now in (
      (λ t. absurd (true≢false (sym t))),
      λ e. absurd
          ((rw c.to_be_bytes.ensures at c.in_default.ensures) (length archives ∷ flat_map archive_bytes archives) e),
    )
