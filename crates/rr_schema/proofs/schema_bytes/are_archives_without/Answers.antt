use Rattle.std.proofs.Common.{◌+◌, take, drop, sym, ◌∙◌, true≢false}
use Rattle.std.specs.List.{flat_map}
use Rattle.std.proofs.lemmas.Grind.{flat_map-append}
use Rattle.rr_schema.specs.SchemaBytes.{archive_bytes}
use Rattle.rr_schema.proofs.AfterLemmas.{first_missing, not_missing, same_after}
use Rattle.rr_schema.proofs.schema_bytes.are_archives_without.Goals as goal

pub returns-in-None : goal.returns-in-None
returns-in-None c =
    let i = c.args.number in
    let archives = c.args.archives.items.now in (
      (λ t. absurd (true≢false (sym t))),
      λ e. absurd
          (not_missing (first_missing (flat_map archive_bytes (take i archives))
          (flat_map archive_bytes (drop (i + 1) archives)) c.args.bytes.now c.in-None.ensures)
          (e ∙ flat_map-append archive_bytes (take i archives) (drop (i + 1) archives))),
    )

pub returns-in-Some : goal.returns-in-Some
returns-in-Some c =
    let i = c.args.number in
    let archives = c.args.archives.items.now in
    let prefix = flat_map archive_bytes (take i archives) in
    let others = flat_map archive_bytes (drop (i + 1) archives) in
    let parts = flat_map-append archive_bytes (take i archives) (drop (i + 1) archives) in
    let same = same_after prefix c.args.bytes.now c.in-Some.rest.now others c.in-Some.ensures in
    let is = rw c.split_at.ensures.back at c.are_archives.ensures in
    ((λ t. same.1 (is.0 t) ∙ sym parts), λ e. is.1 (same.0 (e ∙ parts)))
