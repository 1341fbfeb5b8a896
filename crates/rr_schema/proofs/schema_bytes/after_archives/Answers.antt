use Rattle.std.proofs.Common.{◌+◌, ◌++◌, ◌∙◌, List, ℕ, None, Some, take, drop, get_or, ap, subst}
use Rattle.std.specs.List.{flat_map}
use Rattle.rr_schema.specs.declared.archive.ArchiveSpec.{ArchiveSpec}
use Rattle.rr_schema.specs.SchemaBytes.{archive_bytes, IsAfter}
use Rattle.rr_schema.proofs.AfterLemmas.{archives_so_far, all_archives, first_missing, second_after}
use Rattle.rr_schema.proofs.schema_bytes.after_archives.Goals as goal

abbrev any : ArchiveSpec
any = record { steps = 0; rows = 0; num = 0; den = 0 }

pub loop-archive-preserved : goal.loop-archive-preserved
loop-archive-preserved c =
    let archives = c.args.archives.items.now in
    let i = c.loop-archive.archive-index in
    let rest = c.in-Some.rest.now in
    second_after (flat_map archive_bytes (take i archives)) (archive_bytes (get_or archives i any)) c.args.bytes.now
    c.loop-archive.left.now (Some rest) c.loop-archive.invariant c.in-Some.ensures
    ∙ ap (λ (l : List ℕ). l ++ rest) (archives_so_far archives i any c.loop-archive-test.true)

pub returns-in_default : goal.returns-in_default
returns-in_default c =
    let archives = c.args.archives.items.now in
    let bytes = c.args.bytes.now in
    let i = c.loop-archive.archive-index in
    let prefix = flat_map archive_bytes (take i archives) in
    let one = archive_bytes (get_or archives i any) in
    let missing : IsAfter (prefix ++ one) bytes None =
    second_after prefix one bytes c.loop-archive.left.now None c.loop-archive.invariant c.in_default.ensures in
    let so_far : IsAfter (flat_map archive_bytes (take (i + 1) archives)) bytes None =
    subst (λ (l : List ℕ). IsAfter l bytes None) (archives_so_far archives i any c.loop-archive-test.true)
    missing in
    subst (λ (l : List ℕ). IsAfter l bytes None) (all_archives archives (i + 1))
    (first_missing (flat_map archive_bytes (take (i + 1) archives)) (flat_map archive_bytes (drop (i + 1) archives))
    bytes so_far)
