use Rattle.std.proofs.Common.{[], ◌∷◌, ◌++◌, None, Some}
use Rattle.std.specs.Int.{w16, w32, to_be_bytes}
use Rattle.rr_schema.specs.SchemaBytes.{archive_bytes}
use Rattle.rr_schema.proofs.AfterLemmas.{first_missing, second_after}
use Rattle.rr_schema.proofs.schema_bytes.after_archive.Goals as goal

pub returns-in_default-after : goal.returns-in_default-after
unfolding archive_bytes
returns-in_default-after c =
    let a = c.args.archive.now in
    let bytes = c.args.bytes.now in
    let rows = second_after (a.steps ∷ []) (to_be_bytes w32 a.rows) bytes c.in-Some.rest.now None c.in-Some.ensures
    (rw c.to_be_bytes.ensures at c.in_default-after.ensures) in
    let prefix = a.steps ∷ to_be_bytes w32 a.rows in
    first_missing (prefix ++ to_be_bytes w16 a.num) (to_be_bytes w16 a.den) bytes
    (first_missing prefix (to_be_bytes w16 a.num) bytes rows)

pub returns-in_default-after-2 : goal.returns-in_default-after-2
unfolding archive_bytes
returns-in_default-after-2 c =
    let a = c.args.archive.now in
    let bytes = c.args.bytes.now in
    let rest = c.in-Some-after.rest.now in
    let rows = second_after (a.steps ∷ []) (to_be_bytes w32 a.rows) bytes c.in-Some.rest.now (Some rest)
    c.in-Some.ensures (rw c.to_be_bytes.ensures at c.in-Some-after.ensures) in
    let prefix = a.steps ∷ to_be_bytes w32 a.rows in
    first_missing (prefix ++ to_be_bytes w16 a.num) (to_be_bytes w16 a.den) bytes
    (second_after prefix (to_be_bytes w16 a.num) bytes rest None rows
    (rw c.to_be_bytes-2.ensures at c.in_default-after-2.ensures))

pub returns : goal.returns
unfolding archive_bytes
returns c =
    let a = c.args.archive.now in
    let bytes = c.args.bytes.now in
    let rest = c.in-Some-after.rest.now in
    let last = c.in-Some-after-2.rest.now in
    let rows = second_after (a.steps ∷ []) (to_be_bytes w32 a.rows) bytes c.in-Some.rest.now (Some rest)
    c.in-Some.ensures (rw c.to_be_bytes.ensures at c.in-Some-after.ensures) in
    let prefix = a.steps ∷ to_be_bytes w32 a.rows in
    let num = second_after prefix (to_be_bytes w16 a.num) bytes rest (Some last) rows
    (rw c.to_be_bytes-2.ensures at c.in-Some-after-2.ensures) in
    second_after (prefix ++ to_be_bytes w16 a.num) (to_be_bytes w16 a.den) bytes last _ num
    (rw c.to_be_bytes-3.ensures at c.after-4.ensures)
