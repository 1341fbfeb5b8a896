use Rattle.std.proofs.Common.{rules}
use Rattle.rr_cluster.proofs.CommandsLemmas.Load.{loaded, faults, origin_used, schema_differs}
use Rattle.rr_cluster.proofs.commands.load.loaded.Goals as goal

pub unreachable-requires : goal.unreachable-requires
unreachable-requires g c =
    let x = c.requires.snapshot in
    let one = faults c.args.schema.now c.requires.layout x.0 c.args.snapshot.now x.1 c.args.origin c.in-Err.field-0
    (rw c.new.ensures.inner at c.in-Err.ensures.read) in
    search rules

pub returns-in-Ok : goal.returns-in-Ok
returns-in-Ok g c = λ x has. loaded c.args.schema.now c.requires.layout x c.args.snapshot.now has c.args.origin
    c.in-Ok.replica (rw c.new.ensures.inner at c.in-Ok.ensures.read)

pub returns-in-Err-SchemaDiffers : goal.returns-in-Err-SchemaDiffers
returns-in-Err-SchemaDiffers g c = λ x has.
    schema_differs c.args.schema.now c.requires.layout x c.args.snapshot.now has c.args.origin
    c.in-Err-SchemaDiffers.field-0 c.in-Err-SchemaDiffers.field-0-is
    (rw c.new.ensures.inner at c.in-Err-SchemaDiffers.ensures.read)

pub returns-in-Err-OriginUsed : goal.returns-in-Err-OriginUsed
returns-in-Err-OriginUsed g c = λ x has.
    origin_used c.args.schema.now c.requires.layout x c.args.snapshot.now has c.args.origin c.in-Err-OriginUsed.field-0
    c.in-Err-OriginUsed.field-0-is (rw c.new.ensures.inner at c.in-Err-OriginUsed.ensures.read)
