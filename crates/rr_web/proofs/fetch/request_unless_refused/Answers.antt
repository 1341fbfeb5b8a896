use Rattle.std.proofs.Common.{rules}
use Rattle.std.proofs.Math.Facts.{to_z-of_z}
use Rattle.std.specs.Int.{w64}
use Rattle.rr_web.specs.Fetches.{request_in}
use Rattle.rr_web.proofs.fetch.request_unless_refused.Goals as goal

pub returns-clause-value : goal.returns-clause-value
returns-clause-value c =
    let back = to_z-of_z {w = w64} {z = c.args.now} (search rules) in
    let made = rw back at c.request_in.ensures.value in
    c.unless_refused.ensures.value (request_in c.args.schema.now c.args.query.now c.args.now) made
