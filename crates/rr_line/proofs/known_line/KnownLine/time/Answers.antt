-- The time ends the line.
use Rattle.rr_line.proofs.KnownLineLemmas.{says_at_end}
use Rattle.rr_line.proofs.known_line.KnownLine.time.Goals as goal

pub returns : goal.returns
returns c = λ line samples read.
    says_at_end c.args.precision line samples c.args.self.now.prefix.now c.args.self.now.field.now
    c.args.self.now.rest.now c.time_after.result read.begins c.time_after.ensures.ended c.time_after.ensures.time
